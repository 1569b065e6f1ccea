-- One conversion after another.
use Rattle.std.proofs.Common.{◌≡◌, ℕ, ◌+◌, ◌-◌, ◌<◌, Bool, true, false, Some, None, List, [], ◌∷◌, ◌++◌, length, get_or, set, take, sym, ap, ◌∙◌, subst, arith, inl, inr}
use Rattle.std.specs.Prelude.{map, All, Result, OnOk, Ok, Err, slice_get}
use Rattle.std.proofs.lemmas.Bool.{cases_lt}
use Rattle.std.proofs.lemmas.List.{take-map, get_or_past}
use Rattle.std.proofs.lemmas.List.Elements.{All-same, All-set, All-push, All-weaker, All-take}
use Rattle.wjs_base.specs.declared.ids.OutOfMemory.{OutOfMemory}
use Rattle.wjs_base.specs.declared.values.Value.{Value as NumberedValue}
use Rattle.wjs_base.specs.declared.values.Value.TheVariants as values
use Rattle.wjs_base.specs.Text.{Table, Grows}
use Rattle.wjs_store.specs.Meaning.{Meaning}
use Rattle.wjs_arena.specs.declared.native.Native.{Native}
use Rattle.wjs_by_content.specs.Values.{Value, Undefined}
use Rattle.wjs_by_content.specs.Tables.{value_in}
use Rattle.wjs_by_content.specs.Conversions.{is_object}
use Rattle.wjs_heap.specs.Means.{nothing}
use Rattle.wjs_meaning.specs.Deeds.{Env, Act, Sub, Gives, give, then_value}
use Rattle.wjs_meaning.specs.declared.kinds.Kind.{Kind}
use Rattle.wjs_meaning.specs.Kinds.{convert}
use Rattle.wjs_meaning.specs.Natives.{native_run}
use Rattle.wjs_model.specs.declared.config.Config.{Config}
use Rattle.wjs_model.specs.declared.frame.Activation.{Activation as Frame}
use Rattle.wjs_model.specs.declared.point.Conversion.{Conversion}
use Rattle.wjs_model.specs.Rest.{begin_conversion}
use Rattle.wjs_model.specs.Soundness.{Base, HasValue}
use Rattle.wjs_frames.specs.Doing.{Does}
use Rattle.wjs_frames.specs.Following.{Follows, Later}
use Rattle.wjs_frames.specs.Shortening.{Shortens}
use Rattle.wjs_frames.specs.Parts.{env_in}
use Rattle.wjs_frames.proofs.Shorter.{follows_shorter, shorten_ended}
use Rattle.wjs_heap_steps.proofs.Later.{later_same, later_twice}
use Rattle.wjs_step_common.proofs.Following.{env_later}
use Rattle.wjs_natives.specs.Kinds.{conversions}
use Rattle.wjs_natives.specs.Converting.{placed, converting, ComesTo, IsReady}
use Rattle.wjs_natives.proofs.Pairs.{converting_next, converting_end, map-placed, placed_length, placed_longer, placed_within, placed_past}

-- an object stands within the values
pub value_within : (t : Table) (vs : List NumberedValue) (at : ℕ) (v : NumberedValue) → v ≡ get_or vs at values.Undefined → is_object (value_in t v) ≡ true → at < length vs
value_within t vs at v e h = elim (cases_lt at (length vs)) [
  | inl below ↦ below
  | inr past ↦ absurd (let e : false ≡ true = ap (λ x. is_object (value_in t x)) (sym (e ∙ get_or_past vs at values.Undefined past)) ∙ h in cc)
]

pub all_placed : {S : Type 0} (c : Config S) (vs : List NumberedValue) (at : ℕ) (w : NumberedValue) → All (HasValue c) vs → HasValue c w → All (HasValue c) (placed vs at w)
all_placed c vs at w all has = elim (cases_lt at (length vs)) [
  | inl below ↦ All-same (HasValue c) (placed vs at w) (set vs at w) (placed_within vs at w below) (All-set (HasValue c) vs at w has all)
  | inr past ↦ All-same (HasValue c) (placed vs at w) (vs ++ w ∷ []) (placed_past vs at w past) (All-push (HasValue c) vs w all has)
]

module _ {S : Type 0} (meaning : S → Meaning) (native : Native) (by_new : Bool) (frame : Frame) (given : ℕ) where
  -- the conversions before a place are done, and what was there is there
  pub record Reached (deeds : Table → Act) (old mid : Config S) (values : List NumberedValue) (at : ℕ) : Type 0 where
    pub comes : ComesTo meaning deeds (λ t. converting native by_new given (map (value_in t) values) at (env_in meaning old t frame)) old mid
    pub later : Later meaning old mid
    pub found : All (HasValue mid) values
    pub enough : at < length values → length values ≡ given + 1

  pub reached_start : (old : Config S) (values : List NumberedValue) (at : ℕ) → Base meaning old → All (HasValue old) values → (at < length values → length values ≡ given + 1) → Reached (λ t. converting native by_new given (map (value_in t) values) at (env_in meaning old t frame)) old old values at
  reached_start old values at b found enough = record { comes = record { by = λ later r h. h }; later = later_same meaning old b; found = found; enough = enough }

  -- a value is converted at once
  converted_shortens : (vs : List Value) (at : ℕ) (k : Kind) (v w : Value) (env : Env) → slice_get (conversions native given) at ≡ Some k → get_or vs at Undefined ≡ v → Shortens (convert k v env) (give w) → Shortens (converting native by_new given vs at env) (converting native by_new given (placed vs at w) (at + 1) env)
  converted_shortens vs at k v w env hk hv h =
      let go = λ (x : Value). converting native by_new given (placed vs at x) (at + 1) env in
      let next = converting_next native by_new given env vs at k hk ∙ ap (λ x. Sub (convert k x env) (then_value go)) hv in
      subst (λ (a : Act). Shortens a (go w)) (sym next) (shorten_ended (convert k v env) (Gives w) (then_value go) h)

  follows_converted : (long short : Act) (old mid later : Config S) (r : Result (Unit {0}) OutOfMemory) → (Grows mid.heap.texts later.heap.texts → Shortens long short) → Does meaning (λ t go. go nothing) (λ t. nothing) old mid → OnOk r (Follows meaning short mid later) → OnOk r (Follows meaning long old later)
  follows_converted long short old mid later (Ok x) s d h = follows_shorter meaning long short old later (Ok x) (s h.keeps.stays.texts) (d.by (λ x. short) later (Ok x) h)
  follows_converted long short old mid later (Err x) s d h = tt

  enough_next : (vs : List NumberedValue) (at : ℕ) (w : NumberedValue) → (at < length vs → length vs ≡ given + 1) → at + 1 < length (placed vs at w) → length (placed vs at w) ≡ given + 1
  enough_next vs at w enough h = elim (cases_lt at (length vs)) [
    | inl below ↦ placed_length vs at w below ∙ enough below
    | inr past ↦ absurd (omega (arith, placed_longer vs at w past))
  ]

  pub reached_next : (deeds : Table → Act) (old mid new : Config S) (vs : List NumberedValue) (at : ℕ) (k : Kind) (v w : NumberedValue) → Reached deeds old mid vs at → slice_get (conversions native given) at ≡ Some k → ((t : Table) → get_or (map (value_in t) vs) at Undefined ≡ value_in t v)
      → Does meaning (λ t go. go nothing) (λ t. nothing) mid new → Later meaning mid new → HasValue new w → ((t : Table) → Grows new.heap.texts t → (env : Env) → Shortens (convert k (value_in t v) env) (give (value_in t w))) → Reached deeds old new (placed vs at w) (at + 1)
  reached_next deeds old mid new vs at k v w reached hk hv does later has converts = record {
    comes = record {
      by = λ last r h.
          let t = last.heap.texts in
          let env = env_in meaning old t frame in
          let next = converting native by_new given (placed (map (value_in t) vs) at (value_in t w)) (at + 1) env in
          reached.comes.by last r
          (follows_converted (converting native by_new given (map (value_in t) vs) at env) next mid new last r
          (λ more. converted_shortens (map (value_in t) vs) at k (value_in t v) (value_in t w) env hk (hv t) (converts t more env)) does
          (subst (λ l. OnOk r (Follows meaning (converting native by_new given l (at + 1) env) new last)) (map-placed (value_in t) vs at w) h));
    };
    later = later_twice meaning old mid new reached.later later;
    found = all_placed new vs at w (All-weaker (HasValue mid) (HasValue new) later.values vs reached.found) has;
    enough = enough_next vs at w reached.enough;
  }

  -- all is converted
  pub reached_end : (deeds : Table → Act) (old mid : Config S) (vs : List NumberedValue) (at : ℕ) → Reached deeds old mid vs at → slice_get (conversions native given) at ≡ None → IsReady meaning native by_new frame deeds (take at vs) old mid
  reached_end deeds old mid vs at reached h = record {
    comes = record {
      by = λ last r k.
          let t = last.heap.texts in
          let same : native_run native by_new (map (value_in t) (take at vs)) (env_in meaning mid t frame) ≡ converting native by_new given (map (value_in t) vs) at (env_in meaning old t frame) =
          ap (λ l. native_run native by_new l (env_in meaning mid t frame)) (sym (take-map (value_in t) at vs))
          ∙ ap (λ e. native_run native by_new (take at (map (value_in t) vs)) e) (env_later meaning old mid t frame reached.later)
          ∙ sym (converting_end native by_new given (env_in meaning old t frame) (map (value_in t) vs) at h) in
          reached.comes.by last r (subst (λ a. OnOk r (Follows meaning a mid last)) same k);
    };
    later = reached.later;
    found = All-take (HasValue mid) at vs reached.found;
  }

  -- nothing is done
  pub reached_still : (deeds : Table → Act) (old mid new : Config S) (vs : List NumberedValue) (at : ℕ) → Reached deeds old mid vs at → Does meaning (λ t go. go nothing) (λ t. nothing) mid new → Later meaning mid new → Reached deeds old new vs at
  reached_still deeds old mid new vs at reached does later = record {
    comes = record { by = λ last r h. reached.comes.by last r (does.by (λ x. converting native by_new given (map (value_in last.heap.texts) vs) at (env_in meaning old last.heap.texts frame)) last r h) };
    later = later_twice meaning old mid new reached.later later;
    found = All-weaker (HasValue mid) (HasValue new) later.values vs reached.found;
    enough = reached.enough;
  }

  -- an object waits for its conversion
  pub reached_waits : (deeds : Table → Act) (old mid new : Config S) (vs : List NumberedValue) (at : ℕ) (k : Kind) (v : NumberedValue) (conversion : Conversion) (r : Result (Unit {0}) OutOfMemory) → Reached deeds old mid vs at → slice_get (conversions native given) at ≡ Some k → ((t : Table) → get_or (map (value_in t) vs) at Undefined ≡ value_in t v) → v ≡ get_or vs at values.Undefined
      → ((t : Table) (env : Env) → convert k (value_in t v) env ≡ begin_conversion conversion (value_in t v) env) → at < length vs
      → (let t = new.heap.texts in let env = env_in meaning mid t frame in OnOk r (Follows meaning (Sub (begin_conversion conversion (value_in t (get_or vs at values.Undefined)) env) (then_value (λ x. converting native by_new (length vs - 1) (placed (map (value_in t) vs) at x) (at + 1) env))) mid new))
      → OnOk r (Follows meaning (deeds new.heap.texts) old new)
  reached_waits deeds old mid new vs at k v conversion r reached hk hv is converts within h =
      let t = new.heap.texts in
      let env = env_in meaning old t frame in
      let count : given ≡ length vs - 1 = omega (arith, reached.enough within) in
      let same : converting native by_new given (map (value_in t) vs) at env ≡ Sub (begin_conversion conversion (value_in t (get_or vs at values.Undefined)) (env_in meaning mid t frame)) (then_value (λ x. converting native by_new (length vs - 1) (placed (map (value_in t) vs) at x) (at + 1) (env_in meaning mid t frame))) =
      converting_next native by_new given env (map (value_in t) vs) at k hk
      ∙ ap (λ x. Sub (convert k x env) (then_value (λ y. converting native by_new given (placed (map (value_in t) vs) at y) (at + 1) env))) (hv t)
      ∙ ap (λ a. Sub a (then_value (λ y. converting native by_new given (placed (map (value_in t) vs) at y) (at + 1) env))) (converts t env)
      ∙ ap (λ x. Sub (begin_conversion conversion (value_in t x) env) (then_value (λ y. converting native by_new given (placed (map (value_in t) vs) at y) (at + 1) env))) is
      ∙ ap (λ n. Sub (begin_conversion conversion (value_in t (get_or vs at values.Undefined)) env) (then_value (λ y. converting native by_new n (placed (map (value_in t) vs) at y) (at + 1) env))) count
      ∙ ap (λ (e : Env). Sub (begin_conversion conversion (value_in t (get_or vs at values.Undefined)) e) (then_value (λ y. converting native by_new (length vs - 1) (placed (map (value_in t) vs) at y) (at + 1) e))) (sym (env_later meaning old mid t frame reached.later)) in
      reached.comes.by new r (subst (λ a. OnOk r (Follows meaning a mid new)) (sym same) h)
