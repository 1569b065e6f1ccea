-- The visits of a `for`-`in`, one by one.
use Rattle.std.proofs.Common.{◌≡◌, ℕ, Bool, true, false, List, [], ◌∷◌, ◌++◌, Option, None, Some, refl, sym, ap, ◌∙◌, subst}
use Rattle.std.specs.Prelude.{is_some, Result, OnOk, map as each}
use Rattle.wjs_base.specs.declared.ids.OutOfMemory.{OutOfMemory}
use Rattle.wjs_base.specs.declared.ids.ObjId.{ObjId}
use Rattle.wjs_base.specs.declared.ids.WorldId.{WorldId}
use Rattle.wjs_base.specs.declared.values.Slot.{Slot as NumberedSlot}
use Rattle.wjs_base.specs.Text.{Table}
use Rattle.wjs_store.specs.Meaning.{Meaning}
use Rattle.wjs_by_content.specs.Values.{Value, Undefined, Null, Boolean, Number, String, Object}
use Rattle.wjs_by_content.specs.Names.{Slot}
use Rattle.wjs_by_content.specs.Tables.{name_in, slot_in}
use Rattle.wjs_props.specs.declared.visits.Visit.{Visit}
use Rattle.wjs_props.specs.Visits.{visits_in}
use Rattle.wjs_meaning.specs.declared.trouble.Trouble.TheVariants.{NotAnObject}
use Rattle.wjs_meaning.specs.Builtins.{class_prototype}
use Rattle.wjs_meaning.specs.Errors.{error_of, throw}
use Rattle.wjs_meaning.specs.Properties.{visits}
use Rattle.wjs_meaning.specs.Deeds.{Completion, Env, Act, Sub, Do, Create, Read}
use Rattle.wjs_meaning.specs.Loops.{Taker, visit_take, visits_from, for_in_object, for_in_value}
use Rattle.wjs_model.specs.declared.config.Config.{Config}
use Rattle.wjs_model.specs.declared.frame.Activation.{Activation as Frame}
use Rattle.wjs_model.specs.declared.frame.Held.{Held}
use Rattle.wjs_model.specs.declared.frame.Held.TheVariants as holds
use Rattle.wjs_model.specs.Contents.{visits_held}
use Rattle.wjs_model.specs.Soundness.{HasItems, IsThere}
use Rattle.wjs_frames.specs.Parts.{env_in}
use Rattle.wjs_frames.specs.Following.{Follows}
use Rattle.wjs_frames.specs.Doing.{Does}
use Rattle.wjs_frames.specs.Shortening.{Shortens}
use Rattle.wjs_frames.proofs.Shorter.{follows_shorter, shorten_deed, shorten_do, shorten_plan, shorten_trans}
use Rattle.wjs_heap_steps.specs.Visits.{HasVisit}
use Rattle.wjs_heap_steps.proofs.Composing.{throwing}
use Rattle.wjs_step_common.specs.Lists.{visits_as_items}
use Rattle.wjs_by_content.specs.Renamed.{Holds}
use Rattle.wjs_loops.specs.ForIns.{Passes, Reaches, Lists, Refuses, listed, placed}

-- by whether the slot is present
abbrev pub visit_or : ℕ → Taker → ℕ → Slot → List Slot → Env → Bool → Act
visit_or here taker s x xs env b = elim b [ true ↦ visit_take here taker s x.name env (visits_from here taker s xs env) | false ↦ visits_from here taker s xs env ]

found_same : (here : ℕ) (taker : Taker) (s : ℕ) (x : Slot) (xs : List Slot) (env : Env) (found : Option Value) → visit_or here taker s x xs env (is_some found) ≡ elim found [ None ↦ visits_from here taker s xs env | Some v ↦ visit_take here taker s x.name env (visits_from here taker s xs env) ]
found_same here taker s x xs env None = refl
found_same here taker s x xs env (Some v) = refl

visit_read : (here : ℕ) (taker : Taker) (s : ℕ) (x : Slot) (xs : List Slot) (env : Env) → Do (Read env.world x) (λ found. visit_or here taker s x xs env (is_some found)) ≡ visits_from here taker s (x ∷ xs) env
visit_read here taker s x xs env = ap (λ (go : Option Value → Act). Do (Read env.world x) go) (λ i found. found_same here taker s x xs env found i)

-- the visits that are held
visits_seen : (t : Table) (vs : List Visit) → each (slot_in t) (visits_held (visits_as_items vs ++ [])) ≡ visits_in t vs
visits_seen t [] = refl
visits_seen t (v ∷ vs) = ap (λ l. slot_in t (record { object = v.object; name = v.name }) ∷ l) (visits_seen t vs)

-- the list of an object's visits within other deeds
visits_shorten : (o : ObjId) (env : Env) (next : List Slot → Act) (to : Completion → Act) → Shortens (Sub (visits o env next) to) (visits o env (λ xs. Sub (next xs) to))
visits_shorten o env next to = shorten_trans _ _ _ (shorten_deed _ _ to) (shorten_do _ _ _ (λ arena. shorten_plan _ _ _ to))

module _ {S : Type 0} (meaning : S → Meaning) where
  -- what is followed of the visit, or of those behind it, is followed of the read
  visit_follows : (answer : Bool) (x : Table → Slot) (world : WorldId) (old mid later : Config S) (r : Result (Unit {0}) OutOfMemory) (here : ℕ) (taker : Taker) (s : ℕ) (xs : List Slot) (env : Env) (to : Option (Completion → Act)) → Does meaning (λ t go. Do (Read world (x t)) (λ found. go (is_some found))) (λ t. answer) old mid → env.world ≡ world
      → OnOk r (Follows meaning (placed to (visit_or here taker s (x later.heap.texts) xs env answer)) mid later) → OnOk r (Follows meaning (placed to (visits_from here taker s (x later.heap.texts ∷ xs) env)) old later)
  visit_follows answer x world old mid later r here taker s xs env None d ew h =
      let y = x later.heap.texts in
      let P : Act → Type 0 = λ act. OnOk r (Follows meaning act old later) in
      let go = visit_or here taker s y xs env in
      subst P (ap (λ (w : WorldId). Do (Read w y) (λ found. go (is_some found))) (sym ew) ∙ visit_read here taker s y xs env) (d.by go later r h)
  visit_follows answer x world old mid later r here taker s xs env (Some to) d ew h =
      let y = x later.heap.texts in
      let P : Act → Type 0 = λ act. OnOk r (Follows meaning (Sub act to) old later) in
      let go = visit_or here taker s y xs env in
      let next : Option Value → Act = λ found. go (is_some found) in
      subst P (ap (λ (w : WorldId). Do (Read w y) next) (sym ew) ∙ visit_read here taker s y xs env)
      (follows_shorter meaning (Sub (Do (Read world y) next) to) (Do (Read world y) (λ found. Sub (next found) to)) old later r (shorten_deed (Read world y) next to)
      (d.by (λ b. Sub (go b) to) later r h))

  -- ---- the next visit that is present

  module _ (before : Table → List Slot) (held rest : List Held) (x : NumberedSlot) (world : WorldId) (env : Table → Env) (old mid new : Config S) (p : Passes meaning before (λ t. each (slot_in t) (visits_held held)) env old mid) (e : visits_held held ≡ x ∷ visits_held rest) (ew : (t : Table) → (env t).world ≡ world) where
    abbrev goes_on : Config S → ℕ → Taker → ℕ → List NumberedSlot → Act
    goes_on later here taker s l = visits_from here taker s (each (slot_in later.heap.texts) l) (env later.heap.texts)

    by_read : (answer : Bool) → Does meaning (λ t go. Do (Read world (slot_in t x)) (λ found. go (is_some found))) (λ t. answer) mid new → (here : ℕ) (taker : Taker) (s : ℕ) (to : Option (Completion → Act)) (later : Config S) (r : Result (Unit {0}) OutOfMemory)
        → OnOk r (Follows meaning (placed to (visit_or here taker s (slot_in later.heap.texts x) (each (slot_in later.heap.texts) (visits_held rest)) (env later.heap.texts) answer)) new later) → OnOk r (Follows meaning (placed to (visits_from here taker s (before later.heap.texts) (env later.heap.texts))) old later)
    by_read answer d here taker s to later r h =
        let t = later.heap.texts in
        p.by here taker s to later r (subst (λ (l : List NumberedSlot). OnOk r (Follows meaning (placed to (goes_on later here taker s l)) mid later)) (sym e) (visit_follows answer (λ u. slot_in u x) world mid new later r here taker s (each (slot_in t) (visits_held rest)) (env t) to d (ew t) h))

    -- one more is absent
    pub passes_on : Does meaning (λ t go. Do (Read world (slot_in t x)) (λ found. go (is_some found))) (λ t. false) mid new → Passes meaning before (λ t. each (slot_in t) (visits_held rest)) env old new
    passes_on d = record { by = λ here taker s to later r h. by_read false d here taker s to later r h }

    -- this one is present
    pub reaches_on : Does meaning (λ t go. Do (Read world (slot_in t x)) (λ found. go (is_some found))) (λ t. true) mid new → Reaches meaning before (λ t. each (slot_in t) (visits_held rest)) (λ t. Some (name_in t x.name)) env old new
    reaches_on d = record { by = λ here taker s to later r h. by_read true d here taker s to later r h }

  -- none is left
  pub reaches_none : (before after : Table → List Slot) (held : List Held) (env : Table → Env) (old mid : Config S) → Passes meaning before (λ t. each (slot_in t) (visits_held held)) env old mid → visits_held held ≡ [] → Reaches meaning before after (λ t. None) env old mid
  reaches_none before after held env old mid p e = record {
    by = λ here taker s to later r h. p.by here taker s to later r (subst (λ (l : List NumberedSlot). OnOk r (Follows meaning (placed to (visits_from here taker s (each (slot_in later.heap.texts) l) (env later.heap.texts))) mid later)) (sym e) h);
  }

  -- ---- the object whose names are listed

  over_listed : (here : ℕ) (taker : Taker) (s : ℕ) (env : Env) (o : ObjId) (v : Value) → listed v ≡ Some o → for_in_object here taker s env o ≡ for_in_value here taker s env v
  over_listed here taker s env o Undefined e = absurd (cc)
  over_listed here taker s env o Null e = absurd (cc)
  over_listed here taker s env o (Object p) e = let q : o ≡ p = cc in ap (for_in_object here taker s env) q
  over_listed here taker s env o (Boolean b) e = let q : o ≡ class_prototype (Boolean b) = cc in ap (for_in_object here taker s env) q
  over_listed here taker s env o (Number x) e = let q : o ≡ class_prototype (Number x) = cc in ap (for_in_object here taker s env) q
  over_listed here taker s env o (String t) e = let q : o ≡ class_prototype (String t) = cc in ap (for_in_object here taker s env) q

  over_none : (here : ℕ) (taker : Taker) (s : ℕ) (env : Env) (v : Value) → listed v ≡ None → throw NotAnObject env ≡ for_in_value here taker s env v
  over_none here taker s env Undefined e = refl
  over_none here taker s env Null e = refl
  over_none here taker s env (Object p) e = absurd (cc)
  over_none here taker s env (Boolean b) e = absurd (cc)
  over_none here taker s env (Number x) e = absurd (cc)
  over_none here taker s env (String t) e = absurd (cc)

  -- they are listed where they stand
  listed_by : (o : ObjId) (vs : List Visit) (f : Frame) (old mid later : Config S) (r : Result (Unit {0}) OutOfMemory) (next : List Slot → Act) (to : Option (Completion → Act)) → Does meaning (λ t. visits o (env_in meaning old t f)) (λ t. visits_in t vs) old mid
      → OnOk r (Follows meaning (placed to (next (visits_in later.heap.texts vs))) mid later) → OnOk r (Follows meaning (placed to (visits o (env_in meaning old later.heap.texts f) next)) old later)
  listed_by o vs f old mid later r next None d h = d.by next later r h
  listed_by o vs f old mid later r next (Some to) d h =
      let env = env_in meaning old later.heap.texts f in
      follows_shorter meaning (Sub (visits o env next) to) (visits o env (λ xs. Sub (next xs) to)) old later r (visits_shorten o env next to) (d.by (λ xs. Sub (next xs) to) later r h)

  -- that there is none is thrown where it stands
  thrown_by : (o : ObjId) (old mid later : Config S) (r : Result (Unit {0}) OutOfMemory) (to : Option (Completion → Act)) → Does meaning (λ t go. Do (Create old.owner (error_of NotAnObject [])) go) (λ t. o) old mid
      → OnOk r (Follows meaning (placed to (throwing o)) mid later) → OnOk r (Follows meaning (placed to (Do (Create old.owner (error_of NotAnObject [])) throwing)) old later)
  thrown_by o old mid later r None d h = d.by throwing later r h
  thrown_by o old mid later r (Some to) d h =
      follows_shorter meaning (Sub (Do (Create old.owner (error_of NotAnObject [])) throwing) to) (Do (Create old.owner (error_of NotAnObject [])) (λ x. Sub (throwing x) to)) old later r
      (shorten_deed (Create old.owner (error_of NotAnObject [])) throwing to) (d.by (λ x. Sub (throwing x) to) later r h)

  -- its visits are held
  pub lists_held : (v : Table → Value) (o : ObjId) (vs : List Visit) (held : List Held) (f : Frame) (old mid : Config S) → ((t : Table) → listed (v t) ≡ Some o) → held ≡ visits_as_items vs ++ [] → Does meaning (λ t. visits o (env_in meaning old t f)) (λ t. visits_in t vs) old mid
      → Lists meaning v (λ t. each (slot_in t) (visits_held held)) (λ t. env_in meaning old t f) old mid
  lists_held v o vs held f old mid el eh d = record {
    by = λ here taker s to later r h.
        let t = later.heap.texts in
        let env = env_in meaning old t f in
        subst (λ (act : Act). OnOk r (Follows meaning (placed to act) old later)) (over_listed here taker s env o (v t) (el t))
        (listed_by o vs f old mid later r (λ xs. visits_from here taker s xs env) to d
        (subst (λ (xs : List Slot). OnOk r (Follows meaning (placed to (visits_from here taker s xs env)) mid later)) (ap (λ (l : List Held). each (slot_in t) (visits_held l)) eh ∙ visits_seen t vs) h));
  }

  -- that there is none is thrown
  pub refuses_none : (v : Table → Value) (o : ObjId) (f : Frame) (old mid : Config S) → ((t : Table) → listed (v t) ≡ None) → Does meaning (λ t go. Do (Create old.owner (error_of NotAnObject [])) go) (λ t. o) old mid → Refuses meaning v (λ t. Object o) (λ t. env_in meaning old t f) old mid
  refuses_none v o f old mid el d = record {
    by = λ here taker s to later r h.
        let t = later.heap.texts in
        subst (λ (act : Act). OnOk r (Follows meaning (placed to act) old later)) (over_none here taker s (env_in meaning old t f) (v t) (el t)) (thrown_by o old mid later r to d h);
  }

-- what is held of visits that are there is there
pub items_there : {S : Type 0} (c : Config S) (vs : List Visit) → Holds (HasVisit c) vs → HasItems c (visits_as_items vs ++ [])
items_there c [] h = tt
items_there c (v ∷ vs) h = (h.0, items_there c vs h.1)

-- one more visit is held
pub items_snoc : (vs : List Visit) (v : Visit) (held : List Held) → visits_as_items (vs ++ v ∷ []) ++ held ≡ visits_as_items vs ++ (holds.Visit (record { object = v.object; name = v.name }) ∷ held)
items_snoc [] v held = refl
items_snoc (w ∷ vs) v held = ap (λ l. holds.Visit (record { object = w.object; name = w.name }) ∷ l) (items_snoc vs v held)

-- ---- frames that hold something else

pub held_twice : (f g h : Frame) → g ≡ record f { held = g.held } → h ≡ record g { held = h.held } → h ≡ record f { held = h.held }
held_twice f g h eg eh = eh ∙ ap (λ (y : Frame). record y { held = h.held }) eg

pub held_is : (f g : Frame) (held : List Held) → g ≡ record f { held = held } → g ≡ record f { held = g.held }
held_is f g held e = e ∙ sym (ap (λ (y : Frame). record f { held = y.held }) e)

-- nothing else is held
pub held_alone : (f g : Frame) (held other : List Held) → g ≡ record f { held = held ++ other } → other ≡ [] → (g.held ≡ held ++ []) × (g ≡ record f { held = held ++ [] })
held_alone f g held other e none =
    let nothing : g ≡ record f { held = held ++ [] } = e ∙ ap (λ (h : List Held). record f { held = held ++ h }) none in
    (ap (λ (y : Frame). y.held) nothing, nothing)

-- a frame that holds what is there is there
pub holding_there : {S : Type 0} (meaning : S → Meaning) (c : Config S) (f g : Frame) (held : List Held) → IsThere meaning c f → HasItems c held → g ≡ record f { held = held } → IsThere meaning c g
holding_there meaning c f g held h items e =
    let P : Frame → Type 0 = λ x. IsThere meaning c x in
    subst P (sym e) (record { scope = h.scope; this = h.this; world = h.world; held = items; stands = record { node = h.stands.node; shown = h.stands.shown } })
