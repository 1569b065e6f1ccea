-- Each kind of deed runs so.
use Rattle.std.proofs.Common.{◌≡◌, ℕ, List, [], ◌∷◌, ◌++◌, Bool, true, false, cond, Option, None, Some, refl, sym, ap, ◌∙◌, subst, append_assoc, append-nil, IsTrue}
use Rattle.std.specs.Prelude.{is_some}
use Rattle.std.specs.FinMap as map
use Rattle.std.specs.Ordering.{eq_by_cmp}
use Rattle.std.specs.Cmp.{Equal-is}
use Rattle.wjs_base.specs.declared.ids.ObjId.{ObjId}
use Rattle.wjs_base.specs.declared.ids.WorldId.{WorldId}
use Rattle.wjs_base.specs.Order.{obj_cmp, obj_total, obj_exact}
use Rattle.wjs_base.specs.Text.{Table, Grows}
use Rattle.wjs_base.proofs.TextLaws.{Grows-refl, Grows-trans}
use Rattle.wjs_store.specs.State.{Verdict, Act as Action, read, write, list, sprout, commit, content_at, same_world, find_world, has_world, after, next_id, verdict_at}
use Rattle.wjs_store.specs.Meaning.{Meaning, View, Worlds, IsSound, worlds}
use Rattle.wjs_store.proofs.RunLaws.{has_same}
use Rattle.wjs_by_content.specs.Rename.{shape}
use Rattle.wjs_by_content.specs.Renamed.{named_world}
use Rattle.wjs_arena.specs.declared.object.Object.{Object}
use Rattle.wjs_arena.specs.Entries.{Entry, Objects, IsThere, next_number as next_by, entry_over}
use Rattle.wjs_by_content.specs.Values.{Value}
use Rattle.wjs_by_content.specs.Names.{Slot}
use Rattle.wjs_by_content.specs.Objects.{Arena, Internals, created, next_number}
use Rattle.wjs_by_content.specs.Tables.{arena_in, object_in}
use Rattle.wjs_by_content.specs.Plans.{Plan, Gives, Reads, Writes, Lists, Heard, Sprouted, Committed, told_of, names_at, answer_of, worlds_after, actions_of}
use Rattle.wjs_by_content.specs.Telling.{names_of}
use Rattle.wjs_by_content.specs.Worlds.{worlds_in, told_by, KnowsWorlds}
use Rattle.wjs_heap.specs.declared.heap.Heap.{Heap}
use Rattle.wjs_heap.specs.Acts.{Acts, Creates}
use Rattle.wjs_heap.specs.Heap.{Performs}
use Rattle.wjs_heap.specs.Means.{parts}
use Rattle.wjs_meaning.specs.Deeds.{St, Act, Do, Look, Create, Sprout, Commit, HasWorld, Emit, interp, carry_out}
use Rattle.wjs_meaning.specs.Programs.{eval}
use Rattle.wjs_model.specs.declared.config.Config.{Config}
use Rattle.wjs_model.specs.Rest.{Count, turns_act}
use Rattle.wjs_model.specs.Outside.{Outside, beside, IsFurther, IsOutside, Admits, Sees}
use Rattle.wjs_model.specs.Configurations.{state_in, Stays}
use Rattle.wjs_model.proofs.Beside.{IsIn, number_beside, created_beside, there_in}
use Rattle.wjs_heap_steps.proofs.Running.{Ran, told_same}

-- states with the same parts
state_same : (a b : St) → a.full ≡ b.full → a.arena ≡ b.arena → a.out ≡ b.out → a.done ≡ b.done → a ≡ b
state_same a b f m o d = λ i. record { full = f i; arena = m i; out = o i; done = d i }

-- ---- plans

-- the state after a plan
abbrev planned : {A : Type 0} → Plan A → WorldId → St → St
planned p w st = record st { full = worlds_after p w st.full; done = st.done ++ actions_of p w st.full }

-- after one action of it
abbrev acted_first : Action Slot Value → St → St
acted_first a st = record st { full = after st.full a; done = st.done ++ told_of st.full a ∷ [] }

carry_interp : {A : Type 0} (p : Plan A) (w : WorldId) (go : A → Act) (st : St) (n : ℕ) → interp eval (carry_out p w go) st n ≡ interp eval (go (answer_of p w st.full)) (planned p w st) n
carry_interp (Gives a) w go st n = ap (λ d. interp eval (go a) (record st { done = d }) n) (sym (append-nil st.done))
carry_interp (Reads s next) w go st n =
    carry_interp (next (content_at st.full w s)) w go (acted_first (read w s) st) n
    ∙ ap (λ d. interp eval (go (answer_of (Reads s next) w st.full)) (record st { full = worlds_after (Reads s next) w st.full; done = d }) n) (append_assoc st.done (told_of st.full (read w s) ∷ []) _)
carry_interp (Writes s c next) w go st n =
    carry_interp next w go (acted_first (write w s c) st) n
    ∙ ap (λ d. interp eval (go (answer_of (Writes s c next) w st.full)) (record st { full = worlds_after (Writes s c next) w st.full; done = d }) n) (append_assoc st.done (told_of st.full (write w s c) ∷ []) _)
carry_interp (Lists o next) w go st n =
    carry_interp (next (names_at st.full w o)) w go (acted_first (list w o) st) n
    ∙ ap (λ d. interp eval (go (answer_of (Lists o next) w st.full)) (record st { full = worlds_after (Lists o next) w st.full; done = d }) n) (append_assoc st.done (told_of st.full (list w o) ∷ []) _)

carry_turns : {A : Type 0} (p : Plan A) (w : WorldId) (go : A → Act) (st : St) (k : Count) → turns_act (carry_out p w go) st k ≡ turns_act (go (answer_of p w st.full)) (planned p w st) k
carry_turns (Gives a) w go st k = ap (λ d. turns_act (go a) (record st { done = d }) k) (sym (append-nil st.done))
carry_turns (Reads s next) w go st k =
    carry_turns (next (content_at st.full w s)) w go (acted_first (read w s) st) k
    ∙ ap (λ d. turns_act (go (answer_of (Reads s next) w st.full)) (record st { full = worlds_after (Reads s next) w st.full; done = d }) k) (append_assoc st.done (told_of st.full (read w s) ∷ []) _)
carry_turns (Writes s c next) w go st k =
    carry_turns next w go (acted_first (write w s c) st) k
    ∙ ap (λ d. turns_act (go (answer_of (Writes s c next) w st.full)) (record st { full = worlds_after (Writes s c next) w st.full; done = d }) k) (append_assoc st.done (told_of st.full (write w s c) ∷ []) _)
carry_turns (Lists o next) w go st k =
    carry_turns (next (names_at st.full w o)) w go (acted_first (list w o) st) k
    ∙ ap (λ d. turns_act (go (answer_of (Lists o next) w st.full)) (record st { full = worlds_after (Lists o next) w st.full; done = d }) k) (append_assoc st.done (told_of st.full (list w o) ∷ []) _)

-- ---- configurations

-- an object that is named is in the arena by content
pub there_named : (t : Table) (objects : Objects) (o : Option ObjId) → IsThere objects o → IsIn (arena_in t objects) o
there_named t objects None h = tt
there_named t objects (Some o) h = there_in t objects o h

-- where worlds were added, what is further now was further before
further_before : (old new : Meaning) (owner : ℕ) (more : Arena) → ((w : WorldId) → IsTrue (has_world (worlds old) w) → IsTrue (has_world (worlds new) w)) → IsFurther new owner more → IsFurther old owner more
further_before old new owner more still f = record { apart = f.apart; worlds = λ o e w h k. let p = f.worlds o e w h k in ((λ there. p.0 (still w there)), p.1) }

module _ {S : Type 0} (meaning : S → Meaning) where
  both : (old : Config S) (o : ObjId) (e : Entry) → map.get old.heap.arena o ≡ None → map.get old.heap.arena o ≡ Some e → ⊥
  both old o e h k = cc

  pub stays_same : (old : Config S) → Stays meaning old old
  stays_same old = record {
    units = refl;
    global = refl;
    world = refl;
    owner = refl;
    apart = refl;
    texts = Grows-refl old.heap.texts;
    objects = λ o e h. h;
    made = λ o e h k. absurd (both old o e h k);
    own = refl;
    around = refl;
    narrows = λ v a. a;
  }

  -- where the objects stay
  stays_so : (old : Config S) (heap : Heap S) → Grows old.heap.texts heap.texts → heap.arena ≡ old.heap.arena → (meaning heap.store).own ≡ (meaning old.heap.store).own → (meaning heap.store).around ≡ (meaning old.heap.store).around
      → ((v : View) → IsTrue ((meaning heap.store).admits v) → IsTrue ((meaning old.heap.store).admits v))
      → ((w : WorldId) → IsTrue (has_world (worlds (meaning old.heap.store)) w) → IsTrue (has_world (worlds (meaning heap.store)) w)) → Stays meaning old (record old { heap = heap })
  stays_so old heap g arena own around narrows still = record {
    units = refl;
    global = refl;
    world = refl;
    owner = refl;
    apart = refl;
    texts = g;
    objects = λ o e h. ap (λ (m : Objects). map.get m o) arena ∙ h;
    made = λ o e h k. absurd (both old o e h (ap (λ (m : Objects). map.get m o) (sym arena) ∙ k));
    own = own;
    around = around;
    narrows = λ v a. record {
      view = narrows v.view a.view;
      further = further_before (meaning old.heap.store) (meaning heap.store) old.owner v.more still a.further;
      texts = Grows-trans old.heap.texts heap.texts v.texts g a.texts;
    };
  }

  -- what the state has is seen
  sees_state : (old : Config S) (t : Table) (v : Outside) → Admits meaning old v → Sees meaning old t (state_in meaning t v old).arena
  sees_state old t v a = record { more = v.more; further = a.further; is = refl }

  -- a plan for the objects that are there, whatever stands beside them
  pub ran_plan : {A : Type 0} (w : WorldId) (plan : Table → Arena → Plan A) (answer : Table → A) (old : Config S) (heap : Heap S)
      → ((t : Table) (arena : Arena) → Sees meaning old t arena → plan t arena ≡ plan t (arena_in t old.heap.arena))
      → Performs w (λ t. plan t (arena_in t old.heap.arena)) answer (parts meaning old.heap) (parts meaning heap) → Ran meaning (λ t go. Do Look (λ arena. carry_out (plan t arena) w go)) answer old (record old { heap = heap })
  ran_plan w plan answer old heap alike p = record {
    same = refl;
    stays = stays;
    by = λ t g v gv a k.
        let st = state_in meaning t v old in
        let c = p.carries t v.texts g gv v.view a.view k in
        let todo = plan t (arena_in t old.heap.arena) in
        let seen : plan t st.arena ≡ todo = alike t st.arena (sees_state old t v (stays.narrows v a)) in
        let leaves : planned todo w st ≡ record (state_in meaning t v (record old { heap = heap })) { done = st.done ++ actions_of todo w st.full } = state_same _ _ (sym c.worlds) (ap (λ (m : Objects). beside (arena_in t m) v.more) (sym p.arena)) refl refl in
        record {
          acts = actions_of todo w st.full;
          knows = c.knows;
          told = c.told;
          runs = λ go n. ap (λ todo. interp eval (carry_out todo w go) st n) seen ∙ carry_interp todo w go st n ∙ (λ i. interp eval (go (sym c.answers i)) (leaves i) n);
          counts = λ go m. ap (λ todo. turns_act (carry_out todo w go) st m) seen ∙ carry_turns todo w go st m ∙ (λ i. turns_act (go (sym c.answers i)) (leaves i) m);
        };
  }
    where
      stays : Stays meaning old (record old { heap = heap })
      stays = stays_so old heap p.texts p.arena p.own p.around p.narrows p.still_there

  -- a plan without a look
  pub ran_actions : {A : Type 0} (w : WorldId) (plan : Table → Plan A) (answer : Table → A) (old : Config S) (heap : Heap S)
      → Performs w plan answer (parts meaning old.heap) (parts meaning heap) → Ran meaning (λ t go. carry_out (plan t) w go) answer old (record old { heap = heap })
  ran_actions w plan answer old heap p = let r = ran_plan w (λ t arena. plan t) answer old heap (λ t arena s. refl) p in record {
    same = r.same;
    stays = r.stays;
    by = λ t g v gv a k. let e = r.by t g v gv a k in record { acts = e.acts; knows = e.knows; told = e.told; runs = e.runs; counts = e.counts };
  }

  -- ---- no action of the worlds

  -- more texts, and no deed
  pub ran_nothing : {A : Type 0} (said shown : Table → A) (old : Config S) (heap : Heap S) → Grows old.heap.texts heap.texts → heap.arena ≡ old.heap.arena → heap.store ≡ old.heap.store → ((t : Table) → Grows heap.texts t → said t ≡ shown t)
      → Ran meaning (λ t go. go (said t)) shown old (record old { heap = heap })
  ran_nothing said shown old heap g arena store e = record {
    same = refl;
    stays = stays_so old heap g arena (ap (λ (s : S). (meaning s).own) store) (ap (λ (s : S). (meaning s).around) store) (λ v a. subst (λ (s : S). IsTrue ((meaning s).admits v)) store a) (λ w h. subst (λ (s : S). IsTrue (has_world (worlds (meaning s)) w)) (sym store) h);
    by = λ t gt v gv a k.
        let st = state_in meaning t v old in
        let leaves : st ≡ record (state_in meaning t v (record old { heap = heap })) { done = st.done ++ [] } = state_same _ _ (ap (λ (s : S). worlds_in v.texts ((meaning s).full v.view)) (sym store)) (ap (λ (m : Objects). beside (arena_in t m) v.more) (sym arena)) refl (sym (append-nil st.done)) in
        record {
          acts = [];
          knows = subst (λ (s : S). KnowsWorlds v.texts ((meaning s).full v.view)) (sym store) k;
          told = ap (λ (s : S). told_by v.texts (meaning s).told) store ∙ told_same v.texts (meaning old.heap.store).told;
          runs = λ go n i. interp eval (go (e t gt i)) (leaves i) n;
          counts = λ go m i. turns_act (go (e t gt i)) (leaves i) m;
        };
  }

  -- a look at the objects
  pub ran_look : {A : Type 0} (seen : Table → Arena → A) (answer : Table → A) (old : Config S) → ((t : Table) → Grows old.heap.texts t → (arena : Arena) → Sees meaning old t arena → seen t arena ≡ answer t)
      → Ran meaning (λ t go. Do Look (λ arena. go (seen t arena))) answer old old
  ran_look seen answer old e = record {
    same = refl;
    stays = stays_same old;
    by = λ t gt v gv a k.
        let st = state_in meaning t v old in
        let leaves : st ≡ record st { done = st.done ++ [] } = state_same _ _ refl refl refl (sym (append-nil st.done)) in
        let found = e t gt st.arena (sees_state old t v a) in
        record {
          acts = [];
          knows = k;
          told = told_same v.texts (meaning old.heap.store).told;
          runs = λ go n i. interp eval (go (found i)) (leaves i) n;
          counts = λ go m i. turns_act (go (found i)) (leaves i) m;
        };
  }

  -- output
  pub ran_output : (bytes : List ℕ) (old longer : Config S) → longer.pending.items ≡ old.pending.items ++ bytes → Ran meaning (λ t go. Do (Emit bytes) go) (λ t. tt) old (record old { pending = longer.pending })
  ran_output bytes old longer out = record {
    same = refl;
    stays = record {
      units = refl;
      global = refl;
      world = refl;
      owner = refl;
      apart = refl;
      texts = Grows-refl old.heap.texts;
      objects = λ o e h. h;
      made = λ o e h k. absurd (both old o e h k);
      own = refl;
      around = refl;
      narrows = λ v a. a;
    };
    by = λ t gt v gv a k.
        let st = state_in meaning t v old in
        let leaves : record st { out = st.out ++ bytes } ≡ record (state_in meaning t v (record old { pending = longer.pending })) { done = st.done ++ [] } = state_same _ _ refl refl (sym out) (sym (append-nil st.done)) in
        record {
          acts = [];
          knows = k;
          told = told_same v.texts (meaning old.heap.store).told;
          runs = λ go n i. interp eval (go tt) (leaves i) n;
          counts = λ go m i. turns_act (go tt) (leaves i) m;
        };
  }

  -- whether a world is there, which is the same under each admitted view
  named_has : (t : Table) (F : Worlds) (w : WorldId) → has_world (worlds_in t F) w ≡ has_world F w
  unfolding find_world
  named_has t [] w = refl
  named_has t (x ∷ F) w = by (same_world x.id w) (named_has t F w)
    where
      by : (b : Bool) → has_world (worlds_in t F) w ≡ has_world F w → is_some (cond b (Some (named_world (names_of t) x)) (find_world (worlds_in t F) w)) ≡ is_some (cond b (Some x) (find_world F w))
      by true e = refl
      by false e = e

  pub ran_test : (w : WorldId) (answer : Bool) (old : Config S) → IsSound (meaning old.heap.store) → answer ≡ has_world (worlds (meaning old.heap.store)) w → Ran meaning (λ t go. Do (HasWorld w) go) (λ t. answer) old old
  ran_test w answer old sound is = record {
    same = refl;
    stays = stays_same old;
    by = λ t gt v gv a k.
        let st = state_in meaning t v old in
        let leaves : st ≡ record st { done = st.done ++ [] } = state_same _ _ refl refl refl (sym (append-nil st.done)) in
        let e : has_world st.full w ≡ answer = named_has v.texts ((meaning old.heap.store).full v.view) w ∙ has_same (meaning old.heap.store) sound v.view a.view w ∙ sym is in
        record {
          acts = [];
          knows = k;
          told = told_same v.texts (meaning old.heap.store).told;
          runs = λ go n i. interp eval (go (e i)) (leaves i) n;
          counts = λ go m i. turns_act (go (e i)) (leaves i) m;
        };
  }

  -- a new object
  pub ran_create : (internals : Table → Internals) (x : Object) (id : ObjId) (old : Config S) (heap : Heap S) → Creates old.owner x id (parts meaning old.heap) (parts meaning heap) → IsThere old.heap.arena x.prototype → IsThere old.heap.arena x.scope → ((t : Table) → Grows heap.texts t → object_in t x ≡ internals t)
      → Ran meaning (λ t go. Do (Create old.owner (internals t)) go) (λ t. id) old (record old { heap = heap })
  ran_create internals x id old heap c on in_scope e = record {
    same = refl;
    stays = record {
      units = refl;
      global = refl;
      world = refl;
      owner = refl;
      apart = refl;
      texts = subst (Grows old.heap.texts) (sym c.texts) (Grows-refl old.heap.texts);
      objects = c.keeps;
      made = λ o y h k. made_by o y h (eq_by_cmp obj_cmp o (next_by old.heap.arena old.owner)) refl (sym (map.get-insert obj_total old.heap.arena (next_by old.heap.arena old.owner) (entry_over old.heap.arena x) o) ∙ ap (λ (m : Objects). map.get m o) (sym c.arena) ∙ k);
      own = ap (λ (m : Meaning). m.own) c.store;
      around = ap (λ (m : Meaning). m.around) c.store;
      narrows = λ v a. subst (λ (x : Table). IsOutside (meaning old.heap.store) old.owner x v) c.texts (subst (λ (m : Meaning). IsOutside m old.owner heap.texts v) c.store a);
    };
    by = λ t gt v gv a k.
        let st = state_in meaning t v old in
        let leaves : record st { arena = created st.arena old.owner (internals t) } ≡ record (state_in meaning t v (record old { heap = heap })) { done = st.done ++ [] } =
        state_same _ _ (ap (λ (m : Meaning). worlds_in v.texts (m.full v.view)) (sym c.store))
        (ap (created st.arena old.owner) (sym (e t gt))
        ∙ created_beside (arena_in t old.heap.arena) v.more old.owner a.further.apart (object_in t x) (there_named t old.heap.arena x.prototype on) (there_named t old.heap.arena x.scope in_scope)
        ∙ ap (λ m. beside m v.more) (sym (c.arena_by t))) refl (sym (append-nil st.done)) in
        let number : next_number st.arena old.owner ≡ id = number_beside (arena_in t old.heap.arena) v.more old.owner a.further.apart ∙ sym (c.number_in t) in
        record {
          acts = [];
          knows = subst (λ (m : Meaning). KnowsWorlds v.texts (m.full v.view)) (sym c.store) k;
          told = ap (λ (m : Meaning). told_by v.texts m.told) c.store ∙ told_same v.texts (meaning old.heap.store).told;
          runs = λ go n i. interp eval (go (number i)) (leaves i) n;
          counts = λ go m i. turns_act (go (number i)) (leaves i) m;
        };
  }
    where
      made_by : (o : ObjId) (y : Entry) → map.get old.heap.arena o ≡ None → (b : Bool) → eq_by_cmp obj_cmp o (next_by old.heap.arena old.owner) ≡ b → cond b (Some (entry_over old.heap.arena x)) (map.get old.heap.arena o) ≡ Some y → o.owner ≡ old.owner
      made_by o y h true is q = ap (λ (p : ObjId). p.owner) (obj_exact o (next_by old.heap.arena old.owner) ((Equal-is (obj_cmp o (next_by old.heap.arena old.owner))).0 is))
      made_by o y h false is q = absurd (both old o y h q)

  -- ---- actions of worlds that no plan has

  stays_acted : (act : Action Slot Value) (answer : Heard) (old : Config S) (heap : Heap S) → Acts act answer (parts meaning old.heap) (parts meaning heap) → Stays meaning old (record old { heap = heap })
  stays_acted act answer old heap f = stays_so old heap (subst (Grows old.heap.texts) (sym f.texts) (Grows-refl old.heap.texts)) f.arena f.own f.around f.narrows f.still_there

  pub ran_sprout : (w : WorldId) (strict : Bool) (child : WorldId) (old : Config S) (heap : Heap S) → Acts (sprout w old.owner strict) (Sprouted child) (parts meaning old.heap) (parts meaning heap)
      → Ran meaning (λ t go. Do (Sprout w old.owner strict) go) (λ t. child) old (record old { heap = heap })
  ran_sprout w strict child old heap f = record {
    same = refl;
    stays = stays_acted (sprout w old.owner strict) (Sprouted child) old heap f;
    by = λ t g v gv a k.
        let st = state_in meaning t v old in
        let act : Action Slot Value = sprout w old.owner strict in
        let c = f.acts v.texts a.texts v.view a.view k in
        let leaves : acted_first act st ≡ record (state_in meaning t v (record old { heap = heap })) { done = st.done ++ told_of st.full act ∷ [] } = state_same _ _ (sym c.worlds) (ap (λ (m : Objects). beside (arena_in t m) v.more) (sym f.arena)) refl refl in
        let number : next_id st.full old.owner ≡ child = is_child child (next_id st.full old.owner) c.answers in
        record {
          acts = told_of st.full act ∷ [];
          knows = c.knows;
          told = c.told;
          runs = λ go n i. interp eval (go (number i)) (leaves i) n;
          counts = λ go m i. turns_act (go (number i)) (leaves i) m;
        };
  }
    where
      is_child : (a b : WorldId) → Sprouted a ≡ Sprouted b → b ≡ a
      is_child a b e = cc

  pub ran_commit : (w : WorldId) (verdict : Verdict (Unit {0})) (old : Config S) (heap : Heap S) → Acts (commit w) (Committed verdict) (parts meaning old.heap) (parts meaning heap)
      → Ran meaning (λ t go. Do (Commit w) go) (λ t. verdict) old (record old { heap = heap })
  ran_commit w verdict old heap f = record {
    same = refl;
    stays = stays_acted (commit w) (Committed verdict) old heap f;
    by = λ t g v gv a k.
        let st = state_in meaning t v old in
        let act : Action Slot Value = commit w in
        let c = f.acts v.texts a.texts v.view a.view k in
        let leaves : acted_first act st ≡ record (state_in meaning t v (record old { heap = heap })) { done = st.done ++ told_of st.full act ∷ [] } = state_same _ _ (sym c.worlds) (ap (λ (m : Objects). beside (arena_in t m) v.more) (sym f.arena)) refl refl in
        let says : shape (verdict_at st.full w) ≡ verdict = is_verdict verdict (shape (verdict_at st.full w)) c.answers in
        record {
          acts = told_of st.full act ∷ [];
          knows = c.knows;
          told = c.told;
          runs = λ go n i. interp eval (go (says i)) (leaves i) n;
          counts = λ go m i. turns_act (go (says i)) (leaves i) m;
        };
  }
    where
      is_verdict : (a b : Verdict (Unit {0})) → Committed a ≡ Committed b → b ≡ a
      is_verdict a b e = cc
