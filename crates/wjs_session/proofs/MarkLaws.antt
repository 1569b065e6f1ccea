-- The marks that each call of a session makes, by what its two stores did.
use Rattle.std.proofs.Common.{◌≡◌, true, false, cond, ◌&&◌, List, [], refl, ap, sym, ◌∙◌, subst, Option, None, Some}
use Rattle.std.specs.Option.{option_map_or, option_and_then, is_none}
use Rattle.std.specs.FinMap as map
use Rattle.std.proofs.lemmas.Bool.{and_parts}
use Rattle.wjs_base.specs.declared.ids.ObjId.{ObjId}
use Rattle.wjs_base.specs.declared.ids.WorldId.{WorldId}
use Rattle.wjs_base.specs.declared.values.Slot.{Slot}
use Rattle.wjs_base.specs.declared.values.Value.{Value}
use Rattle.wjs_base.proofs.Booleans.{by_bool}
use Rattle.wjs_store.specs.Naming.{plain}
use Rattle.wjs_store.specs.Meaning.{View, Worlds}
use Rattle.wjs_store.specs.State.{World, same_world, has_world, parent_of, moves, write_all, fault_in, with_parent, read_in, write_in, after_read, after_write, after_list, read, write, list, commit}
use Rattle.wjs_store.proofs.Writes.{same_self, world_is, found_id}
use Rattle.wjs_store.proofs.Commits.{none_is, pair_parts}
use Rattle.wjs_overlay.specs.Store.{check_of}
use Rattle.wjs_session.specs.Session.{world_at, settled, outer, full_of}
use Rattle.wjs_session.specs.Kept.{IsSession}
use Rattle.wjs_session.specs.Along.{moved_into, write_each}
use Rattle.wjs_session.specs.Tells.{under}
use Rattle.wjs_session.specs.Calls.{Marks, AllTouched}
use Rattle.wjs_session.proofs.Worlds.{found_at, at_found, id_at}
use Rattle.wjs_session.proofs.Looking.{inner_there}
use Rattle.wjs_session.proofs.SettleLaws.{moved_filled}
use Rattle.wjs_session.proofs.CarryLaws.{read_again}
use Rattle.wjs_session.proofs.Committing.{pair_some, parent_found}
use Rattle.wjs_session.proofs.Unders.{listed_all, under_read, under_list, under_write, under_writes}

-- ---- what a commit moves into the first world

module _ (G : Worlds) (i d : WorldId) where
  moved_here : has_world G i ≡ true → parent_of G d ≡ Some i → check_of G d ≡ None → moved_into i G d ≡ moves (world_at G d)
  moved_here there up ok = parent_found G d i up (λ x fx p.
      let both = pair_some G d i x (world_at G i) fx p (found_at G i there) in
      let none : fault_in x (world_at G i) ≡ None = sym (ap (option_and_then (λ (e : World plain × World plain). fault_in e.0 e.1)) both) ∙ ok in
      let here : same_world (world_at G i).id i ≡ true = ap (λ j. same_world j i) (id_at G i there) ∙ same_self i in
      ap (λ o. option_map_or (λ (e : World plain × World plain). cond (same_world e.1.id i && is_none (fault_in e.0 e.1)) (moves e.0) []) o []) both
      ∙ (λ k. cond (here k && is_none (none k)) (moves x) [])
      ∙ ap moves (sym (at_found G d x fx)))

  moved_past : ¬ ((parent_of G d ≡ Some i) × (check_of G d ≡ None)) → moved_into i G d ≡ []
  moved_past past = by (with_parent G d) refl
    where
      by : (o : Option (World plain × World plain)) → with_parent G d ≡ o → option_map_or (λ (e : World plain × World plain). cond (same_world e.1.id i && is_none (fault_in e.0 e.1)) (moves e.0) []) o [] ≡ []
      by None e = refl
      by (Some p) e = by_bool (same_world p.1.id i && is_none (fault_in p.0 p.1))
          (λ t.
          let h = and_parts (same_world p.1.id i) (is_none (fault_in p.0 p.1)) t in
          let parts = pair_parts G d p e in
          let is : parts.1 ≡ i = sym (found_id G parts.1 p.1 parts.3) ∙ world_is p.1.id i h.0 in
          let up : parent_of G d ≡ Some i = ap (option_and_then (λ (y : World plain). y.parent)) parts.0 ∙ parts.2 ∙ ap (λ j. Some j) is in
          absurd (past (up, ap (option_and_then (λ (q : World plain × World plain). fault_in q.0 q.1)) e ∙ none_is (fault_in p.0 p.1) h.1)))
          (λ f. ap (λ b. cond b (moves p.0) []) f)

-- ---- the calls

-- where all of an object is touched, another read of it leaves the shared worlds
pub stays_brought : (F : Worlds) (i : WorldId) (G : Worlds) → IsSession F i G → (q : ObjId) → AllTouched F i q → (H F' : Worlds) (s : Slot) → s.object ≡ q → H ≡ F → F' ≡ after_read H i s → F' ≡ F
stays_brought F i G k q t H F' s on is e = e ∙ ap (λ K. after_read K i s) is ∙ read_again F i s k.shared k.child.there (t s on)

module _ (F : Worlds) (i : WorldId) (G : Worlds) (k : IsSession F i G) where
  pub marks_read : (d : WorldId) (s : Slot) (F' : Worlds) → F' ≡ after_read F i s → Marks F i G (read d s) F'
  marks_read d s F' e = subst (Marks F i G (read d s)) (sym e) (λ v p. under_read F i G k v s p)

  pub marks_list : (d : WorldId) (q : ObjId) (F' : Worlds) → F' ≡ after_list F i q → Marks F i G (list d q) F'
  marks_list d q F' e = subst (Marks F i G (list d q)) (sym e) (λ v p. under_list F i G k v q p)

  -- and where the slots of the object are brought then
  pub marks_listed : (d : WorldId) (q : ObjId) (F1 F2 : Worlds) → F1 ≡ after_list F i q → (AllTouched F1 i q → F2 ≡ F1) → Marks F i G (list d q) F2
  marks_listed d q F1 F2 e stays = marks_list d q F2 (stays (subst (λ H. AllTouched H i q) (sym e) (listed_all F i k.shared k.child q)) ∙ e)

  -- below the session's own world a write reads
  pub marks_below : (d : WorldId) (s : Slot) (c : Option Value) (F' : Worlds) → same_world d i ≡ false → F' ≡ after_read F i s → Marks F i G (write d s c) F'
  marks_below d s c F' apart e = subst (Marks F i G (write d s c)) (sym e) (λ v p.
      let y = under (world_at F i) v in
      under_read F i G k v s p
      ∙ sym (ap (λ b. cond b (write_in s c y) (read_in s y)) (ap (same_world d) (id_at F i k.child.there) ∙ apart)))

  pub marks_write : (d : WorldId) (s : Slot) (c : Option Value) (F' : Worlds) → same_world d i ≡ true → F' ≡ after_write F i s c → Marks F i G (write d s c) F'
  marks_write d s c F' here e = subst (Marks F i G (write d s c)) (sym e) (λ v p.
      let y = under (world_at F i) v in
      under_write i v F k.shared k.child s c
      ∙ sym (ap (λ b. cond b (write_in s c y) (read_in s y)) (ap (same_world d) (id_at F i k.child.there) ∙ here)))

  module _ (d : WorldId) where
    -- what the session's full worlds move is what the inner ones do
    moved_full : (v : View) (es : List (Slot × Option Value)) → moved_into i G d ≡ es → moved_into (world_at F i).id (full_of (world_at F i) G v) d ≡ es
    moved_full v es e = ap (λ j. moved_into j (full_of (world_at F i) G v) d) (id_at F i k.child.there) ∙ moved_filled (settled (world_at F i) G) (outer (world_at F i) v) G d k.shut i ∙ e

    pub marks_into : (F' : Worlds) → parent_of G d ≡ Some i → check_of G d ≡ None → F' ≡ write_all i (moves (world_at G d)) F → Marks F i G (commit d) F'
    marks_into F' up ok e = subst (Marks F i G (commit d)) (sym e) (λ v p.
        under_writes i v (moves (world_at G d)) F k.shared k.child
        ∙ ap (λ es. write_each es (under (world_at F i) v)) (sym (moved_full v (moves (world_at G d)) (moved_here G i d (inner_there F i G k) up ok))))

    pub marks_past : ¬ ((parent_of G d ≡ Some i) × (check_of G d ≡ None)) → Marks F i G (commit d) F
    marks_past past = λ v p. sym (ap (λ es. write_each es (under (world_at F i) v)) (moved_full v [] (moved_past G i d past)))
