use Rattle.std.proofs.Common.{◌≡◌, ◌<◌, ℕ, List, ap, sym, ◌∙◌, subst, IfSome, length, Some, None, Option}
use Rattle.wjs_base.specs.declared.values.Slot.{Slot}
use Rattle.wjs_base.specs.declared.ids.WorldId.{WorldId}
use Rattle.wjs_full.specs.declared.rows.Row.{Row}
use Rattle.wjs_store.specs.Naming.{plain}
use Rattle.wjs_full.specs.Rows.{worlds_in, worlds_at}
use Rattle.wjs_store.specs.State.{World, with_parent, fault_in}
use Rattle.wjs_store.proofs.Parents.{commit_alone}
use Rattle.wjs_full.proofs.Tables.{commit_fault_at, commit_moves_at}
use Rattle.wjs_full.proofs.table.commit.Goals as goal

pub returns-in-None-clause-verdict : goal.returns-in-None-clause-verdict
returns-in-None-clause-verdict c = (commit_alone (worlds_in c.args.table.now.items) c.args.world (ap (λ t. with_parent (worlds_in t) c.args.world) (sym c.as_slice.ensures.value) ∙ c.in-None.ensures.found)).0

pub returns-in-None-clause-after : goal.returns-in-None-clause-after
returns-in-None-clause-after c = (commit_alone (worlds_in c.args.table.now.items) c.args.world (ap (λ t. with_parent (worlds_in t) c.args.world) (sym c.as_slice.ensures.value) ∙ c.in-None.ensures.found)).1

-- what the places and the fault say, of the vector's rows
found_at : (s t : List Row) (e : s ≡ t) (w : WorldId) (p : ℕ × ℕ) → with_parent (worlds_in s) w ≡ worlds_at s p → with_parent (worlds_in t) w ≡ worlds_at t p
found_at s t e w p h = subst (λ u. with_parent (worlds_in u) w ≡ worlds_at u p) e h

fault_at : (s t : List Row) (e : s ≡ t) (p : ℕ × ℕ) (f g : Option Slot) → f ≡ g → IfSome (worlds_at s p) (λ (e : World plain × World plain). f ≡ fault_in e.0 e.1) → IfSome (worlds_at t p) (λ (e : World plain × World plain). g ≡ fault_in e.0 e.1)
fault_at s t e p f g is h = subst (λ u. IfSome (worlds_at u p) (λ (e : World plain × World plain). g ≡ fault_in e.0 e.1)) e (subst (λ o. IfSome (worlds_at s p) (λ (e : World plain × World plain). o ≡ fault_in e.0 e.1)) is h)

pub returns-in-Some-2-clause-verdict : goal.returns-in-Some-2-clause-verdict
returns-in-Some-2-clause-verdict c =
    let t = c.args.table.now.items in
    (commit_fault_at t c.args.world c.in-Some.places.0 c.in-Some.places.1 (subst (λ (s : List Row). c.in-Some.places.0 < length s) c.as_slice.ensures.value c.in-Some.ensures.bound.0) (subst (λ (s : List Row). c.in-Some.places.1 < length s) c.as_slice.ensures.value c.in-Some.ensures.bound.1) (found_at _ t c.as_slice.ensures.value c.args.world c.in-Some.places c.in-Some.ensures.found) c.in-Some-2.slot (fault_at _ t c.as_slice-in-Some.ensures.value c.in-Some.places c.in_ok-slot-in-Some.field-0 (Some c.in-Some-2.slot) c.in-Some-2.is c.in_ok-slot-in-Some.ensures)).0

pub returns-in-Some-2-clause-after : goal.returns-in-Some-2-clause-after
returns-in-Some-2-clause-after c =
    let t = c.args.table.now.items in
    (commit_fault_at t c.args.world c.in-Some.places.0 c.in-Some.places.1 (subst (λ (s : List Row). c.in-Some.places.0 < length s) c.as_slice.ensures.value c.in-Some.ensures.bound.0) (subst (λ (s : List Row). c.in-Some.places.1 < length s) c.as_slice.ensures.value c.in-Some.ensures.bound.1) (found_at _ t c.as_slice.ensures.value c.args.world c.in-Some.places c.in-Some.ensures.found) c.in-Some-2.slot (fault_at _ t c.as_slice-in-Some.ensures.value c.in-Some.places c.in_ok-slot-in-Some.field-0 (Some c.in-Some-2.slot) c.in-Some-2.is c.in_ok-slot-in-Some.ensures)).1

pub returns-in_ok-settle_at-in-None-2-clause-verdict : goal.returns-in_ok-settle_at-in-None-2-clause-verdict
returns-in_ok-settle_at-in-None-2-clause-verdict c =
    let t = c.args.table.now.items in
    (commit_moves_at t c.args.world c.in-Some.places.0 c.in-Some.places.1 (subst (λ (s : List Row). c.in-Some.places.0 < length s) c.as_slice.ensures.value c.in-Some.ensures.bound.0) (subst (λ (s : List Row). c.in-Some.places.1 < length s) c.as_slice.ensures.value c.in-Some.ensures.bound.1) (found_at _ t c.as_slice.ensures.value c.args.world c.in-Some.places c.in-Some.ensures.found) (worlds_in c.settle_at.new.table.items) (fault_at _ t c.as_slice-in-Some.ensures.value c.in-Some.places c.in_ok-slot-in-Some.field-0 None c.in-None-2.is c.in_ok-slot-in-Some.ensures) c.in_ok-settle_at-in-None-2.ensures.after).0

pub returns-in_ok-settle_at-in-None-2-clause-after : goal.returns-in_ok-settle_at-in-None-2-clause-after
returns-in_ok-settle_at-in-None-2-clause-after c =
    let t = c.args.table.now.items in
    (commit_moves_at t c.args.world c.in-Some.places.0 c.in-Some.places.1 (subst (λ (s : List Row). c.in-Some.places.0 < length s) c.as_slice.ensures.value c.in-Some.ensures.bound.0) (subst (λ (s : List Row). c.in-Some.places.1 < length s) c.as_slice.ensures.value c.in-Some.ensures.bound.1) (found_at _ t c.as_slice.ensures.value c.args.world c.in-Some.places c.in-Some.ensures.found) (worlds_in c.settle_at.new.table.items) (fault_at _ t c.as_slice-in-Some.ensures.value c.in-Some.places c.in_ok-slot-in-Some.field-0 None c.in-None-2.is c.in_ok-slot-in-Some.ensures) c.in_ok-settle_at-in-None-2.ensures.after).1
