-- A session that rests does so still, by the laws of what others leave.
use Rattle.std.proofs.Common.{◌≡◌, ℕ, Bool, false, ◌∷◌, List, Some, refl, ap, sym, ◌∙◌, subst, Option}
use Rattle.std.specs.FinMap as map
use Rattle.wjs_base.specs.declared.ids.WorldId.{WorldId}
use Rattle.wjs_base.specs.declared.values.Slot.{Slot}
use Rattle.wjs_base.specs.declared.values.Value.{Value}
use Rattle.wjs_store.specs.Fixed.{fixed}
use Rattle.wjs_store.specs.Meaning.{Meaning, Worlds, PlainAct, PlainReply, Does, worlds}
use Rattle.wjs_store.specs.Shown.{first_of}
use Rattle.wjs_store.specs.State.{same_world, next_id, after_write, write, wrote}
use Rattle.wjs_store.specs.declared.store.Verdict.{Verdict}
use Rattle.wjs_session.specs.declared.resting.Resting.{Resting}
use Rattle.wjs_session.specs.Session.{holding, world_at, first_copy, around_of, owned, session}
use Rattle.wjs_session.specs.Kept.{IsSession}
use Rattle.wjs_session.specs.Settled.{Settles}
use Rattle.wjs_session.specs.Begun.{Begins}
use Rattle.wjs_session.specs.Resumed.{Rests, RestingStandsStill}
use Rattle.wjs_session.specs.Others.{TurnsLeaveOthers, BeginsLeaveOthers, EndsLeaveOthers, WritesLeaveOthers, NumbersByOwner}

-- ---- whose world it is

-- worlds of the owners 2 and 1 are two
pub of_two_owners : (F F' : Worlds) (a b : WorldId) → a ≡ next_id F 2 → b ≡ next_id F' 1 → (same_world a b ≡ false) × (same_world b a ≡ false)
of_two_owners F F' a b e f = (
  ap (λ (w : WorldId). same_world w b) e ∙ ap (same_world (next_id F 2)) f,
  ap (λ (w : WorldId). same_world w a) f ∙ ap (same_world (next_id F' 1)) e,
)

some_is : (a b : WorldId) → Some a ≡ Some b → a ≡ b
some_is a b e = cc

-- the first world of what a session means has the session's number
number_is : NumbersByOwner → (F : Worlds) (i : WorldId) (G : Worlds) (told : List (PlainAct × PlainReply)) (m : Meaning) (w : WorldId) → IsSession F i G → m ≡ session F i G told false → first_of (worlds m) ≡ Some w → w ≡ i
number_is numbers F i G told m w k is e = some_is w i (sym e ∙ ap (λ (n : Meaning). first_of (worlds n)) is ∙ (numbers F i G k).1 (owned (world_at F i) (first_copy F)))

-- a session whose first world has the number that it had is on the same world
pub same_number : NumbersByOwner → (F : Worlds) (i : WorldId) (G : Worlds) (told : List (PlainAct × PlainReply)) (m : Meaning) (F' : Worlds) (i' : WorldId) (G' : Worlds) (told' : List (PlainAct × PlainReply)) (m' : Meaning) (w w' : WorldId)
    → IsSession F i G → m ≡ session F i G told false → first_of (worlds m) ≡ Some w → IsSession F' i' G' → m' ≡ session F' i' G' told' false → first_of (worlds m') ≡ Some w' → w' ≡ w → i' ≡ i
same_number numbers F i G told m F' i' G' told' m' w w' k is e k' is' e' same = sym (number_is numbers F' i' G' told' m' w' k' is' e') ∙ same ∙ number_is numbers F i G told m w k is e

pub same_around : (F : Worlds) (i : WorldId) (G : Worlds) (told : List (PlainAct × PlainReply)) (m : Meaning) (F' : Worlds) (i' : WorldId) (G' : Worlds) (told' : List (PlainAct × PlainReply)) (m' : Meaning)
    → m ≡ session F i G told false → m' ≡ session F' i' G' told' false → m'.around ≡ m.around → around_of F' i' ≡ around_of F i
same_around F i G told m F' i' G' told' m' is is' e = sym (ap (λ (n : Meaning). n.around) is') ∙ e ∙ ap (λ (n : Meaning). n.around) is

-- ---- what others do

-- after a write in the first world
pub written_beside : RestingStandsStill → WritesLeaveOthers → (F F' : Worlds) (spent spent' : Bool) (p : WorldId) (s : Slot) (c : Option Value) (r : Resting) → Rests F r → first_of F ≡ Some p → Does (fixed F spent) (write p s c) wrote (fixed F' spent') → Rests F' r
written_beside still writes F F' spent spent' p s c r k first d =
    let is : F' ≡ after_write F p s c = d.worlds map.empty refl in
    subst (λ (H : Worlds). Rests H r) (sym is) (still F (after_write F p s c) r k (writes F p s c k.is.shared first r.world k.is.child)).0

-- after another began on the world j
pub begun_beside : RestingStandsStill → BeginsLeaveOthers → (F F' : Worlds) (owner : ℕ) (j n : WorldId) (m : Meaning) (G : Worlds) → Begins F owner n m → j ≡ n → IsSession F' j G → m.around ≡ around_of F' j → (r : Resting) → same_world r.world j ≡ false → Rests F r → Rests F' r
begun_beside still begins F F' owner j n m G b is k a r past rests =
    let around : around_of F' j ≡ record (holding j map.empty) { parent = first_of F } ∷ F = sym a ∙ b.around ∙ ap (λ (w : WorldId). record (holding w map.empty) { parent = first_of F } ∷ F) (sym is) in
    (still F F' r rests ((begins F F' j G k around).0.returns r.world past rests.is.child)).0

-- after a turn of the session on the world j
pub turned_beside : RestingStandsStill → TurnsLeaveOthers → (F F' : Worlds) (j j' : WorldId) (G G' : Worlds) → j' ≡ j → IsSession F j G → IsSession F' j' G' → around_of F' j' ≡ around_of F j → (r : Resting) → same_world r.world j ≡ false → Rests F r → Rests F' r
turned_beside still turns F F' j j' G G' is k k' a r past rests =
    let there : IsSession F' j G' = subst (λ (w : WorldId). IsSession F' w G') is k' in
    let around : around_of F' j ≡ around_of F j = ap (around_of F') (sym is) ∙ a in
    (still F F' r rests ((turns F F' j G G' k there around).0.returns r.world past rests.is.child)).0

-- after its end
pub ended_beside : RestingStandsStill → EndsLeaveOthers → (F F' : Worlds) (j : WorldId) (G : Worlds) (verdict : Verdict) → IsSession F j G → Settles F j G F' verdict → (r : Resting) → same_world r.world j ≡ false → Rests F r → Rests F' r
ended_beside still ends F F' j G verdict k e r past rests = (still F F' r rests ((ends F F' j G verdict k e).returns r.world past rests.is.child)).0
