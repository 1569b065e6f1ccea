-- Laws of the machine, each promised by a public function.
use Rattle.std.specs.Prelude.{◌≡◌, ◌≢◌, ◌↔◌, ℕ, Bool, cond, ◌&&◌, ◌||◌, Option, Some, IsTrue}
use Rattle.std.specs.Ordering.{eq_by_cmp}
use Rattle.wjs_base.specs.declared.ids.WorldId.{WorldId}
use Rattle.wjs_base.specs.declared.ids.ObjId.{ObjId}
use Rattle.wjs_base.specs.declared.values.Slot.{Slot}
use Rattle.wjs_base.specs.declared.values.Value.{Value}
use Rattle.wjs_base.specs.Order.{slot_cmp}
use Rattle.wjs_store.specs.State.{is_below, same_world, has_world, parent_of, content_at, next_id, verdict_at, after_read, after_write, after_list, after_sprout, after_commit, answer_to, after, moved}
use Rattle.wjs_store.specs.Marked.{is_written}
use Rattle.wjs_store.specs.MarksMoved.{MarksMoved}
use Rattle.wjs_store.specs.Path.{Leads}
use Rattle.wjs_store.specs.Reached.{IsReached}
use Rattle.wjs_store.specs.Fixed.{fresh}
use Rattle.wjs_store.specs.Meaning.{Meaning, Worlds, PlainAct, PlainReply, Does, IsSound, worlds}

-- the worlds that a write reaches are those from which a path of parents leads up to its world, untouched at the slot
abbrev pub BelowIsByPath : Type 0
BelowIsByPath = (F : Worlds) → IsReached F → (w d : WorldId) (s : Slot) → IsTrue (is_below w s F d) ↔ Leads F w s d

-- the fresh state is reached, and each action keeps a reached state so
abbrev pub ReachedStays : Type 0
ReachedStays = IsReached fresh × ((F : Worlds) (a : PlainAct) → IsReached F → IsReached (after F a))

-- a commit that does not move changes nothing
abbrev pub RefusedChangesNothing : Type 0
RefusedChangesNothing = (F : Worlds) (w : WorldId) → verdict_at F w ≢ moved → after_commit F w ≡ F

-- reads and listings change no content
abbrev pub LooksKeepContents : Type 0
LooksKeepContents = (F : Worlds) (w i : WorldId) (t : Slot) → ((s : Slot) → content_at (after_read F w s) i t ≡ content_at F i t) × ((o : ObjId) → content_at (after_list F w o) i t ≡ content_at F i t)

-- a write sets its slot in its world and in the worlds below, and no other content
abbrev pub WritesSetContents : Type 0
WritesSetContents = (F : Worlds) (w : WorldId) (s : Slot) (c : Option Value) (i : WorldId) (t : Slot) → IsTrue (has_world F i) → content_at (after_write F w s c) i t ≡ cond ((same_world i w || is_below w s F i) && eq_by_cmp slot_cmp t s) c (content_at F i t)

-- a child has its parent's contents, and the other worlds keep theirs
abbrev pub SproutsCopyContents : Type 0
SproutsCopyContents = (F : Worlds) (w : WorldId) (owner : ℕ) (strict : Bool) (i : WorldId) (t : Slot) → IsTrue (has_world F w) → content_at (after_sprout F w owner strict) i t ≡ cond (same_world (next_id F owner) i) (content_at F w t) (content_at F i t)

-- a commit of w that moved, into its parent p: of a slot that is written in w, p and the worlds below p hold what w holds; every other content is what it was, w's own contents too
abbrev pub CommitsMoveContents : Type 0
CommitsMoveContents = (F : Worlds) (w p : WorldId) → verdict_at F w ≡ moved → parent_of F w ≡ Some p → (i : WorldId) (t : Slot) → (content_at (after_commit F w) i t ≡ cond (is_written F w t && (same_world i p || is_below p t F i)) (content_at F w t) (content_at F i t)) × (content_at (after_commit F w) w t ≡ content_at F w t)

-- the marks that such a commit leaves
abbrev pub CommitsMoveMarks : Type 0
CommitsMoveMarks = (F : Worlds) → IsReached F → (w p : WorldId) → verdict_at F w ≡ moved → parent_of F w ≡ Some p → MarksMoved F w p (after_commit F w)

-- what a store promises holds under its own view
abbrev pub OwnViewHolds : Type 0
OwnViewHolds = (old new : Meaning) (a : PlainAct) (answer : PlainReply) → IsSound new → Does old a answer new → (answer ≡ answer_to (worlds old) a) × (worlds new ≡ after (worlds old) a)
