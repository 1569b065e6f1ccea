-- What a commit that moved leaves of the marks.
use Rattle.std.specs.Prelude.{◌≡◌, Bool, false, not, cond, ◌&&◌, ◌||◌, Option, None, Some, is_some}
use Rattle.std.specs.Option.{option_map}
use Rattle.wjs_base.specs.declared.ids.ObjId.{ObjId}
use Rattle.wjs_base.specs.declared.ids.WorldId.{WorldId}
use Rattle.wjs_base.specs.declared.values.Slot.{Slot}
use Rattle.wjs_store.specs.Naming.{plain}
use Rattle.wjs_store.specs.State.{World, same_world, find_world, parent_of, content_at}
use Rattle.wjs_store.specs.Meaning.{Worlds, unseen}
use Rattle.wjs_store.specs.Marked.{recorded_at, is_written, is_listed, is_strict}

-- a slot that p has neither read nor written is recorded there by the commit of its child w: w read it, and p has not listed its object; or w wrote it, and p has listed its object or is strict
abbrev pub hands_read : Worlds → WorldId → WorldId → Slot → Bool
hands_read F w p s = (is_some (recorded_at F w s) && not (is_listed F p s.object)) || (is_written F w s && (is_listed F p s.object || is_strict F p))

-- a world's number, its parent, and whether it is strict
abbrev pub parts : World plain → WorldId × Option WorldId × Bool
parts x = (x.id, x.parent, x.strict)

-- the worlds G that a commit of w into its parent p leaves, where it moved
pub record MarksMoved (F : Worlds) (w p : WorldId) (G : Worlds) : Type 0 where
  -- w has no marks
  pub no_reads : (s : Slot) → recorded_at G w s ≡ None
  pub no_writes : (s : Slot) → is_written G w s ≡ false
  pub no_lists : (o : ObjId) → is_listed G w o ≡ false
  -- where p has a parent, it gets the written slots and the listed objects of w to its own
  pub writes : (s : Slot) → is_written G p s ≡ ((is_some (parent_of F p) && is_written F w s) || is_written F p s)
  pub lists : (o : ObjId) → is_listed G p o ≡ ((is_some (parent_of F p) && is_listed F w o) || is_listed F p o)
  -- and, at slots that it has neither read nor written, recorded reads of what it held before
  pub reads : (s : Slot) → recorded_at G p s ≡ cond (is_some (parent_of F p) && (not (is_some (recorded_at F p s) || is_written F p s) && hands_read F w p s)) (Some (content_at F p s)) (recorded_at F p s)
  -- which worlds there are, their parents and which are strict stays
  pub worlds : (i : WorldId) → option_map parts (find_world G i) ≡ option_map parts (find_world F i)
  -- every world but w and p is as it was, its contents left out
  pub others : (i : WorldId) → same_world i w ≡ false → same_world i p ≡ false → option_map unseen (find_world G i) ≡ option_map unseen (find_world F i)
