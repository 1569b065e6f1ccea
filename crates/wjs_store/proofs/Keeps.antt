-- Each action keeps what holds of a reached state.
use Rattle.std.proofs.Common.{cond, ◌∙◌, IsTrue}
use Rattle.wjs_base.specs.declared.ids.ObjId.{ObjId}
use Rattle.wjs_base.specs.declared.ids.WorldId.{WorldId}
use Rattle.wjs_store.specs.Naming.{Naming}
use Rattle.wjs_store.specs.State.{State, Act, read, write, list, sprout, commit, after, has_world, after_read, after_list, same_world, read_in, list_in}
use Rattle.wjs_store.proofs.Commits.{reached_commit}
use Rattle.wjs_store.proofs.Writes.{reached_write, reached_sprout, has_at, has_after_write, has_after_sprout, has_after_commit}
use Rattle.wjs_store.proofs.Marks.{reached_each, marks_at, marks_read, marks_list}
use Rattle.wjs_store.specs.Reached.{IsReached}

module _ {K V : Type 0} {n : Naming K V} where
  pub reached_read : (F : State n) (w : WorldId) (s : K) → IsReached F → IsReached (after_read F w s)
  unfolding after_read
  reached_read F w s h = reached_each (λ x. cond (same_world x.id w) (read_in s x) x) (marks_at w (read_in s) (marks_read s)) F h

  pub reached_list : (F : State n) (w : WorldId) (o : ObjId) → IsReached F → IsReached (after_list F w o)
  unfolding after_list
  reached_list F w o h = reached_each (λ x. cond (same_world x.id w) (list_in o x) x) (marks_at w (list_in o) (marks_list o)) F h

  pub reached_after : (F : State n) (a : Act K V) → IsReached F → IsReached (after F a)
  reached_after F (read w s) h = reached_read F w s h
  reached_after F (write w s c) h = reached_write F w s c h
  reached_after F (list w o) h = reached_list F w o h
  reached_after F (sprout w owner strict) h = reached_sprout F w owner strict h
  reached_after F (commit w) h = reached_commit F w h

  pub has_world_after : (F : State n) (a : Act K V) (i : WorldId) → IsTrue (has_world F i) → IsTrue (has_world (after F a) i)
  unfolding after_read after_list
  has_world_after F (read w s) i h = has_at w (read_in s) (λ x. (marks_read s x).id) F i ∙ h
  has_world_after F (write w s c) i h = has_after_write F w s c i ∙ h
  has_world_after F (list w o) i h = has_at w (list_in o) (λ x. (marks_list o x).id) F i ∙ h
  has_world_after F (sprout w owner strict) i h = has_after_sprout F w owner strict i h
  has_world_after F (commit w) i h = has_after_commit F w i h
