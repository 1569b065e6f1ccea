use Rattle.wjs_store.proofs.Moved.{content_after_commit, content_after_commit_own}
use Rattle.wjs_store.proofs.laws.commits_move_contents.Goals as goal

pub returns : goal.returns
returns c = λ F w p h up i t. (content_after_commit F w h p up i t, content_after_commit_own F w h p up t)
