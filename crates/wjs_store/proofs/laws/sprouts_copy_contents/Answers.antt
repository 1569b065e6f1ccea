use Rattle.wjs_store.proofs.Contents.{content_after_sprout}
use Rattle.wjs_store.proofs.laws.sprouts_copy_contents.Goals as goal

pub returns : goal.returns
returns c = λ F w owner strict i t h. content_after_sprout F w owner strict i t h
