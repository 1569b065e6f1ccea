use Rattle.wjs_store.proofs.Contents.{content_after_write}
use Rattle.wjs_store.proofs.laws.writes_set_contents.Goals as goal

pub returns : goal.returns
returns c = λ F w s c i t h. content_after_write F w s c i t h
