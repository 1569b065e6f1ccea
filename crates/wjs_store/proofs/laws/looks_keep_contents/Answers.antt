use Rattle.wjs_store.proofs.Contents.{content_after_read, content_after_list}
use Rattle.wjs_store.proofs.laws.looks_keep_contents.Goals as goal

pub returns : goal.returns
returns c = λ F w i t. (λ s. content_after_read F w s i t, λ o. content_after_list F w o i t)
