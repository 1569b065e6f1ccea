use Rattle.std.proofs.Common.{◌∙◌}
use Rattle.indexmap.proofs.CallerLemmas.{insert_entry-new}
use Rattle.wjs_texts.specs.Keys.{same_key}
use Rattle.wjs_texts.proofs.texts.add.Goals as goal

pub returns-clause-ok : goal.returns-clause-ok
returns-clause-ok c = c.in_ok-insert.ensures.entries ∙ insert_entry-new same_key c.args.spans.now c.args.key c.args.span c.requires
