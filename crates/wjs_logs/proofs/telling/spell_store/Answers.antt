use Rattle.std.proofs.Common.{sym, subst, List}
use Rattle.wjs_audit.specs.declared.deed.Entry.{Entry}
use Rattle.wjs_audit.specs.Logs.{KnowsLog}
use Rattle.wjs_logs.proofs.Knowing.{log_there, tells_if}
use Rattle.wjs_logs.proofs.telling.spell_store.Goals as goal

pub spell_log-requires : goal.spell_log-requires
spell_log-requires g c = subst (λ (es : List Entry). KnowsLog c.args.texts.now es) (sym c.entries.ensures.log) (log_there c.args.texts.now c.args.store.now.log c.requires.known)

pub returns : goal.returns
returns g c = tells_if c.args.texts.now c.args.store.now.log c.entries.result.now c.spell_log.result c.entries.ensures.log (c.entries.ensures.right c.requires.works) c.requires.known c.spell_log.ensures.spells
