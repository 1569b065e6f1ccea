use Rattle.std.proofs.Common.{sym, ◌∙◌}
use Rattle.wjs_start.proofs.Telling.{text_found, text_passed, differs}
use Rattle.wjs_start.proofs.objects.has_name.Goals as goal

pub returns-then-same_name : goal.returns-then-same_name
returns-then-same_name c = λ t tells known. sym (c.loop-other.invariant t tells known ∙ text_found t c.args.names.now c.args.name c.loop-other.other-index _ c.loop-other-test.true (c.same_name.ensures.yes c.if-same_name.true))

pub loop-other-preserved : goal.loop-other-preserved
loop-other-preserved c = λ t tells known. c.loop-other.invariant t tells known ∙ text_passed t c.args.names.now c.args.name c.loop-other.other-index _ c.loop-other-test.true tells known (λ e. differs c.same_name.result (c.same_name.ensures.no e) c.if-same_name.false)
