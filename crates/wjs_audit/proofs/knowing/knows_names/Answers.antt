use Rattle.std.proofs.Common.{refl, subst, arith, All}
use Rattle.std.proofs.lemmas.List.{take_all}
use Rattle.wjs_base.specs.Text.{Has}
use Rattle.wjs_audit.specs.Logs.{KnowsName}
use Rattle.wjs_audit.proofs.Pushes.{All-next}
use Rattle.wjs_audit.proofs.knowing.knows_names.Goals as goal

pub loop-place-preserved : goal.loop-place-preserved
loop-place-preserved c = All-next (KnowsName (Has c.args.texts.now)) c.args.names.now c.loop-place.place c.at.result c.at.ensures c.loop-place.invariant (c.knows_name.ensures.0 c.if-not-knows_name.false)

pub returns : goal.returns
returns c = (
  λ t. subst (All (KnowsName (Has c.args.texts.now))) (take_all c.loop-place.place c.args.names.now (omega (arith, c.loop-place-test.false, c.len-place-end.ensures))) c.loop-place.invariant,
  λ h. refl,
)
