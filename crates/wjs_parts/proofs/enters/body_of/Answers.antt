use Rattle.wjs_parts.proofs.Entry.{body_at}
use Rattle.wjs_parts.proofs.enters.body_of.Goals as goal

pub returns : goal.returns
returns g c = λ u at. body_at c.args.config.now.units.items c.args.part u c.index.result.now at c.index.ensures
