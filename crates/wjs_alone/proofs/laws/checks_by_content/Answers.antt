use Rattle.wjs_alone.proofs.NamedChecks.{checks_lem}
use Rattle.wjs_alone.proofs.laws.checks_by_content.Goals as goal

pub returns : goal.returns
returns c = checks_lem
