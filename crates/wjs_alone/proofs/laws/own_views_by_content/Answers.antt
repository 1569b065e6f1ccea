use Rattle.wjs_alone.proofs.NamedViews.{views_lem}
use Rattle.wjs_alone.proofs.laws.own_views_by_content.Goals as goal

pub returns : goal.returns
returns c = views_lem
