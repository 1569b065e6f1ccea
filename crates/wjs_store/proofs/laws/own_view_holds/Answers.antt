use Rattle.wjs_store.proofs.Contents.{own_view}
use Rattle.wjs_store.proofs.laws.own_view_holds.Goals as goal

pub returns : goal.returns
returns c = own_view
