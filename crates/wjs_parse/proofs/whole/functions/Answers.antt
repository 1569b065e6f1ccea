use Rattle.wjs_tree.proofs.Kept.{keeps_self}
use Rattle.wjs_parse.proofs.Table.{holds_last, behind_none}
use Rattle.wjs_parse.proofs.whole.functions.Goals as goal

pub loop-place-init : goal.loop-place-init
loop-place-init c = (keeps_self _, holds_last c.args.toks.now c.new-found.result c.args.nodes.now c.new-found.ensures, behind_none c.new-found.result _ c.new-found.ensures)
