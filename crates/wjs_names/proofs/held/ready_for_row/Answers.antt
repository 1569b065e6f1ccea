use Rattle.wjs_names.proofs.Starting.{open_same, open_more}
use Rattle.wjs_names.proofs.held.ready_for_row.Goals as goal
use Rattle.std.proofs.lemmas.Result.{on_ok_weaker}

pub returns-then-follows_row-clause-ok : goal.returns-then-follows_row-clause-ok
returns-then-follows_row-clause-ok g c = open_same c.args.list.now c.args.starts.now.entries c.requires c.args.place (c.follows_row.ensures c.if-follows_row.true)

pub returns-clause-ok : goal.returns-clause-ok
returns-clause-ok g c = on_ok_weaker c.start.result (λ e. open_more c.args.list.now c.args.starts.now.entries c.requires c.args.place c.start.new.starts.entries e) c.start.ensures.ok
