use Rattle.wjs_props.proofs.NameSets.{names_further}
use Rattle.wjs_props.proofs.seen.add_names.Goals as goal

pub names-preserved : goal.names-preserved
names-preserved c = names_further c.args.set.now c.names.set c.put.new.set c.args.names.now c.names.place c.at.result c.at.ensures c.names.invariant c.in_ok-put.ensures
