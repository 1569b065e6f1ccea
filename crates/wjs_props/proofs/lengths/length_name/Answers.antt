use Rattle.wjs_props.proofs.Putting.{length_is_name}
use Rattle.wjs_props.proofs.lengths.length_name.Goals as goal

pub returns-in-Some-clause-name : goal.returns-in-Some-clause-name
returns-in-Some-clause-name c = rw c.known.ensures.same (length_is_name c.args.texts.now c.in-Some.id c.in-Some.ensures.finds)

pub returns-clause-name : goal.returns-clause-name
returns-clause-name c = length_is_name c.intern.new.self c.in_ok-id.id c.in_ok-id.ensures.ok.denotes
