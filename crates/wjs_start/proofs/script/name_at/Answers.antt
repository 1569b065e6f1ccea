use Rattle.std.proofs.Common.{None, refl}
use Rattle.wjs_tree.specs.declared.node.Node.TheVariants as form
use Rattle.wjs_start.proofs.Declares.{name_is, name_found}
use Rattle.wjs_start.proofs.script.name_at.Goals as goal

pub returns-in-Some-clause-is : goal.returns-in-Some-clause-is
returns-in-Some-clause-is c = λ t. name_is t c.args.script.now c.args.id _ c.own_name.result c.in-Some.ensures (c.own_name.ensures.is t)

pub returns-in-Some-clause-found : goal.returns-in-Some-clause-found
returns-in-Some-clause-found c = λ t known. c.own_name.ensures.found t (name_found t c.args.script.now c.args.id _ c.in-Some.ensures known)

pub returns-in-None-clause-is : goal.returns-in-None-clause-is
returns-in-None-clause-is c = λ t. name_is t c.args.script.now c.args.id form.Empty None c.in-None.ensures refl
