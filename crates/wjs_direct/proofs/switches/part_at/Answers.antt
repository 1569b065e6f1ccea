use Rattle.std.proofs.Common.{List, ap, ◌∙◌}
use Rattle.std.specs.Prelude.{slice_get}
use Rattle.wjs_tree.specs.declared.node.Clause.{Clause}
use Rattle.wjs_step_common.specs.Lists.{statements_of_clauses}
use Rattle.wjs_direct.proofs.switches.part_at.Goals as goal

pub returns : goal.returns
returns g c = c.statement_at.ensures ∙ ap (λ (cs : List Clause). slice_get (statements_of_clauses cs) c.args.at) c.clauses_at.ensures
