use Rattle.std.proofs.Common.{◌≡◌, List, Some, subst}
use Rattle.std.specs.Prelude.{IfSome, slice_get}
use Rattle.std.specs.Option.{option_and_then}
use Rattle.wjs_tree.specs.declared.node.Clause.{Clause}
use Rattle.wjs_frames.specs.Parts.{node_among}
use Rattle.wjs_blocks.specs.declared.clauses.Case.{Case}
use Rattle.wjs_blocks.proofs.Switching.{cases_same}
use Rattle.wjs_direct.proofs.switches.case_at.Goals as goal

pub returns-clause-goes : goal.returns-clause-goes
returns-clause-goes g c = λ t v env.
    cases_same t (node_among c.args.config.now.units.items c.args.frame.now.tree c.args.node) env c.clauses_at.result.now v c.args.from c.case_from.result c.clauses_at.ensures (c.case_from.ensures.goes t v env)

pub returns-clause-is : goal.returns-clause-is
returns-clause-is g c =
    let P : List Clause → Type 0 = λ cs. IfSome c.case_from.result (λ (x : Case). option_and_then (λ (y : Clause). y.test) (slice_get cs x.at) ≡ Some x.test) in
    subst P c.clauses_at.ensures c.case_from.ensures.is

pub returns-clause-past : goal.returns-clause-past
returns-clause-past g c = c.case_from.ensures.past
