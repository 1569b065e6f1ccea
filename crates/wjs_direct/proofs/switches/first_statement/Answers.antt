use Rattle.std.proofs.Common.{◌≡◌, ℕ, List, ap, drop, subst, sym}
use Rattle.wjs_tree.specs.declared.node.Clause.{Clause}
use Rattle.wjs_meaning.specs.Statements.{switch_from}
use Rattle.wjs_frames.specs.Parts.{node_among}
use Rattle.wjs_step_common.specs.Lists.{statements_of_clauses}
use Rattle.wjs_blocks.proofs.Switching.{statements_behind}
use Rattle.wjs_direct.proofs.switches.first_statement.Goals as goal

pub returns : goal.returns
returns g c = λ t env.
    let n = node_among c.args.config.now.units.items c.args.frame.now.tree c.args.node in
    let P : List Clause → Type 0 = λ cs. drop c.in_ok-at.at (statements_of_clauses cs) ≡ statements_of_clauses (drop c.args.clause cs) in
    sym (ap (λ (l : List ℕ). switch_from l env) (statements_behind t n c.args.clause c.in_ok-at.at (subst P c.clauses_at.ensures c.in_ok-at.ensures)))
