use Rattle.std.proofs.Common.{◌≡◌, sym, subst}
use Rattle.wjs_scope.specs.declared.declarations.Declarations.{Declarations}
use Rattle.wjs_scope.specs.Bodies.{node_at, others_in}
use Rattle.wjs_model.specs.Bodies.{IsMeant}
use Rattle.wjs_model.proofs.OtherVariables.{others_meant, others_found}
use Rattle.wjs_model.proofs.Naming.{formals_meant, functions_meant, variables_meant, formals_found, variables_found}
use Rattle.wjs_model.proofs.loaded.LoadedProgram.declared.Goals as goal

pub returns-clause-formals : goal.returns-clause-formals
returns-clause-formals c = λ t.
    let u = c.args.self.now in
    let k = c.args.body.0 in
    let d = c.in_ok-declared.declared in
    formals_meant t u k d (subst (IsMeant u.program.nodes k) (sym c.in_ok-declared.ensures) (u.bodies_are_meant k))

pub returns-clause-functions : goal.returns-clause-functions
returns-clause-functions c = λ t.
    let u = c.args.self.now in
    let k = c.args.body.0 in
    let d = c.in_ok-declared.declared in
    functions_meant t u k d (subst (IsMeant u.program.nodes k) (sym c.in_ok-declared.ensures) (u.bodies_are_meant k))

pub returns-clause-numbered : goal.returns-clause-numbered
returns-clause-numbered c =
    let u = c.args.self.now in
    let k = c.args.body.0 in
    (subst (IsMeant u.program.nodes k) (sym c.in_ok-declared.ensures) (u.bodies_are_meant k)).functions

pub returns-clause-variables : goal.returns-clause-variables
returns-clause-variables c = λ t.
    let u = c.args.self.now in
    let k = c.args.body.0 in
    let d = c.in_ok-declared.declared in
    variables_meant t u k d (subst (IsMeant u.program.nodes k) (sym c.in_ok-declared.ensures) (u.bodies_are_meant k))

pub returns-clause-formals_found : goal.returns-clause-formals_found
returns-clause-formals_found c = λ t.
    let u = c.args.self.now in
    let k = c.args.body.0 in
    let d = c.in_ok-declared.declared in
    formals_found t u k d (subst (IsMeant u.program.nodes k) (sym c.in_ok-declared.ensures) (u.bodies_are_meant k))

pub returns-clause-variables_found : goal.returns-clause-variables_found
returns-clause-variables_found c = λ t.
    let u = c.args.self.now in
    let k = c.args.body.0 in
    let d = c.in_ok-declared.declared in
    variables_found t u k d (subst (IsMeant u.program.nodes k) (sym c.in_ok-declared.ensures) (u.bodies_are_meant k))

pub returns-clause-others : goal.returns-clause-others
returns-clause-others c = λ t table known placed.
    let u = c.args.self.now in
    let k = c.args.body.0 in
    let d = c.in_ok-declared.declared in
    let others = subst (λ (x : Declarations). x.others ≡ others_in u.program.nodes placed.arguments (node_at u.program.nodes k) x.variables) (sym c.in_ok-declared.ensures) (placed.others k) in
    others_meant t u k d (subst (IsMeant u.program.nodes k) (sym c.in_ok-declared.ensures) (u.bodies_are_meant k)) placed.arguments others known table placed.found

pub returns-clause-others_found : goal.returns-clause-others_found
returns-clause-others_found c = λ t known placed.
    let u = c.args.self.now in
    let k = c.args.body.0 in
    let d = c.in_ok-declared.declared in
    let others = subst (λ (x : Declarations). x.others ≡ others_in u.program.nodes placed.arguments (node_at u.program.nodes k) x.variables) (sym c.in_ok-declared.ensures) (placed.others k) in
    others_found t u k d (subst (IsMeant u.program.nodes k) (sym c.in_ok-declared.ensures) (u.bodies_are_meant k)) placed.arguments others known
