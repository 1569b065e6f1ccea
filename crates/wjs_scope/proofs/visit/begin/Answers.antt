use Rattle.std.proofs.Common.{sym, subst, List, IfOk}
use Rattle.std.proofs.lemmas.Result.{IfOk-weaker}
use Rattle.wjs_base.specs.declared.ids.TextId.{TextId}
use Rattle.wjs_base.specs.declared.ids.NodeId.{NodeId}
use Rattle.wjs_tree.specs.declared.node.Node.{Node}
use Rattle.wjs_scope.specs.Nesting.{plain_parts}
use Rattle.wjs_scope.specs.Visits.{Begins}
use Rattle.wjs_scope.proofs.Visiting.{function_begins, declaration_begins, nothing_begins, all_around, NamesBody}
use Rattle.wjs_scope.proofs.visit.begin.Goals as goal

pub returns-in_ok-around-in-Function : goal.returns-in_ok-around-in-Function
returns-in_ok-around-in-Function c =
    let ns = c.args.nodes.now in
    let names = c.in_ok-names-in-Function.names in
    let at_slices : NamesBody ns c.args.arguments c.as_slice.result.now c.as_slice-in-Function.result.now names = c.in_ok-names-in-Function.ensures in
    let at_formals = subst (λ (z : List TextId). NamesBody ns c.args.arguments z c.as_slice-in-Function.result.now names) c.as_slice.ensures at_slices in
    let named = subst (λ (z : List NodeId). NamesBody ns c.args.arguments c.in-Function.formals z names) c.as_slice-in-Function.ensures at_formals in
    subst (λ (n : Node). IfOk c.open.result (λ inner. Begins ns c.args.arguments n c.args.at inner c.args.levels.now.items c.open.new.levels.items)) (sym c.in-Function.is)
    (IfOk-weaker c.open.result _ _
    (λ inner o. function_begins ns c.args.arguments c.in-Function.name c.in-Function.formals c.in-Function.elements c.args.at c.in_ok-around-in-Function.around inner c.args.levels.now.items c.open_own.new.levels.items c.open.new.levels.items names named c.in_ok-around-in-Function.ensures o)
    c.open.ensures)

pub returns-in_ok-names-in-FunctionDecl : goal.returns-in_ok-names-in-FunctionDecl
returns-in_ok-names-in-FunctionDecl c =
    let ns = c.args.nodes.now in
    let names = c.in_ok-names-in-FunctionDecl.names in
    let at_slices : NamesBody ns c.args.arguments c.as_slice-in-FunctionDecl.result.now c.as_slice-in-FunctionDecl-2.result.now names = c.in_ok-names-in-FunctionDecl.ensures in
    let at_formals = subst (λ (z : List TextId). NamesBody ns c.args.arguments z c.as_slice-in-FunctionDecl-2.result.now names) c.as_slice-in-FunctionDecl.ensures at_slices in
    let named = subst (λ (z : List NodeId). NamesBody ns c.args.arguments c.in-FunctionDecl.formals z names) c.as_slice-in-FunctionDecl-2.ensures at_formals in
    subst (λ (n : Node). IfOk c.open-in-FunctionDecl.result (λ inner. Begins ns c.args.arguments n c.args.at inner c.args.levels.now.items c.open-in-FunctionDecl.new.levels.items)) (sym c.in-FunctionDecl.is)
    (IfOk-weaker c.open-in-FunctionDecl.result _ _
    (λ inner o. declaration_begins ns c.args.arguments c.in-FunctionDecl.field-0 c.in-FunctionDecl.formals c.in-FunctionDecl.elements c.args.at inner c.args.levels.now.items c.open-in-FunctionDecl.new.levels.items names named o)
    c.open-in-FunctionDecl.ensures)

pub returns-in_default : goal.returns-in_default
returns-in_default c =
    let n = c.args.node.now in
    nothing_begins c.args.nodes.now c.args.arguments n c.args.at c.args.at c.args.levels.now.items c.args.levels.now.items (plain_parts n) (all_around n c.in_default.not-Function c.in_default.not-Try c.in_default.not-FunctionDecl) (λ k s h. h)
