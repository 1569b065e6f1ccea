use Rattle.std.proofs.Common.{◌∙◌, ap, sym, List}
use Rattle.wjs_base.specs.declared.ids.NodeId.{NodeId}
use Rattle.wjs_tree.specs.declared.node.Node.{Node}
use Rattle.wjs_scope.specs.Nesting.{parts, plain_parts}
use Rattle.wjs_scope.specs.Marks.{marked, marked_parts}
use Rattle.wjs_scope.proofs.Visiting.{around_marked, inside_marked, all_around}
use Rattle.wjs_scope.proofs.visit.mark_all.Goals as goal

pub returns-in-Function : goal.returns-in-Function
returns-in-Function c =
    c.mark_list.ensures ∙ ap (λ (z : List NodeId). marked c.args.marks.now c.args.inner z) c.as_slice.ensures ∙ inside_marked c.args.marks.now c.args.at c.args.inner c.in-Function.elements ∙ ap (λ (z : Node). marked_parts c.args.marks.now c.args.at c.args.inner (parts z)) (sym c.in-Function.is)

pub returns-in-FunctionDecl : goal.returns-in-FunctionDecl
returns-in-FunctionDecl c =
    c.mark_list-in-FunctionDecl.ensures ∙ ap (λ (z : List NodeId). marked c.args.marks.now c.args.inner z) c.as_slice-in-FunctionDecl.ensures ∙ inside_marked c.args.marks.now c.args.at c.args.inner c.in-FunctionDecl.elements ∙ ap (λ (z : Node). marked_parts c.args.marks.now c.args.at c.args.inner (parts z)) (sym c.in-FunctionDecl.is)

pub returns-in_default : goal.returns-in_default
returns-in_default c =
    c.mark_parts.ensures ∙ around_marked c.args.marks.now c.args.at c.args.inner (plain_parts c.args.node.now)
    ∙ ap (marked_parts c.args.marks.now c.args.at c.args.inner) (sym (all_around c.args.node.now c.in_default.not-Function c.in_default.not-Try c.in_default.not-FunctionDecl))
