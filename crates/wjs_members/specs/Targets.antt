-- Which forms are targets (ECMA-262, 3rd edition, section 8.7).
use Rattle.wjs_tree.specs.declared.node.Node.{Node}
use Rattle.wjs_tree.specs.declared.node.Node.TheVariants as nodes
use Rattle.wjs_members.specs.declared.targets.TargetForm.{TargetForm}
use Rattle.wjs_members.specs.declared.targets.TargetForm.TheVariants as forms

abbrev pub target_form : Node → TargetForm
target_form (nodes.Name id) = forms.Target
target_form (nodes.Dot e name) = forms.Target
target_form (nodes.At e i) = forms.Target
target_form (nodes.Paren e) = forms.Inside e
target_form _ = forms.Other
