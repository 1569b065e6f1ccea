-- Which nodes of the tree at hand are targets (ECMA-262, 3rd edition, section 8.7).
use Rattle.std.proofs.Common.{◌≡◌, ℕ, suc, Bool, true, false, refl, sym, ap, ◌∙◌}
use Rattle.wjs_base.specs.Text.{Table}
use Rattle.wjs_base.specs.declared.ids.NodeId.{NodeId}
use Rattle.wjs_tree.specs.declared.node.Node.{Node}
use Rattle.wjs_tree.specs.declared.node.Node.TheVariants as nodes
use Rattle.wjs_store.specs.Meaning.{Meaning}
use Rattle.wjs_meaning.specs.Deeds.{tree_here}
use Rattle.wjs_meaning.specs.Reading.{node_in}
use Rattle.wjs_meaning.specs.Trees.{is_target_form, is_target_to}
use Rattle.wjs_model.specs.declared.config.Config.{Config}
use Rattle.wjs_model.specs.declared.frame.Activation.{Activation as Frame}
use Rattle.wjs_frames.specs.Parts.{env_in, node_among}
use Rattle.wjs_frames.proofs.Places.{node_same}
use Rattle.wjs_members.specs.declared.targets.TargetForm.{TargetForm}
use Rattle.wjs_members.specs.declared.targets.TargetForm.TheVariants as forms
use Rattle.wjs_members.specs.Targets.{target_form}

-- whether a form is a target, by what is so of its part
abbrev pub by_form : TargetForm → (ℕ → Bool) → Bool
by_form forms.Target inner = true
by_form (forms.Inside e) inner = inner e.0
by_form forms.Other inner = false

form_is : (t : Table) (n : Node) (inner : ℕ → Bool) → is_target_form (node_in t n) inner ≡ by_form (target_form n) inner
form_is t (nodes.Name id) inner = refl
form_is t (nodes.Dot e name) inner = refl
form_is t (nodes.At e i) inner = refl
form_is t (nodes.Paren e) inner = refl
form_is t _ inner = refl

module _ {S : Type 0} (meaning : S → Meaning) (c : Config S) (f : Frame) where
  -- with one Paren more
  target_is : (t : Table) (depth : ℕ) (id : NodeId) → is_target_to (suc depth) (tree_here (env_in meaning c t f)) id.0 ≡ by_form (target_form (node_among c.units.items f.tree id)) (λ e. is_target_to depth (tree_here (env_in meaning c t f)) e)
  target_is t depth id = ap (λ n. is_target_form n (λ e. is_target_to depth (tree_here (env_in meaning c t f)) e)) (node_same t c.units.items f.tree id) ∙ form_is t (node_among c.units.items f.tree id) (λ e. is_target_to depth (tree_here (env_in meaning c t f)) e)

  pub target_by : (t : Table) (depth : ℕ) (id : NodeId) (kind : TargetForm) → kind ≡ target_form (node_among c.units.items f.tree id) → is_target_to (suc depth) (tree_here (env_in meaning c t f)) id.0 ≡ by_form kind (λ e. is_target_to depth (tree_here (env_in meaning c t f)) e)
  target_by t depth id kind e = target_is t depth id ∙ ap (λ k. by_form k (λ e. is_target_to depth (tree_here (env_in meaning c t f)) e)) (sym e)
