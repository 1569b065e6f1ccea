-- The walk over the Labels behind a statement.
use Rattle.std.proofs.Common.{◌≡◌, ℕ, suc, Bool, true, false, List, [], ◌∷◌, Option, None, Some, refl, sym, ap, ◌∙◌, subst, length, ◌<◌, ◌≤◌, ◌+◌, drop, arith}
use Rattle.std.specs.Prelude.{map as each, slice_get, unwrap_or}
use Rattle.std.proofs.lemmas.List.Elements.{All-get_or}
use Rattle.std.proofs.lemmas.Option.{slice_get_past, unwrap_or-slice_get}
use Rattle.wjs_base.specs.declared.ids.TextId.{TextId}
use Rattle.wjs_base.specs.Text.{Table, Has}
use Rattle.wjs_tree.specs.declared.node.Node.{Node as NumberedNode}
use Rattle.wjs_tree.specs.declared.node.Node.TheVariants as form
use Rattle.wjs_by_content.specs.Values.{Text, same_text}
use Rattle.wjs_by_content.specs.Tables.{text_in}
use Rattle.wjs_meaning.specs.Reading.{node_in}
use Rattle.wjs_meaning.specs.Trees.{Node, first_labels, labels, has_text}
use Rattle.wjs_model.specs.declared.loaded.LoadedProgram.{LoadedProgram as Program}
use Rattle.wjs_model.specs.Texts.{KnowsNode, KnowsUnit}
use Rattle.wjs_model.specs.Units.{node_of, unit_in}
use Rattle.wjs_loops.specs.Labels.{label_of}
use Rattle.wjs_step_common.proofs.Parts.{each_at, each_past}

-- the label is there
label_there : (t : Table) (n : NumberedNode) (found : TextId) → label_of n ≡ Some found → KnowsNode t n → Has t found
label_there t (form.Label name s) found e h = let q : name ≡ found = cc in subst (Has t) q h
label_there t _ found e h = absurd (cc)

module _ (t : Table) where
  label_first : (n : NumberedNode) (ms : List Node) (name : TextId) → label_of n ≡ Some name → first_labels (node_in t n ∷ ms) ≡ text_in t name ∷ first_labels ms
  label_first (form.Label x s) ms name e = let q : x ≡ name = cc in ap (λ (y : TextId). text_in t y ∷ first_labels ms) q
  label_first _ ms name e = absurd (cc)

  other_first : (n : NumberedNode) (ms : List Node) → label_of n ≡ None → first_labels (node_in t n ∷ ms) ≡ []
  other_first (form.Label x s) ms e = absurd (cc)
  other_first _ ms e = refl

module _ (t : Table) (u : Program) (at : ℕ) where
  abbrev ns : List NumberedNode
  ns = u.program.nodes

  -- the labels of a statement
  abbrev of : ℕ → List Text
  of s = labels (unit_in t u) s

  one_more : suc at ≡ at + 1
  one_more = omega arith

  more : (o : Option NumberedNode) (name : TextId) → slice_get ns (suc at) ≡ o → label_of (unwrap_or o form.Empty) ≡ Some name → of at ≡ text_in t name ∷ of (suc at)
  more None name e l = absurd (cc)
  more (Some n) name e l = ap first_labels (each_at (node_in t) ns (suc at) n e) ∙ label_first t n (drop (suc (suc at)) (each (node_in t) ns)) name l

  none : (o : Option NumberedNode) → slice_get ns (suc at) ≡ o → label_of (unwrap_or o form.Empty) ≡ None → of at ≡ []
  none None e l = ap first_labels (each_past (node_in t) ns (suc at) e)
  none (Some n) e l = ap first_labels (each_at (node_in t) ns (suc at) n e) ∙ other_first t n (drop (suc (suc at)) (each (node_in t) ns)) l

  -- the label of the node behind
  abbrev behind : ℕ → Option TextId
  behind i = label_of (node_of u (record { 0 = i }))

  pub behind_there : (name : TextId) → at + 1 < length ns → behind (at + 1) ≡ Some name → KnowsUnit t u → Has t name
  behind_there name lt e known = label_there t (node_of u (record { 0 = at + 1 })) name e (subst (KnowsNode t) (sym (unwrap_or-slice_get ns (at + 1) form.Empty)) (All-get_or (KnowsNode t) ns (at + 1) form.Empty lt known))

  abbrev has_or : Bool → List Text → Text → Bool
  has_or b rest label = elim b [ true ↦ true | false ↦ has_text rest label ]

  one_first : (name : TextId) (label : Text) → behind (at + 1) ≡ Some name → has_text (of at) label ≡ has_or (same_text (text_in t name) label) (of (at + 1)) label
  one_first name label e =
      ap (λ (l : List Text). has_text l label) (more (slice_get ns (suc at)) name refl (ap behind one_more ∙ e))
      ∙ ap (λ (i : ℕ). has_or (same_text (text_in t name) label) (of i) label) one_more

  pub walk_passes : (name : TextId) (label : Text) → behind (at + 1) ≡ Some name → same_text (text_in t name) label ≡ false → has_text (of (at + 1)) label ≡ has_text (of at) label
  walk_passes name label e s = sym (one_first name label e ∙ ap (λ (b : Bool). has_or b (of (at + 1)) label) s)

  pub walk_meets : (name : TextId) (label : Text) → behind (at + 1) ≡ Some name → same_text (text_in t name) label ≡ true → has_text (of at) label ≡ true
  walk_meets name label e s = one_first name label e ∙ ap (λ (b : Bool). has_or b (of (at + 1)) label) s

  -- no Label stands behind
  pub walk_ends : (label : Text) → behind (at + 1) ≡ None → has_text (of at) label ≡ false
  walk_ends label e = ap (λ (l : List Text). has_text l label) (none (slice_get ns (suc at)) refl (ap behind one_more ∙ e))

  -- no node does
  pub walk_past : (label : Text) → length ns ≤ at + 1 → has_text (of at) label ≡ false
  walk_past label past = ap (λ (l : List Text). has_text l label) (ap first_labels (each_past (node_in t) ns (suc at) (slice_get_past ns (suc at) (omega arith))))
