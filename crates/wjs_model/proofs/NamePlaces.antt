-- The places of a unit's tree are those that are kept.
use Rattle.std.proofs.Common.{◌≡◌, ℕ, zero, suc, ◌+◌, ◌<◌, List, [], ◌∷◌, ap, ◌∙◌, length, arith}
use Rattle.std.specs.Prelude.{slice_get, unwrap_or}
use Rattle.wjs_base.specs.declared.ids.TextId.{TextId}
use Rattle.wjs_base.specs.Text.{Table}
use Rattle.wjs_base.specs.declared.ids.NodeId.{NodeId}
use Rattle.wjs_tree.specs.declared.node.Node.{Node}
use Rattle.wjs_tree.specs.declared.node.Node.TheVariants as form
use Rattle.wjs_scope.specs.Places.{placed_names}
use Rattle.wjs_meaning.specs.Trees.{Place, name_place}
use Rattle.wjs_model.specs.declared.loaded.LoadedProgram.{LoadedProgram as Program}
use Rattle.wjs_model.specs.Units.{node_of, var_place_of, place_in, places_from, rows_from, unit_in}

module _ (u : Program) where
  abbrev kept : ℕ → ℕ → Place
  kept k at = place_in (var_place_of u k at)

  -- of a node's names
  in_names : (k at i : ℕ) (names : List TextId) → i < length names → unwrap_or (slice_get (places_from u k at names) i) Place.Global ≡ kept k (at + i)
  in_names k at i [] lt = absurd (omega arith)
  in_names k at zero (x ∷ names) lt = let e : at ≡ at + 0 = omega arith in ap (kept k) e
  in_names k at (suc i) (x ∷ names) lt = let e : suc at + i ≡ at + suc i = omega arith in in_names k (suc at) i names (omega arith) ∙ ap (kept k) e

  -- of the names of all nodes
  in_rows : (k j i : ℕ) (nodes : List Node) → i < length (placed_names (unwrap_or (slice_get nodes j) form.Empty)) → unwrap_or (slice_get (unwrap_or (slice_get (rows_from u k nodes) j) []) i) Place.Global ≡ kept (k + j) i
  in_rows k j i [] lt = absurd (omega arith)
  in_rows k zero i (node ∷ nodes) lt =
      let e : k ≡ k + 0 = omega arith in
      let z : 0 + i ≡ i = omega arith in
      in_names k 0 i (placed_names node) lt ∙ ap (kept k) z ∙ ap (λ (m : ℕ). kept m i) e
  in_rows k (suc j) i (node ∷ nodes) lt = let e : suc k + j ≡ k + suc j = omega arith in in_rows (suc k) j i nodes lt ∙ ap (λ (m : ℕ). kept m i) e

-- a node's name is found where its place is kept
pub name_placed : (t : Table) (u : Program) (id : NodeId) (i : ℕ) → i < length (placed_names (node_of u id)) → name_place (unit_in t u) id.0 i ≡ place_in (var_place_of u id.0 i)
name_placed t u id i lt = let e : 0 + id.0 ≡ id.0 = omega arith in in_rows u 0 id.0 i u.program.nodes lt ∙ ap (λ (m : ℕ). kept u m i) e
