-- Each node of a numbered program stands in its tree, so that each body has its elements.
use Rattle.std.specs.Prelude.{◌≡◌, ℕ, zero, suc, ◌<◌, List, [], ◌∷◌, ◌++◌, length, Option, None, Some}
use Rattle.std.proofs.Common.{refl, sym, subst, inl, inr, arith}
use Rattle.std.proofs.lemmas.Bool.{cases_eq}
use Rattle.std.proofs.lemmas.Option.{slice_get_within}
use Rattle.wjs_base.specs.declared.ids.TextId.{TextId}
use Rattle.wjs_base.specs.declared.ids.NodeId.{NodeId}
use Rattle.wjs_tree.specs.declared.node.Node.{Node}
use Rattle.wjs_tree.specs.declared.node.Node.TheVariants as nodes
use Rattle.wjs_tree.specs.Trees.{Elements}
use Rattle.wjs_tree.specs.Shows.{Has, ElementsShow}
use Rattle.wjs_scope.specs.Nesting.{Side, Around, Caught, Inside, parts, IsAmong, LeadsTo, StandsIn}
use Rattle.wjs_scope.proofs.Bodies.{bodies_are_there}
use Rattle.wjs_order.specs.Order.{falling, IsNumbered}
use Rattle.wjs_programs.specs.Numbered.{Scopes, Entry, within}
use Rattle.wjs_programs.specs.Laws.{AllBodiesStand}
use Rattle.wjs_programs.proofs.Parts.{AreEntries}
use Rattle.wjs_programs.proofs.Steps.{AllAmong, all_among, Steps}
use Rattle.wjs_programs.proofs.Whole.{listed}

-- a way, and one part more
way_on : (ns : List Node) (way : List (NodeId × Side)) (i j : NodeId) (n : Node) (p : NodeId × Side) → LeadsTo ns i way j → Has ns j n → IsAmong (parts n) p → LeadsTo ns i (way ++ p ∷ []) p.0
way_on ns [] i j n p h has among = (n, subst (λ (z : NodeId). Has ns z n) h has, among, refl)
way_on ns (q ∷ way) i j n p h has among = (h.0, h.1, h.2, way_on ns way q.0 j n p h.3 has among)

-- the entry of a number among those that fall
entry_at : (HasOne : ℕ → Entry → Type 0) (n : ℕ) (l : List Entry) → AreEntries HasOne (falling n) l → (k : ℕ) → k < n → (e : Entry) × HasOne k e
entry_at HasOne zero l h k lt = absurd (omega arith)
entry_at HasOne (suc n) [] h k lt = absurd h
entry_at HasOne (suc n) (e ∷ l) h k lt = elim (cases_eq k n) [
  | inl same ↦ (e, subst (λ (z : ℕ). HasOne z e) (sym same) h.0)
  | inr other ↦ entry_at HasOne n l h.1 k (omega arith)
]

module _ (ns : List Node) (tree : Elements) (body : NodeId) (numbered : IsNumbered ns tree body) where
  abbrev Among : NodeId → Scopes → Type 0
  Among i around = StandsIn ns body i

  abbrev HasOne : ℕ → Entry → Type 0
  HasOne k e = StandsIn ns body (record { 0 = k })

  part_stands : (i : NodeId) (n : Node) (p : NodeId × Side) → StandsIn ns body i → Has ns i n → IsAmong (parts n) p → StandsIn ns body p.0
  part_stands i n p s has among = (s.0 ++ p ∷ [], way_on ns s.0 body i n p s.1 has among)

  steps : Steps [] ns HasOne Among
  steps = record {
    entry = λ i around n has a. a;
    part = λ i j around n has a among. part_stands i n (j, Around) a has among;
    caught = λ i b handler last around has a. part_stands i (nodes.Try b (Some handler) last) (handler.block, Caught handler.name) a has (inr (inl refl));
    inside = λ i name formals list es us around has a shows. all_among Among Inside (within [] name formals es around) list (λ j b. part_stands i (nodes.Function name formals list) (j, Inside) a has b);
    declared = λ i x formals list es us around has a shows. all_among Among Inside (within [] None formals es around) list (λ j b. part_stands i (nodes.FunctionDecl x formals list) (j, Inside) a has b);
  }

  stands : (i : NodeId) → i.0 < length ns → StandsIn ns body i
  stands i lt = (entry_at HasOne (length ns) _ (listed [] ns body tree HasOne Among steps ([], refl) numbered) i.0 lt).1

pub all_bodies_stand : AllBodiesStand
all_bodies_stand ns tree body numbered script = λ i node has e. bodies_are_there ns body i node script (stands ns tree body numbered i (slice_get_within ns i.0 node has)) has e
