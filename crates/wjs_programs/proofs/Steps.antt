-- What is known of a program's nodes by the scopes around them, and the parts of the program that follow from it.
use Rattle.std.specs.Prelude.{ℕ, List, [], ◌∷◌, ◌++◌, Option, None, Some}
use Rattle.std.specs.List.{AllByRecursion}
use Rattle.std.proofs.Common.{refl, inl, inr}
use Rattle.wjs_base.specs.declared.ids.TextId.{TextId}
use Rattle.wjs_base.specs.Text.{Table}
use Rattle.wjs_base.specs.declared.ids.NodeId.{NodeId}
use Rattle.wjs_tree.specs.declared.node.Node.{Node as NumberedNode}
use Rattle.wjs_tree.specs.declared.node.Handler.{Handler}
use Rattle.wjs_tree.specs.declared.node.Node.TheVariants as nodes
use Rattle.wjs_tree.specs.Trees.{Elements}
use Rattle.wjs_tree.specs.Shows.{Has, ElementsShow}
use Rattle.wjs_scope.specs.Nesting.{Side, Around, parts, on_side, IsAmong}
use Rattle.wjs_scope.specs.Places.{placed_names}
use Rattle.wjs_by_content.specs.Tables.{text_in}
use Rattle.wjs_meaning.specs.Reading.{node_in}
use Rattle.wjs_programs.specs.Numbered.{Scopes, Entry, places_of, within}
use Rattle.wjs_programs.proofs.Over.{all_apart as both_apart}

-- around each of the nodes stand these scopes
abbrev pub AllAmong : (NodeId → Scopes → Type 0) → Scopes → List NodeId → Type 0
AllAmong Among around ids = AllByRecursion (λ (j : NodeId). Among j around) ids

pub all_apart : (Among : NodeId → Scopes → Type 0) (around : Scopes) (xs ys : List NodeId) → AllAmong Among around (xs ++ ys) → AllAmong Among around xs × AllAmong Among around ys
all_apart Among around xs ys a = both_apart (λ (j : NodeId). Among j around) xs ys a

pub all_among : (Among : NodeId → Scopes → Type 0) (side : Side) (around : Scopes) (ids : List NodeId) → ((j : NodeId) → IsAmong (on_side side ids) (j, side) → Among j around) → AllAmong Among around ids
all_among Among side around [] f = tt
all_among Among side around (i ∷ ids) f = (f i (inl refl), all_among Among side around ids (λ j a. f j (inr a)))

-- where scopes stand around a node, its entry is known, and the scopes around its parts
pub record Steps (texts : Table) (ns : List NumberedNode) (HasEntry : ℕ → Entry → Type 0) (Among : NodeId → Scopes → Type 0) : Type 0 where
  pub entry : (i : NodeId) (around : Scopes) (n : NumberedNode) → Has ns i n → Among i around → HasEntry i.0 (record { node = node_in texts n; places = places_of texts around (placed_names n) })
  pub part : (i j : NodeId) (around : Scopes) (n : NumberedNode) → Has ns i n → Among i around → IsAmong (parts n) (j, Around) → Among j around
  pub caught : (i b : NodeId) (handler : Handler) (last : Option NodeId) (around : Scopes) → Has ns i (nodes.Try b (Some handler) last) → Among i around → Among handler.block ((text_in texts handler.name ∷ []) ∷ around)
  pub inside : (i : NodeId) (name : Option TextId) (formals : List TextId) (list : List NodeId) (body : Elements) (us : List ℕ) (around : Scopes) → Has ns i (nodes.Function name formals list) → Among i around → ElementsShow ns body list us
      → AllAmong Among (within texts name formals body around) list
  pub declared : (i : NodeId) (x : TextId) (formals : List TextId) (list : List NodeId) (body : Elements) (us : List ℕ) (around : Scopes) → Has ns i (nodes.FunctionDecl x formals list) → Among i around → ElementsShow ns body list us
      → AllAmong Among (within texts None formals body around) list
