-- The places of the names of units stay right as the table grows that knows them.
use Rattle.std.specs.Prelude.{◌≡◌, ℕ, suc, zero, List, [], ◌∷◌, All, Some, slice_get}
use Rattle.std.proofs.Common.{subst, get_or}
use Rattle.std.proofs.lemmas.List.Elements.{All-head, All-tail}
use Rattle.std.proofs.lemmas.Option.{none-some, same_Some, slice_get_within, get_or_from_slice_get}
use Rattle.wjs_base.specs.declared.ids.TextId.{TextId}
use Rattle.wjs_base.specs.Text.{Table, Has, Grows}
use Rattle.wjs_tree.specs.declared.node.Declarator.{Declarator}
use Rattle.wjs_tree.specs.declared.node.ForInit.{ForInit}
use Rattle.wjs_tree.specs.declared.node.ForInit.TheVariants as inits
use Rattle.wjs_tree.specs.declared.node.Node.{Node}
use Rattle.wjs_tree.specs.declared.node.Node.TheVariants as form
use Rattle.wjs_scope.specs.Places.{KnowsPlaced, declarator_names, init_declares, placed_names}
use Rattle.wjs_scope.proofs.Arguments.{places_stay}
use Rattle.wjs_model.specs.declared.loaded.LoadedProgram.{LoadedProgram as Program}
use Rattle.wjs_model.specs.Texts.{KnowsInit, KnowsNode, KnowsUnit, PlacesUnit}

module _ (t : Table) where
  only : (y : TextId) → Has t y → (k : ℕ) (x : TextId) → slice_get (y ∷ []) k ≡ Some x → Has t x
  only y h zero x e = subst (Has t) (same_Some y x e) h
  only y h (suc k) x e = absurd (none-some x e)

  declared : (list : List Declarator) → All (λ (d : Declarator). Has t d.name) list → (k : ℕ) (x : TextId) → slice_get (declarator_names list) k ≡ Some x → Has t x
  declared [] h k x e = absurd (none-some x e)
  declared (d ∷ more) h zero x e = subst (Has t) (same_Some d.name x e) (All-head (λ (d : Declarator). Has t d.name) d more h)
  declared (d ∷ more) h (suc k) x e = declared more (All-tail (λ (d : Declarator). Has t d.name) d more h) k x e

  of_init : (init : ForInit) → KnowsInit t init → (k : ℕ) (x : TextId) → slice_get (init_declares init) k ≡ Some x → Has t x
  of_init inits.Nothing h k x e = absurd (none-some x e)
  of_init (inits.Expr a) h k x e = absurd (none-some x e)
  of_init (inits.Var list) h k x e = declared list h k x e

  of_node : (node : Node) → KnowsNode t node → (k : ℕ) (x : TextId) → slice_get (placed_names node) k ≡ Some x → Has t x
  of_node (form.Name y) h k x e = only y h k x e
  of_node (form.Var list end) h k x e = declared list h k x e
  of_node (form.For init o p a) h k x e = of_init init h k x e
  of_node (form.ForVarIn y a b) h k x e = only y h k x e
  of_node node h k x e = absurd (none-some x e)

-- a table that knows nodes has the names of them that have places
pub nodes_placed : (t : Table) (ns : List Node) → All (KnowsNode t) ns → KnowsPlaced t ns
nodes_placed t ns h i node k x has e = of_node t node (subst (KnowsNode t) (get_or_from_slice_get ns i.0 node node has) (h i.0 node (slice_get_within ns i.0 node has))) k x e

pub placed_known : (t : Table) (u : Program) → KnowsUnit t u → KnowsPlaced t u.program.nodes
placed_known t u h = nodes_placed t u.program.nodes h

pub placed_stay : (old new : Table) → Grows old new → (us : List Program) → All (KnowsUnit old) us → All (PlacesUnit old) us → All (PlacesUnit new) us
placed_stay old new grows us known placed =
    λ k d lt. (let u = get_or us k d in
    let names = placed_known old u (known k d lt) in
    places_stay old new u.program.nodes u.program.body u.places u.bodies grows names (λ i. (u.bodies_are_meant i).found old names) (placed k d lt))
