-- The parts of a frame's node stand where the frame is run.
use Rattle.std.proofs.Common.{◌≡◌, ℕ, zero, suc, List, [], ◌∷◌, ◌++◌, inl, inr, Option, None, Some, Vec, Global, refl, sym, ap, ◌∙◌, subst}
use Rattle.std.specs.Prelude.{All, slice_get, unwrap_or}
use Rattle.std.specs.Option.{option_map}
use Rattle.std.proofs.lemmas.List.Elements.{All-head, All-tail}
use Rattle.wjs_base.specs.declared.ids.ObjId.{ObjId}
use Rattle.wjs_base.specs.declared.ids.TextId.{TextId}
use Rattle.wjs_base.specs.declared.ids.NodeId.{NodeId}
use Rattle.wjs_store.specs.Meaning.{Meaning}
use Rattle.wjs_tree.specs.declared.node.Node.{Node}
use Rattle.wjs_tree.specs.declared.node.Node.TheVariants as nodes
use Rattle.wjs_tree.specs.Shows.{Has}
use Rattle.wjs_arena.specs.Entries.{scope_of}
use Rattle.wjs_scope.specs.Nesting.{Side, Around, Caught, on_side, parts, IsAmong}
use Rattle.wjs_scope.specs.Declarations.{elements_of}
use Rattle.wjs_model.specs.declared.config.Config.{Config}
use Rattle.wjs_model.specs.declared.point.Point.{Point}
use Rattle.wjs_model.specs.declared.frame.Activation.{Activation as Frame}
use Rattle.wjs_model.specs.declared.loaded.LoadedProgram.{LoadedProgram as Program}
use Rattle.wjs_model.specs.Texts.{PlacesUnit}
use Rattle.wjs_model.specs.Units as program
use Rattle.wjs_model.specs.Standing.{Stands, IsFunction, IfStands, PointStands}
use Rattle.wjs_model.specs.Soundness.{StandsHere, StandsIf, HasPoint, IsThere, Base}
use Rattle.wjs_model.proofs.Standing.{stands_kept, if_kept, point_kept, part_stands, caught_stands, element_stands}
use Rattle.wjs_frames.specs.Parts.{node_among, node_now}
use Rattle.wjs_frames.specs.Following.{Later}

-- ---- what is among lists

pub among_at : {T : Type 0} (l : List T) (k : ℕ) (x : T) → slice_get l k ≡ Some x → IsAmong l x
among_at [] k x e = absurd (cc)
among_at (y ∷ l) zero x e = inl (let same : x ≡ y = cc in same)
among_at (y ∷ l) (suc k) x e = inr (among_at l k x e)

pub among_left : {T : Type 0} (xs ys : List T) (x : T) → IsAmong xs x → IsAmong (xs ++ ys) x
among_left [] ys x h = absurd h
among_left (y ∷ xs) ys x (inl e) = inl e
among_left (y ∷ xs) ys x (inr h) = inr (among_left xs ys x h)

pub among_right : {T : Type 0} (xs ys : List T) (x : T) → IsAmong ys x → IsAmong (xs ++ ys) x
among_right [] ys x h = h
among_right (y ∷ xs) ys x h = inr (among_right xs ys x h)

-- parts that stand in the scopes around a node
pub among_around : (l : List NodeId) (j : NodeId) → IsAmong l j → IsAmong (on_side Around l) (j, Around)
among_around [] j h = h
among_around (x ∷ l) j (inl e) = inl (ap (λ (i : NodeId). (i, Around)) e)
among_around (x ∷ l) j (inr h) = inr (among_around l j h)

-- ---- nodes of programs

-- a node that has a part is one of the program's
has_with : (ns : List Node) (i : NodeId) (n : Node) (p : NodeId × Side) (r : Option Node) → slice_get ns i.0 ≡ r → unwrap_or r nodes.Empty ≡ n
    → IsAmong (parts n) p → Has ns i n
has_with ns i n p (Some m) e q among = e ∙ ap Some q
has_with ns i n p None e q among = absurd (subst (λ (m : Node). IsAmong (parts m) p) (sym q) among)

-- the node of a tree among the units is its program's
pub among_is : (units : List Program) (tree : ℕ) (id : NodeId) (u : Program) → slice_get units tree ≡ Some u → node_among units tree id ≡ program.node_of u id
among_is units tree id u e = ap (λ o. unwrap_or (option_map (λ (v : Program). program.node_of v id) o) nodes.Empty) e

-- a unit among those of which all hold it
unit_at : (P : Program → Type 0) (units : List Program) (tree : ℕ) (u : Program) → slice_get units tree ≡ Some u → All P units → P u
unit_at P [] tree u e h = absurd (cc)
unit_at P (v ∷ vs) zero u e h = let same : v ≡ u = cc in subst P same (All-head P v vs h)
unit_at P (v ∷ vs) (suc k) u e h = unit_at P vs k u e (All-tail P v vs h)

module _ {S : Type 0} (meaning : S → Meaning) (c : Config S) (f : Frame) where
  module _ (n : Node) (j : NodeId) (here : IsThere meaning c f) (is : node_now meaning c f ≡ n) where
    found_with : (p : NodeId × Side) → IsAmong (parts n) p → Has here.stands.node.unit.program.nodes f.node n
    found_with p among =
        let s = here.stands.node in
        has_with s.unit.program.nodes f.node n p (slice_get s.unit.program.nodes f.node.0) refl (sym (among_is c.units.items f.tree f.node s.unit s.found) ∙ is) among

    pub stands_here : IsAmong (parts n) (j, Around) → StandsHere c f j
    stands_here among = part_stands c.units.items c.heap.arena f.tree f.node f.scope n j here.stands.node (found_with (j, Around) among) among

    -- the block of a `catch`, in a scope inside the frame's
    pub caught_here : (x : TextId) (inner : ObjId) → IsAmong (parts n) (j, Caught x) → scope_of c.heap.arena inner ≡ Some f.scope
        → Stands c.units.items c.heap.arena f.tree j inner 0
    caught_here x inner among e = caught_stands c.units.items c.heap.arena f.tree f.node f.scope n j x inner here.stands.node (found_with (j, Caught x) among) among e

  -- what stands where the frame is run stands there later
  pub stands_later : (new : Config S) (j : NodeId) → Later meaning c new → StandsHere c f j → StandsHere new f j
  stands_later new j l h = subst (λ (us : Vec Program Global). Stands us.items new.heap.arena f.tree j f.scope 0) (sym l.units) (stands_kept c.heap.arena new.heap.arena l.arena c.units.items f.tree j f.scope 0 h)

  -- so does what a point names, and so does a node that may be there
  pub point_later : (new : Config S) (p : Point) → Later meaning c new → HasPoint c f p → HasPoint new f p
  point_later new p l h = subst (λ (us : Vec Program Global). PointStands us.items new.heap.arena f.tree f.node f.scope p) (sym l.units) (point_kept c.heap.arena new.heap.arena l.arena c.units.items f.tree f.node f.scope p h)

  pub stands_if_later : (new : Config S) (j : Option NodeId) → Later meaning c new → StandsIf c f j → StandsIf new f j
  stands_if_later new j l h = subst (λ (us : Vec Program Global). IfStands us.items new.heap.arena f.tree f.node f.scope j) (sym l.units) (if_kept c.heap.arena new.heap.arena l.arena c.units.items f.tree f.node f.scope j h)

  -- an element of a function's body that has begun
  pub element_here : (j : NodeId) → Base meaning c → (s : IsFunction c.units.items c.heap.arena f.tree f.node f.scope 1) → IsAmong (elements_of s.function) j
      → StandsHere c f j
  element_here j b s among = element_stands c.units.items c.heap.arena f.tree f.node f.scope j s (unit_at (PlacesUnit c.heap.texts) c.units.items f.tree s.stands.unit s.stands.found b.places).script among

  -- its node is the frame's
  pub function_now : (s : IsFunction c.units.items c.heap.arena f.tree f.node f.scope 1) → node_now meaning c f ≡ s.function
  function_now s = among_is c.units.items f.tree f.node s.stands.unit s.stands.found ∙ ap (λ o. unwrap_or o nodes.Empty) s.has
