-- One step of the walk over a tree: a node is taken, and its parts come before what waits.
use Rattle.std.specs.Prelude.{◌≡◌, ℕ, zero, suc, ◌<◌, ◌≤◌, List, [], ◌∷◌, ◌++◌, map, length, drop, All, Some, None}
use Rattle.std.proofs.Common.{refl, sym, ap, subst, ◌∙◌, inl, inr, arith}
use Rattle.std.proofs.lemmas.List.Elements.{All-nil, All-cons}
use Rattle.wjs_base.specs.declared.ids.NodeId.{NodeId}
use Rattle.wjs_tree.specs.declared.node.Node.{Node}
use Rattle.wjs_tree.specs.declared.node.Node.TheVariants as nodes
use Rattle.wjs_tree.specs.Children.{ChildrenBelow}
use Rattle.wjs_tree.specs.Shows.{Has}
use Rattle.wjs_tree.specs.Used.{IsUsed}
use Rattle.wjs_scope.specs.Nesting.{Side, Around, Inside, option_part, plain_parts, on_side, parts, IsAmong}
use Rattle.wjs_scope.proofs.Standing.{Stands, AsExpr, AsStmt, AsFunction, AsScript, AllStand, left_on, joined}
use Rattle.wjs_scope.proofs.Splitting.{split, node_of}
use Rattle.wjs_scope.proofs.Apart.{found, inside, left_small}
use Rattle.wjs_scope.proofs.Below.{part_below}
use Rattle.wjs_tree.specs.Parts.{parts_of}
use Rattle.wjs_order.specs.Moves.{AreBehind}

-- the nodes on whatever side
abbrev nodes_on : List (NodeId × Side) → List NodeId
nodes_on ps = map (λ (p : NodeId × Side). p.0) ps

sides : (side : Side) (xs : List NodeId) → nodes_on (on_side side xs) ≡ xs
sides side [] = refl
sides side (x ∷ xs) = ap (λ z. x ∷ z) (sides side xs)

parts_are : (node : Node) → nodes_on (parts node) ≡ parts_of node
parts_are (nodes.Function name formals list) = sides Inside list
parts_are (nodes.FunctionDecl x formals list) = sides Inside list
parts_are (nodes.Try b None o) = ap (λ z. b ∷ z) (sides Around (option_part o))
parts_are (nodes.Try b (Some h) o) = ap (λ z. b ∷ h.block ∷ z) (sides Around (option_part o))
parts_are node = sides Around (plain_parts node)

all_low : (n : ℕ) (ps : List (NodeId × Side)) → ((p : NodeId × Side) → IsAmong ps p → p.0.0 < n) → All (λ (i : NodeId). i.0 < n) (nodes_on ps)
all_low n [] h = All-nil (λ (i : NodeId). i.0 < n)
all_low n (p ∷ ps) h = All-cons (λ (i : NodeId). i.0 < n) p.0 (nodes_on ps) (h p (inl refl)) (all_low n ps (λ q a. h q (inr a)))

pub parts_low : (n : ℕ) (node : Node) → ChildrenBelow n node → All (λ (i : NodeId). i.0 < n) (parts_of node)
parts_low n node below = subst (All (λ (i : NodeId). i.0 < n)) (parts_are node) (all_low n (parts node) (part_below n node below))

-- what stands for a tree of some height stands for one of at most 200
raised : (ns : List Node) (room : ℕ) (i : NodeId) (us : List ℕ) → room ≤ 200 → Stands ns room i us → Stands ns 200 i us
raised ns room i us le (AsExpr t h low) = AsExpr t h (omega arith)
raised ns room i us le (AsStmt t h low) = AsStmt t h (omega arith)
raised ns room i us le (AsFunction x formals list f b some) = AsFunction x formals list f (b.0, b.1, b.2, b.3, (let low = b.4 in omega arith)) (omega arith)
raised ns room i us le (AsScript list f b some) = AsScript list f (b.0, b.1, b.2, b.3, (let low = b.4 in omega arith)) (omega arith)

all_around : (ns : List Node) (ps : List (NodeId × Side)) (us : List ℕ) → AllStand ns 200 ps us → AllStand ns 200 (on_side Around (nodes_on ps)) us
all_around ns [] us a = a
all_around ns (p ∷ ps) us a = (a.0, a.1, a.2, raised ns (left_on p.1 200) p.0 a.0 (left_small p.1 200 (omega arith)) a.3, all_around ns ps a.1 a.4)

-- the first of what waits has been taken, and its parts wait before the others
pub record Step (ns : List Node) (i : NodeId) (node : Node) (stack : List NodeId) (used : List ℕ) : Type 0 where
  pub rest : List ℕ
  pub is : used ≡ i.0 ∷ rest
  pub stand : AllStand ns 200 (on_side Around (parts_of node ++ stack)) rest

pub step : (ns : List Node) (i : NodeId) (node : Node) (stack : List NodeId) (used : List ℕ) → AllStand ns 200 (on_side Around (i ∷ stack)) used → Has ns i node → Step ns i node stack used
step ns i node stack used a has =
    let here = split ns 200 (omega arith) i a.0 a.3 node has in
    record {
      rest = here.rest ++ a.1;
      is = a.2 ∙ ap (λ z. z ++ a.1) here.is;
      stand = joined ns 200 (parts_of node) stack here.rest a.1 (subst (λ z. AllStand ns 200 (on_side Around z) here.rest) (parts_are node) (all_around ns (parts node) here.rest here.each)) a.4;
    }

pub first_node : (ns : List Node) (i : NodeId) (stack : List NodeId) (used : List ℕ) → AllStand ns 200 (on_side Around (i ∷ stack)) used → (node : Node) × Has ns i node
first_node ns i stack used a = node_of ns 200 i a.0 a.3

among_around : (xs : List NodeId) (c : NodeId) → IsAmong xs c → IsAmong (on_side Around xs) (c, Around)
among_around [] c h = elim h [ ]
among_around (x ∷ xs) c (inl e) = inl (ap (λ (z : NodeId). (z, Around)) e)
among_around (x ∷ xs) c (inr h) = inr (among_around xs c h)

among_left : (xs ys : List NodeId) (c : NodeId) → IsAmong xs c → IsAmong (xs ++ ys) c
among_left [] ys c h = elim h [ ]
among_left (x ∷ xs) ys c (inl e) = inl e
among_left (x ∷ xs) ys c (inr h) = inr (among_left xs ys c h)

-- a node that waits is one of those that the trees are made of
pub waits : (ns : List Node) (xs : List NodeId) (us : List ℕ) → AllStand ns 200 (on_side Around xs) us → (c : NodeId) → IsAmong xs c → IsUsed us c.0
waits ns xs us a c h =
    let part = found ns 200 (on_side Around xs) (c, Around) us a (among_around xs c h) in
    part.among c.0 (inside ns 200 (omega arith) c part.own [] c part.stands refl)

none_used : (us : List ℕ) → length us ≤ 0 → us ≡ []
none_used [] le = refl
none_used (k ∷ us) le = absurd (omega arith)

-- the parts of each node stand behind it
pub behind : (fuel : ℕ) (ns : List Node) (stack : List NodeId) (used : List ℕ) → length used ≤ fuel → AllStand ns 200 (on_side Around stack) used → AreBehind ns used
behind zero ns stack used le a = subst (AreBehind ns) (sym (none_used used le)) tt
behind (suc fuel) ns [] used le a = subst (AreBehind ns) (sym a) tt
behind (suc fuel) ns (i ∷ stack) used le a =
    let here = first_node ns i stack used a in
    let s = step ns i here.0 stack used a here.1 in
    let long : length used ≡ suc (length s.rest) = ap length s.is in
    subst (AreBehind ns) (sym s.is) (
      (here.0, here.1, λ c h. waits ns (parts_of here.0 ++ stack) s.rest s.stand c (among_left (parts_of here.0) stack c h)),
      behind fuel ns (parts_of here.0 ++ stack) s.rest (omega arith) s.stand,
    )

pub behind_drop : (ns : List Node) (n : ℕ) (us : List ℕ) → AreBehind ns us → AreBehind ns (drop n us)
behind_drop ns zero us h = h
behind_drop ns (suc n) [] h = tt
behind_drop ns (suc n) (k ∷ us) h = behind_drop ns n us h.1
