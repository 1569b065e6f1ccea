-- The nodes of an order, put last to first.
use Rattle.std.specs.Prelude.{◌≡◌, ℕ, zero, suc, ◌+◌, ◌<◌, ◌≤◌, List, [], ◌∷◌, ◌++◌, map, length, drop}
use Rattle.std.proofs.Common.{refl, sym, ap, subst, ◌∙◌, arith, get_or, length-append}
use Rattle.std.proofs.lemmas.List.{drop_all}
use Rattle.std.proofs.lemmas.Option.{slice_get_within}
use Rattle.wjs_base.proofs.Lists.{get_last}
use Rattle.wjs_base.specs.declared.ids.NodeId.{NodeId}
use Rattle.wjs_tree.specs.declared.node.Node.{Node}
use Rattle.wjs_tree.specs.Children.{ChildrenBelow}
use Rattle.wjs_tree.specs.Shows.{Has, Keeps}
use Rattle.wjs_tree.proofs.Adding.{keeps_added}
use Rattle.wjs_scope.specs.Nesting.{IsAmong}
use Rattle.wjs_order.specs.Order.{falling}
use Rattle.wjs_order.specs.Moves.{id_of, Moves, AreBehind}
use Rattle.wjs_tree.specs.Parts.{parts_of}
use Rattle.wjs_order.specs.Renumbered.{renumbered}
use Rattle.wjs_order.proofs.Falling.{behind, numbered_low}
use Rattle.wjs_order.proofs.Stepping.{behind_drop}
use Rattle.wjs_order.proofs.Lowering.{low, lowered}

-- the nodes are those of the order, renumbered, the last of the order first
abbrev pub AreMade : List Node → (ℕ → ℕ) → List ℕ → List Node → Type 0
AreMade old g [] ns = ns ≡ []
AreMade old g (k ∷ more) ns = (node : Node) × (rest : List Node) × Has old (id_of k) node × (ns ≡ rest ++ renumbered g node ∷ []) × AreMade old g more rest

falling_drop : (g : ℕ → ℕ) (n : ℕ) (us : List ℕ) → map g us ≡ falling (length us) → map g (drop n us) ≡ falling (length (drop n us))
falling_drop g zero us e = e
falling_drop g (suc n) [] e = refl
falling_drop g (suc n) (k ∷ us) e = let rest : map g us ≡ falling (length us) = cc in falling_drop g n us rest

module _ (old : List Node) (g : ℕ → ℕ) where
  made_length : (us : List ℕ) (ns : List Node) → AreMade old g us ns → length ns ≡ length us
  made_length [] ns h = ap length h
  made_length (k ∷ more) ns h = let rest = made_length more h.1 h.4 in let all = ap length h.3 in omega (arith, length-append h.1 (renumbered g h.0 ∷ []))

  kept : (ns ms : List Node) → Keeps ns ms → (us : List ℕ) → Moves old ns g us → Moves old ms g us
  kept ns ms k [] h = tt
  kept ns ms k (u ∷ us) h = (λ node has. k.same (g u) (renumbered g node) (h.0 node has), kept ns ms k us h.1)

  made_moves : (us : List ℕ) (ns : List Node) → AreMade old g us ns → map g us ≡ falling (length us) → Moves old ns g us
  made_moves [] ns h e = tt
  made_moves (k ∷ more) ns h e =
      let first : g k ≡ length more = cc in
      let others : map g more ≡ falling (length more) = cc in
      let long : length h.1 ≡ g k = made_length more h.1 h.4 ∙ sym first in
      let all : List Node = h.1 ++ renumbered g h.0 ∷ [] in
      let last : Has all (id_of (g k)) (renumbered g h.0) = subst (λ z. Has all (id_of z) (renumbered g h.0)) long (get_last h.1 (renumbered g h.0)) in
      subst (λ z. Moves old z g (k ∷ more)) (sym h.3) (
        λ node has. (let there = h.2 in let same : h.0 ≡ node = cc in subst (λ (z : Node). Has all (id_of (g k)) (renumbered g z)) same last),
        kept h.1 all (keeps_added h.1 (renumbered g h.0)) more (made_moves more h.1 h.4 others),
      )

  -- the nodes of the order from one of them on are there
  pub record Moved (order : List ℕ) (left : ℕ) (ns : List Node) : Type 0 where
    pub within : left ≤ length order
    pub made : AreMade old g (drop left order) ns

  pub moved_none : (order : List ℕ) (ns : List Node) → ns ≡ [] → Moved order (length order) ns
  moved_none order ns e = record { within = omega arith; made = subst (λ z. AreMade old g z ns) (sym (drop_all (length order) order (omega arith))) e }

  pub moved_more : (order : List ℕ) (ns new : List Node) (left k : ℕ) (node made : Node) → left < length order → k ≡ get_or order left 0 → Has old (id_of k) node → made ≡ renumbered g node → new ≡ ns ++ made ∷ [] → Moved order (left + 1) ns → Moved order left new
  moved_more order ns new left k node made lt e has is added m = record {
    within = omega arith;
    made = subst (λ z. AreMade old g z new) (sym (behind order left k lt e)) (node, ns, has, added ∙ ap (λ z. ns ++ z ∷ []) is, m.made);
  }

  pub moved_all : (order : List ℕ) (ns : List Node) (left : ℕ) → left ≤ 0 → map g order ≡ falling (length order) → Moved order left ns → Moves old ns g order
  moved_all order ns left le e m = let none : left ≡ 0 = omega arith in made_moves order ns (subst (λ z. AreMade old g (drop z order) ns) none m.made) e

  pub moved_length : (order : List ℕ) (ns : List Node) (left : ℕ) → left ≤ 0 → Moved order left ns → length ns ≡ length order
  moved_length order ns left le m = let none : left ≡ 0 = omega arith in made_length order ns (subst (λ z. AreMade old g (drop z order) ns) none m.made)

  pub there : (order : List ℕ) (left k : ℕ) → left < length order → k ≡ get_or order left 0 → AreBehind old order → k < length old
  there order left k lt e b = let h = subst (AreBehind old) (behind order left k lt e) (behind_drop old left order b) in slice_get_within old k h.0.0 h.0.1

  -- the parts have their new nodes before
  pub parts_made : (order : List ℕ) (ns : List Node) (left k : ℕ) (node made : Node) → left < length order → k ≡ get_or order left 0 → Has old (id_of k) node → made ≡ renumbered g node → AreBehind old order → map g order ≡ falling (length order) → Moved order (left + 1) ns → ChildrenBelow (length ns) made
  parts_made order ns left k node made lt e has is b falls m =
      let h = subst (AreBehind old) (behind order left k lt e) (behind_drop old left order b) in
      let more : List ℕ = drop (left + 1) order in
      let long : length ns ≡ length more = made_length more ns m.made in
      let there = h.0.1 in
      let same : h.0.0 ≡ node = cc in
      let under : (c : NodeId) → IsAmong (parts_of node) c → g c.0 < length ns = λ c a.
      (let lt = numbered_low g more (falling_drop g (left + 1) order falls) c.0 (h.0.2 c (subst (λ (z : Node). IsAmong (parts_of z) c) (sym same) a)) in omega arith) in
      subst (ChildrenBelow (length ns)) (sym is) (lowered (length ns) g node (low (length ns) g (parts_of node) under))
