-- The depths to which the meaning looks into the parts of a node are enough, since the parts have lower numbers.
use Rattle.std.specs.Prelude.{◌≡◌, ℕ, zero, suc, ◌+◌, ◌-◌, ◌<◌, ◌⊎◌, Bool, List, [], ◌∷◌, ◌++◌, map as each, flat_map, length, reverse, Option, None, Some, slice_get, unwrap_or}
use Rattle.std.specs.List.{AllByRecursion}
use Rattle.std.proofs.Common.{refl, ap, subst, arith, inl, inr}
use Rattle.std.proofs.lemmas.List.{length-map, length-reverse}
use Rattle.std.proofs.lemmas.Option.{none-some}
use mathlib.Core.List.{reverse-cons}
use Rattle.wjs_base.specs.Text.{Table}
use Rattle.wjs_base.proofs.Lists.{get_pushed}
use Rattle.wjs_tree.specs.Trees.{Elements}
use Rattle.wjs_by_content.specs.Values.{Text}
use Rattle.wjs_meaning.specs.Trees.{Node, Tree, node_at, is_target_form, is_target_to}
use Rattle.wjs_meaning.specs.Trees as node
use Rattle.wjs_meaning.specs.Declarations.{vars_of_option, vars_of_handler, vars_of_init, vars_of_form, vars_to}
use Rattle.wjs_programs.specs.Numbered.{Entry, plain, elements, count, tree_of}
use Rattle.wjs_programs.specs.Numbers.{DepthIsEnough}
use Rattle.wjs_programs.proofs.Over.{all_more, all_apart, option_part, handler_part, clause_parts, inner_parts, IsOver, AreOver, Falls, node_over}
use Rattle.wjs_programs.proofs.Lowering.{elements_falls}

-- ---- the nodes of a program's tree

abbrev node_of : Entry → Node
node_of e = e.node

-- of entries that are turned round
each_over : (l : List Entry) → AreOver (length l - 1) l → (k : ℕ) (n : Node) → slice_get (reverse (each node_of l)) k ≡ Some n → IsOver k n
each_over [] a k n h = absurd (none-some n h)
each_over (e ∷ l) a k n h =
    either (λ p. each_over l (subst (λ (z : ℕ). AreOver z l) (let e : suc (length l) - 1 - 1 ≡ length l - 1 = omega arith in e) a.1) k n p)
    (get_pushed (reverse (each node_of l)) e.node k n (subst (λ z. slice_get z k ≡ Some n) (reverse-cons e.node (each node_of l)) h))
  where
    either : (slice_get (reverse (each node_of l)) k ≡ Some n → IsOver k n) → (slice_get (reverse (each node_of l)) k ≡ Some n) ⊎ ((k ≡ length (reverse (each node_of l))) × (e.node ≡ n)) → IsOver k n
    either more (inl p) = more p
    either more (inr q) =
        let long = length-reverse (each node_of l) in
        let same = length-map l node_of in
        let at : suc (length l) - 1 ≡ k = let e = q.0 in omega arith in
        subst (λ (z : Node). IsOver k z) q.1 (subst (λ (z : ℕ). IsOver z e.node) at a.0)

module _ (texts : Table) (program : Elements) where
  abbrev entries : List Entry
  entries = let l = elements texts [] (count texts program - 1) program in plain (node.Program l.0) l.1

  falls : Falls (count texts program) (count texts program ∷ []) entries (plain (node.Program []) (elements texts [] 0 program).1)
  falls = node_over _ (node.Program []) [] [] (λ P a. tt) (λ h. tt) (elements_falls texts [] (count texts program - 1) 0 program)

  pub tree_over : (k : ℕ) (n : Node) → slice_get (tree_of texts program).nodes k ≡ Some n → IsOver k n
  tree_over k n h =
      let long = falls.long in
      each_over entries (subst (λ (z : ℕ). AreOver z entries) (let e : count texts program ≡ length entries - 1 = omega arith in e) (falls.over (omega arith))) k n h

  pub at_over : (k : ℕ) → IsOver k (node_at (tree_of texts program) k)
  at_over k = known (slice_get (tree_of texts program).nodes k) refl
    where
      known : (o : Option Node) → slice_get (tree_of texts program).nodes k ≡ o → IsOver k (unwrap_or o node.Empty)
      known None h = record { lower = tt; next = tt }
      known (Some n) h = tree_over k n h

-- ---- what is looked for in a node depends on its inner parts alone

target_same : (n : Node) (f g : ℕ → Bool) → AllByRecursion (λ (s : ℕ). f s ≡ g s) (inner_parts n) → is_target_form n f ≡ is_target_form n g
target_same (node.Paren e) f g a = a.0
target_same n f g a = refl

module _ (f g : ℕ → List Text) where
  abbrev pub Same : List ℕ → Type 0
  Same ss = AllByRecursion (λ (s : ℕ). f s ≡ g s) ss

  joined : (us vs : List Text) (xs ys : List Text) → us ≡ vs → xs ≡ ys → us ++ xs ≡ vs ++ ys
  joined us vs xs ys p q = λ i. p i ++ q i

  list_same : (ss : List ℕ) → Same ss → flat_map f ss ≡ flat_map g ss
  list_same [] a = refl
  list_same (s ∷ ss) a = joined _ _ _ _ a.0 (list_same ss a.1)

  option_same : (o : Option ℕ) → Same (option_part o) → vars_of_option o f ≡ vars_of_option o g
  option_same None a = refl
  option_same (Some s) a = a.0

  handler_same : (h : Option (Text × ℕ)) → Same (handler_part h) → vars_of_handler h f ≡ vars_of_handler h g
  handler_same None a = refl
  handler_same (Some h) a = a.0

  clauses_same : (clauses : List (Option ℕ × List ℕ)) → Same (clause_parts clauses) → flat_map (λ (c : Option ℕ × List ℕ). flat_map f c.1) clauses ≡ flat_map (λ (c : Option ℕ × List ℕ). flat_map g c.1) clauses
  clauses_same [] a = refl
  clauses_same (c ∷ clauses) a = let z = all_apart (λ (s : ℕ). f s ≡ g s) c.1 (clause_parts clauses) a in joined _ _ _ _ (list_same c.1 z.0) (clauses_same clauses z.1)

  pub vars_same : (n : Node) → Same (inner_parts n) → vars_of_form n f ≡ vars_of_form n g
  vars_same (node.Block ss) a = list_same ss a
  vars_same (node.If e s t) a = joined _ _ _ _ a.0 (option_same t a.1)
  vars_same (node.DoWhile s e) a = a.0
  vars_same (node.While e s) a = a.0
  vars_same (node.For init t u s) a = ap (λ z. vars_of_init init ++ z) a.0
  vars_same (node.ForIn t e s) a = a.0
  vars_same (node.ForVarIn name e s) a = ap (λ z. name ∷ z) a.0
  vars_same (node.Label name s) a = a.0
  vars_same (node.Switch e clauses) a = clauses_same clauses a
  vars_same (node.Try b handler last) a =
      let z = all_apart (λ (s : ℕ). f s ≡ g s) (handler_part handler) (option_part last) a.1 in
      joined _ _ _ _ (joined _ _ _ _ a.0 (handler_same handler z.0)) (option_same last z.1)
  vars_same (node.Within e b) a = a.0
  vars_same n a = refl

-- ---- depths

module _ (t : Tree) (over : (k : ℕ) → IsOver k (node_at t k)) where
  targets_agree : (d e k : ℕ) → k < d → k < e → is_target_to d t k ≡ is_target_to e t k
  targets_agree zero e k a b = absurd (omega arith)
  targets_agree (suc d) zero k a b = absurd (omega arith)
  targets_agree (suc d) (suc e) k a b = target_same (node_at t k) (λ s. is_target_to d t s) (λ s. is_target_to e t s) (all_more _ _ (inner_parts (node_at t k)) (λ s lt. targets_agree d e s (omega arith) (omega arith)) (over k).lower)

  pub vars_agree : (d e k : ℕ) → k < d → k < e → vars_to d t k ≡ vars_to e t k
  vars_agree zero e k a b = absurd (omega arith)
  vars_agree (suc d) zero k a b = absurd (omega arith)
  vars_agree (suc d) (suc e) k a b = vars_same (λ s. vars_to d t s) (λ s. vars_to e t s) (node_at t k) (all_more _ _ (inner_parts (node_at t k)) (λ s lt. vars_agree d e s (omega arith) (omega arith)) (over k).lower)

pub depth_is_enough : DepthIsEnough
depth_is_enough texts program k more = let t = tree_of texts program in let over = at_over texts program in (targets_agree t over (suc k + more) (suc k) k (omega arith) (omega arith), vars_agree t over (suc k + more) (suc k) k (omega arith) (omega arith))
