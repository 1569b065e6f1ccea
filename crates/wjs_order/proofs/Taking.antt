-- The walk over the tree of a script, by what has been taken and what waits.
use Rattle.std.specs.Prelude.{◌≡◌, ℕ, ◌<◌, List, [], ◌∷◌, ◌++◌, length, All}
use Rattle.std.proofs.Common.{sym, ap, subst, ◌∙◌, inl, inr, arith, append_assoc, append-nil, length-append}
use Rattle.std.proofs.lemmas.List.Elements.{All-nil, All-head, All-tail, All-append, All-push, All-weaker}
use Rattle.std.proofs.lemmas.Option.{slice_get_within}
use Rattle.wjs_base.specs.declared.ids.NodeId.{NodeId}
use Rattle.wjs_tree.specs.declared.node.Node.{Node}
use Rattle.wjs_tree.specs.declared.node.Node.TheVariants as nodes
use Rattle.wjs_tree.specs.Children.{ChildrenBelow}
use Rattle.wjs_tree.specs.Trees.{Elements}
use Rattle.wjs_tree.specs.Shows.{Has, ElementsShow, IsBody}
use Rattle.wjs_tree.specs.Used.{IsUsed, IsOnce, AreApart}
use Rattle.wjs_tree.proofs.Using.{used_cases, once_both}
use Rattle.wjs_tree.proofs.OneUse.{elements_one_use}
use Rattle.wjs_scope.specs.Nesting.{Around, on_side, IsAmong}
use Rattle.wjs_scope.specs.Places.{IsScript}
use Rattle.wjs_scope.proofs.Standing.{AllStand, elements}
use Rattle.wjs_tree.specs.Parts.{parts_of}
use Rattle.wjs_order.specs.Moves.{AreBehind}
use Rattle.wjs_order.proofs.Counting.{AreUnder, few}
use Rattle.wjs_order.proofs.Stepping.{step, first_node, parts_low, waits, behind}

-- the nodes that have been taken and those of which what waits is made are the tree's, in its order
pub record Taking (ns : List Node) (body : NodeId) (taken : List ℕ) (stack : List NodeId) : Type 0 where
  pub rest : List ℕ
  pub stand : AllStand ns 200 (on_side Around stack) rest
  pub all : (tree : Elements) (is : IsBody ns tree body) → taken ++ rest ≡ is.used
  pub once_taken : IsOnce taken
  pub once_rest : IsOnce rest
  pub apart : AreApart taken rest
  pub taken_low : All (λ k. k < body.0) taken
  pub stack_low : All (λ (i : NodeId). i.0 < body.0) stack

-- a script's elements stand for trees
script_stands : (ns : List Node) (body : NodeId) (s : IsScript ns body) → AllStand ns 200 (on_side Around s.list) s.used
script_stands ns body s = elements ns 200 Around s.tree s.list s.used s.shows s.low

pub script_behind : (ns : List Node) (body : NodeId) (s : IsScript ns body) → AreBehind ns s.used
script_behind ns body s = behind (length s.used) ns s.list s.used (omega arith) (script_stands ns body s)

pub script_uses : (ns : List Node) (body : NodeId) (s : IsScript ns body) (c : NodeId) → IsAmong s.list c → IsUsed s.used c.0
script_uses ns body s c h = waits ns s.list s.used (script_stands ns body s) c h

-- the nodes of a body's elements are the same for each tree that they stand for
pub one_used : (ns : List Node) (body : NodeId) (tree : Elements) (list : List NodeId) (used : List ℕ) → Has ns body (nodes.Program list) → ElementsShow ns tree list used → (other : Elements) (is : IsBody ns other body) → used ≡ is.used
one_used ns body tree list used has shows other is =
    let there = is.has in
    let same : is.list ≡ list = cc in
    elements_one_use ns tree list used shows other is.used (subst (λ z. ElementsShow ns other z is.used) same is.shows)

pub begins : (ns : List Node) (body : NodeId) (node : Node) (stack : List NodeId) → IsScript ns body → Has ns body node → ChildrenBelow body.0 node → stack ≡ parts_of node ++ [] → Taking ns body [] stack
begins ns body node stack s has below e =
    let there = s.has in
    let same : nodes.Program s.list ≡ node = cc in
    let is : stack ≡ parts_of node = e ∙ append-nil (parts_of node) in
    record {
      rest = s.used;
      stand = subst (λ z. AllStand ns 200 (on_side Around z) s.used) (sym (is ∙ ap parts_of (sym same))) (script_stands ns body s);
      all = one_used ns body s.tree s.list s.used s.has s.shows;
      once_taken = tt;
      once_rest = s.once;
      apart = λ n h g. absurd h;
      taken_low = All-nil (λ k. k < body.0);
      stack_low = subst (All (λ (i : NodeId). i.0 < body.0)) (sym is) (parts_low body.0 node below);
    }

under : (n : ℕ) (us : List ℕ) → All (λ k. k < n) us → AreUnder n us
under n [] h k u = absurd u
under n (m ∷ us) h k (inl e) = subst (λ z. z < n) (sym e) (All-head (λ k. k < n) m us h)
under n (m ∷ us) h k (inr u) = under n us (All-tail (λ k. k < n) m us h) k u

module _ (ns : List Node) (body : NodeId) (taken : List ℕ) (i : NodeId) (stack old : List NodeId) (took : old ≡ i ∷ stack) (t : Taking ns body taken old) where
  waiting : AllStand ns 200 (on_side Around (i ∷ stack)) t.rest
  waiting = subst (λ z. AllStand ns 200 (on_side Around z) t.rest) took t.stand

  lows : All (λ (j : NodeId). j.0 < body.0) (i ∷ stack)
  lows = subst (All (λ (j : NodeId). j.0 < body.0)) took t.stack_low

  first_low : i.0 < body.0
  first_low = All-head (λ (j : NodeId). j.0 < body.0) i stack lows

  others_apart : (rest : List ℕ) → t.rest ≡ i.0 ∷ rest → AreApart taken (i.0 ∷ rest)
  others_apart rest e = subst (AreApart taken) e t.apart

  once_more : (rest : List ℕ) → t.rest ≡ i.0 ∷ rest → IsOnce (taken ++ i.0 ∷ [])
  once_more rest e = once_both taken (i.0 ∷ []) t.once_taken (λ h. h, tt) (λ n h g. others_apart rest e n h (elim g as (λ _. IsUsed (i.0 ∷ rest) n) [ inl q ↦ inl q | inr r ↦ absurd r ]))

  low_more : All (λ k. k < body.0) (taken ++ i.0 ∷ [])
  low_more = All-push (λ k. k < body.0) taken i.0 t.taken_low first_low

  pub there : i.0 < length ns
  there = let here = first_node ns i stack t.rest waiting in slice_get_within ns i.0 here.0 here.1

  pub goes_on : (node : Node) (new : List NodeId) → Has ns i node → ChildrenBelow i.0 node → new ≡ parts_of node ++ stack → Taking ns body (taken ++ i.0 ∷ []) new
  goes_on node new has below e =
      let s = step ns i node stack t.rest waiting has in
      let once : IsOnce (i.0 ∷ s.rest) = subst IsOnce s.is t.once_rest in
      record {
        rest = s.rest;
        stand = subst (λ z. AllStand ns 200 (on_side Around z) s.rest) (sym e) s.stand;
        all = λ tree is. append_assoc taken (i.0 ∷ []) s.rest ∙ ap (λ z. taken ++ z) (sym s.is) ∙ t.all tree is;
        once_taken = once_more s.rest s.is;
        once_rest = once.1;
        apart = λ n h g. elim (used_cases taken (i.0 ∷ []) n h) as (λ _. ⊥) [
          | inl u ↦ others_apart s.rest s.is n u (inr g)
          | inr u ↦ elim u as (λ _. ⊥) [ inl q ↦ once.0 (subst (IsUsed s.rest) q g) | inr r ↦ r ]
        ];
        taken_low = low_more;
        stack_low =
            subst (All (λ (j : NodeId). j.0 < body.0)) (sym e)
            (All-append (λ (j : NodeId). j.0 < body.0) (parts_of node) stack
            (All-weaker (λ (j : NodeId). j.0 < i.0) (λ (j : NodeId). j.0 < body.0) (λ j lt. (let low = first_low in omega arith)) (parts_of node) (parts_low i.0 node below))
            (All-tail (λ (j : NodeId). j.0 < body.0) i stack lows));
      }

  -- there is room for one more
  pub fewer : length taken < body.0
  fewer =
      let here = first_node ns i stack t.rest waiting in
      let s = step ns i here.0 stack t.rest waiting here.1 in
      let most = few body.0 (taken ++ i.0 ∷ []) (once_more s.rest s.is) (under body.0 (taken ++ i.0 ∷ []) low_more) in
      omega (arith, length-append taken (i.0 ∷ []))

pub ends : (ns : List Node) (body : NodeId) (taken : List ℕ) (stack : List NodeId) → stack ≡ [] → Taking ns body taken stack → (tree : Elements) (is : IsBody ns tree body) → taken ≡ is.used
ends ns body taken stack e t tree is =
    let none : t.rest ≡ [] = subst (λ z. AllStand ns 200 (on_side Around z) t.rest) e t.stand in
    sym (append-nil taken) ∙ ap (λ z. taken ++ z) (sym none) ∙ t.all tree is
