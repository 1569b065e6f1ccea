-- No node stands in two parts of a node.
use Rattle.std.specs.Prelude.{◌≡◌, ℕ, ◌≤◌, List, [], ◌∷◌, ◌++◌}
use Rattle.std.proofs.Common.{sym, ap, subst, inl, inr, arith}
use Rattle.wjs_base.specs.declared.ids.NodeId.{NodeId}
use Rattle.wjs_tree.specs.declared.node.Node.{Node}
use Rattle.wjs_tree.specs.Shows.{Has}
use Rattle.wjs_tree.specs.Used.{IsUsed, IsOnce, AreApart}
use Rattle.wjs_scope.specs.Nesting.{Side, Around, Caught, Inside, parts, IsAmong, LeadsTo, StandsIn}
use Rattle.wjs_scope.proofs.Standing.{Stands, AllStand, left_on}
use Rattle.wjs_scope.proofs.Splitting.{split, node_of}

used_left : (us vs : List ℕ) (n : ℕ) → IsUsed us n → IsUsed (us ++ vs) n
used_left [] vs n h = elim h [ ]
used_left (m ∷ us) vs n (inl e) = inl e
used_left (m ∷ us) vs n (inr h) = inr (used_left us vs n h)

used_right : (us vs : List ℕ) (n : ℕ) → IsUsed vs n → IsUsed (us ++ vs) n
used_right [] vs n h = h
used_right (m ∷ us) vs n h = inr (used_right us vs n h)

once_left : (us vs : List ℕ) → IsOnce (us ++ vs) → IsOnce us
once_left [] vs h = tt
once_left (m ∷ us) vs h = (λ u. h.0 (used_left us vs m u), once_left us vs h.1)

once_right : (us vs : List ℕ) → IsOnce (us ++ vs) → IsOnce vs
once_right [] vs h = h
once_right (m ∷ us) vs h = once_right us vs h.1

once_apart : (us vs : List ℕ) → IsOnce (us ++ vs) → AreApart us vs
once_apart [] vs h n a b = elim a [ ]
once_apart (m ∷ us) vs h n (inl e) b = h.0 (used_right us vs m (subst (IsUsed vs) e b))
once_apart (m ∷ us) vs h n (inr a) b = once_apart us vs h.1 n a b

-- a part stands for a tree whose nodes are among those of all
pub record Found (ns : List Node) (room : ℕ) (p : NodeId × Side) (used : List ℕ) : Type 0 where
  pub own : List ℕ
  pub stands : Stands ns (left_on p.1 room) p.0 own
  pub among : (n : ℕ) → IsUsed own n → IsUsed used n
  pub once : IsOnce used → IsOnce own

first : (ns : List Node) (room : ℕ) (p : NodeId × Side) (used us vs : List ℕ) → used ≡ us ++ vs → Stands ns (left_on p.1 room) p.0 us → Found ns room p used
first ns room p used us vs e s = record {
  own = us;
  stands = s;
  among = λ n h. subst (λ z. IsUsed z n) (sym e) (used_left us vs n h);
  once = λ h. once_left us vs (subst IsOnce e h);
}

behind : (ns : List Node) (room : ℕ) (p : NodeId × Side) (used us vs : List ℕ) → used ≡ us ++ vs → Found ns room p vs → Found ns room p used
behind ns room p used us vs e f = record {
  own = f.own;
  stands = f.stands;
  among = λ n h. subst (λ z. IsUsed z n) (sym e) (used_right us vs n (f.among n h));
  once = λ h. f.once (once_right us vs (subst IsOnce e h));
}

pub found : (ns : List Node) (room : ℕ) (list : List (NodeId × Side)) (p : NodeId × Side) (used : List ℕ) → AllStand ns room list used → IsAmong list p → Found ns room p used
found ns room [] p used a h = elim h [ ]
found ns room (q ∷ more) p used a (inl e) = subst (λ z. Found ns room z used) (sym e) (first ns room q used a.0 a.1 a.2 a.3)
found ns room (q ∷ more) p used a (inr h) = behind ns room p used a.0 a.1 a.2 (found ns room more p a.1 a.4 h)

pub left_small : (side : Side) (room : ℕ) → room ≤ 200 → left_on side room ≤ 200
left_small Around room h = h
left_small (Caught x) room h = omega arith
left_small Inside room h = omega arith

-- what a way leads to is one of the nodes that the tree is made of
pub inside : (ns : List Node) (room : ℕ) → room ≤ 200 → (i : NodeId) (used : List ℕ) (way : List (NodeId × Side)) (j : NodeId) → Stands ns room i used → LeadsTo ns i way j → IsUsed used j.0
inside ns room small i used [] j s h =
    let node = node_of ns room i used s in
    let here = split ns room small i used s node.0 node.1 in
    subst (λ z. IsUsed z j.0) (sym here.is) (inl (ap (λ (z : NodeId). z.0) h))
inside ns room small i used (p ∷ way) j s h =
    let here = split ns room small i used s h.0 h.1 in
    let part = found ns room (parts h.0) p here.rest here.each h.2 in
    subst (λ z. IsUsed z j.0) (sym here.is) (inr (part.among j.0 (inside ns (left_on p.1 room) (left_small p.1 room small) p.0 part.own way j part.stands h.3)))

-- no node stands in both
abbrev pub AreSeparate : List Node → NodeId → NodeId → Type 0
AreSeparate ns i j = (x : NodeId) → StandsIn ns i x → StandsIn ns j x → ⊥

-- each part is separate from those behind it
abbrev pub AllSeparate : List Node → List (NodeId × Side) → Type 0
AllSeparate ns [] = Unit {0}
AllSeparate ns (p ∷ more) = ((q : NodeId × Side) → IsAmong more q → AreSeparate ns p.0 q.0) × AllSeparate ns more

pub separate : (ns : List Node) (room : ℕ) → room ≤ 200 → (list : List (NodeId × Side)) (used : List ℕ) → AllStand ns room list used → IsOnce used → AllSeparate ns list
separate ns room small [] used a once = tt
separate ns room small (p ∷ more) used a once =
    let both = subst IsOnce a.2 once in (
      λ q h x way other.
          (let part = found ns room more q a.1 a.4 h in
          once_apart a.0 a.1 both x.0 (inside ns (left_on p.1 room) (left_small p.1 room small) p.0 a.0 way.0 x a.3 way.1)
          (part.among x.0 (inside ns (left_on q.1 room) (left_small q.1 room small) q.0 part.own other.0 x part.stands other.1))),
      separate ns room small more a.1 a.4 (once_right a.0 a.1 both),
    )

-- what stands in a part stands in the node
pub within_part : (ns : List Node) (i : NodeId) (node : Node) (p : NodeId × Side) (x : NodeId) → Has ns i node → IsAmong (parts node) p → StandsIn ns p.0 x → StandsIn ns i x
within_part ns i node p x has among h = (p ∷ h.0, (node, has, among, h.1))
