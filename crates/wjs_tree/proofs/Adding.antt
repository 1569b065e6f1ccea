-- A node is added with its facts.
use Rattle.std.specs.Prelude.{◌≡◌, ℕ, zero, suc, false, ◌+◌, ◌<◌, ◌≤◌, ◌⊎◌, List, [], ◌∷◌, ◌++◌, length, Option, Some, None, unwrap_or, slice_get}
use Rattle.std.proofs.Common.{ap, sym, subst, ◌∙◌, refl, arith, get_or, inl, inr, length-append}
use Rattle.std.proofs.lemmas.List.{take-append-le}
use Rattle.std.proofs.Math.Seq.{take-append_seam}
use Rattle.std.proofs.lemmas.Option.{slice_get_within, slice_get_read}
use Rattle.wjs_base.proofs.Lists.{get_last, get_pushed}
use Rattle.wjs_base.specs.declared.ids.NodeId.{NodeId}
use Rattle.wjs_tree.specs.declared.node.Node.{Node}
use Rattle.wjs_tree.specs.declared.facts.Facts.{Facts}
use Rattle.wjs_tree.specs.Children.{ChildrenBelow}
use Rattle.wjs_tree.specs.Facts.{fact_at, height_at, AreFacts, IsKept, AreKept, IsLow}
use Rattle.wjs_tree.specs.Shows.{Keeps}

get-front : {T : Type 0} (xs : List T) (y : T) (i : ℕ) (x : T) → slice_get xs i ≡ Some x → slice_get (xs ++ y ∷ []) i ≡ Some x
get-front [] y i x h = absurd (cc)
get-front (z ∷ xs) y zero x h = h
get-front (z ∷ xs) y (suc i) x h = get-front xs y i x h

-- the nodes that were there stay
pub keeps_added : (ns : List Node) (node : Node) → Keeps ns (ns ++ node ∷ [])
keeps_added ns node = record { same = λ i x h. get-front ns node i x h; longer = simp length-append (omega arith) }

none_within : {T : Type 0} (xs : List T) (i : ℕ) → i < length xs → slice_get xs i ≡ None → ⊥
none_within [] i lt h = absurd (omega arith)
none_within (x ∷ xs) zero lt h = cc
none_within (x ∷ xs) (suc i) lt h = none_within xs i (omega arith) h

module _ (ns : List Node) (facts : List Facts) (kept : AreKept ns facts) where
  stored_low : (a : NodeId) (o : Option Facts) → slice_get facts a.0 ≡ o → height_at facts a ≤ length facts
  stored_low a None h = let q : height_at facts a ≡ 0 = ap (λ (o : Option Facts). (unwrap_or o (record { level = 0; height = 0; is_target = false; starts_with_brace = false })).height) h in omega arith
  stored_low a (Some f) h =
      let lt : a.0 < length facts = slice_get_within facts a.0 f h in
      let q : height_at facts a ≡ f.height = ap (λ (o : Option Facts). (unwrap_or o (record { level = 0; height = 0; is_target = false; starts_with_brace = false })).height) h in
      there lt q (slice_get ns a.0) refl
    where
      there : a.0 < length facts → height_at facts a ≡ f.height → (o : Option Node) → slice_get ns a.0 ≡ o → height_at facts a ≤ length facts
      there lt q None e = absurd (let l = kept.same_length in let z : a.0 < length ns = omega arith in none_within ns a.0 z e)
      there lt q (Some node) e = let k = kept.each a.0 node e in let own : k.own ≡ f = (let s = k.stored in cc) in let r : k.own.height ≡ f.height = ap (λ (z : Facts). z.height) own in let w = k.low in omega arith

  pub low : IsLow facts
  low a = stored_low a (slice_get facts a.0) refl

  one : (node : Node) (own : Facts) → ChildrenBelow (length ns) node → AreFacts facts node own → own.height ≤ length facts + 1 → (i : ℕ) (x : Node) → (slice_get ns i ≡ Some x) ⊎ ((i ≡ length ns) × (node ≡ x)) → IsKept (facts ++ own ∷ []) i x
  one node own below right small i x (inl h) =
      let k = kept.each i x h in
      let lt : i < length ns = slice_get_within ns i x h in
      let l = kept.same_length in
      record {
        below = k.below;
        own = k.own;
        stored = get-front facts own i k.own k.stored;
        right = subst (λ (z : List Facts). AreFacts z x k.own) (sym (take-append-le i facts (own ∷ []) (omega arith))) k.right;
        low = k.low;
      }
  one node own below right small i x (inr q) =
      let l = kept.same_length in
      let here : IsKept (facts ++ own ∷ []) (length facts) node = record {
        below = subst (λ (z : ℕ). ChildrenBelow z node) (sym l) below;
        own = own;
        stored = get_last facts own;
        right = subst (λ (z : List Facts). AreFacts z node own) (sym (take-append_seam facts (own ∷ []))) right;
        low = small;
      } in
      subst (λ (z : ℕ). IsKept (facts ++ own ∷ []) z x) (l ∙ sym q.0) (subst (λ (z : Node). IsKept (facts ++ own ∷ []) (length facts) z) q.1 here)

  pub added : (node : Node) (own : Facts) → ChildrenBelow (length ns) node → AreFacts facts node own → own.height ≤ length facts + 1 → AreKept (ns ++ node ∷ []) (facts ++ own ∷ [])
  added node own below right small = record {
    same_length = (let l = kept.same_length in simp length-append (omega arith));
    each = λ i x h. one node own below right small i x (get_pushed ns node i x h);
  }

-- the facts that are read at a place
pub read : (facts : List Facts) (i : NodeId) (f : Facts) → i.0 < length facts → f ≡ get_or facts i.0 f → f ≡ fact_at facts i
read facts i f lt e = ap (λ (o : Option Facts). unwrap_or o (record { level = 0; height = 0; is_target = false; starts_with_brace = false })) (sym (slice_get_read facts (length facts) i.0 f refl lt e))
