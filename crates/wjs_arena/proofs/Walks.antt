-- Chains end, since each prototype is less deep.
use Rattle.std.proofs.Common.{◌≡◌, ℕ, zero, suc, ◌<◌, ◌≤◌, true, false, cond, List, [], ◌∷◌, Option, None, Some, refl, sym, ap, ◌∙◌, subst, arith, IsTrue, is_some, IfSome}
use Rattle.std.specs.FinMap as map
use Rattle.wjs_base.specs.declared.ids.ObjId.{ObjId}
use Rattle.wjs_arena.specs.Entries.{Objects, Entry, has, prototype_of, depth_at, depth_of, IsThere, IsArena}
use Rattle.std.specs.Option.{option_and_then}
use Rattle.wjs_base.specs.declared.values.Name.{Name}
use Rattle.wjs_arena.specs.declared.object.Object.{Object}
use Rattle.wjs_arena.specs.AtName.{at_name}
use Rattle.wjs_arena.specs.Chains.{chain_from, none_fixed, fixed}

module _ (m : Objects) (a : IsArena m) where
  pub there_next : (o : ObjId) (p : Option ObjId) → prototype_of m o ≡ p → IsThere m p
  there_next o None h = tt
  there_next o (Some p) h = (a.prototypes o p h).0

  pub less_deep : (o : ObjId) (p : Option ObjId) → IsTrue (has m o) → prototype_of m o ≡ p → depth_of m p < depth_at m o
  less_deep o None there h = a.deep o there
  less_deep o (Some p) there h = (a.prototypes o p h).1

  -- more than the depth is enough
  pub enough : (n k : ℕ) (o : Option ObjId) → IsThere m o → depth_of m o ≤ n → depth_of m o ≤ k → chain_from n m o ≡ chain_from k m o
  unfolding chain_from
  enough zero zero o there l l' = refl
  enough zero (suc k) None there l l' = refl
  enough zero (suc k) (Some o) there l l' = let d = a.deep o there in absurd (omega arith)
  enough (suc n) zero None there l l' = refl
  enough (suc n) zero (Some o) there l l' = let d = a.deep o there in absurd (omega arith)
  enough (suc n) (suc k) None there l l' = refl
  enough (suc n) (suc k) (Some o) there l l' =
      let d = less_deep o (prototype_of m o) there refl in
      let i : depth_of m (prototype_of m o) ≤ n = omega arith in
      let j : depth_of m (prototype_of m o) ≤ k = omega arith in
      ap (λ os. o ∷ os) (enough n k (prototype_of m o) (there_next o (prototype_of m o) refl) i j)

  -- the chain is the object and the rest of it
  pub chain_step : (o : ObjId) (p : Option ObjId) → IsTrue (has m o) → prototype_of m o ≡ p → chain_from (depth_at m o) m (Some o) ≡ o ∷ chain_from (depth_of m p) m p
  unfolding chain_from
  chain_step o p there is =
      let d = a.deep o there in
      by_depth (depth_at m o) d (less_deep o p there is)
    where
      by_depth : (n : ℕ) → 0 < n → depth_of m p < n → chain_from n m (Some o) ≡ o ∷ chain_from (depth_of m p) m p
      by_depth zero i j = absurd (omega arith)
      by_depth (suc n) i j =
          let l : depth_of m p ≤ n = omega arith in
          let l' : depth_of m p ≤ depth_of m p = omega arith in
          ap (λ (q : Option ObjId). o ∷ chain_from n m q) is ∙ ap (λ os. o ∷ os) (enough n (depth_of m p) p (there_next o p is) l l')

pub chain_none : (m : Objects) (o : Option ObjId) → o ≡ None → chain_from (depth_of m o) m o ≡ []
unfolding chain_from
chain_none m None h = refl
chain_none m (Some o) h = cc

-- the prototype of an object that was found
pub link_is : (m : Objects) (o : ObjId) (x : Object) → IsTrue (has m o) → IfSome (map.get m o) (λ (e : Entry). x ≡ e.object) → prototype_of m o ≡ x.prototype
link_is m o x there h = at (map.get m o) there h
  where
    at : (r : Option Entry) → is_some r ≡ true → IfSome r (λ (e : Entry). x ≡ e.object) → option_and_then (λ (e : Entry). e.object.prototype) r ≡ x.prototype
    at None there h = cc
    at (Some e) there h = ap (λ (z : Object). z.prototype) (sym h)

-- and its fixed properties
pub fixed_is : (m : Objects) (o : ObjId) (x : Object) (name : Name) → IsTrue (has m o) → IfSome (map.get m o) (λ (e : Entry). x ≡ e.object) → fixed m o name ≡ at_name x.fixed name
fixed_is m o x name there h = at (map.get m o) there h
  where
    at : (r : Option Entry) → is_some r ≡ true → IfSome r (λ (e : Entry). x ≡ e.object) → option_and_then (λ (e : Entry). at_name e.object.fixed name) r ≡ at_name x.fixed name
    at None there h = cc
    at (Some e) there h = ap (λ (z : Object). at_name z.fixed name) (sym h)

pub there_by : (m : Objects) (o : Option ObjId) (id : ObjId) → o ≡ Some id → IsThere m o → IsTrue (has m id)
there_by m o id is there = subst (IsThere m) is there

-- one object of the chain has the name fixed, or the rest of it decides
pub fixed_here : (m : Objects) (os : List ObjId) (id : ObjId) (rest : List ObjId) (name : Name) → os ≡ id ∷ rest → is_some (fixed m id name) ≡ true → none_fixed m os name ≡ false
fixed_here m os id rest name is h = ap (λ (z : List ObjId). none_fixed m z name) is ∙ ap (λ b. cond b false (none_fixed m rest name)) h

pub not_fixed_here : (m : Objects) (os : List ObjId) (id : ObjId) (rest : List ObjId) (name : Name) → os ≡ id ∷ rest → is_some (fixed m id name) ≡ false → none_fixed m os name ≡ none_fixed m rest name
not_fixed_here m os id rest name is h = ap (λ (z : List ObjId). none_fixed m z name) is ∙ ap (λ b. cond b false (none_fixed m rest name)) h

pub none_of : (o : Option ObjId) → ((id : ObjId) → o ≡ Some id → ⊥) → o ≡ None
none_of None h = refl
none_of (Some id) h = absurd (h id refl)
