-- The objects that stand for worlds, by the owners of the worlds.
use Rattle.std.proofs.Common.{◌≡◌, ℕ, ◌==◌, Bool, true, false, not, cond, List, [], ◌∷◌, ◌++◌, Option, None, Some, refl, sym, ap, ◌∙◌, eqb-true, eq-eqb, Ordering}
use Rattle.std.specs.Option.{option_or, option_map_or}
use Rattle.std.specs.Ordering.{nat_cmp, eq_by_cmp}
use Rattle.std.specs.Cmp.{IsTotalOrder, eq_by_cmp_equiv, unsigned_tied, Equal-is}
use Rattle.std.specs.FinMap as map
use Rattle.std.specs.FinMap.{FinMap, IsAntisymmetric}
use Rattle.std.specs.Map.{lookup}
use Rattle.std.specs.BTreeMap.{BTreeMap, get, is_at}
use Rattle.wjs_base.specs.declared.ids.ObjId.{ObjId}
use Rattle.wjs_base.specs.declared.ids.WorldId.{WorldId}
use Rattle.wjs_base.specs.Order.{world_cmp, world_exact, world_total}
use Rattle.wjs_base.proofs.Booleans.{by_bool}
use Rattle.wjs_base.proofs.Trees.{find_lookup}
use Rattle.wjs_arena.specs.Kept.{worlds_in}
use Rattle.wjs_arena.proofs.Owners.{eq_turned}

-- ---- one map over another, and some keys of one

module _ {K V : Type 0} {R : K → K → Ordering} (total : IsTotalOrder R) where
  find_either : (k : K) (xs ys : List (K × V)) → map.find R k (xs ++ ys) ≡ option_or (map.find R k xs) (map.find R k ys)
  find_either k [] ys = refl
  find_either k (x ∷ xs) ys = by (eq_by_cmp R k x.0) (find_either k xs ys)
    where
      by : (b : Bool) → map.find R k (xs ++ ys) ≡ option_or (map.find R k xs) (map.find R k ys) → cond b (Some x.1) (map.find R k (xs ++ ys)) ≡ option_or (cond b (Some x.1) (map.find R k xs)) (map.find R k ys)
      by true e = refl
      by false e = e

  pub get_over : (a b : FinMap R V) (k : K) → map.get (map.from_entries {R = R} (map.entries a ++ map.entries b)) k ≡ option_or (map.get a k) (map.get b k)
  get_over a b k =
      map.get-from_entries total (map.entries a ++ map.entries b) k
      ∙ find_either k (map.entries a) (map.entries b)
      ∙ (λ i. option_or (sym (map.get-entries a k) i) (sym (map.get-entries b k) i))

  pub get_retained : (exact : IsAntisymmetric R) (m : FinMap R V) (p : K → Bool) (k : K) → map.get (map.retain_keys m p) k ≡ cond (p k) (map.get m k) None
  get_retained exact m p k = map.get-retain_keys m p k (λ z t. sym (ap p (exact k z t)))

pub or_none : {A : Type 0} (r : Option A) → option_or r None ≡ r
or_none None = refl
or_none (Some x) = refl

-- ---- what is there

module _ {V : Type 0} (items : V → List (WorldId × ObjId)) where
  -- the list of an owner
  abbrev pub list_of : Option V → List (WorldId × ObjId)
  list_of r = option_map_or items r []

  pub get_worlds : (xs : List (ℕ × V)) (w : WorldId) → map.get (worlds_in items xs) w ≡ map.find world_cmp w (list_of (lookup (is_at (nat_cmp w.owner)) xs))
  get_worlds [] w = map.get-empty world_cmp w
  get_worlds (x ∷ xs) w =
      let own = map.from_entries {R = world_cmp} (items x.1) in
      let more = worlds_in items xs in
      get_over world_total (map.retain_keys own (λ v. v.owner == x.0)) (map.retain_keys more (λ v. not (v.owner == x.0))) w
      ∙ (λ i. option_or (get_retained world_total world_exact own (λ v. v.owner == x.0) w i) (get_retained world_total world_exact more (λ v. not (v.owner == x.0)) w i))
      ∙ by (w.owner == x.0) (get_worlds xs w)
      ∙ ap (λ b. map.find world_cmp w (list_of (cond b (Some x.1) (lookup (is_at (nat_cmp w.owner)) xs)))) (sym (unsigned_tied w.owner x.0))
    where
      by : (b : Bool) → map.get (worlds_in items xs) w ≡ map.find world_cmp w (list_of (lookup (is_at (nat_cmp w.owner)) xs))
          → option_or (cond b (map.get (map.from_entries {R = world_cmp} (items x.1)) w) None) (cond (not b) (map.get (worlds_in items xs) w) None)
          ≡ map.find world_cmp w (list_of (cond b (Some x.1) (lookup (is_at (nat_cmp w.owner)) xs)))
      by true rest = or_none _ ∙ map.get-from_entries world_total (items x.1) w
      by false rest = rest

  -- those of one owner's worlds are others now, or none; the rest are the same
  pub changed : (m n : List (ℕ × V)) (owner : ℕ) (now : Option V) → ((q : ℕ) → lookup (is_at (nat_cmp q)) n ≡ cond (is_at (nat_cmp owner) q) now (lookup (is_at (nat_cmp q)) m))
      → (w : WorldId) → map.get (worlds_in items n) w ≡ cond (w.owner == owner) (map.find world_cmp w (list_of now)) (map.get (worlds_in items m) w)
  changed m n owner now h w =
      get_worlds n w
      ∙ ap (λ (r : Option V). map.find world_cmp w (list_of r)) (h w.owner)
      ∙ ap (λ b. map.find world_cmp w (list_of (cond b now (lookup (is_at (nat_cmp w.owner)) m)))) (unsigned_tied owner w.owner ∙ eq_turned owner w.owner)
      ∙ by (w.owner == owner)
    where
      by : (b : Bool) → map.find world_cmp w (list_of (cond b now (lookup (is_at (nat_cmp w.owner)) m))) ≡ cond b (map.find world_cmp w (list_of now)) (map.get (worlds_in items m) w)
      by true = refl
      by false = sym (get_worlds m w)

  -- an owner's list is what there is of its worlds
  pub of_owner : (m : List (ℕ × V)) (owner : ℕ) (now : Option V) → lookup (is_at (nat_cmp owner)) m ≡ now → (w : WorldId) → w.owner ≡ owner → map.find world_cmp w (list_of now) ≡ map.get (worlds_in items m) w
  of_owner m owner now h w o = ap (λ r. map.find world_cmp w (list_of r)) (sym (ap (λ q. lookup (is_at (nat_cmp q)) m) o ∙ h)) ∙ sym (get_worlds m w)

  -- one world more, or less
  one : (m n : List (ℕ × V)) (w : WorldId) (now : V) (v : Option ObjId) → ((q : ℕ) → lookup (is_at (nat_cmp q)) n ≡ cond (is_at (nat_cmp w.owner) q) (Some now) (lookup (is_at (nat_cmp q)) m))
      → ((q : WorldId) → map.find world_cmp q (items now) ≡ cond (is_at (world_cmp w) q) v (map.find world_cmp q (list_of (lookup (is_at (nat_cmp w.owner)) m))))
      → (q : WorldId) → map.get (worlds_in items n) q ≡ cond (eq_by_cmp world_cmp q w) v (map.get (worlds_in items m) q)
  one m n w now v h into q =
      changed m n w.owner (Some now) h q
      ∙ by (q.owner == w.owner) refl
    where
      turned : is_at (world_cmp w) q ≡ eq_by_cmp world_cmp q w
      turned = (eq_by_cmp_equiv world_total).symm w q

      -- a world of another owner is another world
      not_it : (q.owner == w.owner) ≡ false → eq_by_cmp world_cmp q w ≡ false
      not_it f = by_bool (eq_by_cmp world_cmp q w)
          (λ t. let same : q ≡ w = world_exact q w ((Equal-is (world_cmp q w)).0 t) in absurd (apart_owner f (ap (λ (z : WorldId). z.owner) same)))
          (λ e. e)
        where
          apart_owner : (q.owner == w.owner) ≡ false → q.owner ≡ w.owner → ⊥
          apart_owner f e = let t : (q.owner == w.owner) ≡ true = eq-eqb q.owner w.owner e in cc

      by : (b : Bool) → (q.owner == w.owner) ≡ b → cond b (map.find world_cmp q (items now)) (map.get (worlds_in items m) q) ≡ cond (eq_by_cmp world_cmp q w) v (map.get (worlds_in items m) q)
      by true e =
          into q
          ∙ (λ i. cond (turned i) v (of_owner m w.owner (lookup (is_at (nat_cmp w.owner)) m) refl q (eqb-true q.owner w.owner e) i))
      by false e = sym (ap (λ b. cond b v (map.get (worlds_in items m) q)) (not_it e))

  pub one_more : (m n : List (ℕ × V)) (w : WorldId) (now : V) (o : ObjId) → ((q : ℕ) → lookup (is_at (nat_cmp q)) n ≡ cond (is_at (nat_cmp w.owner) q) (Some now) (lookup (is_at (nat_cmp q)) m))
      → ((q : WorldId) → map.find world_cmp q (items now) ≡ cond (is_at (world_cmp w) q) (Some o) (map.find world_cmp q (list_of (lookup (is_at (nat_cmp w.owner)) m))))
      → worlds_in items n ≡ map.insert (worlds_in items m) w o
  one_more m n w now o h into = map.same_map world_total world_exact _ _ (λ q. one m n w now (Some o) h into q ∙ sym (map.get-insert world_total (worlds_in items m) w o q))

  pub one_less : (m n : List (ℕ × V)) (w : WorldId) (now : V) → ((q : ℕ) → lookup (is_at (nat_cmp q)) n ≡ cond (is_at (nat_cmp w.owner) q) (Some now) (lookup (is_at (nat_cmp q)) m))
      → ((q : WorldId) → map.find world_cmp q (items now) ≡ cond (is_at (world_cmp w) q) None (map.find world_cmp q (list_of (lookup (is_at (nat_cmp w.owner)) m))))
      → worlds_in items n ≡ map.remove (worlds_in items m) w
  one_less m n w now h into = map.same_map world_total world_exact _ _ (λ q. one m n w now None h into q ∙ sym (map.get-remove world_total (worlds_in items m) w q))

  -- where its owner has no list
  pub none_less : (m : List (ℕ × V)) (w : WorldId) → lookup (is_at (nat_cmp w.owner)) m ≡ None → worlds_in items m ≡ map.remove (worlds_in items m) w
  none_less m w none = map.same_map world_total world_exact _ _ (λ q. by_bool (eq_by_cmp world_cmp q w)
      (λ t. gone q (world_exact q w ((Equal-is (world_cmp q w)).0 t)) ∙ sym (map.get-remove world_total (worlds_in items m) w q ∙ ap (λ b. cond b None (map.get (worlds_in items m) q)) t))
      (λ f. sym (map.get-remove world_total (worlds_in items m) w q ∙ ap (λ b. cond b None (map.get (worlds_in items m) q)) f)))
    where
      gone : (q : WorldId) → q ≡ w → map.get (worlds_in items m) q ≡ None
      gone q e = sym (of_owner m w.owner None none q (ap (λ (z : WorldId). z.owner) e))

  -- a list that was written back as it was
  pub written_back : (m n : List (ℕ × V)) (owner : ℕ) (now : V) → ((q : ℕ) → lookup (is_at (nat_cmp q)) n ≡ cond (is_at (nat_cmp owner) q) (Some now) (lookup (is_at (nat_cmp q)) m))
      → items now ≡ list_of (lookup (is_at (nat_cmp owner)) m) → worlds_in items n ≡ worlds_in items m
  written_back m n owner now h is = map.same_map world_total world_exact _ _ (λ w. changed m n owner (Some now) h w ∙ by w (w.owner == owner) refl)
    where
      by : (w : WorldId) (b : Bool) → (w.owner == owner) ≡ b → cond b (map.find world_cmp w (items now)) (map.get (worlds_in items m) w) ≡ map.get (worlds_in items m) w
      by w true e = ap (map.find world_cmp w) is ∙ of_owner m owner (lookup (is_at (nat_cmp owner)) m) refl w (eqb-true w.owner owner e)
      by w false e = refl

-- what is no value is none
pub none_if : {A : Type 0} (r : Option A) → ((x : A) → r ≡ Some x → ⊥) → r ≡ None
none_if None h = refl
none_if (Some x) h = absurd (h x refl)

-- ---- of a tree

-- an entry of a tree is found by its list
pub in_tree : (tree : BTreeMap WorldId ObjId) (w : WorldId) → map.find world_cmp w tree.entries ≡ get world_cmp tree w
in_tree tree w = find_lookup world_cmp tree.entries w
