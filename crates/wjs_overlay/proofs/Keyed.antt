-- The next entry of a map.
use Rattle.std.proofs.Common.{◌≡◌, ◌+◌, ◌≤◌, Bool, true, false, not, Option, None, Some, is_some, MatchOption, refl, ap, sym, ◌∙◌, subst}
use Rattle.std.specs.declared.cmp.Ordering.{Ordering}
use Rattle.std.specs.declared.cmp.Ordering.TheVariants.{Less, Equal, Greater}
use Rattle.std.specs.Ordering.{is_lt, ordering_reverse}
use Rattle.std.specs.Option.{option_map}
use Rattle.std.specs.Cmp.{IsTotalOrder}
use Rattle.std.specs.FinMap as map
use Rattle.std.specs.FinMap.{FinMap, IsAntisymmetric}
use Rattle.std.specs.Map.{lookup_entry}
use Rattle.std.proofs.lemmas.Bool.{true≢false, false≢true}
use Rattle.std.proofs.lemmas.Option.{same_Some}
use Rattle.wjs_base.proofs.Booleans.{by_bool}
use Rattle.wjs_base.proofs.Options.{by_option, no_none}
use Rattle.wjs_base.proofs.Orders.{not_self, lt_trans}
use Rattle.wjs_rows.specs.Order.{is_after}
use Rattle.wjs_layers.specs.Cursor.{is_prior, count_passing}
use Rattle.wjs_overlay.proofs.Counts.{count_lt}
use Rattle.wjs_layers.proofs.Cursors.{first_is}

-- the key of an entry
abbrev pub key_of : {K V : Type 0} → Option (K × V) → Option K
key_of d = option_map (λ e. e.0) d

-- the entry that was found, and what it says of the map
pub record Found {K V : Type 0} {R : K → K → Ordering} (m : FinMap R V) (p : K → Bool) (d : Option (K × V)) : Type 0 where
  pub there : (e : K × V) → d ≡ Some e → map.get m e.0 ≡ Some e.1
  pub passes : (e : K × V) → d ≡ Some e → p e.0 ≡ true
  pub gone : (t : K) → p t ≡ true → is_prior R t (key_of d) ≡ true → map.get m t ≡ None

module _ {K V : Type 0} {R : K → K → Ordering} (total : IsTotalOrder R) (exact : IsAntisymmetric R) (m : FinMap R V) where
  found_of : (p : K → Bool) (d : Option (K × V)) → MatchOption d ((q : K) → p q ≡ true → map.get m q ≡ None) (λ e. (p e.0 ≡ true) × (map.get m e.0 ≡ Some e.1) × ((q : K) → p q ≡ true → is_some (map.get m q) ≡ true → is_lt (R q e.0) ≡ false)) → Found m p d
  found_of p None g = record { there = λ e h. no_none e h; passes = λ e h. no_none e h; gone = λ t h b. g t h }
  found_of p (Some d) g = record {
    there = λ e h. let is = same_Some d e h in subst (λ (z : K × V). map.get m z.0 ≡ Some z.1) is g.1;
    passes = λ e h. let is = same_Some d e h in subst (λ (z : K × V). p z.0 ≡ true) is g.0;
    gone = λ t h b. by_option (map.get m t) (λ z. z) (λ v z. absurd (true≢false (sym b ∙ g.2 t h (ap is_some z))));
  }

  pub found_is : (p : K → Bool) (d : Option (K × V)) → d ≡ lookup_entry p (map.entries m) → Found m p d
  found_is p d e = subst (Found m p) (sym e) (found_of p (lookup_entry p (map.entries m)) (first_is total exact p m))

  -- what comes before one comes before the next
  pub prior_next : (k t : K) (d : Option (K × V)) → Found m (is_after R k) d → is_lt (R t k) ≡ true → is_prior R t (key_of d) ≡ true
  prior_next k t None f h = refl
  prior_next k t (Some e) f h = lt_trans total t k e.0 h (f.passes e refl)

  pub self_prior : (k : K) (d : Option (K × V)) → Found m (is_after R k) d → is_prior R k (key_of d) ≡ true
  self_prior k None f = refl
  self_prior k (Some e) f = f.passes e refl

  -- fewer are left
  pub fewer : (k : K) (d : Option (K × V)) → Found m (is_after R k) d → is_some (map.get m k) ≡ true → count_passing (λ t. not (is_prior R t (key_of d))) (map.keys m) + 1 ≤ count_passing (λ t. not (is_prior R t (Some k))) (map.keys m)
  fewer k d f h = count_lt exact (λ t. not (is_prior R t (Some k))) (λ t. not (is_prior R t (key_of d))) (map.keys m) k
      (λ t q. by_bool (is_lt (R t k)) (λ e. absurd (false≢true (ap not (sym (prior_next k t d f e)) ∙ q))) (λ e. ap not e))
      (sym (map.contains_key-keys m k) ∙ h)
      (ap not (not_self total k))
      (ap not (self_prior k d f))

pub key_there : {K V : Type 0} {R : K → K → Ordering} (m : FinMap R V) (p : K → Bool) (d : Option (K × V)) → Found m p d → (k : K) → key_of d ≡ Some k → map.contains_key m k ≡ true
key_there m p None f k h = no_none k h
key_there m p (Some e) f k h = ap (map.contains_key m) (sym (same_Some e.0 k h)) ∙ ap is_some (f.there e refl)

-- one is before another, is it, or comes after
pub by_order : {P : Type 0} {K : Type 0} {R : K → K → Ordering} → IsTotalOrder R → IsAntisymmetric R → (t k : K) → (is_lt (R t k) ≡ true → P) → (t ≡ k → P) → (is_lt (R k t) ≡ true → P) → P
by_order {P = P} {R = R} total exact t k f g h = cases (R t k) refl
  where
    cases : (c : Ordering) → R t k ≡ c → P
    cases Less e = f (ap is_lt e)
    cases Equal e = g (exact t k e)
    cases Greater e = h (ap is_lt (total.antisymm k t ∙ ap ordering_reverse e))
