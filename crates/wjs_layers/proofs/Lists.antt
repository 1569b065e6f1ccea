-- The list of a map's entries, seen as a finite map.
use Rattle.std.proofs.Common.{◌≡◌, cond, List, [], ◌∷◌, Option, None, Some, refl, ap, sym, ◌∙◌, Bool, true, false}
use Rattle.std.specs.declared.cmp.Ordering.{Ordering}
use Rattle.std.specs.Ordering.{eq_by_cmp}
use Rattle.std.specs.Cmp.{IsTotalOrder, eq_by_cmp_equiv}
use Rattle.std.specs.FinMap as map
use Rattle.std.specs.FinMap.{IsAntisymmetric}
use Rattle.std.specs.Map.{lookup, lookup_entry, lookup_key}
use Rattle.std.specs.Option.{option_map}
use Rattle.std.specs.BTreeMap.{is_at}
use Rattle.wjs_base.proofs.Trees.{find_lookup}

module _ {K V : Type 0} {R : K → K → Ordering} (total : IsTotalOrder R) where
  pub get_list : (es : List (K × V)) (q : K) → map.get (map.from_entries {R = R} es) q ≡ lookup (is_at (R q)) es
  get_list es q = map.get-from_entries total es q ∙ find_lookup R es q

  module _ (exact : IsAntisymmetric R) where
    pub insert_list : (es fs : List (K × V)) (k : K) (v : V) → ((q : K) → lookup (is_at (R q)) fs ≡ cond (is_at (R k) q) (Some v) (lookup (is_at (R q)) es)) → map.from_entries {R = R} fs ≡ map.insert (map.from_entries es) k v
    insert_list es fs k v h = map.same_map total exact _ _ (λ q.
        get_list fs q ∙ h q ∙ ap (λ b. cond b (Some v) (lookup (is_at (R q)) es)) ((eq_by_cmp_equiv total).symm k q)
        ∙ sym (map.get-insert total (map.from_entries es) k v q ∙ ap (cond (eq_by_cmp R q k) (Some v)) (get_list es q)))

    pub remove_list : (es fs : List (K × V)) (k : K) → ((q : K) → lookup (is_at (R q)) fs ≡ cond (is_at (R k) q) None (lookup (is_at (R q)) es)) → map.from_entries {R = R} fs ≡ map.remove (map.from_entries es) k
    remove_list es fs k h = map.same_map total exact _ _ (λ q.
        get_list fs q ∙ h q ∙ ap (λ b. cond b None (lookup (is_at (R q)) es)) ((eq_by_cmp_equiv total).symm k q)
        ∙ sym (map.get-remove total (map.from_entries es) k q ∙ ap (cond (eq_by_cmp R q k) None) (get_list es q)))

-- the key of the first entry that passes
pub key_of_entry : {K V : Type 0} (p : K → Bool) (es : List (K × V)) → lookup_key p es ≡ option_map (λ (e : K × V). e.0) (lookup_entry p es)
key_of_entry p [] = refl
key_of_entry p (e ∷ es) = by_test (p e.0) e (lookup_key p es) (lookup_entry p es) (key_of_entry p es)
  where
    by_test : {K V : Type 0} (b : Bool) (e : K × V) (o : Option K) (q : Option (K × V)) → o ≡ option_map (λ (e : K × V). e.0) q → cond b (Some e.0) o ≡ option_map (λ (e : K × V). e.0) (cond b (Some e) q)
    by_test true e o q h = refl
    by_test false e o q h = h

pub key_none : {K V : Type 0} (p : K → Bool) (es : List (K × V)) → None ≡ lookup_entry p es → None ≡ lookup_key p es
key_none p es h = ap (option_map (λ e. e.0)) h ∙ sym (key_of_entry p es)

pub key_some : {K V : Type 0} (p : K → Bool) (es : List (K × V)) (d : K × V) → Some d ≡ lookup_entry p es → Some d.0 ≡ lookup_key p es
key_some p es d h = ap (option_map (λ e. e.0)) h ∙ sym (key_of_entry p es)
