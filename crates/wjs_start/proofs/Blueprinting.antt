-- Lists of what the first objects are.
use Rattle.std.proofs.Common.{◌≡◌, ℕ, suc, ◌+◌, ◌<◌, ◌≤◌, true, List, [], ◌∷◌, ◌++◌, length, get_or, take, refl, sym, ap, ◌∙◌, arith, append_assoc, length-append}
use Rattle.std.proofs.lemmas.Bool.{and_parts, and_from}
use Rattle.std.proofs.lemmas.List.{take_more, length-take-le}
use Rattle.wjs_base.specs.declared.ids.ObjId.{ObjId}
use Rattle.wjs_arena.specs.declared.native.Native.{Native}
use Rattle.wjs_by_content.specs.Values.{Text}
use Rattle.wjs_by_content.specs.Objects.{Internals}
use Rattle.wjs_meaning.specs.Builtins.{first_object}
use Rattle.wjs_meaning.specs.Start.{native_object, native_objects}
use Rattle.wjs_start.specs.declared.blueprints.Blueprint.{Blueprint}
use Rattle.wjs_start.specs.Blueprints.{built, built_from, is_buildable, are_buildable}

pub built-snoc : (declared : List Text) (n : ℕ) (bs : List Blueprint) (b : Blueprint) → built_from declared n (bs ++ b ∷ []) ≡ built_from declared n bs ++ built declared (first_object (n + length bs)) b ∷ []
built-snoc declared n [] b = let e : n ≡ n + 0 = omega arith in ap (λ m. built declared (first_object m) b ∷ []) e
built-snoc declared n (x ∷ bs) b =
    let e : n + 1 + length bs ≡ n + suc (length bs) = omega arith in
    ap (λ l. built declared (first_object n) x ∷ l) (built-snoc declared (n + 1) bs b ∙ ap (λ m. built_from declared (n + 1) bs ++ built declared (first_object m) b ∷ []) e)

buildable_snoc : (n : ℕ) (bs : List Blueprint) (b : Blueprint) → are_buildable n bs ≡ true → is_buildable (n + length bs) b ≡ true → are_buildable n (bs ++ b ∷ []) ≡ true
buildable_snoc n [] b h k = let e : n + 0 ≡ n = omega arith in and_from (is_buildable n b) true (ap (λ m. is_buildable m b) (sym e) ∙ k) refl
buildable_snoc n (x ∷ bs) b h k =
    let p = and_parts (is_buildable n x) (are_buildable (n + 1) bs) h in
    let e : n + 1 + length bs ≡ n + suc (length bs) = omega arith in
    and_from (is_buildable n x) (are_buildable (n + 1) (bs ++ b ∷ [])) p.0 (buildable_snoc (n + 1) bs b p.1 (ap (λ m. is_buildable m b) e ∙ k))

natives-snoc : (n : ℕ) (ks : List Native) (k : Native) → native_objects n (ks ++ k ∷ []) ≡ native_objects n ks ++ native_object k (first_object (n + length ks)) ∷ []
natives-snoc n [] k = let e : n ≡ n + 0 = omega arith in ap (λ m. native_object k (first_object m) ∷ []) e
natives-snoc n (x ∷ ks) k =
    let e : n + 1 + length ks ≡ n + suc (length ks) = omega arith in
    ap (λ l. native_object x (first_object n) ∷ l) (natives-snoc (n + 1) ks k ∙ ap (λ m. native_objects (n + 1) ks ++ native_object k (first_object m) ∷ []) e)

-- one native more
natives_on : (n : ℕ) (ks : List Native) (i : ℕ) (d : Native) → i < length ks → native_objects n (take (i + 1) ks) ≡ native_objects n (take i ks) ++ native_object (get_or ks i d) (first_object (n + i)) ∷ []
natives_on n ks i d lt =
    ap (native_objects n) (take_more ks i d lt)
    ∙ natives-snoc n (take i ks) (get_or ks i d)
    ∙ ap (λ m. native_objects n (take i ks) ++ native_object (get_or ks i d) (first_object (n + m)) ∷ []) (length-take-le i ks (omega (arith, lt)))

pub all_built : (declared : List Text) (new old first : List Blueprint) (now ks : List Native) (objects : List Internals) (m n : ℕ) → built_from declared 0 new ≡ built_from declared 0 old ++ native_objects m now → old ≡ first → built_from declared 0 first ≡ objects → m ≡ n → now ≡ ks → built_from declared 0 new ≡ objects ++ native_objects n ks
all_built declared new old first now ks objects m n e same is number list =
    e
    ∙ ap (λ l. built_from declared 0 l ++ native_objects m now) same
    ∙ ap (λ l. l ++ native_objects m now) is
    ∙ ap (λ k. objects ++ native_objects k now) number
    ∙ ap (λ l. objects ++ native_objects n l) list

-- a list with natives behind those that were there
pub record Pushed (old new : List Blueprint) (ks : List Native) (i : ℕ) : Type 0 where
  pub many : length new ≡ length old + i
  pub built : (declared : List Text) → built_from declared 0 new ≡ built_from declared 0 old ++ native_objects (length old) (take i ks)
  pub buildable : are_buildable 0 old ≡ true → are_buildable 0 new ≡ true

pub pushed : (old now new : List Blueprint) (b : Blueprint) (ks : List Native) (i : ℕ) (d : Native) → 14 ≤ length old → i < length ks → new ≡ now ++ b ∷ [] → ((declared : List Text) (o : ObjId) → built declared o b ≡ native_object (get_or ks i d) o) → ((n : ℕ) → 14 ≤ n → is_buildable n b ≡ true) → Pushed old now ks i → Pushed old new ks (i + 1)
pushed old now new b ks i d enough lt e is fits h = record {
  many = omega (arith, h.many, ap length e, length-append now (b ∷ []));
  built = λ declared.
      ap (built_from declared 0) e
      ∙ built-snoc declared 0 now b
      ∙ ap (λ l. l ++ built declared (first_object (0 + length now)) b ∷ []) (h.built declared)
      ∙ ap (λ x. built_from declared 0 old ++ native_objects (length old) (take i ks) ++ x ∷ []) (is declared (first_object (0 + length now)))
      ∙ ap (λ m. built_from declared 0 old ++ native_objects (length old) (take i ks) ++ native_object (get_or ks i d) (first_object m) ∷ []) place
      ∙ append_assoc (built_from declared 0 old) (native_objects (length old) (take i ks)) (native_object (get_or ks i d) (first_object (length old + i)) ∷ [])
      ∙ ap (λ l. built_from declared 0 old ++ l) (sym (natives_on (length old) ks i d lt));
  buildable = λ k. ap (are_buildable 0) e ∙ buildable_snoc 0 now b (h.buildable k) (fits (0 + length now) (omega (arith, h.many, enough)));
}
  where
    place : 0 + length now ≡ length old + i
    place = omega (arith, h.many)
