-- Names that ascend, and the parts that spell them.
use Rattle.std.proofs.Common.{◌≡◌, ℕ, zero, suc, ◌+◌, true, ◌&&◌, T, List, [], ◌∷◌, ◌++◌, map as each, length, slice_get, Some, refl, ap, sym, subst, ◌∙◌, append_assoc, arith, All, Ordering}
use Rattle.std.specs.declared.cmp.Ordering.TheVariants.{Less, Equal, Greater}
use Rattle.std.specs.Ordering.{is_lt}
use Rattle.std.specs.FinMap as map
use Rattle.std.specs.FinMap.Entries.{below_all}
use Rattle.std.proofs.lemmas.List.{length-append, get_or_at}
use Rattle.std.proofs.lemmas.List.Elements.{All-head, All-tail}
use Rattle.wjs_base.specs.declared.ids.TextId.{TextId}
use Rattle.wjs_base.specs.declared.values.Name.{Name}
use Rattle.wjs_base.specs.Order.{name_cmp, name_total}
use Rattle.wjs_base.proofs.Booleans.{left_true, right_true, both_true}
use Rattle.wjs_store.specs.Ascends.{tagged, Ascends}
use Rattle.wjs_audit.specs.Spelling.{name_text}
use Rattle.wjs_audit.specs.Logs.{FitsName, KnowsName}
use Rattle.wjs_audit.proofs.Spellings.{name_one, head_is, tail_is}

less_is : (o : Ordering) → T (is_lt o) → o ≡ Less
less_is Less h = refl
less_is Equal h = absurd h
less_is Greater h = absurd h

is_less : (o : Ordering) → o ≡ Less → T (is_lt o)
is_less o e = subst (λ (x : Ordering). T (is_lt x)) (sym e) tt

-- ---- one name more

below_more : (x : Name) (ys : List Name) (y : Name) → T (below_all name_cmp x (tagged ys)) → T (is_lt (name_cmp x y)) → T (below_all name_cmp x (tagged (ys ++ y ∷ [])))
below_more x [] y h l = both_true (is_lt (name_cmp x y)) true l tt
below_more x (z ∷ ys) y h l =
    both_true (is_lt (name_cmp x z)) (below_all name_cmp x (tagged (ys ++ y ∷ []))) (left_true (is_lt (name_cmp x z)) (below_all name_cmp x (tagged ys)) h) (below_more x ys y (right_true (is_lt (name_cmp x z)) (below_all name_cmp x (tagged ys)) h) l)

below_last : (x : Name) (ys : List Name) (y : Name) (more : List Name) → T (below_all name_cmp x (tagged (ys ++ y ∷ more))) → T (is_lt (name_cmp x y))
below_last x [] y more h = left_true (is_lt (name_cmp x y)) (below_all name_cmp x (tagged more)) h
below_last x (z ∷ ys) y more h = below_last x ys y more (right_true (is_lt (name_cmp x z)) (below_all name_cmp x (tagged (ys ++ y ∷ more))) h)

below_front : (x : Name) (ys more : List Name) → T (below_all name_cmp x (tagged (ys ++ more))) → T (below_all name_cmp x (tagged ys))
below_front x [] more h = tt
below_front x (z ∷ ys) more h =
    both_true (is_lt (name_cmp x z)) (below_all name_cmp x (tagged ys)) (left_true (is_lt (name_cmp x z)) (below_all name_cmp x (tagged (ys ++ more))) h) (below_front x ys more (right_true (is_lt (name_cmp x z)) (below_all name_cmp x (tagged (ys ++ more))) h))

-- a name that follows the last one follows all
ascends_from : (x : Name) (xs : List Name) (last y : Name) → Ascends name_cmp (x ∷ xs) → slice_get (x ∷ xs) (length xs) ≡ Some last → name_cmp last y ≡ Less → Ascends name_cmp ((x ∷ xs) ++ y ∷ []) × (name_cmp x y ≡ Less)
ascends_from x [] last y h at l =
    let same : x ≡ last = cc in
    let less : name_cmp x y ≡ Less = ap (λ (z : Name). name_cmp z y) same ∙ l in
    (both_true (is_lt (name_cmp x y) && true) (true && true) (both_true (is_lt (name_cmp x y)) true (is_less (name_cmp x y) less) tt) tt, less)
ascends_from x (z ∷ xs) last y h at l =
    let below = left_true (below_all name_cmp x (tagged (z ∷ xs))) (map.is_sorted name_cmp (tagged (z ∷ xs))) h in
    let later = ascends_from z xs last y (right_true (below_all name_cmp x (tagged (z ∷ xs))) (map.is_sorted name_cmp (tagged (z ∷ xs))) h) at l in
    let first = less_is (name_cmp x z) (left_true (is_lt (name_cmp x z)) (below_all name_cmp x (tagged xs)) below) in
    let less = name_total.trans x z y first later.1 in
    (both_true (below_all name_cmp x (tagged ((z ∷ xs) ++ y ∷ []))) (map.is_sorted name_cmp (tagged ((z ∷ xs) ++ y ∷ []))) (below_more x (z ∷ xs) y below (is_less (name_cmp x y) less)) later.0, less)

pub ascends_more : (names : List Name) (i : ℕ) (last y : Name) → Ascends name_cmp names → i + 1 ≡ length names → slice_get names i ≡ Some last → name_cmp last y ≡ Less → Ascends name_cmp (names ++ y ∷ [])
ascends_more [] i last y h e at l = absurd (omega arith)
ascends_more (x ∷ xs) i last y h e at l =
    let same : i ≡ length xs = omega arith in
    (ascends_from x xs last y h (subst (λ (k : ℕ). slice_get (x ∷ xs) k ≡ Some last) same at) l).0

ascends_at : (xs : List Name) (i : ℕ) (z y : Name) (more : List Name) → Ascends name_cmp (xs ++ y ∷ more) → slice_get xs i ≡ Some z → name_cmp z y ≡ Less
ascends_at [] i z y more h at = cc
ascends_at (x ∷ xs) zero z y more h at =
    let same : x ≡ z = cc in
    ap (λ (w : Name). name_cmp w y) (sym same) ∙ less_is (name_cmp x y) (below_last x xs y more (left_true (below_all name_cmp x (tagged (xs ++ y ∷ more))) (map.is_sorted name_cmp (tagged (xs ++ y ∷ more))) h))
ascends_at (x ∷ xs) (suc i) z y more h at = ascends_at xs i z y more (right_true (below_all name_cmp x (tagged (xs ++ y ∷ more))) (map.is_sorted name_cmp (tagged (xs ++ y ∷ more))) h) at

-- and one that does not follows none
pub ascends_last : (names : List Name) (i : ℕ) (last y : Name) → slice_get names i ≡ Some last → Ascends name_cmp (names ++ y ∷ []) → name_cmp last y ≡ Less
ascends_last names i last y at h = ascends_at names i last y [] h at

-- names in front ascend
ascends_front : (xs more : List Name) → Ascends name_cmp (xs ++ more) → Ascends name_cmp xs
ascends_front [] more h = tt
ascends_front (x ∷ xs) more h =
    both_true (below_all name_cmp x (tagged xs)) (map.is_sorted name_cmp (tagged xs)) (below_front x xs more (left_true (below_all name_cmp x (tagged (xs ++ more))) (map.is_sorted name_cmp (tagged (xs ++ more))) h))
    (ascends_front xs more (right_true (below_all name_cmp x (tagged (xs ++ more))) (map.is_sorted name_cmp (tagged (xs ++ more))) h))

-- ---- names and their parts

at_seam : (P : Name → Type 0) (xs : List Name) (y : Name) (ys : List Name) → All P (xs ++ y ∷ ys) → P y
at_seam P xs y ys h =
    let long = length-append xs (y ∷ ys) in
    subst P (get_or_at xs y ys y (length xs) refl) (h (length xs) y (omega (arith, long)))

module _ (knows : TextId → Type 0) where
  -- names whose parts begin with those of others begin with them
  names_front : (xs all : List Name) (rest : List (List ℕ)) → All FitsName xs → All (KnowsName knows) xs → All FitsName all → All (KnowsName knows) all → each name_text xs ++ rest ≡ each name_text all
      → (more : List Name) × (all ≡ xs ++ more) × (rest ≡ each name_text more)
  names_front [] all rest f h g k e = (all, refl, e)
  names_front (x ∷ xs) [] rest f h g k e = cc
  names_front (x ∷ xs) (y ∷ all) rest f h g k e =
      let first = name_one knows x y (All-head FitsName x xs f) (All-head (KnowsName knows) x xs h) (All-head FitsName y all g) (All-head (KnowsName knows) y all k) (head_is (name_text x) (name_text y) (each name_text xs ++ rest) (each name_text all) e) in
      let later = names_front xs all rest (All-tail FitsName x xs f) (All-tail (KnowsName knows) x xs h) (All-tail FitsName y all g) (All-tail (KnowsName knows) y all k) (tail_is (name_text x) (name_text y) (each name_text xs ++ rest) (each name_text all) e) in
      let back = sym first in
      (later.0, (λ i. back i ∷ later.1 i), later.2)

module _ (knows : TextId → Type 0) where
  -- the name of the part behind those of other names
  pub name_next : (names all : List Name) (part : List ℕ) (more : List (List ℕ)) → All FitsName names → All (KnowsName knows) names → All FitsName all → All (KnowsName knows) all → each name_text names ++ part ∷ more ≡ each name_text all
      → (n : Name) × (later : List Name) × (all ≡ names ++ n ∷ later) × (part ≡ name_text n) × FitsName n × KnowsName knows n
  name_next names all part more f h g k e =
      let t = names_front knows names all (part ∷ more) f h g k e in
      by t.0 t.1 t.2
    where
      by : (later : List Name) → all ≡ names ++ later → part ∷ more ≡ each name_text later → (n : Name) × (rest : List Name) × (all ≡ names ++ n ∷ rest) × (part ≡ name_text n) × FitsName n × KnowsName knows n
      by [] same parts = cc
      by (n ∷ rest) same parts = (
        n,
        rest,
        same,
        head_is part (name_text n) more (each name_text rest) parts,
        at_seam FitsName names n rest (subst (All FitsName) same g),
        at_seam (KnowsName knows) names n rest (subst (All (KnowsName knows)) same k),
      )

  -- a name that may not follow is none of a listing's
  pub no_follower : (names all : List Name) (n m : Name) (later : List Name) → name_text n ≡ name_text m → FitsName n → KnowsName knows n → FitsName m → KnowsName knows m → all ≡ names ++ m ∷ later → Ascends name_cmp all → Ascends name_cmp (names ++ n ∷ [])
  no_follower names all n m later e f h g k same order =
      let one = name_one knows n m f h g k e in
      let whole : all ≡ (names ++ n ∷ []) ++ later = same ∙ ap (λ (x : Name). names ++ x ∷ later) (sym one) ∙ sym (append_assoc names (n ∷ []) later) in
      ascends_front (names ++ n ∷ []) later (subst (Ascends name_cmp) whole order)
