-- Where a key stands in a list in order.
use Rattle.std.proofs.Common.{◌≡◌, ℕ, suc, ◌+◌, ◌<◌, ◌≤◌, zero, drop, take, subst, cond, not, T, List, [], ◌∷◌, ◌++◌, length, set, get_or, Option, None, Some, Result, Ok, Err, slice_get, refl, ap, sym, ◌∙◌, arith}
use Rattle.std.specs.declared.cmp.Ordering.{Ordering}
use Rattle.std.specs.declared.cmp.Ordering.TheVariants.{Less, Equal, Greater}
use Rattle.std.specs.Ordering.{is_lt, is_le, is_eq, ordering_reverse}
use Rattle.std.specs.Cmp.{IsTotalOrder}
use Rattle.std.specs.FinMap.{IsAntisymmetric}
use Rattle.std.specs.FinMap.Entries.{put, find, is_sorted, below_all, by_order}
use Rattle.std.specs.List.{insert, remove}
use Rattle.std.specs.Map.{lookup_entry}
use Rattle.std.specs.Borrow.{Bor}
use Rattle.std.specs.Option.{option_map}
use Rattle.std.specs.Slice.{IsItemAt}
use Rattle.std.proofs.lemmas.Option.{slice_get_past, slice_get_read}
use Rattle.wjs_base.proofs.Booleans.{left_true, right_true, T_true}
use Rattle.wjs_rows.specs.Order.{is_from, is_after}
use Rattle.wjs_names.specs.Lists.{seek, without}
use Rattle.wjs_names.proofs.Basics.{by_cmp, less_is}
use Rattle.wjs_names.proofs.Lists.{first_after, none_below, all_without, below_tied, below_less}

-- the key is at n
pub record IsFoundAt {K V : Type 0} (R : K → K → Ordering) (k : K) (es : List (K × V)) (n : ℕ) : Type 0 where
  pub below : n < length es
  pub key : (d : K × V) → (get_or es n d).0 ≡ k
  pub value : (d : K × V) → find R k es ≡ Some (get_or es n d).1
  pub puts : (v : V) → set es n (k, v) ≡ put R k v es
  pub removes : T (is_sorted R es) → remove es n ≡ without R k es
  pub from : slice_get es n ≡ lookup_entry (is_from R k) es
  pub after : T (is_sorted R es) → slice_get es (n + 1) ≡ lookup_entry (is_after R k) es

-- the key isn't there, and would be at n
pub record IsMissedAt {K V : Type 0} (R : K → K → Ordering) (k : K) (es : List (K × V)) (n : ℕ) : Type 0 where
  pub upto : n ≤ length es
  pub none : T (is_sorted R es) → find R k es ≡ None
  pub puts : (v : V) → insert es n (k, v) ≡ put R k v es
  pub from : slice_get es n ≡ lookup_entry (is_from R k) es
  pub after : slice_get es n ≡ lookup_entry (is_after R k) es

module _ {K V : Type 0} {R : K → K → Ordering} (total : IsTotalOrder R) (exact : IsAntisymmetric R) (k : K) where
  next_place : (e : K × V) (es : List (K × V)) (n : ℕ) → slice_get (e ∷ es) (n + 1) ≡ slice_get es n
  next_place e es n = let s : n + 1 ≡ suc n = omega arith in ap (slice_get (e ∷ es)) s

  found_first : (e : K × V) (es : List (K × V)) → R k e.0 ≡ Equal → IsFoundAt R k (e ∷ es) 0
  found_first e es o = record {
    below = omega arith;
    key = λ d. sym (exact k e.0 o);
    value = λ d. ap (λ c. cond (is_eq c) (Some e.1) (find R k es)) o;
    puts = λ v. ap (λ c. (c, v) ∷ es) (exact k e.0 o) ∙ sym (ap (λ c. by_order c ((k, v) ∷ e ∷ es) ((e.0, v) ∷ es) (e ∷ put R k v es)) o);
    removes = λ s. sym (ap (λ c. cond (not (is_eq c)) (e ∷ without R k es) (without R k es)) o ∙ all_without R k es (below_tied total k e.0 es o (left_true (below_all R e.0 es) (is_sorted R es) s)));
    from = sym (ap (λ c. cond (is_le c) (Some e) (lookup_entry (is_from R k) es)) o);
    after = λ s. next_place e es 0 ∙ sym (ap (λ c. cond (is_lt c) (Some e) (lookup_entry (is_after R k) es)) o ∙ first_after R k es (below_tied total k e.0 es o (left_true (below_all R e.0 es) (is_sorted R es) s)));
  }

  found_later : (e : K × V) (es : List (K × V)) (n : ℕ) → R k e.0 ≡ Greater → IsFoundAt R k es n → IsFoundAt R k (e ∷ es) (suc n)
  found_later e es n o f = record {
    below = let b = f.below in omega arith;
    key = f.key;
    value = λ d. ap (λ c. cond (is_eq c) (Some e.1) (find R k es)) o ∙ f.value d;
    puts = λ v. ap (λ rest. e ∷ rest) (f.puts v) ∙ sym (ap (λ c. by_order c ((k, v) ∷ e ∷ es) ((e.0, v) ∷ es) (e ∷ put R k v es)) o);
    removes = λ s. ap (λ rest. e ∷ rest) (f.removes (right_true (below_all R e.0 es) (is_sorted R es) s)) ∙ sym (ap (λ c. cond (not (is_eq c)) (e ∷ without R k es) (without R k es)) o);
    from = f.from ∙ sym (ap (λ c. cond (is_le c) (Some e) (lookup_entry (is_from R k) es)) o);
    after = λ s. next_place e es (suc n) ∙ ap (slice_get es) (let m : suc n ≡ n + 1 = omega arith in m) ∙ f.after (right_true (below_all R e.0 es) (is_sorted R es) s) ∙ sym (ap (λ c. cond (is_lt c) (Some e) (lookup_entry (is_after R k) es)) o);
  }

  missed_first : (e : K × V) (es : List (K × V)) → R k e.0 ≡ Less → IsMissedAt R k (e ∷ es) 0
  missed_first e es o = record {
    upto = omega arith;
    none = λ s. ap (λ c. cond (is_eq c) (Some e.1) (find R k es)) o ∙ none_below R k es (below_less total k e.0 es o (left_true (below_all R e.0 es) (is_sorted R es) s));
    puts = λ v. sym (ap (λ c. by_order c ((k, v) ∷ e ∷ es) ((e.0, v) ∷ es) (e ∷ put R k v es)) o);
    from = sym (ap (λ c. cond (is_le c) (Some e) (lookup_entry (is_from R k) es)) o);
    after = sym (ap (λ c. cond (is_lt c) (Some e) (lookup_entry (is_after R k) es)) o);
  }

  missed_later : (e : K × V) (es : List (K × V)) (n : ℕ) → R k e.0 ≡ Greater → IsMissedAt R k es n → IsMissedAt R k (e ∷ es) (suc n)
  missed_later e es n o f = record {
    upto = let b = f.upto in omega arith;
    none = λ s. ap (λ c. cond (is_eq c) (Some e.1) (find R k es)) o ∙ f.none (right_true (below_all R e.0 es) (is_sorted R es) s);
    puts = λ v. ap (λ rest. e ∷ rest) (f.puts v) ∙ sym (ap (λ c. by_order c ((k, v) ∷ e ∷ es) ((e.0, v) ∷ es) (e ∷ put R k v es)) o);
    from = f.from ∙ sym (ap (λ c. cond (is_le c) (Some e) (lookup_entry (is_from R k) es)) o);
    after = f.after ∙ sym (ap (λ c. cond (is_lt c) (Some e) (lookup_entry (is_after R k) es)) o);
  }

  missed_empty : IsMissedAt {V = V} R k [] 0
  missed_empty = record { upto = omega arith; none = λ s. refl; puts = λ v. refl; from = refl; after = refl }

  found_on : (i m : ℕ) (es : List (K × V)) → seek R k i es ≡ Ok m → (n : ℕ) × (m ≡ i + n) × IsFoundAt R k es n
  found_on i m [] h = cc
  found_on i m (e ∷ es) h = by_cmp (R k e.0)
      (λ o. let is : ◌≡◌ {A = Result ℕ ℕ} (Err i) (Ok m) = sym (ap (λ c. by_order c (Err i) (Ok i) (seek R k (i + 1) es)) o) ∙ h in cc)
      (λ o. let is : ◌≡◌ {A = Result ℕ ℕ} (Ok i) (Ok m) = sym (ap (λ c. by_order c (Err i) (Ok i) (seek R k (i + 1) es)) o) ∙ h in let j : i ≡ m = cc in (0, omega arith, found_first e es o))
      (λ o. let r = found_on (i + 1) m es (sym (ap (λ c. by_order c (Err i) (Ok i) (seek R k (i + 1) es)) o) ∙ h) in let j = r.1 in (suc r.0, omega arith, found_later e es r.0 o r.2))

  missed_on : (i m : ℕ) (es : List (K × V)) → seek R k i es ≡ Err m → (n : ℕ) × (m ≡ i + n) × IsMissedAt R k es n
  missed_on i m [] h = let j : i ≡ m = cc in (0, omega arith, missed_empty)
  missed_on i m (e ∷ es) h = by_cmp (R k e.0)
      (λ o. let is : ◌≡◌ {A = Result ℕ ℕ} (Err i) (Err m) = sym (ap (λ c. by_order c (Err i) (Ok i) (seek R k (i + 1) es)) o) ∙ h in let j : i ≡ m = cc in (0, omega arith, missed_first e es o))
      (λ o. let is : ◌≡◌ {A = Result ℕ ℕ} (Ok i) (Err m) = sym (ap (λ c. by_order c (Err i) (Ok i) (seek R k (i + 1) es)) o) ∙ h in cc)
      (λ o. let r = missed_on (i + 1) m es (sym (ap (λ c. by_order c (Err i) (Ok i) (seek R k (i + 1) es)) o) ∙ h) in let j = r.1 in (suc r.0, omega arith, missed_later e es r.0 o r.2))

  pub found_at : (n : ℕ) (es : List (K × V)) → Ok n ≡ seek R k 0 es → IsFoundAt R k es n
  found_at n es h =
      let r = found_on 0 n es (sym h) in
      let e : r.0 ≡ n = let j = r.1 in omega arith in
      subst (IsFoundAt R k es) e r.2

  pub missed_at : (n : ℕ) (es : List (K × V)) → Err n ≡ seek R k 0 es → IsMissedAt R k es n
  missed_at n es h =
      let r = missed_on 0 n es (sym h) in
      let e : r.0 ≡ n = let j = r.1 in omega arith in
      subst (IsMissedAt R k es) e r.2

-- ---- a list in order, sought from an entry

module _ {K : Type 0} {R : K → K → Ordering} (total : IsTotalOrder R) where
  reversed : (x y : K) → R x y ≡ Less → R y x ≡ Greater
  reversed x y h = total.antisymm y x ∙ ap ordering_reverse h

less_read : {K V : Type 0} (R : K → K → Ordering) (x : K) (es : List (K × V)) (n : ℕ) (d : K × V) → T (below_all R x es) → n < length es → R x (get_or es n d).0 ≡ Less
less_read R x [] n d h l = absurd (omega arith)
less_read R x (e ∷ es) zero d h l = less_is (R x e.0) (T_true (is_lt (R x e.0)) (left_true (is_lt (R x e.0)) (below_all R x es) h))
less_read R x (e ∷ es) (suc n) d h l = less_read R x es n d (right_true (is_lt (R x e.0)) (below_all R x es) h) (omega arith)

module _ {K V : Type 0} {R : K → K → Ordering} (total : IsTotalOrder R) where
  -- what is at an entry is past those before it
  past_tied : (k : K) (e : K × V) (es : List (K × V)) (n : ℕ) (d : K × V) → T (is_sorted R (e ∷ es)) → n < length es → R k (get_or es n d).0 ≡ Equal → R k e.0 ≡ Greater
  past_tied k e es n d h l o = total.congr k (get_or es n d).0 e.0 o ∙ reversed total e.0 (get_or es n d).0 (less_read R e.0 es n d (left_true (below_all R e.0 es) (is_sorted R es) h) l)

  pub past_greater : (k : K) (e : K × V) (es : List (K × V)) (n : ℕ) (d : K × V) → T (is_sorted R (e ∷ es)) → n < length es → R k (get_or es n d).0 ≡ Greater → R k e.0 ≡ Greater
  past_greater k e es n d h l o = reversed total e.0 k (total.trans e.0 (get_or es n d).0 k (less_read R e.0 es n d (left_true (below_all R e.0 es) (is_sorted R es) h) l) (total.antisymm (get_or es n d).0 k ∙ ap ordering_reverse o))

  pub seek_at : (k : K) (i : ℕ) (es : List (K × V)) (n : ℕ) (d : K × V) → T (is_sorted R es) → n < length es → R k (get_or es n d).0 ≡ Equal → seek R k i es ≡ Ok (i + n)
  seek_at k i [] n d h l o = absurd (omega arith)
  seek_at k i (e ∷ es) zero d h l o = ap (λ c. by_order c (Err i) (Ok i) (seek R k (i + 1) es)) o ∙ ap Ok (let z : i ≡ i + 0 = omega arith in z)
  seek_at k i (e ∷ es) (suc n) d h l o =
      ap (λ c. by_order c (Err i) (Ok i) (seek R k (i + 1) es)) (past_tied k e es n d h (omega arith) o)
      ∙ seek_at k (i + 1) es n d (right_true (below_all R e.0 es) (is_sorted R es) h) (omega arith) o
      ∙ ap Ok (let z : i + 1 + n ≡ i + suc n = omega arith in z)

  pub seek_past : (k : K) (i : ℕ) (es : List (K × V)) (n : ℕ) (d : K × V) → T (is_sorted R es) → n < length es → R k (get_or es n d).0 ≡ Greater → seek R k i es ≡ seek R k (i + suc n) (drop (suc n) es)
  seek_past k i [] n d h l o = absurd (omega arith)
  seek_past k i (e ∷ es) zero d h l o = ap (λ c. by_order c (Err i) (Ok i) (seek R k (i + 1) es)) o
  seek_past k i (e ∷ es) (suc n) d h l o =
      ap (λ c. by_order c (Err i) (Ok i) (seek R k (i + 1) es)) (past_greater k e es n d h (omega arith) o)
      ∙ seek_past k (i + 1) es n d (right_true (below_all R e.0 es) (is_sorted R es) h) (omega arith) o
      ∙ ap (λ j. seek R k j (drop (suc n) es)) (let z : i + 1 + suc n ≡ i + suc (suc n) = omega arith in z)

pub seek_drop : {K V : Type 0} (R : K → K → Ordering) (k : K) (i : ℕ) (es : List (K × V)) (n : ℕ) (d : K × V) → n < length es → R k (get_or es n d).0 ≡ Less → seek R k i (drop n es) ≡ Err i
seek_drop R k i [] n d l o = absurd (omega arith)
seek_drop R k i (e ∷ es) zero d l o = ap (λ c. by_order c (Err i) (Ok i) (seek R k (i + 1) es)) o
seek_drop R k i (e ∷ es) (suc n) d l o = seek_drop R k i es n d (omega arith) o

drop_whole : {A : Type 0} (xs : List A) → drop (length xs) xs ≡ []
drop_whole [] = refl
drop_whole (x ∷ xs) = drop_whole xs

-- nothing is left past the last entry
pub seek_end : {K V : Type 0} (R : K → K → Ordering) (k : K) (n : ℕ) (es : List (K × V)) → n ≤ length es → length es ≤ n → seek R k n (drop n es) ≡ Err n
seek_end R k n es u l = ap (λ j. seek R k n (drop j es)) (let e : n ≡ length es = omega arith in e) ∙ ap (seek R k n) (drop_whole es)

-- a key past the last entry
pub seek_last : {K V : Type 0} {R : K → K → Ordering} (total : IsTotalOrder R) (k : K) (es : List (K × V)) (n : ℕ) (d : K × V) → T (is_sorted R es) → n < length es → suc n ≡ length es → R k (get_or es n d).0 ≡ Greater → seek R k 0 es ≡ Err (length es)
seek_last {R = R} total k es n d h l e o =
    seek_past total k 0 es n d h l o
    ∙ ap (λ j. seek R k j (drop (suc n) es)) (let z : 0 + suc n ≡ length es = omega (arith, e) in z)
    ∙ ap (λ j. seek R k (length es) (drop j es)) e
    ∙ ap (seek R k (length es)) (drop_whole es)

take_whole : {A : Type 0} (xs : List A) → take (length xs) xs ≡ xs
take_whole [] = refl
take_whole (x ∷ xs) = ap (λ rest. x ∷ rest) (take_whole xs)

-- a key past the last entry is put last
pub put_last : {K V : Type 0} {R : K → K → Ordering} (total : IsTotalOrder R) (exact : IsAntisymmetric R) (k : K) (v : V) (es : List (K × V)) → Err (length es) ≡ seek R k 0 es → es ++ (k, v) ∷ [] ≡ put R k v es
put_last total exact k v es h =
    sym (ap (λ front. front ++ (k, v) ∷ drop (length es) es) (take_whole es) ∙ ap (λ rest. es ++ (k, v) ∷ rest) (drop_whole es))
    ∙ (missed_at total exact k (length es) es h).puts v

-- what `get` of a slice lends
pub got_at : {X : Type 0} (xs : List X) (i : ℕ) (r : Option (Bor X)) → IsItemAt xs i r → option_map (λ x. x.now) r ≡ slice_get xs i
got_at xs i None h = sym (slice_get_past xs i h.3)
got_at xs i (Some x) h = sym (slice_get_read xs (length xs) i x.now refl h.3.0 h.1)

-- the entry at n goes after those before it
put_after : {K V : Type 0} {R : K → K → Ordering} (total : IsTotalOrder R) (es : List (K × V)) (n : ℕ) (d : K × V) → T (is_sorted R es) → n < length es → put R (get_or es n d).0 (get_or es n d).1 (take n es) ≡ take (suc n) es
put_after total [] n d h l = absurd (omega arith)
put_after total (e ∷ es) zero d h l = refl
put_after {R = R} total (e ∷ es) (suc n) d h l =
    ap (λ c. by_order c (((get_or es n d).0, (get_or es n d).1) ∷ e ∷ take n es) ((e.0, (get_or es n d).1) ∷ take n es) (e ∷ put R (get_or es n d).0 (get_or es n d).1 (take n es))) (reversed total e.0 (get_or es n d).0 (less_read R e.0 es n d (left_true (below_all R e.0 es) (is_sorted R es) h) (omega arith)))
    ∙ ap (λ rest. e ∷ rest) (put_after total es n d (right_true (below_all R e.0 es) (is_sorted R es) h) (omega arith))

pub put_next : {K V : Type 0} {R : K → K → Ordering} (total : IsTotalOrder R) (es : List (K × V)) (n : ℕ) (e : K × V) → T (is_sorted R es) → n < length es → e ≡ get_or es n e → put R e.0 e.1 (take n es) ≡ take (n + 1) es
put_next {R = R} total es n e h l is = ap (λ d. put R d.0 d.1 (take n es)) is ∙ put_after total es n e h l ∙ ap (λ m. take m es) (let s : suc n ≡ n + 1 = omega arith in s)
