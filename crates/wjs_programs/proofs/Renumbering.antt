-- The texts of two tables in one: the first, and the second behind it.
use Rattle.std.specs.Prelude.{◌≡◌, ℕ, zero, suc, ◌+◌, Bool, true, false, [], ◌∷◌, ◌++◌, Option, None, Some, length, slice_get, unwrap_or}
use Rattle.std.proofs.Common.{refl, sym, ◌∙◌, ap, subst, cond, true≢false, arith}
use Rattle.std.proofs.lemmas.Option.{slice_get_within, slice_get_past}
use Rattle.wjs_base.specs.declared.ids.TextId.{TextId}
use Rattle.wjs_base.specs.Text.{Units, Table, Denotes, IsTable}
use Rattle.wjs_by_content.specs.Values.{same_text, text_Decides}
use Rattle.wjs_by_content.specs.Tables.{text_in}

-- the numbers of one table's texts go to numbers of the same texts in a third table, and to different ones; a text that the
-- other table holds too goes to the number that it has there
pub record Renumbers (from other joint : Table) (r : TextId → TextId) : Type 0 where
  pub injective : (a b : TextId) → r a ≡ r b → a ≡ b
  pub same : (x : TextId) → text_in joint (r x) ≡ text_in from x
  pub known : (x y : TextId) (units : Units) → Denotes from x units → Denotes other y units → r x ≡ y

-- ---- from the second table

abbrev is_text : Option Units → Units → Bool
is_text None y = false
is_text (Some x) y = same_text x y

-- the first number of a text in a table, or else its number n in the table behind
abbrev number_in : Table → Option Units → ℕ → ℕ
number_in [] x n = n
number_in (y ∷ ys) x n = cond (is_text x y) 0 (suc (number_in ys x n))

same_units : (x y : Units) → same_text x y ≡ true → Some y ≡ Some x
same_units x y e = ap Some (sym ((text_Decides x y).0 e))

there_cases : (test : Bool) (x : Option Units) (y : Units) (ys : Table) (k : ℕ) → is_text x y ≡ test → slice_get ys k ≡ x → slice_get (y ∷ ys) (cond test 0 (suc k)) ≡ x
there_cases true None y ys k e h = cc
there_cases true (Some x) y ys k e h = same_units x y e
there_cases false x y ys k e h = h

there : (u t : Table) (x : Option Units) (n : ℕ) → slice_get t n ≡ x → slice_get (u ++ t) (number_in u x n) ≡ x
there [] t x n h = h
there (y ∷ ys) t x n h = there_cases (is_text x y) x y (ys ++ t) (number_in ys x n) refl (there ys t x n h)

-- k is a number of the text in the table, or it is the number n behind the table
data InOrBehind (u : Table) (x : Option Units) (n k : ℕ) : Type 0 where
  in_it : (units : Units) → x ≡ Some units → slice_get u k ≡ Some units → InOrBehind u x n k
  behind : k ≡ length u + n → InOrBehind u x n k

further : (y : Units) (ys : Table) (x : Option Units) (n k : ℕ) → InOrBehind ys x n k → InOrBehind (y ∷ ys) x n (suc k)
further y ys x n k (in_it units e h) = in_it units e h
further y ys x n k (behind e) = behind (omega arith)

in_cases : (test : Bool) (x : Option Units) (y : Units) (ys : Table) (n k : ℕ) → is_text x y ≡ test → InOrBehind ys x n k → InOrBehind (y ∷ ys) x n (cond test 0 (suc k))
in_cases true None y ys n k e h = absurd (true≢false (sym e))
in_cases true (Some x) y ys n k e h = in_it x refl (same_units x y e)
in_cases false x y ys n k e h = further y ys x n k h

in_or_behind : (u : Table) (x : Option Units) (n : ℕ) → InOrBehind u x n (number_in u x n)
in_or_behind [] x n = behind (omega arith)
in_or_behind (y ∷ ys) x n = in_cases (is_text x y) x y ys n (number_in ys x n) refl (in_or_behind ys x n)

first_cases : (test : Bool) (x y : Units) (ys : Table) (k : ℕ) → same_text x y ≡ test → (test ≡ false → slice_get ys k ≡ Some x) → slice_get (y ∷ ys) (cond test 0 (suc k)) ≡ Some x
first_cases true x y ys k e h = same_units x y e
first_cases false x y ys k e h = h refl

-- a text of the table has its number there
first_in : (u : Table) (x : Units) (n k : ℕ) → slice_get u k ≡ Some x → slice_get u (number_in u (Some x) n) ≡ Some x
first_in [] x n k h = cc
first_in (y ∷ ys) x n zero h = first_cases (same_text x y) x y ys (number_in ys (Some x) n) refl (λ no. let e : x ≡ y = cc in absurd (true≢false (sym ((text_Decides x y).1 e) ∙ no)))
first_in (y ∷ ys) x n (suc k) h = first_cases (same_text x y) x y ys (number_in ys (Some x) n) refl (λ no. first_in ys x n k h)

-- to the number of the text in the first table, or else behind it
pub into : (u t : Table) → TextId → TextId
into u t x = record { 0 = number_in u (slice_get t x.0) x.0 }

one_of_two : (u t : Table) → IsTable t → (a b : TextId) (k l : ℕ) → k ≡ l → InOrBehind u (slice_get t a.0) a.0 k → InOrBehind u (slice_get t b.0) b.0 l → a ≡ b
one_of_two u t table a b k l e (in_it x h f) (in_it y i g) =
    let same : y ≡ x = cc in
    table.one_number a b x h (i ∙ ap Some same)
one_of_two u t table a b k l e (in_it x h f) (behind g) = let within = slice_get_within u k x f in absurd (omega arith)
one_of_two u t table a b k l e (behind f) (in_it y i g) = let within = slice_get_within u l y g in absurd (omega arith)
one_of_two u t table a b k l e (behind f) (behind g) =
    let same : a.0 ≡ b.0 = omega arith in
    λ z. record { 0 = same z }

into_known : (u t : Table) → IsTable u → (x y : TextId) (units : Units) → Denotes t x units → Denotes u y units → into u t x ≡ y
unfolding into
into_known u t table x y units h k =
    let is_there : slice_get u (number_in u (slice_get t x.0) x.0) ≡ Some units = subst (λ o. slice_get u (number_in u o x.0) ≡ Some units) (sym h) (first_in u units x.0 y.0 k) in
    table.one_number (into u t x) y units is_there k

pub into_renumbers : (u t : Table) → IsTable u → IsTable t → Renumbers t u (u ++ t) (into u t)
unfolding into
into_renumbers u t first second = record {
  injective = λ a b e. one_of_two u t second a b _ _ (ap (λ (x : TextId). x.0) e) (in_or_behind u (slice_get t a.0) a.0) (in_or_behind u (slice_get t b.0) b.0);
  same = λ x. ap (λ o. unwrap_or o []) (there u t (slice_get t x.0) x.0 refl);
  known = into_known u t first;
}

-- ---- from the first table

-- the number itself in the table, and so many more past it
abbrev kept : Table → ℕ → ℕ → ℕ
kept [] more n = more + n
kept (y ∷ ys) more zero = zero
kept (y ∷ ys) more (suc n) = suc (kept ys more n)

kept_text : (u t : Table) (n : ℕ) → slice_get (u ++ t) (kept u (length t) n) ≡ slice_get u n
kept_text [] t n = slice_get_past t (length t + n) (omega arith)
kept_text (y ∷ ys) t zero = refl
kept_text (y ∷ ys) t (suc n) = kept_text ys t n

kept_known : (u : Table) (more n : ℕ) (x : Units) → slice_get u n ≡ Some x → kept u more n ≡ n
kept_known [] more n x h = cc
kept_known (y ∷ ys) more zero x h = refl
kept_known (y ∷ ys) more (suc n) x h = λ z. suc (kept_known ys more n x h z)

kept_injective : (u : Table) (more a b : ℕ) → kept u more a ≡ kept u more b → a ≡ b
kept_injective [] more a b e = omega arith
kept_injective (y ∷ ys) more zero zero e = refl
kept_injective (y ∷ ys) more zero (suc b) e = absurd (omega arith)
kept_injective (y ∷ ys) more (suc a) zero e = absurd (omega arith)
kept_injective (y ∷ ys) more (suc a) (suc b) e = let same : kept ys more a ≡ kept ys more b = omega arith in λ z. suc (kept_injective ys more a b same z)

-- a number past the first table to one past both
pub apart : (u t : Table) → TextId → TextId
apart u t x = record { 0 = kept u (length t) x.0 }

apart_known : (u t : Table) → IsTable u → (x y : TextId) (units : Units) → Denotes u x units → Denotes u y units → apart u t x ≡ y
unfolding apart
apart_known u t table x y units h k =
    let itself : apart u t x ≡ x = λ z. record { 0 = kept_known u (length t) x.0 units h z } in
    itself ∙ table.one_number x y units h k

pub apart_renumbers : (u t : Table) → IsTable u → Renumbers u u (u ++ t) (apart u t)
unfolding apart
apart_renumbers u t table = record {
  injective = λ a b e z. record { 0 = kept_injective u (length t) a.0 b.0 (ap (λ (x : TextId). x.0) e) z };
  same = λ x. ap (λ o. unwrap_or o []) (kept_text u t x.0);
  known = apart_known u t table;
}
