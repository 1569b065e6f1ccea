-- A part of a text that grows by one character.
use Rattle.std.proofs.Common.{◌≡◌, ℕ, ◌+◌, ◌-◌, ◌<◌, ◌≤◌, ◌⊎◌, inl, inr, Bool, true, false, refl, sym, ◌∙◌, ap, arith, List, [], ◌∷◌, ◌++◌, Option, Some, length, take, drop, get_or, length-drop}
use Rattle.std.specs.Prelude.{slice_get, slice_range}
use Rattle.std.proofs.lemmas.Bool.{cases_order}
use Rattle.std.proofs.lemmas.List.{take_more, get_or-drop}
use Rattle.std.proofs.lemmas.Option.{slice_get_within, get_or_from_slice_get}
use Rattle.wjs_lexer.specs.Places.{AllPass, passes}

pub range_none : (cs : List ℕ) (i : ℕ) → slice_range cs i i ≡ []
range_none cs i = let e : i - i ≡ 0 = omega arith in rw e refl

pub range_more : (cs : List ℕ) (i n c : ℕ) → i ≤ n → slice_get cs n ≡ Some c → slice_range cs i (n + 1) ≡ slice_range cs i n ++ c ∷ []
range_more cs i n c le h =
    let w = slice_get_within cs n c h in
    let e : n + 1 - i ≡ n - i + 1 = omega arith in
    let l : n - i < length (drop i cs) = rw length-drop (omega arith) in
    let k : i + (n - i) ≡ n = omega arith in
    let g : get_or (drop i cs) (n - i) 0 ≡ c = get_or-drop i cs (n - i) 0 ∙ ap (λ (j : ℕ). get_or cs j 0) k ∙ get_or_from_slice_get cs n c 0 h in
    rw e (take_more (drop i cs) (n - i) 0 l ∙ ap (λ (x : ℕ). take (n - i) (drop i cs) ++ x ∷ []) g)

-- a fact at a place of the same text
pub here : (cs ds : List ℕ) (n : ℕ) (o : Option ℕ) → ds ≡ cs → o ≡ slice_get ds n → slice_get cs n ≡ o
here cs ds n o same e = let f = ap (λ (xs : List ℕ). slice_get xs n) same in sym f ∙ sym e

pub same_char : (a b : ℕ) (o : Option ℕ) → o ≡ Some a → o ≡ Some b → a ≡ b
same_char a b o x y = cc

pub clash : (p : ℕ → Bool) (o : Option ℕ) → passes p o ≡ true → passes p o ≡ false → ⊥
clash p o x y = cc

pub passes_at : (p : ℕ → Bool) (cs : List ℕ) (i c : ℕ) → slice_get cs i ≡ Some c → p c ≡ true → passes p (slice_get cs i) ≡ true
passes_at p cs i c e h = rw e h

pub passed : (p : ℕ → Bool) (cs : List ℕ) (i c : ℕ) → slice_get cs i ≡ Some c → passes p (slice_get cs i) ≡ true → p c ≡ true
passed p cs i c e h = rw e at h

pass_cases : (p : ℕ → Bool) (cs : List ℕ) (i n c k : ℕ) → AllPass p cs i n → slice_get cs n ≡ Some c → p c ≡ true → i ≤ k → k < n + 1 → (k ≡ n) ⊎ ((k < n) ⊎ (n < k)) → passes p (slice_get cs k) ≡ true
pass_cases p cs i n c k a e h lo hi (inl q) = rw (q, e) h
pass_cases p cs i n c k a e h lo hi (inr (inl lt)) = a k lo lt
pass_cases p cs i n c k a e h lo hi (inr (inr gt)) = absurd (omega arith)

pub pass_more : (p : ℕ → Bool) (cs : List ℕ) (i n c : ℕ) → AllPass p cs i n → slice_get cs n ≡ Some c → p c ≡ true → AllPass p cs i (n + 1)
pass_more p cs i n c a e h = λ k lo hi. pass_cases p cs i n c k a e h lo hi (cases_order k n)
