-- Facts at a place of the same text.
use Rattle.std.proofs.Common.{◌≡◌, ℕ, ◌≤◌, Bool, subst, sym, ◌∙◌, ap, arith, List, Some, None}
use Rattle.std.specs.Prelude.{slice_get}
use Rattle.std.proofs.lemmas.Option.{slice_get_within, slice_get-get_or}
use Rattle.wjs_lexer.specs.Places.{passes}

pub behind : (p : ℕ → Bool) (cs ds : List ℕ) (n : ℕ) (b : Bool) → ds ≡ cs → passes p (slice_get ds n) ≡ b → passes p (slice_get cs n) ≡ b
behind p cs ds n b e h = subst (λ (xs : List ℕ). passes p (slice_get xs n) ≡ b) e h

pub moved : (P : List ℕ → ℕ → Type 0) (cs ds : List ℕ) (i j : ℕ) → ds ≡ cs → j ≡ i → P ds j → P cs i
moved P cs ds i j e f h = subst (λ (k : ℕ). P cs k) f (subst (λ (xs : List ℕ). P xs j) e h)

pub char_at : (cs ds : List ℕ) (n c d : ℕ) → ds ≡ cs → Some c ≡ slice_get ds n → c ≡ d → slice_get cs n ≡ Some d
char_at cs ds n c d e h f = subst (λ (xs : List ℕ). slice_get xs n ≡ Some d) e (sym h ∙ ap (λ (x : ℕ). Some x) f)

pub some_at : (cs ds : List ℕ) (n c : ℕ) → ds ≡ cs → slice_get ds n ≡ Some c → slice_get cs n ≡ Some c
some_at cs ds n c e h = subst (λ (xs : List ℕ). slice_get xs n ≡ Some c) e h

-- past the end nothing stands
pub none_past : (cs : List ℕ) (n k c : ℕ) → slice_get cs n ≡ None → n ≤ k → slice_get cs k ≡ Some c → ⊥
none_past cs n k c e le h =
    let w = slice_get_within cs k c h in
    let f = slice_get-get_or cs n 0 (omega arith) in
    cc
