-- Where the first line of bytes ends.
use Rattle.std.proofs.Common.{◌≡◌, ℕ, zero, suc, ◌<◌, ◌==◌, ◌⊎◌, inl, inr, Bool, true, false, cond, List, [], ◌∷◌, length, take, drop, get_or, refl, sym, ap, ◌∙◌, subst, arith}
use Rattle.std.proofs.lemmas.Bool.{eqb-true, ne_eqb}
use Rattle.wjs_division.specs.Division.{onto_first, lines_of}

-- all bytes are one line, or there are none
abbrev pub one_line : List ℕ → List (List ℕ)
one_line [] = []
one_line (b ∷ bytes) = (b ∷ bytes) ∷ []

-- a byte that is no LF stands in front of the first line
byte_first : (b : ℕ) (bytes : List ℕ) → (b == 10) ≡ false → lines_of (b ∷ bytes) ≡ onto_first b (lines_of bytes)
byte_first b bytes e = ap (λ (t : Bool). cond t ((10 ∷ []) ∷ lines_of bytes) (onto_first b (lines_of bytes))) e

onto_one : (b : ℕ) (bytes : List ℕ) → lines_of bytes ≡ one_line bytes → onto_first b (lines_of bytes) ≡ (b ∷ bytes) ∷ []
onto_one b [] e = refl
onto_one b (c ∷ bytes) e = ap (onto_first b) e

-- the first line ends with the LF at n
pub cut_at : (bytes : List ℕ) (n : ℕ) → n < length bytes → ((k : ℕ) → k < n → get_or bytes k 0 ≡ 10 → ⊥) → get_or bytes n 0 ≡ 10 → lines_of bytes ≡ take (suc n) bytes ∷ lines_of (drop (suc n) bytes)
cut_at [] n lt none feed = absurd (omega arith)
cut_at (b ∷ bytes) zero lt none feed = subst (λ (c : ℕ). lines_of (c ∷ bytes) ≡ (c ∷ []) ∷ lines_of bytes) (sym feed) refl
cut_at (b ∷ bytes) (suc n) lt none feed =
    let other : (b == 10) ≡ false = ne_eqb b 10 (none 0 (omega arith)) in
    let rest = cut_at bytes n (omega arith) (λ k low is. none (suc k) (omega arith) is) feed in
    byte_first b bytes other ∙ ap (onto_first b) rest

-- no LF stands there
uncut : (bytes : List ℕ) → ((k : ℕ) → k < length bytes → get_or bytes k 0 ≡ 10 → ⊥) → lines_of bytes ≡ one_line bytes
uncut [] none = refl
uncut (b ∷ bytes) none =
    let other : (b == 10) ≡ false = ne_eqb b 10 (none 0 (omega arith)) in
    let rest = uncut bytes (λ k low is. none (suc k) (omega arith) is) in
    byte_first b bytes other ∙ onto_one b bytes rest

-- the same where the line has bytes, as a cut at the end
pub uncut_line : (bytes : List ℕ) → 0 < length bytes → ((k : ℕ) → k < length bytes → get_or bytes k 0 ≡ 10 → ⊥) → lines_of bytes ≡ bytes ∷ lines_of []
uncut_line [] some none = absurd (omega arith)
uncut_line (b ∷ bytes) some none = uncut (b ∷ bytes) none

-- ---- bytes have a first LF, or none

pub record Cut (bytes : List ℕ) : Type 0 where
  pub place : ℕ
  pub inside : place < length bytes
  pub feed : get_or bytes place 0 ≡ 10
  pub lines : lines_of bytes ≡ take (suc place) bytes ∷ lines_of (drop (suc place) bytes)

pub cut : (bytes : List ℕ) → Cut bytes ⊎ (lines_of bytes ≡ one_line bytes)
cut [] = inr refl
cut (b ∷ bytes) = go (b == 10) refl (cut bytes)
  where
    later : (b == 10) ≡ false → Cut bytes → Cut (b ∷ bytes)
    later e c = record {
      place = suc c.place;
      inside = (let inside = c.inside in omega arith);
      feed = c.feed;
      lines = byte_first b bytes e ∙ ap (onto_first b) c.lines;
    }

    go : (t : Bool) → (b == 10) ≡ t → Cut bytes ⊎ (lines_of bytes ≡ one_line bytes) → Cut (b ∷ bytes) ⊎ (lines_of (b ∷ bytes) ≡ one_line (b ∷ bytes))
    go true e rest =
        let ten : b ≡ 10 = eqb-true b 10 e in
        inl (record {
          place = 0;
          inside = omega arith;
          feed = ten;
          lines = subst (λ (c : ℕ). lines_of (c ∷ bytes) ≡ (c ∷ []) ∷ lines_of bytes) (sym ten) refl;
        })
    go false e (inl c) = inl (later e c)
    go false e (inr w) = inr (byte_first b bytes e ∙ onto_one b bytes w)
