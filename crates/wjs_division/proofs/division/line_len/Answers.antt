use Rattle.std.proofs.Common.{◌≡◌, ℕ, suc, ◌+◌, List, [], ◌∷◌, length, take, drop, refl, sym, subst, ◌∙◌, arith, add-one}
use Rattle.std.proofs.lemmas.List.{take_all, drop_all}
use Rattle.wjs_division.specs.Division.{lines_of}
use Rattle.wjs_division.proofs.Cuts.{cut_at, uncut_line}
use Rattle.wjs_division.proofs.division.line_len.Goals as goal

-- a cut one behind a place
behind : (bytes : List ℕ) (n : ℕ) → lines_of bytes ≡ take (suc n) bytes ∷ lines_of (drop (suc n) bytes) → lines_of bytes ≡ take (n + 1) bytes ∷ lines_of (drop (n + 1) bytes)
behind bytes n e = subst (λ (k : ℕ). lines_of bytes ≡ take k bytes ∷ lines_of (drop k bytes)) (sym (add-one n)) e

-- a cut at the end
at_end : (bytes : List ℕ) (n : ℕ) → n ≡ length bytes → lines_of bytes ≡ bytes ∷ lines_of [] → lines_of bytes ≡ take n bytes ∷ lines_of (drop n bytes)
at_end bytes n e whole =
    let none : drop n bytes ≡ [] = drop_all n bytes (omega arith) in
    whole ∙ (λ i. sym (take_all n bytes (omega arith)) i ∷ lines_of (sym none i))

pub returns-then-byte-eq10-clause-line : goal.returns-then-byte-eq10-clause-line
returns-then-byte-eq10-clause-line c =
    let n = c.loop-place.place in
    behind c.args.bytes.now n (cut_at c.args.bytes.now n (omega arith) c.loop-place.invariant c.if-byte-eq10.true)

pub returns-clause-line : goal.returns-clause-line
returns-clause-line c =
    let bytes = c.args.bytes.now in
    at_end bytes (length bytes) refl (uncut_line bytes c.requires (λ k low is. c.loop-place.invariant k (omega arith) is))
