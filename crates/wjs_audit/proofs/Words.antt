-- Words: bytes above the space, which are had back from a line that joins them.
use Rattle.std.proofs.Common.{◌≡◌, ◌≢◌, ℕ, ◌+◌, ◌^◌, ◌<◌, ◌≤◌, Bool, true, false, cond, List, [], ◌∷◌, ◌++◌, length, refl, sym, subst, ◌∙◌, append-nil, arith, All}
use Rattle.std.specs.Prelude.{nat_lt, decimal}
use Rattle.std.specs.List.{list_all}
use Rattle.std.specs.Fmt.{digits, digit_glyph}
use Rattle.std.proofs.lemmas.Bool.{and_parts, ltb-true}
use Rattle.std.proofs.lemmas.Fmt.{decimal_is_IsNumeral, hex_one_digit}
use Rattle.std.proofs.lemmas.List.{get_or_at, length-append}
use Rattle.std.proofs.lemmas.List.Elements.{All-nil, All-cons, All-head, All-tail, All-append, All-weaker, All-from_get_or}
use Rattle.std.proofs.lemmas.Str.Parse.{digit_at}
use Rattle.wjs_audit.specs.Parts.{Lacks, AreParts}
use Rattle.wjs_audit.specs.Spelling.{spaced, joined}

-- no byte is a space, or below it
abbrev pub IsWord : List ℕ → Type 0
IsWord part = All (λ b. 32 < b) part

abbrev pub AreWords : List (List ℕ) → Type 0
AreWords parts = All IsWord parts

pub word_by : (part : List ℕ) → list_all (λ b. nat_lt 32 b) part ≡ true → IsWord part
word_by [] h = All-nil (λ b. 32 < b)
word_by (b ∷ part) h = let p = and_parts (nat_lt 32 b) (list_all (λ c. nat_lt 32 c) part) h in All-cons (λ c. 32 < c) b part (ltb-true 32 b p.0) (word_by part p.1)

pub decimal_digits : (n : ℕ) → n < 2 ^ 64 → All (λ b. (48 ≤ b) × (b ≤ 57)) (decimal n)
decimal_digits n fits = All-from_get_or (λ b. (48 ≤ b) × (b ≤ 57)) (decimal n) 0 (λ i within. let d = digit_at (decimal n) i (decimal_is_IsNumeral n fits).0.1 within in (d.0, d.1))

pub decimal_word : (n : ℕ) → n < 2 ^ 64 → IsWord (decimal n)
decimal_word n fits = All-weaker (λ b. (48 ≤ b) × (b ≤ 57)) (λ b. 32 < b) (λ b h. omega (arith, h.0)) (decimal n) (decimal_digits n fits)

pub decimal_lacks : (n c : ℕ) → n < 2 ^ 64 → c < 48 → Lacks c (decimal n)
decimal_lacks n c fits low = All-weaker (λ b. (48 ≤ b) × (b ≤ 57)) (λ b. b ≢ c) (λ b h e. omega (arith, h.0)) (decimal n) (decimal_digits n fits)

word_lacks : (c : ℕ) (part : List ℕ) → c ≤ 32 → IsWord part → Lacks c part
word_lacks c part low h = All-weaker (λ b. 32 < b) (λ b. b ≢ c) (λ b above e. omega arith) part h

-- ---- cut at a byte

pub lacks_not : (c : ℕ) (xs ys : List ℕ) → Lacks c (xs ++ c ∷ ys) → ⊥
lacks_not c xs ys h =
    let long = length-append xs (c ∷ ys) in
    h (length xs) c (omega (arith, long)) (get_or_at xs c ys c (length xs) refl)

pub cut_one : (c : ℕ) (xs ys us bs : List ℕ) → Lacks c xs → Lacks c us → xs ++ c ∷ ys ≡ us ++ c ∷ bs → (xs ≡ us) × (ys ≡ bs)
cut_one c [] ys [] bs h k e = (refl, let t : ys ≡ bs = cc in t)
cut_one c [] ys (u ∷ us) bs h k e = absurd (All-head (λ b. b ≢ c) u us k (let t : u ≡ c = cc in t))
cut_one c (x ∷ xs) ys [] bs h k e = absurd (All-head (λ b. b ≢ c) x xs h (let t : x ≡ c = cc in t))
cut_one c (x ∷ xs) ys (u ∷ us) bs h k e =
    let first : x ≡ u = cc in
    let later : xs ++ c ∷ ys ≡ us ++ c ∷ bs = cc in
    let r = cut_one c xs ys us bs (All-tail (λ b. b ≢ c) x xs h) (All-tail (λ b. b ≢ c) u us k) later in
    (λ i. first i ∷ r.0 i, r.1)

-- ---- parts of a line

spaced_lacks : (parts : List (List ℕ)) → AreWords parts → Lacks 10 (spaced parts)
spaced_lacks [] h = All-nil (λ b. b ≢ 10)
spaced_lacks (part ∷ parts) h =
    All-append (λ b. b ≢ 10) (32 ∷ part) (spaced parts)
    (All-cons (λ b. b ≢ 10) 32 part (λ e. omega arith) (word_lacks 10 part (omega arith) (All-head IsWord part parts h)))
    (spaced_lacks parts (All-tail IsWord part parts h))

pub joined_lacks : (parts : List (List ℕ)) → AreWords parts → Lacks 10 (joined parts)
joined_lacks [] h = All-nil (λ b. b ≢ 10)
joined_lacks (part ∷ parts) h =
    All-append (λ b. b ≢ 10) part (spaced parts) (word_lacks 10 part (omega arith) (All-head IsWord part parts h)) (spaced_lacks parts (All-tail IsWord part parts h))

-- bytes are parts with spaces between them in one way
pub parts_one : (p : List ℕ) (ps : List (List ℕ)) (q : List ℕ) (qs : List (List ℕ)) → Lacks 32 p → AreParts ps → Lacks 32 q → AreParts qs → p ++ spaced ps ≡ q ++ spaced qs → (p ≡ q) × (ps ≡ qs)
parts_one p [] q [] f h g k e = (sym (append-nil p) ∙ e ∙ append-nil q, refl)
parts_one p [] q (r ∷ qs) f h g k e = absurd (lacks_not 32 q (r ++ spaced qs) (subst (Lacks 32) (sym (append-nil p) ∙ e) f))
parts_one p (r ∷ ps) q [] f h g k e = absurd (lacks_not 32 p (r ++ spaced ps) (subst (Lacks 32) (sym (append-nil q) ∙ sym e) g))
parts_one p (r ∷ ps) q (t ∷ qs) f h g k e =
    let c = cut_one 32 p (r ++ spaced ps) q (t ++ spaced qs) f g e in
    let m = parts_one r ps t qs (All-head (Lacks 32) r ps h) (All-tail (Lacks 32) r ps h) (All-head (Lacks 32) t qs k) (All-tail (Lacks 32) t qs k) c.1 in
    (c.0, λ i. m.0 i ∷ m.1 i)

-- words are parts
pub are_parts : (parts : List (List ℕ)) → AreWords parts → AreParts parts
are_parts parts h = All-weaker IsWord (Lacks 32) (λ part. word_lacks 32 part (omega arith)) parts h

pub joined_one : (p : List ℕ) (ps : List (List ℕ)) (q : List ℕ) (qs : List (List ℕ)) → AreWords (p ∷ ps) → AreWords (q ∷ qs) → p ++ spaced ps ≡ q ++ spaced qs → (p ≡ q) × (ps ≡ qs)
joined_one p ps q qs h k e =
    let f = are_parts (p ∷ ps) h in
    let g = are_parts (q ∷ qs) k in
    parts_one p ps q qs (All-head (Lacks 32) p ps f) (All-tail (Lacks 32) p ps f) (All-head (Lacks 32) q qs g) (All-tail (Lacks 32) q qs g) e

-- ---- hexadecimal digits

glyph_word : (d : ℕ) → 32 < digit_glyph false d
glyph_word d = by (nat_lt d 10)
  where
    by : (b : Bool) → 32 < cond b (48 + d) (87 + d)
    by true = omega arith
    by false = omega arith

pub digit_word : (d : ℕ) → d < 16 → IsWord (digits 16 false d)
digit_word d low = subst IsWord (sym (hex_one_digit false d low)) (All-cons (λ b. 32 < b) (digit_glyph false d) [] (glyph_word d) (All-nil (λ b. 32 < b)))
