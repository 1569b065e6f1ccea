-- The lines of a part go on where those before it end.
use Rattle.std.proofs.Common.{◌≡◌, ℕ, zero, suc, ◌+◌, ◌-◌, ◌<◌, ◌≤◌, ◌==◌, ◌⊎◌, inl, inr, Bool, true, false, cond, List, [], ◌∷◌, ◌++◌, length, take, get_or, Option, None, Some, codes, refl, sym, ap, ◌∙◌, subst, arith, add-one, append_assoc}
use Rattle.std.specs.Prelude.{slice_get, ◌||◌}
use Rattle.std.specs.Str.{IsUtf8, bytes_eq, chars}
use Rattle.std.proofs.Math.Utf8.{encode}
use Rattle.std.proofs.lemmas.Bool.{cases_lt, eqb-true}
use Rattle.std.proofs.lemmas.List.{length-append, get_or_at, take_at}
use Rattle.std.proofs.lemmas.Option.{none-some, same_Some, slice_get_past}
use Rattle.std.proofs.lemmas.Slice.Eq.{bytes_eq-Decides}
use Rattle.std.proofs.lemmas.Str.{chars-nil, chars-append, chars_past_char, encode_ascii, IsUtf8-append, IsUtf8-nil, IsUtf8-take, IsCharBoundary-before_ascii}
use Rattle.wjs_lexer.specs.Places.{line_at, line_step}
use Rattle.wjs_lexer.proofs.Places.{line_more}
use Rattle.wjs_division.specs.Division.{Part, part_behind, divides, lines_of, onto_first, divided}
use Rattle.wjs_division.specs.Laws.{LinesGoOn}
use Rattle.wjs_division.proofs.Ended.{first_line}
use Rattle.wjs_division.proofs.Texts.{AreTexts, lines_are_texts, part_texts}

-- ---- a list behind another

get_left : (xs ys : List ℕ) (i : ℕ) → i < length xs → slice_get (xs ++ ys) i ≡ slice_get xs i
get_left [] ys i low = absurd (omega arith)
get_left (x ∷ xs) ys zero low = refl
get_left (x ∷ xs) ys (suc i) low = get_left xs ys i (omega arith)

get_right : (xs ys : List ℕ) (i : ℕ) → slice_get (xs ++ ys) (length xs + i) ≡ slice_get ys i
get_right [] ys i = let same : 0 + i ≡ i = omega arith in ap (slice_get ys) same
get_right (x ∷ xs) ys i = let same : suc (length xs) + i ≡ suc (length xs + i) = omega arith in ap (slice_get (x ∷ xs ++ ys)) same ∙ get_right xs ys i

-- the last character ends as many lines before what follows as at the end
abbrev Seam : List ℕ → List ℕ → Type 0
Seam xs ys = (i : ℕ) → i + 1 ≡ length xs → line_step (slice_get xs i) (slice_get ys 0) ≡ line_step (slice_get xs i) None

-- ---- lines over a seam

step_left : (xs ys : List ℕ) (i : ℕ) → Seam xs ys → i < length xs → line_step (slice_get (xs ++ ys) i) (slice_get (xs ++ ys) (i + 1)) ≡ line_step (slice_get xs i) (slice_get xs (i + 1))
step_left xs ys i seam low = elim (cases_lt (i + 1) (length xs)) [
  | inl more ↦ λ j. line_step (get_left xs ys i low j) (get_left xs ys (i + 1) more j)
  | inr past ↦
      let last : i + 1 ≡ length xs = omega arith in
      let place : i + 1 ≡ length xs + 0 = omega arith in
      let next : slice_get (xs ++ ys) (i + 1) ≡ slice_get ys 0 = ap (slice_get (xs ++ ys)) place ∙ get_right xs ys 0 in
      (λ j. line_step (get_left xs ys i low j) (next j)) ∙ seam i last ∙ ap (line_step (slice_get xs i)) (sym (slice_get_past xs (i + 1) past))
]

left_lines : (xs ys : List ℕ) → Seam xs ys → (i : ℕ) → i ≤ length xs → line_at (xs ++ ys) i ≡ line_at xs i
left_lines xs ys seam zero low = first_line (xs ++ ys) ∙ sym (first_line xs)
left_lines xs ys seam (suc i) low =
    let same : suc i ≡ i + 1 = sym (add-one i) in
    let before = left_lines xs ys seam i (omega arith) in
    let step = step_left xs ys i seam (omega arith) in
    ap (line_at (xs ++ ys)) same ∙ line_more (xs ++ ys) i ∙ (λ j. before j + step j) ∙ sym (line_more xs i) ∙ ap (line_at xs) (sym same)

some_line : (cs : List ℕ) (i : ℕ) → 1 ≤ line_at cs i
some_line cs zero = let first = first_line cs in omega arith
some_line cs (suc i) =
    let before = some_line cs i in
    let more = ap (line_at cs) (sym (add-one i)) ∙ line_more cs i in
    omega arith

right_step : (xs ys : List ℕ) (i : ℕ) → line_step (slice_get (xs ++ ys) (length xs + i)) (slice_get (xs ++ ys) (length xs + i + 1)) ≡ line_step (slice_get ys i) (slice_get ys (i + 1))
right_step xs ys i =
    let on : length xs + i + 1 ≡ length xs + (i + 1) = omega arith in
    let next : slice_get (xs ++ ys) (length xs + i + 1) ≡ slice_get ys (i + 1) = ap (slice_get (xs ++ ys)) on ∙ get_right xs ys (i + 1) in
    λ j. line_step (get_right xs ys i j) (next j)

right_lines : (xs ys : List ℕ) → Seam xs ys → (i : ℕ) → line_at (xs ++ ys) (length xs + i) ≡ (line_at xs (length xs) - 1) + line_at ys i
right_lines xs ys seam zero =
    let none : length xs + 0 ≡ length xs = omega arith in
    let there = ap (line_at (xs ++ ys)) none ∙ left_lines xs ys seam (length xs) (omega arith) in
    let first = first_line ys in
    let some = some_line xs (length xs) in
    omega arith
right_lines xs ys seam (suc i) =
    let on : length xs + suc i ≡ length xs + i + 1 = omega arith in
    let before = right_lines xs ys seam i in
    let more = ap (line_at (xs ++ ys)) on ∙ line_more (xs ++ ys) (length xs + i) in
    let step = right_step xs ys i in
    let last = ap (line_at ys) (sym (add-one i)) ∙ line_more ys i in
    omega arith

-- ---- what stands around a part

-- nothing, or a text that ends with `-` or LF
data Front (front : List ℕ) : Type 0 where
  no_front : front ≡ [] → Front front
  ends : (xs : List ℕ) (c : ℕ) → front ≡ xs ++ c ∷ [] → (c ≡ 45) ⊎ (c ≡ 10) → Front front

-- nothing, or a text that begins with `-`
data Rest (rest : List ℕ) : Type 0 where
  no_rest : rest ≡ [] → Rest rest
  begins : (more : List ℕ) → rest ≡ 45 ∷ more → IsUtf8 rest → Rest rest

record Around (whole : List ℕ) (p : Part) : Type 0 where
  rest : List ℕ
  is : whole ≡ p.front ++ (p.bytes ++ rest)
  front : Front p.front
  behind : Rest rest

abbrev joined : List (List ℕ) → List ℕ
joined [] = []
joined (line ∷ lines) = line ++ joined lines

-- the lines are the bytes
onto_joined : (b : ℕ) (lines : List (List ℕ)) → joined (onto_first b lines) ≡ b ∷ joined lines
onto_joined b [] = refl
onto_joined b (line ∷ lines) = refl

joined_lines : (bytes : List ℕ) → joined (lines_of bytes) ≡ bytes
joined_lines [] = refl
joined_lines (b ∷ bytes) = go (b == 10) refl (joined_lines bytes)
  where
    go : (t : Bool) → (b == 10) ≡ t → joined (lines_of bytes) ≡ bytes → joined (cond t ((10 ∷ []) ∷ lines_of bytes) (onto_first b (lines_of bytes))) ≡ b ∷ bytes
    go true e rest = λ i. sym (eqb-true b 10 e) i ∷ rest i
    go false e rest = onto_joined b (lines_of bytes) ∙ ap (λ (l : List ℕ). b ∷ l) rest

joined_text : (lines : List (List ℕ)) → AreTexts lines → IsUtf8 (joined lines)
joined_text [] h = IsUtf8-nil
joined_text (line ∷ lines) h = IsUtf8-append line (joined lines) h.0 (joined_text lines h.1)

-- a line that divides is one of two
either : (a b : Bool) → (a || b) ≡ true → (a ≡ true) ⊎ (b ≡ true)
either true b h = inl refl
either false b h = inr h

signs : (line : List ℕ) → divides line ≡ true → (line ≡ codes "---") ⊎ (line ≡ codes "---" ++ 10 ∷ [])
signs line e = elim (either (bytes_eq line (codes "---")) (bytes_eq line (codes "---" ++ 10 ∷ [])) e) [
  | inl short ↦ inl ((bytes_eq-Decides line (codes "---")).0 short)
  | inr long ↦ inr ((bytes_eq-Decides line (codes "---" ++ 10 ∷ [])).0 long)
]

-- behind it a part begins
at_end : (front bytes line most : List ℕ) (c : ℕ) → line ≡ most ++ c ∷ [] → front ++ (bytes ++ line) ≡ (front ++ (bytes ++ most)) ++ c ∷ []
at_end front bytes line most c e =
    ap (λ (l : List ℕ). front ++ (bytes ++ l)) e
    ∙ ap (λ (l : List ℕ). front ++ l) (sym (append_assoc bytes most (c ∷ [])))
    ∙ sym (append_assoc front (bytes ++ most) (c ∷ []))

next_front : (front bytes line : List ℕ) → divides line ≡ true → Front (front ++ (bytes ++ line))
next_front front bytes line e = elim (signs line e) [
  | inl short ↦ ends (front ++ (bytes ++ 45 ∷ 45 ∷ [])) 45 (at_end front bytes line (45 ∷ 45 ∷ []) 45 short) (inl refl)
  | inr long ↦ ends (front ++ (bytes ++ 45 ∷ 45 ∷ 45 ∷ [])) 10 (at_end front bytes line (45 ∷ 45 ∷ 45 ∷ []) 10 long) (inr refl)
]

-- and before it one ends
rest_begins : (line more : List ℕ) → divides line ≡ true → IsUtf8 (line ++ more) → Rest (line ++ more)
rest_begins line more e u = elim (signs line e) [
  | inl short ↦ begins (45 ∷ 45 ∷ more) (ap (λ (l : List ℕ). l ++ more) short) u
  | inr long ↦ begins (45 ∷ 45 ∷ 10 ∷ more) (ap (λ (l : List ℕ). l ++ more) long) u
]

-- ---- the parts of lines

only : (front bytes rest : List ℕ) (place : ℕ) (p : Part) → Front front → Rest rest → slice_get (part_behind front bytes ∷ []) place ≡ Some p → Around (front ++ (bytes ++ rest)) p
only front bytes rest zero p f r at = subst (λ (q : Part). Around (front ++ (bytes ++ rest)) q) (same_Some (part_behind front bytes) p at) (record { rest = rest; is = refl; front = f; behind = r })
only front bytes rest (suc place) p f r at = absurd (none-some p at)

around : (lines : List (List ℕ)) (front bytes : List ℕ) (place : ℕ) (p : Part) → AreTexts lines → Front front → slice_get (divided front bytes lines) place ≡ Some p → Around (front ++ (bytes ++ joined lines)) p
around [] front bytes place p texts f at = only front bytes [] place p f (no_rest refl) at
around (line ∷ lines) front bytes place p texts f at = go (divides line) refl place at (λ k. around lines front (bytes ++ line) k p texts.1 f) (λ k g. around lines (front ++ (bytes ++ line)) [] k p texts.1 g)
  where
    later : Around ((front ++ (bytes ++ line)) ++ joined lines) p → Around (front ++ (bytes ++ (line ++ joined lines))) p
    later h = subst (λ (w : List ℕ). Around w p) (append_assoc front (bytes ++ line) (joined lines) ∙ ap (λ (l : List ℕ). front ++ l) (append_assoc bytes line (joined lines))) h

    on : Around (front ++ ((bytes ++ line) ++ joined lines)) p → Around (front ++ (bytes ++ (line ++ joined lines))) p
    on h = subst (λ (w : List ℕ). Around w p) (ap (λ (l : List ℕ). front ++ l) (append_assoc bytes line (joined lines))) h

    go : (t : Bool) → divides line ≡ t → (k : ℕ) → slice_get (cond t (part_behind front bytes ∷ divided (front ++ (bytes ++ line)) [] lines) (divided front (bytes ++ line) lines)) k ≡ Some p → ((n : ℕ) → slice_get (divided front (bytes ++ line) lines) n ≡ Some p → Around (front ++ ((bytes ++ line) ++ joined lines)) p) → ((n : ℕ) → Front (front ++ (bytes ++ line)) → slice_get (divided (front ++ (bytes ++ line)) [] lines) n ≡ Some p → Around ((front ++ (bytes ++ line)) ++ joined lines) p) → Around (front ++ (bytes ++ (line ++ joined lines))) p
    go true e zero is same next = only front bytes (line ++ joined lines) 0 p f (rest_begins line (joined lines) e (IsUtf8-append line (joined lines) texts.0 (joined_text lines texts.1))) is
    go true e (suc k) is same next = later (next k (next_front front bytes line e) is)
    go false e k is same next = on (same k is)

-- ---- seams

plain : (c : ℕ) (next : Option ℕ) → (c ≡ 45) ⊎ (c ≡ 10) → line_step (Some c) next ≡ line_step (Some c) None
plain c next (inl e) = subst (λ (x : ℕ). line_step (Some x) next ≡ line_step (Some x) None) (sym e) refl
plain c next (inr e) = subst (λ (x : ℕ). line_step (Some x) next ≡ line_step (Some x) None) (sym e) refl

sign_chars : chars (45 ∷ []) ≡ 45 ∷ []
unfolding chars
sign_chars = refl

feed_chars : chars (10 ∷ []) ≡ 10 ∷ []
unfolding chars
feed_chars = refl

one_char : (c : ℕ) → (c ≡ 45) ⊎ (c ≡ 10) → chars (c ∷ []) ≡ c ∷ []
one_char c (inl e) = subst (λ (x : ℕ). chars (x ∷ []) ≡ x ∷ []) (sym e) sign_chars
one_char c (inr e) = subst (λ (x : ℕ). chars (x ∷ []) ≡ x ∷ []) (sym e) feed_chars

ascii : (c : ℕ) → (c ≡ 45) ⊎ (c ≡ 10) → c < 128
ascii c (inl e) = omega arith
ascii c (inr e) = omega arith

last_char : (front xs : List ℕ) (c : ℕ) → IsUtf8 front → front ≡ xs ++ c ∷ [] → (c ≡ 45) ⊎ (c ≡ 10) → chars front ≡ chars xs ++ c ∷ []
last_char front xs c u e k =
    let there : get_or front (length xs) 0 ≡ c = ap (λ (l : List ℕ). get_or l (length xs) 0) e ∙ get_or_at xs c [] 0 (length xs) refl in
    let low : get_or front (length xs) 0 < 128 = let small = ascii c k in omega arith in
    let inside : length xs < length front = let count = ap (λ (l : List ℕ). length l) e in omega (arith, count, length-append xs (c ∷ [])) in
    let cut : take (length xs) front ≡ xs = ap (take (length xs)) e ∙ take_at xs (c ∷ []) (length xs) refl in
    let text : IsUtf8 xs = subst IsUtf8 cut (IsUtf8-take front (length xs) u (IsCharBoundary-before_ascii front (length xs) inside low)) in
    ap chars e ∙ chars-append xs (c ∷ []) text ∙ ap (λ (l : List ℕ). chars xs ++ l) (one_char c k)

front_seam : (front ys : List ℕ) → IsUtf8 front → Front front → Seam (chars front) ys
front_seam front ys u (no_front e) = λ i last. absurd (let none = ap (λ (l : List ℕ). length (chars l)) e ∙ ap (λ (l : List ℕ). length l) chars-nil in omega (arith, none, last))
front_seam front ys u (ends xs c e k) = λ i last.
    let same = last_char front xs c u e k in
    let count = ap (λ (l : List ℕ). length l) same in
    let place : i ≡ length (chars xs) + 0 = omega (arith, count, last, length-append (chars xs) (c ∷ [])) in
    let there : slice_get (chars front) i ≡ Some c = (λ j. slice_get (same j) (place j)) ∙ get_right (chars xs) (c ∷ []) 0 in
    ap (λ (o : Option ℕ). line_step o (slice_get ys 0)) there ∙ plain c (slice_get ys 0) k ∙ ap (λ (o : Option ℕ). line_step o None) (sym there)

before_sign : (o : Option ℕ) → line_step o (Some 45) ≡ line_step o None
before_sign None = refl
before_sign (Some c) = refl

rest_seam : (xs rest : List ℕ) → Rest rest → Seam xs (chars rest)
rest_seam xs rest (no_rest e) = λ i last. ap (λ (l : List ℕ). line_step (slice_get xs i) (slice_get l 0)) (ap chars e ∙ chars-nil)
rest_seam xs rest (begins more e u) = λ i last.
    let spelled : rest ≡ encode 45 ++ more = e ∙ ap (λ (l : List ℕ). l ++ more) (sym (encode_ascii 45 (omega arith))) in
    ap (λ (l : List ℕ). line_step (slice_get xs i) (slice_get l 0)) (chars_past_char rest more 45 u spelled) ∙ before_sign (slice_get xs i)

-- ---- the lines of a part

pub lines_go_on : LinesGoOn
lines_go_on bytes place p i utf8 at low =
    let texts = part_texts bytes place p utf8 at in
    let stands : Around (joined (lines_of bytes)) p = around (lines_of bytes) [] [] place p (lines_are_texts bytes utf8) (no_front refl) at in
    let whole : bytes ≡ p.front ++ (p.bytes ++ stands.rest) = sym (joined_lines bytes) ∙ stands.is in
    let front = chars p.front in
    let part = chars p.bytes in
    let rest = chars stands.rest in
    let spelled : chars bytes ≡ front ++ (part ++ rest) =
    ap chars whole ∙ chars-append p.front (p.bytes ++ stands.rest) texts.0 ∙ ap (λ (l : List ℕ). front ++ l) (chars-append p.bytes stands.rest texts.1) in
    ap (λ (cs : List ℕ). line_at cs (length front + i)) spelled
    ∙ right_lines front (part ++ rest) (front_seam p.front (part ++ rest) texts.0 stands.front) i
    ∙ ap (λ (n : ℕ). (line_at front (length front) - 1) + n) (left_lines part rest (rest_seam part stands.rest stands.behind) i low)
