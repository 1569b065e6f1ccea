-- The first character tells the kinds of piece that may begin with it.
use Rattle.std.proofs.Common.{◌≡◌, ℕ, ◌<◌, ◌⊎◌, inl, inr, Bool, true, false, not, ◌||◌, ◌&&◌, ◌==◌, refl, ◌∙◌, ap, arith, List, Some, get_or, if◌then◌else◌}
use Rattle.std.proofs.lemmas.Bool.Decides.{nat_tests}
use Rattle.std.specs.Prelude.{slice_get}
use Rattle.std.specs.Int.{is_in_range}
use Rattle.std.specs.Char.{is_digit}
use Rattle.ucd_table.proofs.Facts.{Stepped-below}
use Rattle.ucd_derived.proofs.BinaryLemmas.{is_xid_start_stepped}
use Rattle.unicode_ident.specs.Ident.{is_xid_start}
use Rattle.unicode_ident.proofs.Computing.{unicode_ident}
use Rattle.wjs_tree.specs.declared.signs.Sign.{Sign}
use Rattle.wjs_tree.specs.declared.signs.Sign.TheVariants as signs
use Rattle.wjs_tree.specs.Signs.{spelling}
use Rattle.wjs_lexer.specs.declared.characters.Kind.{Kind}
use Rattle.wjs_lexer.specs.declared.characters.Kind.TheVariants as kinds
use Rattle.wjs_lexer.specs.declared.numbers.Base.{Base}
use Rattle.wjs_lexer.specs.declared.numbers.Base.TheVariants as bases
use Rattle.wjs_lexer.specs.Characters.{is_blank, is_line_end, starts_name, is_decimal}
use Rattle.wjs_lexer.specs.KindSteps.{kind_of}
use Rattle.wjs_lexer.specs.Signs.{Spells}
use Rattle.wjs_lexer.specs.Numbers.{IsZero, IsNumeral, is_bound_to_number}
use Rattle.wjs_lexer.specs.Strings.{is_quote}
use Rattle.wjs_lexer.specs.Pieces.{Piece, space, line_end, line_comment, block_comment, word, key, sign, number, text, StandsAt}
use Rattle.wjs_lexer.proofs.Ranges.{passed, same_char}

letter : Bool → ℕ → Bool
letter v c = (c == 36) || ((c == 95) || v)

-- no two kinds of characters have one in common, and a number binds each hexadecimal digit
blank_test : ℕ → Bool → Bool
blank_test c v = not (is_blank c) || (not (is_line_end c) && (not (letter v c) && not (is_decimal c)))

line_test : ℕ → Bool → Bool
line_test c v = not (is_line_end c) || (not (letter v c) && not (is_decimal c))

digit_test : ℕ → Bool → Bool
digit_test c v = not (is_decimal c) || not (letter v c)

hex_test : ℕ → Bool → Bool
hex_test c v = not (is_digit c 16) || (letter v c || (is_decimal c || (c == 46)))

test : ℕ → Bool → Bool
test c v = blank_test c v && (line_test c v && (digit_test c v && hex_test c v))

apart : (c : ℕ) → c < 0x3001 → test c (is_xid_start c) ≡ true
unfolding unicode_ident test letter blank_test line_test digit_test hex_test
apart c h = Stepped-below is_xid_start is_xid_start_stepped test 0x3001 refl c h

blank_small : (c : ℕ) → is_blank c ≡ true → c < 0x3001
blank_small c h = grind (arith, nat_tests)

line_small : (c : ℕ) → is_line_end c ≡ true → c < 0x3001
line_small c h = grind (arith, nat_tests)

digit_small : (c : ℕ) → is_decimal c ≡ true → c < 0x3001
digit_small c h = grind (arith, nat_tests)

hex_small : (c : ℕ) → is_digit c 16 ≡ true → c < 0x3001
hex_small c h = grind (arith, nat_tests)

and_4 : (a b c d : Bool) → (a && (b && (c && d))) ≡ true → (a ≡ true) × ((b ≡ true) × ((c ≡ true) × (d ≡ true)))
and_4 true true true true h = (refl, (refl, (refl, refl)))
and_4 true true true false h = cc
and_4 true true false d h = cc
and_4 true false c d h = cc
and_4 false b c d h = cc

tests : (c : ℕ) → c < 0x3001 → (blank_test c (is_xid_start c) ≡ true) × ((line_test c (is_xid_start c) ≡ true) × ((digit_test c (is_xid_start c) ≡ true) × (hex_test c (is_xid_start c) ≡ true)))
unfolding test
tests c h = and_4 (blank_test c (is_xid_start c)) (line_test c (is_xid_start c)) (digit_test c (is_xid_start c)) (hex_test c (is_xid_start c)) (apart c h)

-- a kind that has a character has it alone
alone_3 : (a b c d : Bool) → a ≡ true → (not a || (not b && (not c && not d))) ≡ true → (b ≡ false) × ((c ≡ false) × (d ≡ false))
alone_3 true false false false e h = (refl, (refl, refl))
alone_3 true true c d e h = cc
alone_3 true false true d e h = cc
alone_3 true false false true e h = cc
alone_3 false b c d e h = cc

alone_2 : (a c d : Bool) → a ≡ true → (not a || (not c && not d)) ≡ true → (c ≡ false) × (d ≡ false)
alone_2 true false false e h = (refl, refl)
alone_2 true true d e h = cc
alone_2 true false true e h = cc
alone_2 false c d e h = cc

alone_1 : (a c : Bool) → a ≡ true → (not a || not c) ≡ true → c ≡ false
alone_1 true false e h = refl
alone_1 true true e h = cc
alone_1 false c e h = cc

implied : (a c : Bool) → a ≡ true → (not a || c) ≡ true → c ≡ true
implied true true e h = refl
implied true false e h = cc
implied false c e h = cc

blank_apart : (c : ℕ) → is_blank c ≡ true → (is_line_end c ≡ false) × ((starts_name c ≡ false) × (is_decimal c ≡ false))
unfolding blank_test letter starts_name
blank_apart c h = alone_3 _ _ _ _ h (tests c (blank_small c h)).0

line_apart : (c : ℕ) → is_line_end c ≡ true → (starts_name c ≡ false) × (is_decimal c ≡ false)
unfolding line_test letter starts_name
line_apart c h = alone_2 _ _ _ h (tests c (line_small c h)).1.0

digit_apart : (c : ℕ) → is_decimal c ≡ true → starts_name c ≡ false
unfolding digit_test letter starts_name
digit_apart c h = alone_1 _ _ h (tests c (digit_small c h)).1.1.0

-- a number binds each hexadecimal digit
pub hex_bound : (c : ℕ) → is_digit c 16 ≡ true → is_bound_to_number c ≡ true
unfolding hex_test letter starts_name
hex_bound c h = implied _ _ h (tests c (hex_small c h)).1.1.1

kind_by : Bool → Bool → Bool → Bool → Bool → Bool → Kind
kind_by b l s d a q = if b then kinds.Space else (if l then kinds.LineEnd else (if s then kinds.Letter else (if d then kinds.Digit else (if a then kinds.Slash else (if q then kinds.Quote else kinds.Mark)))))

blank_by : (b l s d a q : Bool) → kind_by b l s d a q ≡ kinds.Space → b ≡ true
unfolding kind_by
blank_by true l s d a q h = refl
blank_by false true s d a q h = cc
blank_by false false true d a q h = cc
blank_by false false false true a q h = cc
blank_by false false false false true q h = cc
blank_by false false false false false true h = cc
blank_by false false false false false false h = cc

pub blank_of : (c : ℕ) → kind_of c ≡ kinds.Space → is_blank c ≡ true
unfolding kind_by
blank_of c h = blank_by (is_blank c) (is_line_end c) (starts_name c) (is_decimal c) ((c == 47)) (is_quote c) h

line_by : (b l s d a q : Bool) → kind_by b l s d a q ≡ kinds.LineEnd → l ≡ true
unfolding kind_by
line_by true l s d a q h = cc
line_by false true s d a q h = refl
line_by false false true d a q h = cc
line_by false false false true a q h = cc
line_by false false false false true q h = cc
line_by false false false false false true h = cc
line_by false false false false false false h = cc

pub line_of : (c : ℕ) → kind_of c ≡ kinds.LineEnd → is_line_end c ≡ true
unfolding kind_by
line_of c h = line_by (is_blank c) (is_line_end c) (starts_name c) (is_decimal c) ((c == 47)) (is_quote c) h

letter_by : (b l s d a q : Bool) → kind_by b l s d a q ≡ kinds.Letter → s ≡ true
unfolding kind_by
letter_by true l s d a q h = cc
letter_by false true s d a q h = cc
letter_by false false true d a q h = refl
letter_by false false false true a q h = cc
letter_by false false false false true q h = cc
letter_by false false false false false true h = cc
letter_by false false false false false false h = cc

pub letter_of : (c : ℕ) → kind_of c ≡ kinds.Letter → starts_name c ≡ true
unfolding kind_by
letter_of c h = letter_by (is_blank c) (is_line_end c) (starts_name c) (is_decimal c) ((c == 47)) (is_quote c) h

digit_by : (b l s d a q : Bool) → kind_by b l s d a q ≡ kinds.Digit → d ≡ true
unfolding kind_by
digit_by true l s d a q h = cc
digit_by false true s d a q h = cc
digit_by false false true d a q h = cc
digit_by false false false true a q h = refl
digit_by false false false false true q h = cc
digit_by false false false false false true h = cc
digit_by false false false false false false h = cc

pub digit_of : (c : ℕ) → kind_of c ≡ kinds.Digit → is_decimal c ≡ true
unfolding kind_by
digit_of c h = digit_by (is_blank c) (is_line_end c) (starts_name c) (is_decimal c) ((c == 47)) (is_quote c) h

slash_by : (b l s d a q : Bool) → kind_by b l s d a q ≡ kinds.Slash → a ≡ true
unfolding kind_by
slash_by true l s d a q h = cc
slash_by false true s d a q h = cc
slash_by false false true d a q h = cc
slash_by false false false true a q h = cc
slash_by false false false false true q h = refl
slash_by false false false false false true h = cc
slash_by false false false false false false h = cc

pub slash_of : (c : ℕ) → kind_of c ≡ kinds.Slash → (c == 47) ≡ true
unfolding kind_by
slash_of c h = slash_by (is_blank c) (is_line_end c) (starts_name c) (is_decimal c) ((c == 47)) (is_quote c) h

quote_by : (b l s d a q : Bool) → kind_by b l s d a q ≡ kinds.Quote → q ≡ true
unfolding kind_by
quote_by true l s d a q h = cc
quote_by false true s d a q h = cc
quote_by false false true d a q h = cc
quote_by false false false true a q h = cc
quote_by false false false false true q h = cc
quote_by false false false false false true h = refl
quote_by false false false false false false h = cc

pub quote_of : (c : ℕ) → kind_of c ≡ kinds.Quote → is_quote c ≡ true
unfolding kind_by
quote_of c h = quote_by (is_blank c) (is_line_end c) (starts_name c) (is_decimal c) ((c == 47)) (is_quote c) h

-- which pieces begin with a character of the kind
abbrev pub fits : Piece → Kind → Bool
fits space kinds.Space = true
fits line_end kinds.LineEnd = true
fits line_comment kinds.Slash = true
fits (block_comment lines) kinds.Slash = true
fits (word units) kinds.Letter = true
fits (key k) kinds.Letter = true
fits (sign s) kinds.Slash = true
fits (sign s) kinds.Mark = true
fits (number v) kinds.Digit = true
fits (text units) kinds.Quote = true
fits _ _ = false

spelled_fits : (s : Sign) → fits (sign s) (kind_of (get_or (spelling s) 0 0)) ≡ true
unfolding starts_name unicode_ident
spelled_fits signs.OpenBrace = refl
spelled_fits signs.CloseBrace = refl
spelled_fits signs.OpenParen = refl
spelled_fits signs.CloseParen = refl
spelled_fits signs.OpenBracket = refl
spelled_fits signs.CloseBracket = refl
spelled_fits signs.Dot = refl
spelled_fits signs.Semicolon = refl
spelled_fits signs.Comma = refl
spelled_fits signs.Less = refl
spelled_fits signs.Greater = refl
spelled_fits signs.LessEqual = refl
spelled_fits signs.GreaterEqual = refl
spelled_fits signs.Equal = refl
spelled_fits signs.NotEqual = refl
spelled_fits signs.StrictEqual = refl
spelled_fits signs.StrictNotEqual = refl
spelled_fits signs.Plus = refl
spelled_fits signs.Minus = refl
spelled_fits signs.Multiply = refl
spelled_fits signs.Divide = refl
spelled_fits signs.Remainder = refl
spelled_fits signs.Increment = refl
spelled_fits signs.Decrement = refl
spelled_fits signs.ShiftLeft = refl
spelled_fits signs.ShiftRight = refl
spelled_fits signs.ShiftRightUnsigned = refl
spelled_fits signs.BitAnd = refl
spelled_fits signs.BitOr = refl
spelled_fits signs.BitXor = refl
spelled_fits signs.Not = refl
spelled_fits signs.BitNot = refl
spelled_fits signs.And = refl
spelled_fits signs.Or = refl
spelled_fits signs.Question = refl
spelled_fits signs.Colon = refl
spelled_fits signs.Assign = refl
spelled_fits signs.PlusAssign = refl
spelled_fits signs.MinusAssign = refl
spelled_fits signs.MultiplyAssign = refl
spelled_fits signs.DivideAssign = refl
spelled_fits signs.RemainderAssign = refl
spelled_fits signs.ShiftLeftAssign = refl
spelled_fits signs.ShiftRightAssign = refl
spelled_fits signs.ShiftRightUnsignedAssign = refl
spelled_fits signs.BitAndAssign = refl
spelled_fits signs.BitOrAssign = refl
spelled_fits signs.BitXorAssign = refl

first_is : (s : Sign) (cs : List ℕ) (i n : ℕ) → Spells cs (spelling s) i n → slice_get cs i ≡ Some (get_or (spelling s) 0 0)
first_is signs.OpenBrace cs i n h = h.0
first_is signs.CloseBrace cs i n h = h.0
first_is signs.OpenParen cs i n h = h.0
first_is signs.CloseParen cs i n h = h.0
first_is signs.OpenBracket cs i n h = h.0
first_is signs.CloseBracket cs i n h = h.0
first_is signs.Dot cs i n h = h.0
first_is signs.Semicolon cs i n h = h.0
first_is signs.Comma cs i n h = h.0
first_is signs.Less cs i n h = h.0
first_is signs.Greater cs i n h = h.0
first_is signs.LessEqual cs i n h = h.0
first_is signs.GreaterEqual cs i n h = h.0
first_is signs.Equal cs i n h = h.0
first_is signs.NotEqual cs i n h = h.0
first_is signs.StrictEqual cs i n h = h.0
first_is signs.StrictNotEqual cs i n h = h.0
first_is signs.Plus cs i n h = h.0
first_is signs.Minus cs i n h = h.0
first_is signs.Multiply cs i n h = h.0
first_is signs.Divide cs i n h = h.0
first_is signs.Remainder cs i n h = h.0
first_is signs.Increment cs i n h = h.0
first_is signs.Decrement cs i n h = h.0
first_is signs.ShiftLeft cs i n h = h.0
first_is signs.ShiftRight cs i n h = h.0
first_is signs.ShiftRightUnsigned cs i n h = h.0
first_is signs.BitAnd cs i n h = h.0
first_is signs.BitOr cs i n h = h.0
first_is signs.BitXor cs i n h = h.0
first_is signs.Not cs i n h = h.0
first_is signs.BitNot cs i n h = h.0
first_is signs.And cs i n h = h.0
first_is signs.Or cs i n h = h.0
first_is signs.Question cs i n h = h.0
first_is signs.Colon cs i n h = h.0
first_is signs.Assign cs i n h = h.0
first_is signs.PlusAssign cs i n h = h.0
first_is signs.MinusAssign cs i n h = h.0
first_is signs.MultiplyAssign cs i n h = h.0
first_is signs.DivideAssign cs i n h = h.0
first_is signs.RemainderAssign cs i n h = h.0
first_is signs.ShiftLeftAssign cs i n h = h.0
first_is signs.ShiftRightAssign cs i n h = h.0
first_is signs.ShiftRightUnsignedAssign cs i n h = h.0
first_is signs.BitAndAssign cs i n h = h.0
first_is signs.BitOrAssign cs i n h = h.0
first_is signs.BitXorAssign cs i n h = h.0

pub sign_first : (s : Sign) (cs : List ℕ) (i n c : ℕ) → slice_get cs i ≡ Some c → Spells cs (spelling s) i n → c ≡ get_or (spelling s) 0 0
sign_first s cs i n c e h = same_char c (get_or (spelling s) 0 0) _ e (first_is s cs i n h)

sign_kind : (s : Sign) (cs : List ℕ) (i n c : ℕ) → slice_get cs i ≡ Some c → Spells cs (spelling s) i n → fits (sign s) (kind_of c) ≡ true
sign_kind s cs i n c e h = rw (sign_first s cs i n c e h) (spelled_fits s)

pub slash_kind : kind_of 47 ≡ kinds.Slash
unfolding starts_name unicode_ident
slash_kind = refl

quote_cases : (c : ℕ) → is_quote c ≡ true → (c ≡ 34) ⊎ (c ≡ 39)
quote_cases c h = grind (arith, nat_tests)

double_kind : kind_of 34 ≡ kinds.Quote
unfolding starts_name unicode_ident
double_kind = refl

single_kind : kind_of 39 ≡ kinds.Quote
unfolding starts_name unicode_ident
single_kind = refl

quote_or : (c : ℕ) → (c ≡ 34) ⊎ (c ≡ 39) → kind_of c ≡ kinds.Quote
quote_or c (inl e) = rw e double_kind
quote_or c (inr e) = rw e single_kind

pub quote_kind : (c : ℕ) → is_quote c ≡ true → kind_of c ≡ kinds.Quote
quote_kind c h = quote_or c (quote_cases c h)

zero_digit : (c : ℕ) → c ≡ 48 → is_decimal c ≡ true
zero_digit c h = rw h refl

pub other_digit : (c : ℕ) → is_in_range 49 57 c ≡ true → is_decimal c ≡ true
other_digit c h = grind (arith, nat_tests)

numeral_digit : (base : Base) (cs : List ℕ) (i n v c : ℕ) → slice_get cs i ≡ Some c → IsNumeral base cs i n v → is_decimal c ≡ true
numeral_digit bases.Decimal cs i n v c e h = other_digit c (passed (λ x. is_in_range 49 57 x) cs i c e h.opens)
numeral_digit bases.Hexadecimal cs i n v c e h = zero_digit c (same_char c 48 _ e h.opens.0)

number_digit : (cs : List ℕ) (i n v c : ℕ) → slice_get cs i ≡ Some c → IsZero cs i n v ⊎ ((base : Base) × IsNumeral base cs i n v) → is_decimal c ≡ true
number_digit cs i n v c e (inl z) = zero_digit c (same_char c 48 _ e z.0)
number_digit cs i n v c e (inr (base, h)) = numeral_digit base cs i n v c e h

not_blank : (c : ℕ) → is_line_end c ≡ true → is_blank c ≡ false
not_blank c h = grind (arith, nat_tests)

digit_not_blank : (c : ℕ) → is_decimal c ≡ true → (is_blank c ≡ false) × (is_line_end c ≡ false)
digit_not_blank c h = (grind (arith, nat_tests), grind (arith, nat_tests))

flip : (a b : Bool) → (a ≡ true → b ≡ false) → b ≡ true → a ≡ false
flip false b f h = refl
flip true b f h = let z = f refl in cc

pub letter_kind : (c : ℕ) → starts_name c ≡ true → kind_of c ≡ kinds.Letter
letter_kind c s = rw (flip _ _ (λ b. (blank_apart c b).1.0) s, flip _ _ (λ b. (line_apart c b).0) s, s) refl

pub digit_kind : (c : ℕ) → is_decimal c ≡ true → kind_of c ≡ kinds.Digit
digit_kind c d = let b = digit_not_blank c d in rw (b.0, b.1, digit_apart c d, d) refl

with_kind : (q : Piece) (c : ℕ) (k : Kind) → kind_of c ≡ k → fits q k ≡ true → fits q (kind_of c) ≡ true
with_kind q c k e h = rw e h

first_slash : (q : Piece) (cs : List ℕ) (i c : ℕ) → slice_get cs i ≡ Some c → slice_get cs i ≡ Some 47 → fits q kinds.Slash ≡ true → fits q (kind_of c) ≡ true
first_slash q cs i c e f h = with_kind q c kinds.Slash (ap kind_of (same_char c 47 _ e f) ∙ slash_kind) h

fitting : (q : Piece) (cs : List ℕ) (i n c : ℕ) → slice_get cs i ≡ Some c → StandsAt cs i n q → fits q (kind_of c) ≡ true
fitting space cs i n c e h = rw (passed is_blank cs i c e h.0) refl
fitting line_end cs i n c e h = let l = passed is_line_end cs i c e h.0 in rw (not_blank c l, l) refl
fitting line_comment cs i n c e h = first_slash line_comment cs i c e h.first refl
fitting (block_comment lines) cs i n c e h = first_slash (block_comment lines) cs i c e h.first refl
fitting (word units) cs i n c e h = with_kind (word units) c kinds.Letter (letter_kind c (passed starts_name cs i c e h.name.start)) refl
fitting (key k) cs i n c e h = with_kind (key k) c kinds.Letter (letter_kind c (passed starts_name cs i c e h.name.start)) refl
fitting (sign s) cs i n c e h = sign_kind s cs i n c e h.spelled
fitting (number v) cs i n c e h = with_kind (number v) c kinds.Digit (digit_kind c (number_digit cs i n v c e h.numeral)) refl
fitting (text units) cs i n c e h = with_kind (text units) c kinds.Quote (ap kind_of (same_char c h.quote _ e h.opens) ∙ quote_kind h.quote h.quotes) refl

-- a piece that stands where a character of a kind does fits the kind
pub fits_kind : (q : Piece) (cs : List ℕ) (i n c : ℕ) (k : Kind) → slice_get cs i ≡ Some c → kind_of c ≡ k → StandsAt cs i n q → fits q k ≡ true
fits_kind q cs i n c k e h s = let f = fitting q cs i n c e s in rw h at f
