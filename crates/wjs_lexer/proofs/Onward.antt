-- The tokens so far, and one more piece.
use Rattle.std.proofs.Common.{◌≡◌, ℕ, ◌+◌, ◌<◌, ◌≤◌, ◌^◌, ◌⊎◌, inl, inr, Bool, true, false, ◌||◌, ◌==◌, refl, subst, sym, ◌∙◌, ap, arith, List, [], ◌∷◌, ◌++◌, Option, Some, None, length, get_or, append_assoc, length-append, if◌then◌else◌}
use Rattle.std.proofs.lemmas.Bool.Decides.{nat_tests}
use Rattle.std.proofs.Math.ListN.{get_or-append}
use Rattle.std.specs.Prelude.{slice_get}
use Rattle.std.proofs.lemmas.List.{append-nil}
use Rattle.std.proofs.lemmas.Option.{slice_get_within, slice_get-get_or, get_or_from_slice_get}
use Rattle.wjs_base.specs.Text.{Table, Denotes, Grows}
use Rattle.wjs_base.specs.declared.ids.TextId.{TextId}
use Rattle.wjs_tree.specs.declared.tokens.Token.{Token}
use Rattle.wjs_tree.specs.declared.tokens.Token.TheVariants as tokens
use Rattle.wjs_tree.specs.declared.tokens.Tok.{Tok}
use Rattle.wjs_tree.specs.Signs.{spelling}
use Rattle.wjs_lexer.specs.declared.cursor.Cursor.{Cursor}
use Rattle.wjs_lexer.specs.declared.numbers.Base.{Base}
use Rattle.wjs_lexer.specs.declared.numbers.Base.TheVariants as bases
use Rattle.wjs_lexer.specs.Places.{passes, byte_at, line_at}
use Rattle.wjs_lexer.specs.Numbers.{digits_from, IsZero, IsNumeral}
use Rattle.wjs_lexer.specs.Strings.{Body, close, more}
use Rattle.wjs_lexer.specs.Pieces.{Piece, space, line_end, line_comment, block_comment, word, key, sign, number, text, StandsAt, PieceAt, NoPieceAt}
use Rattle.wjs_lexer.specs.Readings.{Placed, is_token, has_line, placed_at, Reads, done, skipping, taking, StopsAt}
use Rattle.wjs_lexer.specs.Cursors.{IsPlaced}
use Rattle.wjs_lexer.specs.Lexing.{Means, IsTok, AreToks, start}
use Rattle.wjs_lexer.specs.declared.lexing.LexFault.{LexFault}
use Rattle.wjs_lexer.specs.declared.lexing.LexFault.TheVariants as faults
use Rattle.wjs_lexer.specs.declared.lexing.Step.{Step}
use Rattle.wjs_lexer.specs.declared.lexing.Step.TheVariants as steps
use Rattle.wjs_lexer.specs.Steps.{Lexes, Takes, Skips, Goes, StepFault, ReadFault}
use Rattle.wjs_lexer.proofs.SlashFound.{spells_length}
use Rattle.wjs_lexer.proofs.SignsAhead.{positive}

-- the tokens so far are some, and whatever is read from here on completes them
pub record Onward (cs : List ℕ) (from i : ℕ) (after : Bool) (texts : Table) (toks : List Tok) : Type 0 where
  pub out : List Placed
  pub same : AreToks texts toks out
  pub all : (stop : ℕ) (rest : List Placed) → Reads cs stop i after rest → Reads cs stop from false (out ++ rest)

pub begins : (cs : List ℕ) (from : ℕ) (texts : Table) → Onward cs from from false texts []
begins cs from texts = record { out = []; same = tt; all = λ stop rest r. r }

kept : (old new : Table) (id : TextId) (us : List ℕ) → Grows old new → Denotes old id us → Denotes new id us
kept old new id us g h =
    let w = slice_get_within old id.0 us h in
    let a = get_or_from_slice_get old id.0 us us h in
    let l : id.0 < length new = let e = ap (λ (ts : Table). length ts) g.1 ∙ length-append old g.0 in omega (arith, e, w) in
    let b = slice_get-get_or new id.0 us l in
    let c = ap (λ (ts : Table). get_or ts id.0 us) g.1 ∙ get_or-append old g.0 us id.0 w in
    b ∙ ap (λ (x : List ℕ). Some x) (c ∙ a)

means_kept : (old new : Table) (t : Token) (p : Piece) → Grows old new → Means old t p → Means new t p
means_kept old new (tokens.Word id) (word us) g h = kept old new id us g h
means_kept old new (tokens.Key k) (key l) g h = h
means_kept old new (tokens.Sign s) (sign r) g h = h
means_kept old new (tokens.Number x) (number v) g h = h
means_kept old new (tokens.Text id) (text us) g h = kept old new id us g h
means_kept old new t p g h = absurd h

toks_kept : (old new : Table) (ts : List Tok) (ps : List Placed) → Grows old new → AreToks old ts ps → AreToks new ts ps
toks_kept old new [] [] g h = tt
toks_kept old new (t ∷ ts) (p ∷ ps) g h = (record { token = means_kept old new t.token p.piece g h.0.token; byte = h.0.byte; line = h.0.line; after_line = h.0.after_line }, toks_kept old new ts ps g h.1)
toks_kept old new [] (p ∷ ps) g h = absurd h
toks_kept old new (t ∷ ts) [] g h = absurd h

toks_more : (texts : Table) (ts : List Tok) (ps : List Placed) (t : Tok) (p : Placed) → AreToks texts ts ps → IsTok texts t p → AreToks texts (ts ++ t ∷ []) (ps ++ p ∷ [])
toks_more texts [] [] t p h k = (k, tt)
toks_more texts (x ∷ xs) (y ∷ ys) t p h k = (h.0, toks_more texts xs ys t p h.1 k)
toks_more texts [] (y ∷ ys) t p h k = absurd h
toks_more texts (x ∷ xs) [] t p h k = absurd h

pub skipped : (cs : List ℕ) (from i n : ℕ) (after lines now : Bool) (p : Piece) (old new : Table) (toks : List Tok) → Grows old new → PieceAt cs i n p → is_token p ≡ false → lines ≡ has_line p → now ≡ (after || lines) → Onward cs from i after old toks → Onward cs from n now new toks
skipped cs from i n after lines now p old new toks g h e l f o = record {
  out = o.out;
  same = toks_kept old new toks o.out g o.same;
  all = λ stop rest r. o.all stop rest (skipping n p h e (subst (λ (b : Bool). Reads cs stop n b rest) (f ∙ ap (λ (b : Bool). after || b) l) r));
}

pub taken : (cs : List ℕ) (from i n : ℕ) (after : Bool) (p : Piece) (old new : Table) (toks toks2 : List Tok) (t : Token) (tok : Tok) → Grows old new → PieceAt cs i n p → is_token p ≡ true → Means new t p
    → tok ≡ record { token = t; byte = byte_at cs i; line = line_at cs i; after_line = after } → toks2 ≡ toks ++ tok ∷ [] → Onward cs from i after old toks → Onward cs from n false new toks2
taken cs from i n after p old new toks toks2 t tok g h e m is at o = record {
  out = o.out ++ placed_at cs i after p ∷ [];
  same = subst (λ (ts : List Tok). AreToks new ts (o.out ++ placed_at cs i after p ∷ [])) (sym at)
      (toks_more new toks o.out tok (placed_at cs i after p) (toks_kept old new toks o.out g o.same)
      (subst (λ (x : Tok). IsTok new x (placed_at cs i after p)) (sym is) (record { token = m; byte = refl; line = refl; after_line = refl })));
  all = λ stop rest r. subst (λ (ps : List Placed). Reads cs stop from false ps) (sym (append_assoc o.out (placed_at cs i after p ∷ []) rest)) (o.all stop (placed_at cs i after p ∷ rest) (taking n p h e r));
}

pub finished : (cs : List ℕ) (from i : ℕ) (after : Bool) (texts : Table) (toks : List Tok) → i ≡ length cs → Onward cs from i after texts toks → Lexes cs from texts toks
finished cs from i after texts toks e o = record {
  placed = o.out;
  reads = subst (λ (ps : List Placed). Reads cs (length cs) from false ps) (append-nil o.out) (o.all (length cs) [] (done e));
  same = o.same;
}

pub stopped : (cs : List ℕ) (from i b l : ℕ) (after : Bool) (texts : Table) (toks : List Tok) → i < length cs → NoPieceAt cs i → b ≡ byte_at cs i → l ≡ line_at cs i → Onward cs from i after texts toks → StopsAt cs from b l
stopped cs from i b l after texts toks lt n eb el o = record {
  stop = i;
  before = o.out;
  reads = subst (λ (ps : List Placed). Reads cs i from false ps) (append-nil o.out) (o.all i [] (done refl));
  within = lt;
  none = n;
  at_byte = eb;
  at_line = el;
}

from_forward : (base : Base) (i : ℕ) → i ≤ digits_from base i
from_forward bases.Decimal i = omega arith
from_forward bases.Hexadecimal i = omega arith

number_forward : (cs : List ℕ) (i n v : ℕ) → IsZero cs i n v ⊎ ((base : Base) × IsNumeral base cs i n v) → i < n
number_forward cs i n v (inl z) = let e = z.1.0 in omega (arith, e)
number_forward cs i n v (inr (base, h)) = let a = from_forward base i in let b = h.some in omega (arith, a, b)

body_forward : (cs : List ℕ) (quote n i : ℕ) (us : List ℕ) → Body cs quote n i us → i ≤ n
body_forward cs quote n i us (close e h) = omega (arith, e)
body_forward cs quote n i us (more {us = vs} p h b e) = let k = body_forward cs quote n (i + p.size) vs b in omega (arith, k)

-- a piece is not empty
pub forward : (p : Piece) (cs : List ℕ) (i n : ℕ) → StandsAt cs i n p → i < n
forward space cs i n h = omega (arith, h.1)
forward line_end cs i n h = omega (arith, h.1)
forward line_comment cs i n h = omega (arith, h.some)
forward (block_comment lines) cs i n h = omega (arith, h.some, h.end)
forward (word us) cs i n h = h.name.some
forward (key k) cs i n h = h.name.some
forward (sign s) cs i n h = let a = spells_length (spelling s) cs i n h.spelled in let b = positive s in omega (arith, a, b)
forward (number v) cs i n h = number_forward cs i n v h.numeral
forward (text us) cs i n h = let a = body_forward cs h.quote h.close (i + 1) us h.body in omega (arith, a, h.end)

pub start_placed : (c : Cursor) → length c.chars.now ≤ 2 ^ 24 → c.at ≡ 0 → c.byte ≡ 0 → c.line ≡ 1 → IsPlaced c
unfolding byte_at line_at
start_placed c small at byte line = record {
  small = small;
  within = omega arith;
  byte = rw (at, byte) refl;
  byte_small = omega arith;
  line = rw (at, line) refl;
  line_small = omega arith;
}

not_mark : (c : ℕ) → (c ≡ 0xFEFF → ⊥) → (c == 0xFEFF) ≡ false
not_mark c h = grind (arith, nat_tests)

start_of : (o : Option ℕ) → (o ≡ Some 0xFEFF → ⊥) → ◌≡◌ {A = ℕ} 0 (if passes (λ c. c == 0xFEFF) o then 1 else 0)
start_of None h = refl
start_of (Some c) h = rw (not_mark c (λ e. h (ap (λ (x : ℕ). Some x) e))) refl

pub starts_none : (cs : List ℕ) → (slice_get cs 0 ≡ Some 0xFEFF → ⊥) → 0 ≡ start cs
starts_none cs h = start_of (slice_get cs 0) h

piece_of_text : (cs ds : List ℕ) (i n : ℕ) (p : Piece) → ds ≡ cs → PieceAt ds i n p → PieceAt cs i n p
piece_of_text cs ds i n p e h = subst (λ (xs : List ℕ). PieceAt xs i n p) e h

none_of_text : (cs ds : List ℕ) (i : ℕ) → ds ≡ cs → NoPieceAt ds i → NoPieceAt cs i
none_of_text cs ds i e h = subst (λ (xs : List ℕ). NoPieceAt xs i) e h

tok_is : (cs : List ℕ) (i b l : ℕ) (after : Bool) (t : Token) → b ≡ byte_at cs i → l ≡ line_at cs i
    → ◌≡◌ {A = Tok} (record { token = t; byte = b; line = l; after_line = after }) (record { token = t; byte = byte_at cs i; line = line_at cs i; after_line = after })
tok_is cs i b l after t e f = λ k. record { token = t; byte = e k; line = f k; after_line = after }

-- a token was read
pub takes_on : (cs : List ℕ) (from : ℕ) (old new : Cursor) (after : Bool) (t1 t2 : Table) (toks toks2 : List Tok) (t : Token) → IsPlaced old → old.chars.now ≡ cs → Grows t1 t2 → Takes old new t2 t
    → toks2 ≡ toks ++ record { token = t; byte = old.byte; line = old.line; after_line = after } ∷ [] → Onward cs from old.at after t1 toks → Onward cs from new.at false t2 toks2
takes_on cs from old new after t1 t2 toks toks2 t p e g k is o =
    taken cs from old.at new.at after k.which t1 t2 toks toks2 t _ g (piece_of_text cs old.chars.now old.at new.at k.which e k.piece) k.is k.means
    (tok_is cs old.at old.byte old.line after t (p.byte ∙ ap (λ (xs : List ℕ). byte_at xs old.at) e) (p.line ∙ ap (λ (xs : List ℕ). line_at xs old.at) e)) is o

-- another piece was read
pub skips_on : (cs : List ℕ) (from : ℕ) (old new : Cursor) (after lines : Bool) (t1 t2 : Table) (toks : List Tok) → old.chars.now ≡ cs → Grows t1 t2 → Skips old new lines → Onward cs from old.at after t1 toks → Onward cs from new.at (after || lines) t2 toks
skips_on cs from old new after lines t1 t2 toks e g k o =
    skipped cs from old.at new.at after lines (after || lines) k.which t1 t2 toks g (piece_of_text cs old.chars.now old.at new.at k.which e k.piece) k.is k.holds refl o

pub fault_of : (cs : List ℕ) (from : ℕ) (old : Cursor) (after : Bool) (texts : Table) (toks : List Tok) (f : LexFault) → old.chars.now ≡ cs → old.at < length cs → StepFault old f → Onward cs from old.at after texts toks → ReadFault cs from f
fault_of cs from old after texts toks (faults.NotUtf8 b) e lt h o = h
fault_of cs from old after texts toks (faults.NotAToken b l) e lt h o =
    stopped cs from old.at b l after texts toks lt (none_of_text cs old.chars.now old.at e h.nothing) (h.at_byte ∙ ap (λ (xs : List ℕ). byte_at xs old.at) e) (h.at_line ∙ ap (λ (xs : List ℕ). line_at xs old.at) e) o
fault_of cs from old after texts toks faults.OutOfMemory e lt h o = tt

pub as_takes : (old new : Cursor) (texts : Table) (s : Step) (t : Token) → s ≡ steps.Token t → Goes old new texts s → Takes old new texts t
as_takes old new texts s t e h = subst (λ (x : Step). Goes old new texts x) e h

pub as_skips : (old new : Cursor) (texts : Table) (s : Step) (lines : Bool) → s ≡ steps.Skip lines → Goes old new texts s → Skips old new lines
as_skips old new texts s lines e h = subst (λ (x : Step). Goes old new texts x) e h
