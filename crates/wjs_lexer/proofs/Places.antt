-- A step of the cursor.
use Rattle.std.proofs.Common.{◌≡◌, ℕ, ◌+◌, ◌<◌, ◌≤◌, Some, refl, sym, ◌∙◌, ap, arith, List, length, add-one, slice_get}
use Rattle.std.specs.Char.{len_utf8}
use Rattle.wjs_lexer.specs.declared.cursor.Cursor.{Cursor}
use Rattle.wjs_lexer.specs.Places.{byte_at, line_at, line_step, bytes_of}
use Rattle.wjs_lexer.specs.Cursors.{IsPlaced, Went}

pub byte_more : (cs : List ℕ) (i : ℕ) → byte_at cs (i + 1) ≡ byte_at cs i + bytes_of (slice_get cs i)
unfolding byte_at
byte_more cs i = rw add-one refl

pub line_more : (cs : List ℕ) (i : ℕ) → line_at cs (i + 1) ≡ line_at cs i + line_step (slice_get cs i) (slice_get cs (i + 1))
unfolding line_at
line_more cs i = ap (line_at cs) (add-one i)

pub advanced : (old new : Cursor) (c step : ℕ) → IsPlaced old → old.at < length old.chars.now → slice_get old.chars.now old.at ≡ Some c
    → len_utf8 c ≤ 4 → step ≡ line_step (slice_get old.chars.now old.at) (slice_get old.chars.now (old.at + 1)) → step ≤ 1
    → new.chars.now ≡ old.chars.now → new.at ≡ old.at + 1 → new.byte ≡ old.byte + len_utf8 c → new.line ≡ old.line + step → Went old new (old.at + 1)
advanced old new c step p more is four step_is one same at byte line =
    let b = ap bytes_of is in
    let bm = byte_more old.chars.now old.at in
    let lm = line_more old.chars.now old.at in
    let e1 : new.byte ≡ byte_at old.chars.now (old.at + 1) = let h = p.byte in cc in
    let e2 : new.line ≡ line_at old.chars.now (old.at + 1) = let h = p.line in cc in
    let len = ap length same in
    record {
      placed = record {
        small = omega (arith, p.small, len);
        within = omega (arith, len, at);
        byte = e1 ∙ (λ i. byte_at (sym same i) (sym at i));
        byte_small = omega (arith, p.byte_small);
        line = e2 ∙ (λ i. line_at (sym same i) (sym at i));
        line_small = omega (arith, p.line_small);
      };
      same = same;
      at = at;
    }
