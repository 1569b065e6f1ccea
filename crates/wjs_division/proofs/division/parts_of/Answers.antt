use Rattle.std.proofs.Common.{◌≡◌, ℕ, ◌+◌, ◌-◌, ◌≤◌, ◌<◌, List, ◌∷◌, length, take, drop, subst, ap, arith, length-drop}
use Rattle.std.proofs.lemmas.List.{take_rest}
use Rattle.std.proofs.lemmas.List.Elements.{All-nil, All-same}
use Rattle.wjs_division.specs.Division.{lines_of}
use Rattle.wjs_division.specs.Pieces.{IsInside}
use Rattle.wjs_division.proofs.Dividing.{none_yet, one_more, all_found, all_inside}
use Rattle.wjs_division.proofs.division.parts_of.Goals as goal

-- the line that begins at a place, in the bytes from there on
line_there : (bytes rest : List ℕ) (len : ℕ) → rest ≡ bytes → lines_of rest ≡ take len rest ∷ lines_of (drop len rest) → lines_of bytes ≡ take len bytes ∷ lines_of (drop len bytes)
line_there bytes rest len same h = subst (λ (bs : List ℕ). lines_of bs ≡ take len bs ∷ lines_of (drop len bs)) same h

some_left : (bytes : List ℕ) (line : ℕ) → line < length bytes → 0 < length (take (length bytes - line) (drop line bytes))
some_left bytes line h = omega (arith, ap (λ (rest : List ℕ). length rest) (take_rest bytes line), length-drop line bytes)

len_within : (bytes : List ℕ) (line len : ℕ) → line < length bytes → len ≤ length (take (length bytes - line) (drop line bytes)) → line + len ≤ length bytes
len_within bytes line len low h = omega (arith, ap (λ (rest : List ℕ). length rest) (take_rest bytes line), length-drop line bytes)

pub loop-line-init : goal.loop-line-init
loop-line-init c = record {
  within = omega arith;
  from = omega arith;
  inside = All-same (IsInside c.args.bytes.now) _ _ c.new.ensures.items (All-nil (IsInside c.args.bytes.now));
  parts = none_yet c.args.bytes.now c.new.result.items c.new.ensures.items;
}

pub line_len-requires : goal.line_len-requires
line_len-requires c = some_left c.args.bytes.now c.loop-line.line c.loop-line-test.true

pub overflow_add-next : goal.overflow_add-next
overflow_add-next c =
    let within = len_within c.args.bytes.now c.loop-line.line c.line_len.result c.loop-line-test.true c.line_len.ensures.within in
    omega arith

pub loop-line-smaller : goal.loop-line-smaller
loop-line-smaller c =
    let within = len_within c.args.bytes.now c.loop-line.line c.line_len.result c.loop-line-test.true c.line_len.ensures.within in
    let some = c.line_len.ensures.some in
    let low = c.loop-line-test.true in
    omega arith

pub take_in-requires-clause-within : goal.take_in-requires-clause-within
take_in-requires-clause-within c = len_within c.args.bytes.now c.loop-line.line c.line_len.result c.loop-line-test.true c.line_len.ensures.within

pub loop-line-preserved : goal.loop-line-preserved
loop-line-preserved c =
    let bytes = c.args.bytes.now in
    let line = c.loop-line.line in
    let before = c.loop-line.invariant in
    let len = c.line_len.result in
    let taken = c.in_ok-take_in.ensures in
    record {
      within = len_within bytes line len c.loop-line-test.true c.line_len.ensures.within;
      from = taken.order;
      inside = taken.inside before.inside;
      parts = one_more bytes line len c.loop-line.division c.take_in.new.self taken (line_there (drop line bytes) _ len (take_rest bytes line) c.line_len.ensures.line) before.parts;
    }

pub returns-clause-parts : goal.returns-clause-parts
returns-clause-parts c =
    let before = c.loop-line.invariant in
    all_found c.args.bytes.now c.loop-line.line c.loop-line.division c.begin_part.new.self.pieces.items c.in_ok-begin_part.ensures.pieces c.loop-line-test.false before.parts

pub returns-clause-inside : goal.returns-clause-inside
returns-clause-inside c =
    let before = c.loop-line.invariant in
    all_inside c.args.bytes.now c.loop-line.line c.loop-line.division c.begin_part.new.self.pieces.items c.in_ok-begin_part.ensures.pieces before.from before.within before.inside
