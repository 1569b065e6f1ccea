use Rattle.std.proofs.Common.{◌<◌, ◌≤◌, ◌++◌, List, ℕ, length, refl, sym, ap, ◌∙◌, arith, append-nil}
use Rattle.std.proofs.lemmas.Option.{slice_get_read}
use Rattle.std.proofs.lemmas.Result.{on_ok_weaker}
use Rattle.wjs_alone.specs.Serial.{line_of}
use Rattle.wjs_activity.proofs.Telling.{line_here, line_behind, line_none}
use Rattle.wjs_activity.proofs.lines.push_line_at.Goals as goal

pub returns-then-is_of : goal.returns-then-is_of
returns-then-is_of c =
    let ends = c.args.ends.now in
    let i = c.loop-end.end-index in
    let x = c.end-item.result in
    let inside : i < length ends = omega arith in
    on_ok_weaker c.push_line.result
    (λ wrote es told.
    let h = line_here ends es i x c.args.activity (slice_get_read ends (length ends) i x refl inside c.end-item.is) told
    (c.is_of.ensures.yes c.if-is_of.true) in
    wrote h.0 h.1
    ∙ ap (λ (l : List ℕ). l ++ line_of h.0) c.loop-end.invariant.same
    ∙ ap (λ (l : List ℕ). c.args.text.now.items ++ l) (sym (c.loop-end.invariant.passed es told ∙ h.2)))
    c.push_line.ensures

pub loop-end-preserved : goal.loop-end-preserved
loop-end-preserved c =
    let ends = c.args.ends.now in
    let i = c.loop-end.end-index in
    let x = c.end-item.result in
    let inside : i < length ends = omega arith in
    record {
      same = c.loop-end.invariant.same;
      passed = λ es told.
          c.loop-end.invariant.passed es told
          ∙ line_behind ends es i x c.args.activity (slice_get_read ends (length ends) i x refl inside c.end-item.is) told
          (c.is_of.ensures.no c.if-is_of.false);
    }

pub returns : goal.returns
returns c = λ es told.
    let past : length c.args.ends.now ≤ c.loop-end.end-index = omega arith in
    c.loop-end.invariant.same
    ∙ sym (append-nil c.args.text.now.items)
    ∙ ap (λ (l : List ℕ). c.args.text.now.items ++ l) (sym (c.loop-end.invariant.passed es told
    ∙ line_none c.args.ends.now es c.loop-end.end-index c.args.activity told past))
