use Rattle.std.proofs.Common.{◌≡◌, ◌+◌, ◌++◌, List, ℕ, ap, ◌∙◌, arith}
use Rattle.wjs_alone.specs.Serial.{line_at, lines_from}
use Rattle.wjs_activity.proofs.Telling.{lines_next}
use Rattle.wjs_activity.proofs.lines.lines.Goals as goal

pub loop-place-init : goal.loop-place-init
loop-place-init c = λ es told. c.new-text.ensures.items

pub loop-place-preserved : goal.loop-place-preserved
loop-place-preserved c = λ es told.
    let n = c.loop-place.place in
    c.in_ok-push_line_at.ensures es told
    ∙ ap (λ (l : List ℕ). l ++ line_at es (n + 1)) (c.loop-place.invariant es told)
    ∙ lines_next n es

pub returns : goal.returns
returns c = λ es told.
    let all : c.loop-place.place ≡ c.args.count = omega arith in
    c.loop-place.invariant es told ∙ ap (λ k. lines_from k 1 es) all
