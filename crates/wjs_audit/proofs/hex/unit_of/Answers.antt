use Rattle.std.proofs.Common.{◌+◌, ◌*◌, ◌/◌, ◌%◌, ◌∷◌, [], refl, ◌∙◌, arith}
use Rattle.wjs_audit.proofs.Hexes.{unit_spelled, unit_digits}
use Rattle.wjs_audit.proofs.hex.unit_of.Goals as goal

pub returns-in_err-a : goal.returns-in_err-a
returns-in_err-a c = rw c.from_residual.ensures (λ unit fits e. c.in_err-a.ensures (unit / 4096) (omega (arith, fits)) (unit_digits c.args.first c.args.second c.args.third c.args.fourth unit fits e).0)

pub returns-in_err-b : goal.returns-in_err-b
returns-in_err-b c = rw c.from_residual-in_err-b.ensures (λ unit fits e. c.in_err-b.ensures (unit / 256 % 16) (omega (arith, fits)) (unit_digits c.args.first c.args.second c.args.third c.args.fourth unit fits e).1)

pub returns-in_err-c : goal.returns-in_err-c
returns-in_err-c c = rw c.from_residual-in_err-c.ensures (λ unit fits e. c.in_err-c.ensures (unit / 16 % 16) (omega (arith, fits)) (unit_digits c.args.first c.args.second c.args.third c.args.fourth unit fits e).2)

pub returns-in_err-d : goal.returns-in_err-d
returns-in_err-d c = rw c.from_residual-in_err-d.ensures (λ unit fits e. c.in_err-d.ensures (unit % 16) (omega (arith, fits)) (unit_digits c.args.first c.args.second c.args.third c.args.fourth unit fits e).3)

pub returns : goal.returns
returns c =
    let a = c.in_ok-a.a in
    let b = c.in_ok-b.b in
    let x = c.in_ok-c.c in
    let d = c.in_ok-d.d in
    let s = unit_spelled a b x d (a * 4096 + b * 256 + x * 16 + d) c.in_ok-a.ensures.0 c.in_ok-b.ensures.0 c.in_ok-c.ensures.0 c.in_ok-d.ensures.0 refl in
    (s.0, (λ i. c.in_ok-a.ensures.1 i ∷ c.in_ok-b.ensures.1 i ∷ c.in_ok-c.ensures.1 i ∷ c.in_ok-d.ensures.1 i ∷ []) ∙ s.1)
