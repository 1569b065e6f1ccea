use Rattle.std.proofs.Common.{◌≡◌, drop, sym, ap, ◌∙◌, true≢false}
use Rattle.std.specs.Cmp.Lexicographic.{bytes_decides}
use Rattle.wjs_texts.specs.Spans.{units_in}
use Rattle.wjs_texts.proofs.Standing.{front_and_back, front_of, back_of, length-units_in}
use Rattle.wjs_texts.proofs.buffers.Buffers.holds.Goals as goal

pub returns-then-eq : goal.returns-then-eq
returns-then-eq c =
    let buffers = c.args.self.now in
    let units = units_in buffers c.args.span in
    let front = units_in buffers c.args.front in
    let size = length-units_in buffers c.args.front c.requires.front in
    let rest : drop c.args.front.len units ≡ c.args.back.now =
    ap (drop c.args.front.len) (sym c.units.ensures) ∙ sym c.split_at.ensures.back ∙ (bytes_decides c.split_at.result.1.now c.args.back.now).0 (sym c.eq.ensures ∙ c.if-eq.true) in (
      λ e. front_and_back units front c.args.back.now c.args.front.len size (c.begins.ensures.0 e) rest,
      λ e. c.begins.ensures.1 (front_of units front c.args.back.now c.args.front.len size e),
    )

pub returns : goal.returns
returns c =
    let buffers = c.args.self.now in
    let units = units_in buffers c.args.span in
    let front = units_in buffers c.args.front in
    let size = length-units_in buffers c.args.front c.requires.front in (
      λ e. absurd (true≢false (sym e)),
      λ e.
          let rest = c.split_at.ensures.back ∙ ap (drop c.args.front.len) c.units.ensures ∙ back_of units front c.args.back.now c.args.front.len size e in
          absurd (true≢false (sym (c.eq.ensures ∙ (bytes_decides c.split_at.result.1.now c.args.back.now).1 rest) ∙ c.if-eq.false)),
    )
