use Rattle.std.proofs.Common.{List, ℕ, sym, subst, ◌∙◌}
use Rattle.wjs_store.specs.Meaning.{worlds}
use Rattle.wjs_io.specs.Streams.{over}
use Rattle.wjs_io.proofs.Written.{Appends-nil}
use Rattle.wjs_by_content.specs.Worlds.{worlds_in}
use Rattle.wjs_reports.specs.Lines.{lines_of}
use Rattle.wjs_command.specs.Attempt.{Writes}
use Rattle.wjs_command.proofs.Deliveries.{spent_is}
use Rattle.wjs_command.proofs.running.write_worlds.Goals as goal

pub returns : goal.returns
returns g c =
    let seen = g.O.Sink.seen in
    let config = c.args.config.now in
    let P : List ℕ → Type 0 = λ bytes. Writes bytes (over seen c.args.out.now c.write_or_stop.new.out) c.write_or_stop.result in
    subst P (c.as_slice.ensures.value ∙ c.in_ok-lines.ensures.by_content config.heap.texts c.requires.sound.base.marks) c.write_or_stop.ensures

pub returns-in_err-lines : goal.returns-in_err-lines
returns-in_err-lines g c =
    let config = c.args.config.now in
    let seen = g.O.Sink.seen in
    let bytes = lines_of (worlds_in config.heap.texts (worlds (g.S.WorldStore.meaning config.heap.store))) in
    subst (Writes bytes (over seen c.args.out.now c.args.out.now)) (sym (spent_is c.from_residual.result c.from_residual.ensures.1)) (Appends-nil (seen c.args.out.now).bytes)
