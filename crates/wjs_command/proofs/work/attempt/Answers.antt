use Rattle.std.proofs.Common.{◌≡◌, ◌≢◌, [], map as each, refl, sym, subst, rules}
use Rattle.std.specs.String.{string_bytes}
use Rattle.clap.specs.Words.{fault_of}
use Rattle.wjs_io.specs.Streams.{over}
use Rattle.wjs_options.specs.Command.{command}
use Rattle.wjs_options.specs.Lines.{IsUsageLine}
use Rattle.wjs_options.specs.Options.{Says}
use Rattle.wjs_options.specs.declared.answer.WordsFault.{WordsFault}
use Rattle.wjs_command.specs.declared.status.Status.TheVariants.{Usage}
use Rattle.wjs_command.specs.declared.report.Report.{Report}
use Rattle.wjs_command.proofs.Attempts.{attempt_served, attempt_usage, attempt_spent}
use Rattle.wjs_command.proofs.work.attempt.Goals as goal

pub returns-in-Ok : goal.returns-in-Ok
returns-in-Ok g c =
    let source = over g.S.Source.seen c.args.source.now c.obey.new.source in
    let out = over g.O.Sink.seen c.args.out.now c.obey.new.out in
    let asked = c.in-Ok.ensures.command in
    attempt_served (each string_bytes c.args.words.now) c.in-Ok.options source out c.obey.result (record { faultless = asked.0; gives = asked.1 }) c.obey.ensures

pub returns-in-Err-Usage : goal.returns-in-Err-Usage
returns-in-Err-Usage g c =
    let words = each string_bytes c.args.words.now in
    let P : WordsFault → Type 0 = λ fault. Says (fault_of command words ≢ []) fault in
    let says = subst P c.in-Err-Usage.field-0-is c.in-Err-Usage.ensures.command in
    let told : Report = record { status = Usage; line = c.into_bytes.result } in
    let items : c.into_bytes.result.items ≡ string_bytes c.in-Err-Usage.line = search rules in
    attempt_usage words (g.S.Source.seen c.args.source.now).bytes (g.O.Sink.seen c.args.out.now).bytes (g.S.Source.seen c.args.source.now).faults
    (g.O.Sink.seen c.args.out.now).faults told says.0 refl (subst IsUsageLine (sym items) says.1)

pub returns-in-Err-OutOfMemory : goal.returns-in-Err-OutOfMemory
returns-in-Err-OutOfMemory g c =
    attempt_spent (each string_bytes c.args.words.now) (g.S.Source.seen c.args.source.now).bytes (g.O.Sink.seen c.args.out.now).bytes
    (g.S.Source.seen c.args.source.now).faults (g.O.Sink.seen c.args.out.now).faults
