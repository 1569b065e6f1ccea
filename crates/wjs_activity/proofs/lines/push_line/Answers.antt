use Rattle.wjs_activity.proofs.Telling.{line_told}
use Rattle.wjs_activity.proofs.lines.push_line.Goals as goal
use Rattle.std.proofs.lemmas.Result.{on_ok_weaker}

pub returns : goal.returns
returns c =
    on_ok_weaker c.push.result
    (λ last e told. line_told c.args.end.now e c.args.text.now.items c.push_field.new.text.items c.push_outcome.new.text.items c.push_field-2.new.text.items
    c.push.new.text.items told
    c.in_ok-push_field.ensures (c.in_ok-push_outcome.ensures e.outcome told.outcome) c.in_ok-push_field-2.ensures last)
    c.push.ensures
