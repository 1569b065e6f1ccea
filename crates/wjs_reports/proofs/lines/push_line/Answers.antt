use Rattle.std.proofs.Common.{◌++◌, Option, ap, ◌∙◌}
use Rattle.std.specs.String.{string_bytes}
use Rattle.std.proofs.lemmas.Result.{on_ok_weaker}
use Rattle.wjs_base.specs.declared.ids.WorldId.{WorldId}
use Rattle.wjs_store.specs.Meaning.{worlds}
use Rattle.wjs_reports.specs.Lines.{parent_part}
use Rattle.wjs_reports.proofs.Places.{line_made}
use Rattle.wjs_reports.proofs.lines.push_line.Goals as goal

pub returns : goal.returns
returns g c =
    let F = worlds (g.S.WorldStore.meaning c.args.store.now) in
    let first = string_bytes c.push_field.new.text in
    let second = string_bytes c.push_parent.new.text in
    let numbers = c.counts.result in
    on_ok_weaker c.push_counts.result
    (λ last. line_made F c.args.world numbers (string_bytes c.args.text.now) first second (string_bytes c.push_counts.new.text) c.counts.ensures c.in_ok-push_field.ensures (c.in_ok-push_parent.ensures ∙ ap (λ (p : Option WorldId). first ++ parent_part p) c.parent.ensures) last)
    c.push_counts.ensures
