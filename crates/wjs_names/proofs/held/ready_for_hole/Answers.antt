use Rattle.std.proofs.Common.{◌+◌, refl, sym, ◌∙◌}
use Rattle.std.proofs.lemmas.Result.{on_ok_weaker}
use Rattle.wjs_names.proofs.Starting.{pass_same, pass_more}
use Rattle.wjs_names.proofs.held.ready_for_hole.Goals as goal

pub returns-then-stands_at-clause-ok : goal.returns-then-stands_at-clause-ok
returns-then-stands_at-clause-ok g c = on_ok_weaker c.start.result (λ e. pass_more c.args.list.now c.args.starts.now.entries c.requires.starts c.args.place (c.args.place + 1) c.start.new.starts.entries refl (sym c.stands_at.ensures ∙ c.if-stands_at.true) e) c.start.ensures.ok

pub returns-clause-ok : goal.returns-clause-ok
returns-clause-ok g c = pass_same c.args.list.now c.args.starts.now.entries c.requires.starts c.args.place (sym c.stands_at.ensures ∙ c.if-stands_at.false)
