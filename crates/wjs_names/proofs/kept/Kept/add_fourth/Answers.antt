use Rattle.std.proofs.Common.{◌∙◌, not, is_some, ap, sym}
use Rattle.std.specs.FinMap.Entries.{put, find}
use Rattle.std.proofs.lemmas.Result.{on_ok_weaker}
use Rattle.wjs_base.specs.Order.{name_cmp}
use Rattle.wjs_names.specs.Kept.{rows_of}
use Rattle.wjs_names.proofs.Basics.{if_ok}
use Rattle.wjs_names.proofs.kept.Kept.add_fourth.Goals as goal

pub returns-in-Some-clause-ok : goal.returns-in-Some-clause-ok
returns-in-Some-clause-ok g c = c.in-Some.ensures.put

pub returns-in-Some-clause-added : goal.returns-in-Some-clause-added
returns-in-Some-clause-added g c = sym (ap (λ o. not (is_some o)) c.in-Some.ensures.none)

pub returns-in-None-clause-ok : goal.returns-in-None-clause-ok
returns-in-None-clause-ok g c = on_ok_weaker c.add_elsewhere.result (λ e. e ∙ ap (λ n. put name_cmp n c.args.row.1 (rows_of c.args.self.now)) c.name.ensures) c.add_elsewhere.ensures.ok

pub returns-in-None-clause-added : goal.returns-in-None-clause-added
returns-in-None-clause-added g c = if_ok c.add_elsewhere.result (λ added e. e ∙ ap (λ n. not (is_some (find name_cmp n (rows_of c.args.self.now)))) c.name.ensures) c.add_elsewhere.ensures.added
