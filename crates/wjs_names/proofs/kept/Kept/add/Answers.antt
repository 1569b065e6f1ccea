use Rattle.std.proofs.Common.{◌∙◌, not, is_some, ap}
use Rattle.std.specs.FinMap.Entries.{put, find}
use Rattle.std.proofs.lemmas.Result.{on_ok_weaker}
use Rattle.wjs_base.specs.Order.{name_cmp}
use Rattle.wjs_names.specs.Kept.{rows_of}
use Rattle.wjs_names.proofs.Basics.{if_ok}
use Rattle.wjs_names.proofs.kept.Kept.add.Goals as goal

pub add_row-requires-clause-absent : goal.add_row-requires-clause-absent
add_row-requires-clause-absent g c = λ p. ap (λ row. find name_cmp row.0 (rows_of c.args.self.now)) c.in-Some.ensures ∙ c.requires.absent p

pub returns-in-Some-clause-ok : goal.returns-in-Some-clause-ok
returns-in-Some-clause-ok g c = on_ok_weaker c.add_row.result (λ e. e ∙ ap (λ row. put name_cmp row.0 row.1 (rows_of c.args.self.now)) c.in-Some.ensures) c.add_row.ensures.ok

pub returns-in-Some-clause-added : goal.returns-in-Some-clause-added
returns-in-Some-clause-added g c = if_ok c.add_row.result (λ added e. e ∙ ap (λ row. not (is_some (find name_cmp row.0 (rows_of c.args.self.now)))) c.in-Some.ensures) c.add_row.ensures.added
