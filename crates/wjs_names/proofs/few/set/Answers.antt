use Rattle.std.proofs.Common.{◌∙◌, ap, not, is_some}
use Rattle.std.specs.FinMap.Entries.{put, find}
use Rattle.std.proofs.lemmas.Result.{on_ok_weaker}
use Rattle.wjs_base.specs.Order.{name_cmp}
use Rattle.wjs_names.proofs.Basics.{if_ok}
use Rattle.wjs_names.proofs.few.set.Goals as goal

pub returns-clause-ok : goal.returns-clause-ok
returns-clause-ok g c = on_ok_weaker c.put_row.result (λ e. e ∙ ap (λ row. put name_cmp row.0 row.1 c.args.few.now.items) c.in-Some.ensures) c.put_row.ensures.ok

pub returns-clause-added : goal.returns-clause-added
returns-clause-added g c = if_ok c.put_row.result (λ added e. e ∙ ap (λ row. not (is_some (find name_cmp row.0 c.args.few.now.items))) c.in-Some.ensures) c.put_row.ensures.added
