use Rattle.std.proofs.Common.{ap, sym, ◌∙◌, Some}
use Rattle.wjs_full.specs.declared.rows.Row.{Row}
use Rattle.wjs_full.proofs.Tables.{first_rows}
use Rattle.wjs_full.proofs.full.FullStoreWorldStore.first.Goals as goal

pub returns : goal.returns
returns c = first_rows c.args.self.now.table.items c.index.result.now c.args.self.now.not_empty ∙ ap (λ (r : Row). Some r.id) (sym c.index.ensures)
