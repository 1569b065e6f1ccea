use Rattle.std.proofs.Common.{◌∙◌, cond, ap}
use Rattle.std.specs.FinMap.Entries.{put, find}
use Rattle.wjs_base.specs.Order.{name_cmp}
use Rattle.wjs_names.specs.Kept.{rows_of}
use Rattle.wjs_names.proofs.kept.Kept.set.Goals as goal

pub add-requires-clause-absent : goal.add-requires-clause-absent
add-requires-clause-absent g c = λ p.
    let rows = rows_of c.args.self.now in
    ap (find name_cmp c.args.name) (c.replace.ensures.replaced ∙ ap (λ b. cond b (put name_cmp c.args.name c.args.value rows) rows) c.if-replace.false)
    ∙ c.replace.ensures.absent p c.if-replace.false
