use Rattle.std.proofs.Common.{◌+◌, ◌∙◌, ap, sym, length, set}
use Rattle.std.specs.FinMap as map
use Rattle.wjs_names.specs.Several.{with_rows}
use Rattle.wjs_slots.specs.Several.{with_rows_on}
use Rattle.wjs_slots.proofs.Changes.{set_back}
use Rattle.wjs_slots.proofs.Fills.{put_all, len_more}
use Rattle.wjs_slots.proofs.Values.{table}
use Rattle.wjs_slots.proofs.parts.Parts.fill.Goals as goal

pub returns-in-Some-clause-filled : goal.returns-in-Some-clause-filled
returns-in-Some-clause-filled g c = λ t.
    let p = c.self.inside in
    let n = p.near in
    let rows = c.args.rows.now in
    let names = c.index_mut-names.result.now in
    ap (λ m. table n.owner n.first (set n.objects.items c.in-Some.place m) p.far.entries) (c.fill.ensures.filled t ∙ ap (with_rows rows) c.index_mut-names.ensures.value)
    ∙ put_all n.owner n.first p.far.entries c.args.object c.in-Some.place rows n.objects.items names c.self.invariant.apart (sym c.in-Some.ensures)
    ∙ ap (with_rows_on c.args.object rows) (c.self.view_is ∙ c.reach.ensures)

pub returns-in-Some-clause-len : goal.returns-in-Some-clause-len
returns-in-Some-clause-len g c = λ t.
    let p = c.self.inside in
    let n = p.near in
    let rows = c.args.rows.now in
    let names = c.index_mut-names.result.now in
    let value = c.index_mut-names.ensures.value in
    let put = c.fill.ensures.filled t ∙ ap (with_rows rows) value in
    ap (λ m. map.len (table n.owner n.first (set n.objects.items c.in-Some.place m) p.far.entries)) put
    ∙ ap map.len (put_all n.owner n.first p.far.entries c.args.object c.in-Some.place rows n.objects.items names c.self.invariant.apart (sym c.in-Some.ensures))
    ∙ len_more n.owner n.first p.far.entries c.args.object c.in-Some.place rows n.objects.items names c.self.invariant.apart (sym c.in-Some.ensures)
    (sym (ap map.len put) ∙ c.fill.ensures.len t ∙ ap (λ m. map.len m + length rows) value)
    ∙ ap (λ m. map.len m + length rows) (c.self.view_is ∙ c.reach.ensures)

pub returns-in-Some-clause-same : goal.returns-in-Some-clause-same
returns-in-Some-clause-same g c = λ f.
    let p = c.self.inside in
    ap (λ ms. table p.near.owner p.near.first ms p.far.entries) (set_back p.near.objects.items c.in-Some.place c.fill.new.self c.index_mut-names.result.now (c.fill.ensures.same f ∙ c.index_mut-names.ensures.value))
    ∙ (c.self.view_is ∙ c.reach.ensures)
