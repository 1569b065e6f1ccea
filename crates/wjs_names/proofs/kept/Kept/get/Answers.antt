use Rattle.std.proofs.Common.{◌∙◌, ap, sym}
use Rattle.std.specs.FinMap as map
use Rattle.std.specs.FinMap.Entries.{find}
use Rattle.wjs_base.specs.Order.{name_cmp}
use Rattle.wjs_names.specs.Kept.{rows_of}
use Rattle.wjs_names.proofs.kept.Kept.get.Goals as goal

pub returns-in-Zero : goal.returns-in-Zero
returns-in-Zero g c = ap (λ k. find name_cmp c.args.name (rows_of k)) (sym c.in-Zero.is)

pub returns-in-One : goal.returns-in-One
returns-in-One g c = c.value_in.ensures ∙ ap (λ k. find name_cmp c.args.name (rows_of k)) (sym c.in-One.is)

pub returns-in-Two : goal.returns-in-Two
returns-in-Two g c = c.value_in_two.ensures ∙ ap (λ k. find name_cmp c.args.name (rows_of k)) (sym c.in-Two.is)

pub returns-in-Three : goal.returns-in-Three
returns-in-Three g c = c.value_in_three.ensures ∙ ap (λ k. find name_cmp c.args.name (rows_of k)) (sym c.in-Three.is)

pub returns-in-Four : goal.returns-in-Four
returns-in-Four g c = c.get.ensures ∙ ap (λ k. find name_cmp c.args.name (rows_of k)) (sym c.in-Four.is)

pub returns-in-Many : goal.returns-in-Many
returns-in-Many g c =
    c.get-in-Many.ensures
    ∙ map.get-entries c.deref-in-Many.result.now c.args.name
    ∙ ap (find name_cmp c.args.name) (ap map.entries c.deref-in-Many.ensures ∙ ap rows_of (sym c.in-Many.is))
