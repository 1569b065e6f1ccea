use Rattle.std.proofs.Common.{◌∙◌, ap, sym, subst}
use Rattle.wjs_base.specs.Order.{name_cmp}
use Rattle.wjs_names.specs.Kept.{short_rows}
use Rattle.wjs_names.specs.Lists.{IsInOrder, without}
use Rattle.wjs_names.proofs.short.Short.without.Goals as goal

pub returns-in-Zero : goal.returns-in-Zero
returns-in-Zero g c = ap (λ s. without name_cmp c.args.name (short_rows s)) (sym c.in-Zero.is)

pub returns-in-One : goal.returns-in-One
returns-in-One g c = c.without_of_one.ensures ∙ ap (λ s. without name_cmp c.args.name (short_rows s)) (sym c.in-One.is)

pub without_of_two-requires : goal.without_of_two-requires
without_of_two-requires g c = subst (λ s. IsInOrder name_cmp (short_rows s)) c.in-Two.is c.requires

pub returns-in-Two : goal.returns-in-Two
returns-in-Two g c = c.without_of_two.ensures ∙ ap (λ s. without name_cmp c.args.name (short_rows s)) (sym c.in-Two.is)

pub without_of_three-requires : goal.without_of_three-requires
without_of_three-requires g c = subst (λ s. IsInOrder name_cmp (short_rows s)) c.in-Three.is c.requires

pub returns-in-Three : goal.returns-in-Three
returns-in-Three g c = c.without_of_three.ensures ∙ ap (λ s. without name_cmp c.args.name (short_rows s)) (sym c.in-Three.is)
