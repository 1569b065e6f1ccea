use Rattle.std.proofs.Common.{◌≡◌, ℕ, ◌+◌, List, take, sym, ap, ◌∙◌, subst, rules}
use Rattle.std.specs.Prelude.{map}
use Rattle.wjs_by_content.specs.Tables.{value_in}
use Rattle.std.proofs.lemmas.List.{take_all}
use Rattle.wjs_native_text.proofs.Joining.{each_unit, unit_more}
use Rattle.wjs_native_text.proofs.strings.units_of_numbers.Goals as goal

pub loop-number-preserved : goal.loop-number-preserved
loop-number-preserved c = λ t. subst (λ (l : List ℕ). each_unit (map (value_in t) (take (c.loop-number.number-index + 1) c.args.numbers.now)) ≡ l) (sym (search rules))
    (unit_more (value_in t) c.args.numbers.now c.loop-number.number-index c.number-item.result c.loop-number.units.items c.number_of.result.number c.code_unit.result c.loop-number-test.true c.number-item.is (c.loop-number.invariant t) (c.number_of.ensures t) c.code_unit.ensures)

pub returns : goal.returns
returns c = λ t. ap (λ l. each_unit (map (value_in t) l)) (sym (take_all c.loop-number.number-index c.args.numbers.now c.loop-number-test.false)) ∙ c.loop-number.invariant t
