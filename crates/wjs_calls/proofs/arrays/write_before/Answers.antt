use Rattle.std.proofs.Common.{List, [], ◌∷◌, ◌++◌, ap, sym, arith}
use Rattle.std.specs.Prelude.{map}
use Rattle.wjs_base.specs.declared.values.Name.TheVariants as names
use Rattle.wjs_base.specs.declared.values.Value.{Value as NumberedValue}
use Rattle.wjs_by_content.specs.Tables.{value_in}
use Rattle.wjs_meaning.specs.NewObjects.{elements_from}
use Rattle.wjs_props.specs.Several.{rows_in}
use Rattle.wjs_calls.proofs.Elements.{one_is, two_are, three_are}
use Rattle.wjs_calls.proofs.Rows.{written_as}
use Rattle.wjs_calls.proofs.arrays.write_before.Goals as goal

pub returns-in-len1-clause-does : goal.returns-in-len1-clause-does
returns-in-len1-clause-does g c =
    let o = c.args.object in
    let vs = c.args.values.now in
    let last = c.args.last ∷ [] in
    let a = c.only-item in
    written_as g.S.WorldStore.meaning c.args.frame.now.world c.write_rows.result (λ t. rows_in t o ((names.Index 0, a.result) ∷ last)) (λ t. elements_from o 0 (map (value_in t) vs) ++ rows_in t o last) c.args.config.now c.write_rows.new.config
    c.write_rows.ensures.does c.write_rows.ensures.later
    (λ t more. ap (λ (l : List NumberedValue). elements_from o 0 (map (value_in t) l) ++ rows_in t o last) (sym (one_is vs a.result (omega (arith, c.in-len1.len_at_least)) (omega (arith, c.in-len1.len_below)) a.is)))

pub returns-in-len2-clause-does : goal.returns-in-len2-clause-does
returns-in-len2-clause-does g c =
    let o = c.args.object in
    let vs = c.args.values.now in
    let last = c.args.last ∷ [] in
    let a = c.a-item in
    let b = c.b-item in
    written_as g.S.WorldStore.meaning c.args.frame.now.world c.write_rows-in-len2.result (λ t. rows_in t o ((names.Index 0, a.result) ∷ (names.Index 1, b.result) ∷ last)) (λ t. elements_from o 0 (map (value_in t) vs) ++ rows_in t o last) c.args.config.now c.write_rows-in-len2.new.config
    c.write_rows-in-len2.ensures.does c.write_rows-in-len2.ensures.later
    (λ t more. ap (λ (l : List NumberedValue). elements_from o 0 (map (value_in t) l) ++ rows_in t o last) (sym (two_are vs a.result b.result (omega (arith, c.in-len2.len_at_least)) (omega (arith, c.in-len2.len_below)) a.is b.is)))

pub returns-in-len3-clause-does : goal.returns-in-len3-clause-does
returns-in-len3-clause-does g c =
    let o = c.args.object in
    let vs = c.args.values.now in
    let last = c.args.last ∷ [] in
    let a = c.first-item in
    let b = c.second-item in
    let d = c.third-item in
    written_as g.S.WorldStore.meaning c.args.frame.now.world c.write_rows-in-len3.result (λ t. rows_in t o ((names.Index 0, a.result) ∷ (names.Index 1, b.result) ∷ (names.Index 2, d.result) ∷ last)) (λ t. elements_from o 0 (map (value_in t) vs) ++ rows_in t o last) c.args.config.now c.write_rows-in-len3.new.config
    c.write_rows-in-len3.ensures.does c.write_rows-in-len3.ensures.later
    (λ t more. ap (λ (l : List NumberedValue). elements_from o 0 (map (value_in t) l) ++ rows_in t o last) (sym (three_are vs a.result b.result d.result (omega (arith, c.in-len3.len_at_least)) (omega (arith, c.in-len3.len_below)) a.is b.is d.is)))
