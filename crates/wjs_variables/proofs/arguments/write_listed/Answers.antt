use Rattle.std.proofs.Common.{List, [], ◌∷◌, ◌++◌, ap, sym, subst, arith}
use Rattle.std.specs.Prelude.{map}
use Rattle.std.proofs.lemmas.List.Elements.{All-get_or}
use Rattle.wjs_base.specs.declared.values.Name.TheVariants as names
use Rattle.wjs_base.specs.declared.values.Value.{Value as NumberedValue}
use Rattle.wjs_by_content.specs.Tables.{value_in}
use Rattle.wjs_meaning.specs.NewObjects.{elements_from}
use Rattle.wjs_model.specs.Soundness.{HasValue}
use Rattle.wjs_props.specs.Several.{rows_in}
use Rattle.wjs_variables.proofs.Filling.{none_there, one_read, two_read}
use Rattle.wjs_calls.proofs.Rows.{written_as}
use Rattle.wjs_variables.proofs.arguments.write_listed.Goals as goal

pub returns-in-empty-clause-does : goal.returns-in-empty-clause-does
returns-in-empty-clause-does g c =
    let o = c.args.object in
    let vs = c.args.values.now in
    let front = c.args.first ∷ c.args.second ∷ [] in
    written_as g.S.WorldStore.meaning c.args.frame.now.world c.write_rows.result (λ t. rows_in t o (c.args.first ∷ c.args.second ∷ [])) (λ t. rows_in t o front ++ elements_from o 0 (map (value_in t) vs)) c.args.config.now c.write_rows.new.config
    c.write_rows.ensures.does c.write_rows.ensures.later
    (λ t more. ap (λ (l : List NumberedValue). rows_in t o front ++ elements_from o 0 (map (value_in t) l)) (sym (none_there vs (omega (arith, c.in-empty.len_below)))))

pub returns-in-empty-clause-later : goal.returns-in-empty-clause-later
returns-in-empty-clause-later g c = c.write_rows.ensures.later

pub write_rows-requires-in-len1-clause-rows : goal.write_rows-requires-in-len1-clause-rows
write_rows-requires-in-len1-clause-rows g c =
    let has = HasValue c.args.config.now in
    let a = subst has (sym c.only-item.is) (All-get_or has c.args.values.now 0 c.only-item.result (omega (arith, c.in-len1.len_at_least)) c.requires.values) in
    (c.requires.rows.0, (c.requires.rows.1.0, ((omega arith, a), tt)))

pub returns-in-len1-clause-does : goal.returns-in-len1-clause-does
returns-in-len1-clause-does g c =
    let o = c.args.object in
    let vs = c.args.values.now in
    let front = c.args.first ∷ c.args.second ∷ [] in
    written_as g.S.WorldStore.meaning c.args.frame.now.world c.write_rows-in-len1.result (λ t. rows_in t o (c.args.first ∷ c.args.second ∷ (names.Index 0, c.only-item.result) ∷ [])) (λ t. rows_in t o front ++ elements_from o 0 (map (value_in t) vs)) c.args.config.now c.write_rows-in-len1.new.config
    c.write_rows-in-len1.ensures.does c.write_rows-in-len1.ensures.later
    (λ t more. ap (λ (l : List NumberedValue). rows_in t o front ++ elements_from o 0 (map (value_in t) l)) (sym (one_read vs c.only-item.result (omega (arith, c.in-len1.len_at_least)) (omega (arith, c.in-len1.len_below)) c.only-item.is)))

pub returns-in-len1-clause-later : goal.returns-in-len1-clause-later
returns-in-len1-clause-later g c = c.write_rows-in-len1.ensures.later

pub write_rows-requires-in-len2-clause-rows : goal.write_rows-requires-in-len2-clause-rows
write_rows-requires-in-len2-clause-rows g c =
    let has = HasValue c.args.config.now in
    let a = subst has (sym c.a-item.is) (All-get_or has c.args.values.now 0 c.a-item.result (omega (arith, c.in-len2.len_at_least)) c.requires.values) in
    let b = subst has (sym c.b-item.is) (All-get_or has c.args.values.now 1 c.b-item.result (omega (arith, c.in-len2.len_at_least)) c.requires.values) in
    (c.requires.rows.0, (c.requires.rows.1.0, ((omega arith, a), ((omega arith, b), tt))))

pub returns-in-len2-clause-does : goal.returns-in-len2-clause-does
returns-in-len2-clause-does g c =
    let o = c.args.object in
    let vs = c.args.values.now in
    let front = c.args.first ∷ c.args.second ∷ [] in
    written_as g.S.WorldStore.meaning c.args.frame.now.world c.write_rows-in-len2.result (λ t. rows_in t o (c.args.first ∷ c.args.second ∷ (names.Index 0, c.a-item.result) ∷ (names.Index 1, c.b-item.result) ∷ [])) (λ t. rows_in t o front ++ elements_from o 0 (map (value_in t) vs)) c.args.config.now c.write_rows-in-len2.new.config
    c.write_rows-in-len2.ensures.does c.write_rows-in-len2.ensures.later
    (λ t more. ap (λ (l : List NumberedValue). rows_in t o front ++ elements_from o 0 (map (value_in t) l)) (sym (two_read vs c.a-item.result c.b-item.result (omega (arith, c.in-len2.len_at_least)) (omega (arith, c.in-len2.len_below)) c.a-item.is c.b-item.is)))

pub returns-in-len2-clause-later : goal.returns-in-len2-clause-later
returns-in-len2-clause-later g c = c.write_rows-in-len2.ensures.later

pub returns-in_default-clause-does : goal.returns-in_default-clause-does
returns-in_default-clause-does g c = c.write_long.ensures.does

pub returns-in_default-clause-later : goal.returns-in_default-clause-later
returns-in_default-clause-later g c = c.write_long.ensures.later
