use Rattle.std.proofs.Common.{◌+◌, List, [], ◌∷◌, drop, sym, subst}
use Rattle.std.specs.Prelude.{OnOk, map}
use Rattle.std.proofs.lemmas.Result.{on_ok_weaker}
use Rattle.wjs_base.specs.declared.values.Name.{Name}
use Rattle.wjs_base.specs.declared.values.Name.TheVariants as names
use Rattle.wjs_base.specs.declared.values.Value.{Value as NumberedValue}
use Rattle.wjs_by_content.specs.Tables.{value_in}
use Rattle.wjs_props.specs.Several.{rows_in}
use Rattle.wjs_meaning.specs.Deeds.{Act, write_all}
use Rattle.wjs_meaning.specs.NewObjects.{elements_from}
use Rattle.wjs_frames.specs.Doing.{DoesFirst}
use Rattle.wjs_frames.specs.Following.{Follows}
use Rattle.wjs_calls.proofs.Elements.{four_before}
use Rattle.wjs_calls.proofs.arrays.write_four.Goals as goal

pub returns-clause-does : goal.returns-clause-does
returns-clause-does g c =
    let m = g.S.WorldStore.meaning in
    let old = c.args.config.now in
    let w = c.args.frame.now.world in
    let o = c.args.object in
    let vs = c.args.values.now in
    let at = c.args.at in
    let one = c.index-values-at in
    let two = c.index-values-at-2 in
    let three = c.index-values-at-3 in
    let four = c.index-values-at-4 in
    let rows : List (Name × NumberedValue) = (names.Index at, one.result) ∷ (names.Index (at + 1), two.result) ∷ (names.Index (at + 2), three.result) ∷ (names.Index (at + 3), four.result) ∷ [] in
    on_ok_weaker c.write_rows.result
    (λ (written : DoesFirst m (λ t. write_all w (rows_in t o rows)) old c.write_rows.new.config). record {
      by = λ act later r h.
          let t = later.heap.texts in
          subst (λ (x : Act). OnOk r (Follows m x old later)) (sym (four_before t w o vs at one.result two.result three.result four.result act c.requires.at one.is two.is three.is four.is))
          (written.by (write_all w (elements_from o (at + 4) (map (value_in t) (drop (at + 4) vs))) act) later r h);
    })
    c.write_rows.ensures.does
