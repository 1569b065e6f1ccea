use Rattle.std.proofs.Common.{[], ◌∷◌, sym, subst}
use Rattle.std.specs.Prelude.{OnOk, map}
use Rattle.std.proofs.lemmas.Result.{on_ok_weaker}
use Rattle.std.proofs.lemmas.List.Elements.{All-weaker}
use Rattle.wjs_by_content.specs.Tables.{value_in}
use Rattle.wjs_meaning.specs.Deeds.{Act, write_all}
use Rattle.wjs_meaning.specs.NewObjects.{elements_from}
use Rattle.wjs_model.specs.Soundness.{HasValue}
use Rattle.wjs_frames.specs.Doing.{DoesFirst}
use Rattle.wjs_frames.specs.Following.{Follows}
use Rattle.wjs_props.specs.Several.{rows_in}
use Rattle.wjs_calls.proofs.Elements.{write-append}
use Rattle.wjs_calls.proofs.Rows.{ok_later}
use Rattle.wjs_variables.proofs.arguments.write_long.Goals as goal

pub write_elements-requires-clause-there : goal.write_elements-requires-clause-there
write_elements-requires-clause-there g c = c.in_ok-write_rows.ensures.later.frames c.args.frame.now c.requires.there

pub write_elements-requires-clause-values : goal.write_elements-requires-clause-values
write_elements-requires-clause-values g c = All-weaker (HasValue c.args.config.now) (HasValue c.write_rows.new.config) c.in_ok-write_rows.ensures.later.values c.args.values.now c.requires.values

pub returns-clause-does : goal.returns-clause-does
returns-clause-does g c =
    let m = g.S.WorldStore.meaning in
    let o = c.args.object in
    let w = c.args.frame.now.world in
    let old = c.args.config.now in
    let rows = c.args.first ∷ c.args.second ∷ [] in
    on_ok_weaker c.write_elements.result
    (λ (last : DoesFirst m (λ t. write_all w (elements_from o 0 (map (value_in t) c.args.values.now))) c.write_rows.new.config c.write_elements.new.config). record {
      by = λ act later r h.
          let t = later.heap.texts in
          let elements = elements_from o 0 (map (value_in t) c.args.values.now) in
          subst (λ (x : Act). OnOk r (Follows m x old later)) (sym (write-append w (rows_in t o rows) elements act))
          (c.in_ok-write_rows.ensures.does.by (write_all w elements act) later r (last.by act later r h));
    })
    c.write_elements.ensures.does

pub returns-clause-later : goal.returns-clause-later
returns-clause-later g c = ok_later g.S.WorldStore.meaning c.args.config.now c.write_rows.new.config c.write_elements.new.config c.write_elements.result c.in_ok-write_rows.ensures.later c.write_elements.ensures.later
