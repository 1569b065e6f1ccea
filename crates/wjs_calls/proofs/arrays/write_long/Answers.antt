use Rattle.std.proofs.Common.{[], ◌∷◌, sym, subst}
use Rattle.std.specs.Prelude.{OnOk, map}
use Rattle.std.proofs.lemmas.Result.{on_ok_weaker}
use Rattle.wjs_by_content.specs.Tables.{value_in}
use Rattle.wjs_meaning.specs.Deeds.{Act, write_all}
use Rattle.wjs_meaning.specs.NewObjects.{elements_from}
use Rattle.wjs_frames.specs.Doing.{DoesFirst}
use Rattle.wjs_frames.specs.Following.{Follows}
use Rattle.wjs_props.specs.Several.{rows_in}
use Rattle.wjs_calls.proofs.Elements.{write-append}
use Rattle.wjs_calls.proofs.Rows.{ok_later}
use Rattle.wjs_calls.proofs.arrays.write_long.Goals as goal

pub write_rows-requires-clause-there : goal.write_rows-requires-clause-there
write_rows-requires-clause-there g c = c.in_ok-write_elements.ensures.later.frames c.args.frame.now c.requires.there

pub write_rows-requires-clause-rows : goal.write_rows-requires-clause-rows
write_rows-requires-clause-rows g c =
    let later = c.in_ok-write_elements.ensures.later in
    ((later.names c.args.last.0 c.requires.last.0.0, later.values c.args.last.1 c.requires.last.0.1), tt)

pub returns-clause-does : goal.returns-clause-does
returns-clause-does g c =
    let m = g.S.WorldStore.meaning in
    let o = c.args.object in
    let w = c.args.frame.now.world in
    let old = c.args.config.now in
    on_ok_weaker c.write_rows.result
    (λ (last : DoesFirst m (λ t. write_all w (rows_in t o (c.args.last ∷ []))) c.write_elements.new.config c.write_rows.new.config). record {
      by = λ act later r h.
          let t = later.heap.texts in
          let elements = elements_from o 0 (map (value_in t) c.args.values.now) in
          let row = rows_in t o (c.args.last ∷ []) in
          subst (λ (x : Act). OnOk r (Follows m x old later)) (sym (write-append w elements row act))
          (c.in_ok-write_elements.ensures.does.by (write_all w row act) later r (last.by act later r h));
    })
    c.write_rows.ensures.does

pub returns-clause-later : goal.returns-clause-later
returns-clause-later g c = ok_later g.S.WorldStore.meaning c.args.config.now c.write_elements.new.config c.write_rows.new.config c.write_rows.result c.in_ok-write_elements.ensures.later c.write_rows.ensures.later
