use Rattle.std.proofs.Common.{◌+◌, ◌∷◌, ◌++◌, ◌∙◌, List, drop, refl, ap, sym, append-nil}
use Rattle.std.specs.Prelude.{map}
use Rattle.std.proofs.lemmas.List.Elements.{All-get_or}
use Rattle.wjs_base.specs.declared.ids.TextId.{TextId}
use Rattle.wjs_base.specs.Text.{Has}
use Rattle.wjs_by_content.specs.Names.{slot}
use Rattle.wjs_by_content.specs.Tables.{text_in, value_in}
use Rattle.wjs_meaning.specs.Functions.{formal_slots}
use Rattle.wjs_props.specs.Several.{rows_in}
use Rattle.wjs_calls.proofs.Elements.{none_left}
use Rattle.wjs_variables.proofs.Filling.{formal_left}
use Rattle.wjs_variables.proofs.Gathering.{row_in, row_first, row_there}
use Rattle.wjs_variables.proofs.scopes.put_formals.Goals as goal

pub loop-i-init : goal.loop-i-init
loop-i-init g c = record { known = c.requires.known; slots = λ t more o. refl }

pub formal-row-requires-clause-text : goal.formal-row-requires-clause-text
formal-row-requires-clause-text g c =
    let other : TextId = record { 0 = 0 } in
    All-get_or (Has c.args.config.now.heap.texts) c.args.formals.now c.loop-i.i other c.loop-i-test.true c.requires.formals

pub loop-i-preserved : goal.loop-i-preserved
loop-i-preserved g c =
    let ns = c.args.formals.now in
    let vs = c.args.values.now in
    let i = c.loop-i.i in
    let other : TextId = record { 0 = 0 } in
    let row = c.formal-row.result in
    let rows = c.loop-i.rows.items in
    let more = c.push.new.self.items in
    record {
      known = row_there c.args.config.now rows more row c.loop-i.invariant.known c.formal-row.ensures.name c.formal-row.ensures.value c.in_ok-push.ensures.items;
      slots = λ t grown o.
          let rest = formal_slots o (map (text_in t) (drop (i + 1) ns)) (map (value_in t) (drop (i + 1) vs)) in
          ap (λ l. l ++ rest) (row_in t o rows more row c.in_ok-push.ensures.items)
          ∙ row_first (rows_in t o rows) rest _
          ∙ ap (λ n. rows_in t o rows ++ (slot o n, value_in t row.1) ∷ rest) (c.formal-row.ensures.text t grown)
          ∙ ap (λ l. rows_in t o rows ++ l) (sym (formal_left t o ns vs i other row.1 c.loop-i-test.true c.formal-row.ensures.argument))
          ∙ c.loop-i.invariant.slots t grown o;
    }

pub returns-clause-slots : goal.returns-clause-slots
returns-clause-slots g c = λ t more o.
    let vs = c.args.values.now in
    let i = c.loop-i.i in
    let rows = c.loop-i.rows.items in
    sym (append-nil (rows_in t o rows))
    ∙ ap (λ (l : List TextId). rows_in t o rows ++ formal_slots o (map (text_in t) l) (map (value_in t) (drop i vs))) (sym (none_left c.args.formals.now i c.loop-i-test.false))
    ∙ c.loop-i.invariant.slots t more o
