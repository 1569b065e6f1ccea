use Rattle.std.proofs.Common.{◌≡◌, List, [], ◌∷◌, ◌∙◌, sym, subst, eqb-true, length}
use Rattle.std.specs.Prelude.{All, OnOk, map}
use Rattle.std.proofs.lemmas.List.{nil_from_length}
use Rattle.std.proofs.lemmas.Result.{on_ok_weaker}
use Rattle.wjs_base.specs.declared.ids.NodeId.{NodeId}
use Rattle.wjs_base.specs.declared.ids.TextId.{TextId}
use Rattle.wjs_base.specs.Text.{Has}
use Rattle.wjs_by_content.specs.Names.{slot, arguments_name}
use Rattle.wjs_by_content.specs.Tables.{text_in, value_in}
use Rattle.wjs_by_content.specs.Values.{Object}
use Rattle.wjs_meaning.specs.Deeds.{Act, write_all}
use Rattle.wjs_meaning.specs.Functions.{formal_slots}
use Rattle.wjs_meaning.specs.Reading.{numbers}
use Rattle.wjs_frames.specs.Doing.{DoesFirst}
use Rattle.wjs_frames.specs.Following.{Follows}
use Rattle.wjs_frames.specs.Parts.{env_in}
use Rattle.wjs_calls.proofs.Elements.{write-append}
use Rattle.wjs_variables.specs.Filling.{undefined_slots, variables_filled, variables_of}
use Rattle.wjs_variables.proofs.arguments.fill_variables.Goals as goal

pub write_variables-requires-clause-formals : goal.write_variables-requires-clause-formals
write_variables-requires-clause-formals g c = subst (All (Has c.args.config.now.heap.texts)) (sym c.formals.ensures) c.requires.formals

pub returns-then-is_empty-clause-does : goal.returns-then-is_empty-clause-does
returns-then-is_empty-clause-does g c =
    let m = g.S.WorldStore.meaning in
    let f = c.args.frame.now in
    let w = f.world in
    let s = f.scope in
    let a = c.args.arguments in
    let old = c.args.config.now in
    let fns = c.functions.result.now in
    let none : c.args.declared.now.functions ≡ [] = sym c.functions.ensures ∙ nil_from_length fns (eqb-true (length fns) 0 (sym c.is_empty.ensures ∙ c.if-is_empty.true)) in
    on_ok_weaker c.write_variables.result
    (λ (written : DoesFirst m (λ t. write_all w (variables_of s a (map (text_in t) c.formals.result.now) (map (value_in t) c.args.values.now) (map (text_in t) c.args.others.now))) old c.write_variables.new.config). record {
      by = λ act later r h.
          let t = later.heap.texts in
          let xs = map (value_in t) c.args.values.now in
          let others = map (text_in t) c.args.others.now in
          let formals = map (text_in t) c.formals.result.now in
          let env = env_in m old t f in
          let parted = subst (λ (x : Act). OnOk r (Follows m x old later)) (write-append w ((slot s arguments_name, Object a) ∷ formal_slots s formals xs) (undefined_slots s others) act) (written.by act later r h) in
          subst (λ (ns : List TextId). OnOk r (Follows m (variables_filled (map (text_in t) ns) (numbers c.args.declared.now.functions) others a xs env act) old later)) c.formals.ensures
          (subst (λ (fs : List NodeId). OnOk r (Follows m (variables_filled formals (numbers fs) others a xs env act) old later)) (sym none) parted);
    })
    c.write_variables.ensures.does
