use Rattle.std.proofs.Common.{◌≡◌, List, [], ◌∷◌, ◌++◌, ap, ◌∙◌, sym, append-nil, eqb-true, length}
use Rattle.std.specs.Prelude.{map}
use Rattle.std.proofs.lemmas.List.{nil_from_length}
use Rattle.std.proofs.lemmas.Result.{on_ok_weaker}
use Rattle.std.proofs.lemmas.List.Elements.{All-weaker}
use Rattle.wjs_base.specs.declared.ids.TextId.{TextId}
use Rattle.wjs_base.specs.Text.{Table, Has}
use Rattle.wjs_base.proofs.TextLaws.{Grows-Has}
use Rattle.wjs_by_content.specs.Names.{Slot, slot}
use Rattle.wjs_by_content.specs.Tables.{name_in, text_in, value_in}
use Rattle.wjs_by_content.specs.Values.{Value, Object}
use Rattle.wjs_meaning.specs.Deeds.{write_all}
use Rattle.wjs_meaning.specs.Functions.{formal_slots}
use Rattle.wjs_model.specs.Soundness.{HasValue}
use Rattle.wjs_frames.specs.Doing.{DoesFirst}
use Rattle.wjs_calls.proofs.Rows.{ok_later}
use Rattle.wjs_variables.specs.Filling.{undefined_slots}
use Rattle.wjs_calls.proofs.Rows.{written_as}
use Rattle.wjs_variables.proofs.scopes.write_variables.Goals as goal

pub write_formals-requires-clause-base : goal.write_formals-requires-clause-base
write_formals-requires-clause-base g c = c.in_ok-name.ensures.later.base

pub write_formals-requires-clause-there : goal.write_formals-requires-clause-there
write_formals-requires-clause-there g c = c.in_ok-name.ensures.later.frames c.args.frame.now c.requires.there

pub write_formals-requires-clause-value : goal.write_formals-requires-clause-value
write_formals-requires-clause-value g c = c.in_ok-name.ensures.later.objects c.args.arguments c.requires.arguments

pub write_formals-requires-clause-formals : goal.write_formals-requires-clause-formals
write_formals-requires-clause-formals g c =
    let old = c.args.config.now.heap.texts in
    let new = c.known_name.new.config.heap.texts in
    All-weaker (Has old) (Has new) (λ id. Grows-Has old new id c.in_ok-name.ensures.later.texts) c.args.formals.now c.requires.formals

pub write_formals-requires-clause-values : goal.write_formals-requires-clause-values
write_formals-requires-clause-values g c = All-weaker (HasValue c.args.config.now) (HasValue c.known_name.new.config) c.in_ok-name.ensures.later.values c.args.values.now c.requires.values

pub write_gathered-requires-clause-base : goal.write_gathered-requires-clause-base
write_gathered-requires-clause-base g c = c.in_ok-name.ensures.later.base

pub write_gathered-requires-clause-there : goal.write_gathered-requires-clause-there
write_gathered-requires-clause-there g c = c.in_ok-name.ensures.later.frames c.args.frame.now c.requires.there

pub write_gathered-requires-clause-value : goal.write_gathered-requires-clause-value
write_gathered-requires-clause-value g c = c.in_ok-name.ensures.later.objects c.args.arguments c.requires.arguments

pub write_gathered-requires-clause-formals : goal.write_gathered-requires-clause-formals
write_gathered-requires-clause-formals g c =
    let old = c.args.config.now.heap.texts in
    let new = c.known_name.new.config.heap.texts in
    All-weaker (Has old) (Has new) (λ id. Grows-Has old new id c.in_ok-name.ensures.later.texts) c.args.formals.now c.requires.formals

pub write_gathered-requires-clause-others : goal.write_gathered-requires-clause-others
write_gathered-requires-clause-others g c =
    let old = c.args.config.now.heap.texts in
    let new = c.known_name.new.config.heap.texts in
    All-weaker (Has old) (Has new) (λ id. Grows-Has old new id c.in_ok-name.ensures.later.texts) c.args.others.now c.requires.others

pub write_gathered-requires-clause-values : goal.write_gathered-requires-clause-values
write_gathered-requires-clause-values g c = All-weaker (HasValue c.args.config.now) (HasValue c.known_name.new.config) c.in_ok-name.ensures.later.values c.args.values.now c.requires.values

pub returns-then-is_empty-clause-does : goal.returns-then-is_empty-clause-does
returns-then-is_empty-clause-does g c =
    let m = g.S.WorldStore.meaning in
    let w = c.args.frame.now.world in
    let s = c.args.frame.now.scope in
    let a = c.args.arguments in
    let name = c.in_ok-name.name in
    let mid = c.known_name.new.config in
    let new = c.write_formals.new.config in
    let others = c.args.others.now in
    let formals : Table → List (Slot × Value) = λ t. formal_slots s (map (text_in t) c.args.formals.now) (map (value_in t) c.args.values.now) in
    let none : others ≡ [] = nil_from_length others (eqb-true (length others) 0 (sym c.is_empty.ensures ∙ c.if-is_empty.true)) in
    let all : Table → List (Slot × Value) = λ t. formals t ++ undefined_slots s (map (text_in t) others) in
    on_ok_weaker c.write_formals.result
    (λ (last : DoesFirst m (λ t. write_all w ((slot s (name_in t name), Object a) ∷ all t)) mid new). record {
      by = λ act later r h. c.in_ok-name.ensures.does.by (λ x. write_all w ((slot s x, Object a) ∷ all later.heap.texts) act) later r (last.by act later r h);
    })
    (written_as m w c.write_formals.result (λ t. (slot s (name_in t name), Object a) ∷ formals t) (λ t. (slot s (name_in t name), Object a) ∷ all t) mid new c.write_formals.ensures.does c.write_formals.ensures.later
    (λ t more. ap (λ l. (slot s (name_in t name), Object a) ∷ l) (sym (append-nil (formals t)) ∙ ap (λ (ns : List TextId). formals t ++ undefined_slots s (map (text_in t) ns)) (sym none))))

pub returns-then-is_empty-clause-later : goal.returns-then-is_empty-clause-later
returns-then-is_empty-clause-later g c = ok_later g.S.WorldStore.meaning c.args.config.now c.known_name.new.config c.write_formals.new.config c.write_formals.result c.in_ok-name.ensures.later c.write_formals.ensures.later

pub returns-else-is_empty-clause-does : goal.returns-else-is_empty-clause-does
returns-else-is_empty-clause-does g c =
    let m = g.S.WorldStore.meaning in
    let w = c.args.frame.now.world in
    let s = c.args.frame.now.scope in
    let a = c.args.arguments in
    let name = c.in_ok-name.name in
    let all : Table → List (Slot × Value) = λ t. formal_slots s (map (text_in t) c.args.formals.now) (map (value_in t) c.args.values.now) ++ undefined_slots s (map (text_in t) c.args.others.now) in
    on_ok_weaker c.write_gathered.result
    (λ (last : DoesFirst m (λ t. write_all w ((slot s (name_in t name), Object a) ∷ all t)) c.known_name.new.config c.write_gathered.new.config). record {
      by = λ act later r h. c.in_ok-name.ensures.does.by (λ x. write_all w ((slot s x, Object a) ∷ all later.heap.texts) act) later r (last.by act later r h);
    })
    c.write_gathered.ensures.does

pub returns-else-is_empty-clause-later : goal.returns-else-is_empty-clause-later
returns-else-is_empty-clause-later g c = ok_later g.S.WorldStore.meaning c.args.config.now c.known_name.new.config c.write_gathered.new.config c.write_gathered.result c.in_ok-name.ensures.later c.write_gathered.ensures.later
