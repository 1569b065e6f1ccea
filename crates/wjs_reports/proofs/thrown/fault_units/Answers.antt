use Rattle.std.proofs.Common.{◌≡◌, sym, ap, ◌∙◌, None, subst}
use Rattle.std.specs.Prelude.{IfOk}
use Rattle.std.specs.Option.{option_map}
use Rattle.wjs_by_content.specs.Tables.{text_in, content_in}
use Rattle.wjs_by_content.specs.Values.{Text}
use Rattle.wjs_reports.specs.Thrown.{text_if}
use Rattle.wjs_reports.proofs.Carried.{no_name, no_message}
use Rattle.wjs_reports.proofs.thrown.fault_units.Goals as goal

pub units-requires : goal.units-requires
units-requires g c = c.in-Some.ensures.found c.args.heap.now.texts c.args.heap.now.arena c.requires.name

pub units-requires-2 : goal.units-requires-2
units-requires-2 g c = c.in-Some-text_of.ensures.found c.args.heap.now.texts c.args.heap.now.arena c.requires.message

pub returns-in_default : goal.returns-in_default
returns-in_default g c =
    let t = c.args.heap.now.texts in
    let missing : text_if (content_in t c.args.name) ≡ None = sym (c.text_of.ensures.text t) ∙ ap (option_map (text_in t)) c.in_default.is in
    let P : Text → Type 0 = λ u. IfOk c.error_class.result (λ units. units.items ≡ u) in
    subst P (no_name (content_in t c.args.name) (content_in t c.args.message) missing) c.error_class.ensures

pub returns-in_default-text_of : goal.returns-in_default-text_of
returns-in_default-text_of g c =
    let t = c.args.heap.now.texts in
    let missing : text_if (content_in t c.args.message) ≡ None = sym (c.text_of-2.ensures.text t) ∙ ap (option_map (text_in t)) c.in_default-text_of.is in
    let P : Text → Type 0 = λ u. IfOk c.error_class-in_default-text_of.result (λ units. units.items ≡ u) in
    subst P (no_message (content_in t c.args.name) (content_in t c.args.message) missing) c.error_class-in_default-text_of.ensures
