use Rattle.std.proofs.Common.{◌≤◌, ◌∙◌, arith, length, subst, List}
use Rattle.std.proofs.lemmas.List.{take_all}
use Rattle.std.proofs.lemmas.Option.{slice_get_within, get_or_from_slice_get}
use Rattle.std.specs.List.{flat_map}
use Rattle.std.specs.String.{string_bytes}
use Rattle.wjs_base.specs.declared.values.Name.{Name}
use Rattle.wjs_base.specs.Text.{Has}
use Rattle.wjs_audit.specs.Logs.{KnowsName}
use Rattle.wjs_audit.specs.Tables.{name_ids, Puts}
use Rattle.wjs_audit.proofs.Pushes.{puts_none, names_put}
use Rattle.wjs_audit.proofs.needed.push_names_texts.Goals as goal

pub loop-place-init : goal.loop-place-init
loop-place-init c = puts_none c.args.texts.now (string_bytes c.args.out.now) c.args.marks.now.items

pub push_name_text-requires-clause-has : goal.push_name_text-requires-clause-has
push_name_text-requires-clause-has c =
    let names = c.args.names.now in
    let i = c.loop-place.place in
    let n = c.at.result in
    subst (KnowsName (Has c.args.texts.now)) (get_or_from_slice_get names i n n c.at.ensures) (c.requires.has i n (slice_get_within names i n c.at.ensures))

pub push_name_text-requires-clause-long : goal.push_name_text-requires-clause-long
push_name_text-requires-clause-long c = c.loop-place.invariant.long ∙ c.requires.long

pub loop-place-preserved : goal.loop-place-preserved
loop-place-preserved c =
    names_put c.args.texts.now c.args.names.now c.loop-place.place c.at.result
    (string_bytes c.args.out.now) (string_bytes c.loop-place.out) (string_bytes c.push_name_text.new.out)
    c.args.marks.now.items c.loop-place.marks.items c.push_name_text.new.marks.items
    c.at.ensures c.loop-place.invariant c.in_ok-push_name_text.ensures

pub returns : goal.returns
returns c =
    let past : length c.args.names.now ≤ c.loop-place.place = omega arith in
    let all = take_all c.loop-place.place c.args.names.now past in
    subst (λ (ns : List Name). Puts c.args.texts.now (flat_map name_ids ns) (string_bytes c.args.out.now) (string_bytes c.loop-place.out) c.args.marks.now.items c.loop-place.marks.items) all c.loop-place.invariant
