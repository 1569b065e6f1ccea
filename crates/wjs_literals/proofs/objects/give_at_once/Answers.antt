use Rattle.std.proofs.Common.{◌+◌, drop, sym, ◌∙◌, subst}
use Rattle.wjs_by_content.specs.Names.{slot}
use Rattle.wjs_meaning.specs.Expressions.{key_name, object_from}
use Rattle.wjs_meaning.specs.Reading.{node_in, key_in}
use Rattle.wjs_model.specs.Lists.{pairs_of}
use Rattle.wjs_model.specs.Texts.{KnowsKey}
use Rattle.wjs_frames.specs.Parts.{env_in, node_now, node_among}
use Rattle.wjs_heap_steps.proofs.Later.{later_twice}
use Rattle.wjs_effects.specs.Proceeding.{Proceeds}
use Rattle.wjs_effects.proofs.Proceeding.{proceeds_same}
use Rattle.wjs_literals.specs.Parts.{properties_left}
use Rattle.wjs_literals.proofs.Items.{key_known, property_next}
use Rattle.wjs_literals.proofs.Lines.{had_and_written}
use Rattle.wjs_literals.proofs.objects.give_at_once.Goals as goal

pub write_property-requires-clause-there : goal.write_property-requires-clause-there
write_property-requires-clause-there g c = c.quick.ensures.later.frames c.args.frame.now c.requires.there

pub write_property-requires-clause-object : goal.write_property-requires-clause-object
write_property-requires-clause-object g c = c.quick.ensures.later.objects c.args.object c.requires.object

pub write_property-requires-clause-key : goal.write_property-requires-clause-key
write_property-requires-clause-key g c =
    let old = c.args.config.now in
    let f = c.args.frame.now in
    let p = c.args.property in
    subst (λ x. KnowsKey x.heap.texts p.key) (sym c.quick.ensures.only) (key_known old.heap.texts old.units.items f.tree f.node c.args.at p c.requires.base.units c.requires.property)

-- its value is had, and written
pub returns-in_ok-write_property-in-Some-clause-proceeds : goal.returns-in_ok-write_property-in-Some-clause-proceeds
returns-in_ok-write_property-in-Some-clause-proceeds g c =
    let m = g.S.WorldStore.meaning in
    let f = c.args.frame.now in
    let o = c.args.object in
    let at = c.args.at in
    let p = c.args.property in
    let old = c.args.config.now in
    let mid = c.quick.new.config in
    let new = c.write_property.new.config in
    let n = node_now m old f in
    let wrote = c.in_ok-write_property-in-Some.ensures in
    let units = sym (wrote.later.units ∙ c.quick.ensures.later.units) in
    let next = sym c.in_ok-next.ensures in
    had_and_written m f p.value c.in-Some.value (λ t. slot o (key_name (key_in t p.key))) (properties_left m old f o at) (λ t env. object_from (drop (at + 1) (pairs_of (node_in t n))) o env)
    (properties_left m new f o c.in_ok-next.next) old mid new c.in-Some.ensures.does c.quick.ensures.later wrote.does wrote.later
    (λ t grows. property_next t n at p o (env_in m old t f) c.requires.property)
    (λ t j. object_from (drop (next j) (pairs_of (node_in t (node_among (units j).items f.tree f.node)))) o (env_in m new t f))

pub returns-in_ok-write_property-in-Some-clause-later : goal.returns-in_ok-write_property-in-Some-clause-later
returns-in_ok-write_property-in-Some-clause-later g c =
    later_twice g.S.WorldStore.meaning c.args.config.now c.quick.new.config c.write_property.new.config c.quick.ensures.later c.in_ok-write_property-in-Some.ensures.later

pub returns-in-None-clause-proceeds : goal.returns-in-None-clause-proceeds
returns-in-None-clause-proceeds g c =
    let m = g.S.WorldStore.meaning in
    let f = c.args.frame.now in
    let old = c.args.config.now in
    let left = properties_left m old f c.args.object c.args.at in
    subst (λ x. Proceeds m left (properties_left m x f c.args.object c.args.at) old x) (sym c.in-None.ensures.same) (proceeds_same m left old)
