use Rattle.std.proofs.Common.{◌+◌, drop, sym, ◌∙◌, subst}
use Rattle.wjs_by_content.specs.Names.{slot, index_name}
use Rattle.wjs_meaning.specs.Expressions.{array_from}
use Rattle.wjs_meaning.specs.Reading.{node_in}
use Rattle.wjs_model.specs.Lists.{items_of}
use Rattle.wjs_frames.specs.Parts.{env_in, node_now, node_among}
use Rattle.wjs_heap_steps.proofs.Later.{later_twice}
use Rattle.wjs_effects.specs.Proceeding.{Proceeds}
use Rattle.wjs_effects.proofs.Proceeding.{proceeds_same}
use Rattle.wjs_literals.specs.Parts.{items_left}
use Rattle.wjs_literals.proofs.Items.{items_rest, item_next}
use Rattle.wjs_literals.proofs.Lines.{had_and_written}
use Rattle.wjs_literals.proofs.arrays.write_at_once.Goals as goal

pub write-requires-clause-there : goal.write-requires-clause-there
write-requires-clause-there g c = c.quick.ensures.later.frames c.args.frame.now c.requires.there

pub write-requires-clause-object : goal.write-requires-clause-object
write-requires-clause-object g c = c.quick.ensures.later.objects c.args.array c.requires.array

-- its value is had, and written
pub returns-in_ok-write-in-Some-clause-proceeds : goal.returns-in_ok-write-in-Some-clause-proceeds
returns-in_ok-write-in-Some-clause-proceeds g c =
    let m = g.S.WorldStore.meaning in
    let f = c.args.frame.now in
    let o = c.args.array in
    let old = c.args.config.now in
    let mid = c.quick.new.config in
    let new = c.write.new.config in
    let n = node_now m old f in
    let i = c.in_ok-number.number in
    let wrote = c.in_ok-write-in-Some.ensures in
    let units = sym (wrote.later.units ∙ c.quick.ensures.later.units) in
    let next = sym c.in_ok-next.ensures in
    had_and_written m f c.args.node c.in-Some.value (λ t. slot o (index_name i)) (items_left m old f o c.args.from) (λ t env. array_from (drop (i + 1) (items_of (node_in t n))) (i + 1) o env)
    (items_left m new f o c.in_ok-next.next) old mid new c.in-Some.ensures.does c.quick.ensures.later wrote.does wrote.later
    (λ t grows.
    let env = env_in m old t f in
    item_next t n c.args.at i c.args.node o env c.in_ok-number.ensures c.requires.item.0 ∙ sym (items_rest t n c.args.at o env) ∙ sym (c.requires.item.1 o env) ∙ items_rest t n c.args.from o env)
    (λ t j. array_from (drop (next j) (items_of (node_in t (node_among (units j).items f.tree f.node)))) (next j) o (env_in m new t f))

pub returns-in_ok-write-in-Some-clause-later : goal.returns-in_ok-write-in-Some-clause-later
returns-in_ok-write-in-Some-clause-later g c =
    later_twice g.S.WorldStore.meaning c.args.config.now c.quick.new.config c.write.new.config c.quick.ensures.later c.in_ok-write-in-Some.ensures.later

pub returns-in-None-clause-proceeds : goal.returns-in-None-clause-proceeds
returns-in-None-clause-proceeds g c =
    let m = g.S.WorldStore.meaning in
    let f = c.args.frame.now in
    let old = c.args.config.now in
    let left = items_left m old f c.args.array c.args.from in
    subst (λ x. Proceeds m left (items_left m x f c.args.array c.args.from) old x) (sym c.in-None.ensures.same) (proceeds_same m left old)
