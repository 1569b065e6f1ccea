use Rattle.std.proofs.Common.{◌+◌, [], ◌∷◌, ap, ◌∙◌, subst, arith}
use Rattle.std.specs.Prelude.{OnOk}
use Rattle.wjs_by_content.specs.Names.{slot, index_name}
use Rattle.wjs_by_content.specs.Tables.{name_in, value_in}
use Rattle.wjs_by_content.specs.Values.{Value, whole}
use Rattle.wjs_meaning.specs.Deeds.{write_all}
use Rattle.wjs_frames.specs.Following.{Follows}
use Rattle.wjs_heap_steps.proofs.Having.{value_both}
use Rattle.wjs_heap_steps.proofs.Later.{later_twice}
use Rattle.wjs_heap_steps.proofs.Making.{number_there, number_near}
use Rattle.wjs_literals.proofs.arrays.write_last.Goals as goal

pub write_rows-requires-clause-there : goal.write_rows-requires-clause-there
write_rows-requires-clause-there g c = c.in_ok-name.ensures.later.frames c.args.frame.now c.requires.there

pub write_rows-requires-clause-object : goal.write_rows-requires-clause-object
write_rows-requires-clause-object g c = c.in_ok-name.ensures.later.objects c.args.array c.requires.array

pub write_rows-requires-clause-rows : goal.write_rows-requires-clause-rows
write_rows-requires-clause-rows g c =
    let mid = c.known_name.new.config in
    let v = c.in_ok-length.length in
    let k = c.in_ok-next.next in
    let is = c.in_ok-length.ensures mid.heap.texts in
    let has = value_both mid v (number_there mid.heap.texts mid.heap.texts mid.heap.arena v k is) (number_near mid.apart.items mid.heap.texts v k is) in
    ((omega arith, c.in_ok-name.ensures.later.values c.args.value c.requires.value), ((c.in_ok-name.ensures.found, has), tt))

pub returns-clause-does : goal.returns-clause-does
returns-clause-does g c = record {
  by = λ act later r h.
      let m = g.S.WorldStore.meaning in
      let o = c.args.array in
      let i = c.args.at in
      let w = c.args.frame.now.world in
      let t = later.heap.texts in
      let put = λ (v : Value). (slot o (index_name i), value_in t c.args.value) ∷ (slot o (name_in t c.in_ok-name.name), v) ∷ [] in
      let written = c.in_ok-write_rows.ensures.does.by act later r h in
      let size = c.in_ok-length.ensures t ∙ ap whole c.in_ok-next.ensures in
      let sized = subst (λ (v : Value). OnOk r (Follows m (write_all w (put v) act) c.known_name.new.config later)) size written in
      c.in_ok-name.ensures.does.by (λ k. write_all w ((slot o (index_name i), value_in t c.args.value) ∷ (slot o k, whole (i + 1)) ∷ []) act) later r sized;
}

pub returns-clause-later : goal.returns-clause-later
returns-clause-later g c =
    later_twice g.S.WorldStore.meaning c.args.config.now c.known_name.new.config c.write_rows.new.config c.in_ok-name.ensures.later c.in_ok-write_rows.ensures.later
