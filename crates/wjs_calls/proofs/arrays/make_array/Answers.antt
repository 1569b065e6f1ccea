use Rattle.std.proofs.Common.{[], ◌∷◌, ◌++◌, length, sym, ap, ◌∙◌, subst}
use Rattle.std.specs.Prelude.{OnOk, map}
use Rattle.std.proofs.lemmas.List.Elements.{All-weaker}
use Rattle.wjs_by_content.specs.Names.{slot, length_name}
use Rattle.wjs_by_content.specs.Tables.{name_in, value_in}
use Rattle.wjs_by_content.specs.Values.{whole}
use Rattle.wjs_meaning.specs.Deeds.{write_all}
use Rattle.wjs_meaning.specs.NewObjects.{elements_from}
use Rattle.wjs_model.specs.Soundness.{HasValue}
use Rattle.wjs_frames.specs.Following.{Follows}
use Rattle.wjs_heap_steps.proofs.Later.{later_twice}
use Rattle.wjs_heap_steps.proofs.Having.{value_both}
use Rattle.wjs_heap_steps.proofs.Making.{number_there, number_near}
use Rattle.wjs_calls.proofs.Elements.{length-each}
use Rattle.wjs_calls.proofs.arrays.make_array.Goals as goal

pub returns-clause-does : goal.returns-clause-does
returns-clause-does g c =
    let m = g.S.WorldStore.meaning in
    let o = c.in_ok-array.array in
    let w = c.args.frame.now.world in
    let vs = c.args.values.now in
    record {
      by = λ go later r h.
          let t = later.heap.texts in
          let xs = map (value_in t) vs in
          let size = c.in_ok-length.ensures t ∙ ap whole (sym (length-each (value_in t) vs)) in
          let written = c.in_ok-write_before.ensures.does.by (go o) later r h in
          let sized = subst (λ v. OnOk r (Follows m (write_all w (elements_from o 0 xs ++ (slot o (name_in t c.in_ok-name.name), v) ∷ []) (go o)) c.known_name.new.config later)) size written in
          let named = c.in_ok-name.ensures.does.by (λ n. write_all w (elements_from o 0 xs ++ (slot o n, whole (length xs)) ∷ []) (go o)) later r sized in
          c.in_ok-array.ensures.does.by (λ q. write_all w (elements_from q 0 xs ++ (slot q length_name, whole (length xs)) ∷ []) (go q)) later r named;
    }

pub returns-clause-later : goal.returns-clause-later
returns-clause-later g c =
    let m = g.S.WorldStore.meaning in
    later_twice m c.args.config.now c.known_name.new.config c.write_before.new.config
    (later_twice m c.args.config.now c.create_array.new.config c.known_name.new.config c.in_ok-array.ensures.later c.in_ok-name.ensures.later)
    c.in_ok-write_before.ensures.later

pub returns-clause-found : goal.returns-clause-found
returns-clause-found g c = c.in_ok-write_before.ensures.later.objects _ (c.in_ok-name.ensures.later.objects _ c.in_ok-array.ensures.found)

pub write_before-requires-clause-last : goal.write_before-requires-clause-last
write_before-requires-clause-last g c =
    let mid = c.known_name.new.config in
    let v = c.in_ok-length.length in
    let is = c.in_ok-length.ensures mid.heap.texts in
    ((c.in_ok-name.ensures.found, value_both mid v (number_there mid.heap.texts mid.heap.texts mid.heap.arena v (length c.args.values.now) is) (number_near mid.apart.items mid.heap.texts v (length c.args.values.now) is)), tt)

pub write_before-requires-clause-there : goal.write_before-requires-clause-there
write_before-requires-clause-there g c = c.in_ok-name.ensures.later.frames c.args.frame.now (c.in_ok-array.ensures.later.frames c.args.frame.now c.requires.there)

pub write_before-requires-clause-object : goal.write_before-requires-clause-object
write_before-requires-clause-object g c = c.in_ok-name.ensures.later.objects c.in_ok-array.array c.in_ok-array.ensures.found

pub write_before-requires-clause-values : goal.write_before-requires-clause-values
write_before-requires-clause-values g c =
    let later = c.in_ok-name.ensures.later in
    let made = c.in_ok-array.ensures.later in
    All-weaker (HasValue c.args.config.now) (HasValue c.known_name.new.config) (λ v has. later.values v (made.values v has)) c.args.values.now c.requires.values
