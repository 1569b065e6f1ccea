use Rattle.std.proofs.Common.{ℕ, Option, Some, sym, subst}
use Rattle.std.specs.Prelude.{OnOk}
use Rattle.wjs_by_content.specs.Names.{slot, length_name}
use Rattle.wjs_by_content.specs.Values.{Value, whole}
use Rattle.wjs_meaning.specs.Deeds.{Do, Write}
use Rattle.wjs_meaning.specs.NativesOfObjects as line
use Rattle.wjs_frames.specs.Following.{Follows}
use Rattle.wjs_frames.specs.Parts.{env_in}
use Rattle.wjs_heap_steps.proofs.Having.{value_both}
use Rattle.wjs_heap_steps.proofs.Making.{number_there, number_near}
use Rattle.wjs_frames.proofs.Handling.{running_later}
use Rattle.wjs_native_core.proofs.arrays.array_of_length.Goals as goal

pub write_known-requires-clause-value : goal.write_known-requires-clause-value
write_known-requires-clause-value g c =
    let mid = c.create_array.new.config in
    value_both mid c.in_ok-value.value (number_there mid.heap.texts mid.heap.texts mid.heap.arena c.in_ok-value.value c.in-Some.length (c.in_ok-value.ensures mid.heap.texts)) (number_near mid.apart.items mid.heap.texts c.in_ok-value.value c.in-Some.length (c.in_ok-value.ensures mid.heap.texts))

pub returns : goal.returns
returns g c =
    let m = g.S.WorldStore.meaning in
    let old = c.args.config.now in
    let mid = c.create_array.new.config in
    let new = c.give.new.config in
    let t = new.heap.texts in
    let r = c.give.result in
    let o = c.in_ok-array.array in
    let w = c.args.frame.world in
    let n = c.in-Some.length in
    let written = c.in_ok-write_known.ensures.does.by (λ x. line.give_object o) new r c.give.ensures in
    let sized = subst (λ (v : Value). OnOk r (Follows m (Do (Write w (slot o length_name) (Some v)) (λ x. line.give_object o)) mid new)) (c.in_ok-value.ensures t) written in
    subst (λ (x : Option ℕ). OnOk r (Follows m (line.array_of_length x (env_in m old t c.args.frame)) old new)) (sym c.in-Some.ensures)
    (c.in_ok-array.ensures.does.by (λ q. Do (Write w (slot q length_name) (Some (whole n))) (λ x. line.give_object q)) new r sized)

pub write_known-requires-clause-there : goal.write_known-requires-clause-there
write_known-requires-clause-there g c = c.in_ok-array.ensures.later.frames c.args.frame c.requires.runs.there

pub give-requires-clause-running : goal.give-requires-clause-running
give-requires-clause-running g c =
    running_later _ _ _ (running_later _ _ _ c.requires.runs.running c.in_ok-array.ensures.later) c.in_ok-write_known.ensures.later
