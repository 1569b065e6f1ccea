use Rattle.std.proofs.Common.{List, sym, subst}
use Rattle.std.specs.Prelude.{All}
use Rattle.wjs_base.specs.declared.ids.TextId.{TextId}
use Rattle.wjs_base.specs.Text.{Has}
use Rattle.wjs_model.specs.declared.loaded.LoadedProgram.{LoadedProgram as Program}
use Rattle.wjs_model.specs.Texts.{KnowsUnit}
use Rattle.wjs_parts.proofs.Openings.{Named, starts_so, sound_so, names_sliced}
use Rattle.wjs_parts.proofs.starts.start_parts.Goals as goal

pub first_heap-requires-clause-declared : goal.first_heap-requires-clause-declared
first_heap-requires-clause-declared g c =
    let texts = c.args.texts in
    let known = subst (λ (l : List Program). All (KnowsUnit texts) l) (sym c.as_slice.ensures.value) c.requires.parts in
    subst (λ (l : List TextId). All (Has texts) l) (sym c.as_slice-2.ensures.value) (c.in_ok-names.ensures.found texts known)

pub returns-clause-starts : goal.returns-clause-starts
returns-clause-starts g c =
    let m = g.S.WorldStore.meaning in
    let ps = c.args.parts.items in
    starts_so m c.args.texts (m c.args.store) c.args.library ps c.as_slice-2.result.now c.in_ok-heap.heap c.in_ok-units.units c.in_ok-frames.frames c.new.result c.new-2.result c.args.budget c.first_state-state.result c.in_ok-heap.ensures c.in_ok-units.ensures c.in_ok-frames.ensures c.first_state-state.ensures c.new.ensures.items c.new-2.ensures.items c.requires.new
    (names_sliced ps c.in_ok-names.names.items c.as_slice-2.result.now c.as_slice-2.ensures.value (subst (Named c.in_ok-names.names.items) c.as_slice.ensures.value c.in_ok-names.ensures.are)) c.requires.library c.requires.parts c.requires.library_places c.requires.part_places

pub returns-clause-sound : goal.returns-clause-sound
returns-clause-sound g c =
    let m = g.S.WorldStore.meaning in
    let ps = c.args.parts.items in
    sound_so m c.args.texts (m c.args.store) c.args.library ps c.as_slice-2.result.now c.in_ok-heap.heap c.in_ok-units.units c.in_ok-frames.frames c.new.result c.new-2.result c.args.budget c.first_state-state.result c.in_ok-heap.ensures c.in_ok-units.ensures c.in_ok-frames.ensures c.first_state-state.ensures c.new.ensures.items c.new-2.ensures.items c.requires.new
    (names_sliced ps c.in_ok-names.names.items c.as_slice-2.result.now c.as_slice-2.ensures.value (subst (Named c.in_ok-names.names.items) c.as_slice.ensures.value c.in_ok-names.ensures.are)) c.requires.library c.requires.parts c.requires.library_places c.requires.part_places
