use Rattle.std.proofs.Common.{◌≡◌, List, [], ◌∷◌, ◌++◌, Vec, Global, Some, sym, ap, ◌∙◌}
use Rattle.std.specs.Prelude.{slice_get}
use Rattle.wjs_base.specs.declared.ids.NodeId.{NodeId}
use Rattle.wjs_model.specs.declared.frame.Activation.{Activation as Frame}
use Rattle.wjs_model.specs.declared.loaded.LoadedProgram.{LoadedProgram as Program}
use Rattle.wjs_parts.specs.Entering.{body_frame}
use Rattle.wjs_parts.proofs.Entry.{none_left, enters, unit_there}
use Rattle.wjs_parts.proofs.enters.enter.Goals as goal

pub returns : goal.returns
returns g c =
    let m = g.S.WorldStore.meaning in
    let old = c.args.config.now in
    let mid = c.show_world.new.config in
    let shows = c.in_ok-show_world.ensures in
    let part = c.args.part in
    let h = unit_there old.units.items part c.requires.part in
    let at : slice_get mid.units.items part ≡ Some h.0 = ap (λ (us : Vec Program Global). slice_get us.items part) shows.stays.units ∙ h.1 in
    let none = none_left m old mid shows c.requires.frames in
    let framed = c.frame_of-frame.ensures ∙ ap (λ (b : NodeId). body_frame mid part b) (c.body_of-body.ensures h.0 h.1) in
    let one : c.add.new.self ≡ body_frame mid part h.0.program.body ∷ [] = c.in_ok-add.ensures.ok ∙ ap (λ (l : List Frame). l ++ c.frame_of-frame.result ∷ []) none ∙ ap (λ (f : Frame). f ∷ []) framed in
    enters m old mid c.add.new.self part c.args.budget h.0 shows at one
