use Rattle.std.proofs.Common.{◌≡◌, ℕ, ◌<◌, ◌≤◌, List, length, sym, ap, ◌∙◌, subst, Some}
use Rattle.std.specs.Prelude.{slice_index_or}
use borrow.Author.Tests.{ltb-false}
use Rattle.std.proofs.lemmas.Option.{slice_get-get_or, slice_get_past}
use Rattle.wjs_model.specs.declared.loaded.LoadedProgram.{LoadedProgram as Program}
use Rattle.wjs_frames.proofs.Places.{place_same, place_none}
use Rattle.wjs_frames.proofs.node.place_at.Goals as goal

pub returns-in-Some : goal.returns-in-Some
returns-in-Some g c =
    let units = c.args.config.now.units.items in
    let i = c.args.frame.now.tree in
    let u = c.in-Some.unit.now in
    let lt : i < length units = subst (λ (k : ℕ). k < length units) c.tree.ensures (subst (λ (us : List Program). c.tree.result < length us) c.deref.ensures.value c.in-Some.ensures.lookup.3.0) in
    let is : u ≡ slice_index_or units i u = c.in-Some.ensures.lookup.1 ∙ ap (λ (us : List Program). slice_index_or us c.tree.result u) c.deref.ensures.value ∙ ap (λ (k : ℕ). slice_index_or units k u) c.tree.ensures in
    λ named t. place_same t units i u c.args.node c.args.at c.place.result (slice_get-get_or units i u lt ∙ ap Some (sym is)) c.place.ensures named

pub returns-in-None : goal.returns-in-None
returns-in-None g c =
    let units = c.args.config.now.units.items in
    let i = c.args.frame.now.tree in
    let past : length units ≤ i = subst (λ (k : ℕ). length units ≤ k) c.tree.ensures (subst (λ (us : List Program). length us ≤ c.tree.result) c.deref.ensures.value (ltb-false c.tree.result (length c.deref.result.now) (sym c.in-None.ensures.lookup.0))) in
    λ named t. place_none t units i c.args.node c.args.at (slice_get_past units i past)
