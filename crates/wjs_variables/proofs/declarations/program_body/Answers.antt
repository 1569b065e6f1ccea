use Rattle.std.proofs.Common.{◌≡◌, ℕ, ◌<◌, ◌≤◌, List, length, sym, ap, ◌∙◌, subst}
use Rattle.std.specs.Prelude.{slice_index_or}
use borrow.Author.Tests.{ltb-false}
use Rattle.wjs_model.specs.declared.loaded.LoadedProgram.{LoadedProgram as Program}
use Rattle.wjs_variables.proofs.UnitTrees.{unit_is, no_unit}
use Rattle.wjs_variables.proofs.declarations.program_body.Goals as goal

pub returns-in-Some-clause-body : goal.returns-in-Some-clause-body
returns-in-Some-clause-body g c = λ v found.
    let now = c.args.config.now in
    let i = c.args.frame.now.tree in
    let u = c.in-Some.unit.now in
    let items : c.deref.result.now ≡ now.units.items = c.deref.ensures.value in
    let lt : i < length now.units.items = subst (λ (k : ℕ). k < length now.units.items) c.tree.ensures (subst (λ (us : List Program). c.tree.result < length us) items c.in-Some.ensures.lookup.3.0) in
    let is : u ≡ slice_index_or now.units.items i u = c.in-Some.ensures.lookup.1 ∙ ap (λ (us : List Program). slice_index_or us c.tree.result u) items ∙ ap (λ (k : ℕ). slice_index_or now.units.items k u) c.tree.ensures in
    ap (λ (w : Program). w.program.body) (unit_is now.units.items i v u lt is found)

pub returns-in-None-clause-body : goal.returns-in-None-clause-body
returns-in-None-clause-body g c = λ v found.
    let now = c.args.config.now in
    let i = c.args.frame.now.tree in
    let le : length now.units.items ≤ i = subst (λ (k : ℕ). length now.units.items ≤ k) c.tree.ensures (subst (λ (us : List Program). length us ≤ c.tree.result) c.deref.ensures.value (ltb-false c.tree.result (length c.deref.result.now) (sym c.in-None.ensures.lookup.0))) in
    absurd (no_unit now.units.items i v le found)
