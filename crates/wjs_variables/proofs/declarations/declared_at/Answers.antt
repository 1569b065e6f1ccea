use Rattle.std.proofs.Common.{◌≡◌, ℕ, ◌<◌, ◌≤◌, List, length, sym, ap, ◌∙◌, subst}
use Rattle.std.specs.Prelude.{map as each, slice_index_or}
use borrow.Author.Tests.{ltb-false}
use Rattle.wjs_base.specs.declared.ids.NodeId.{NodeId}
use Rattle.wjs_by_content.specs.Tables.{text_in}
use Rattle.wjs_meaning.specs.Declarations.{declared_by}
use Rattle.wjs_meaning.specs.Reading.{numbers}
use Rattle.wjs_meaning.specs.Trees.{Tree}
use Rattle.wjs_model.specs.Bodies.{others_by}
use Rattle.wjs_model.specs.Texts.{KnowsUnit, PlacesUnit}
use Rattle.wjs_model.specs.Units.{unit_in}
use Rattle.wjs_model.specs.declared.loaded.LoadedProgram.{LoadedProgram as Program}
use Rattle.wjs_scope.specs.declared.declarations.Declarations.{Declarations}
use Rattle.wjs_scope.specs.Bodies.{elements_at}
use Rattle.wjs_scope.specs.Declarations.{functions_among}
use Rattle.wjs_heap_steps.proofs.Composing.{if_ok}
use Rattle.wjs_variables.proofs.UnitTrees.{tree_some, tree_none, unit_here, unit_known, unit_placed, unit_is, no_unit}
use Rattle.wjs_variables.proofs.declarations.declared_at.Goals as goal

pub returns-in-Some-clause-variables : goal.returns-in-Some-clause-variables
returns-in-Some-clause-variables g c =
    let now = c.args.config.now in
    let i = c.args.frame.now.tree in
    let u = c.in-Some.unit.now in
    let items : c.deref.result.now ≡ now.units.items = c.deref.ensures.value in
    let lt : i < length now.units.items = subst (λ (k : ℕ). k < length now.units.items) c.tree.ensures (subst (λ (us : List Program). c.tree.result < length us) items c.in-Some.ensures.lookup.3.0) in
    let is : u ≡ slice_index_or now.units.items i u = c.in-Some.ensures.lookup.1 ∙ ap (λ (us : List Program). slice_index_or us c.tree.result u) items ∙ ap (λ (k : ℕ). slice_index_or now.units.items k u) c.tree.ensures in
    if_ok _ _ c.declared.result
    (λ d h. λ t table grows. h t table (unit_known now.heap.texts t grows now.units.items i u lt is c.requires.units) ∙ ap (λ (n : NodeId). (declared_by (unit_in t u) n.0).vars) c.node.ensures ∙ ap (λ (tree : Tree). (declared_by tree c.args.frame.now.node.0).vars) (sym (tree_some t now.units.items i u lt is)))
    c.declared.ensures.variables

pub returns-in-Some-clause-functions : goal.returns-in-Some-clause-functions
returns-in-Some-clause-functions g c =
    let now = c.args.config.now in
    let i = c.args.frame.now.tree in
    let u = c.in-Some.unit.now in
    let items : c.deref.result.now ≡ now.units.items = c.deref.ensures.value in
    let lt : i < length now.units.items = subst (λ (k : ℕ). k < length now.units.items) c.tree.ensures (subst (λ (us : List Program). c.tree.result < length us) items c.in-Some.ensures.lookup.3.0) in
    let is : u ≡ slice_index_or now.units.items i u = c.in-Some.ensures.lookup.1 ∙ ap (λ (us : List Program). slice_index_or us c.tree.result u) items ∙ ap (λ (k : ℕ). slice_index_or now.units.items k u) c.tree.ensures in
    if_ok _ _ c.declared.result
    (λ d h. λ t. h t ∙ ap (λ (n : NodeId). (declared_by (unit_in t u) n.0).functions) c.node.ensures ∙ ap (λ (tree : Tree). (declared_by tree c.args.frame.now.node.0).functions) (sym (tree_some t now.units.items i u lt is)))
    c.declared.ensures.functions

pub returns-in-Some-clause-others : goal.returns-in-Some-clause-others
returns-in-Some-clause-others g c =
    let now = c.args.config.now in
    let i = c.args.frame.now.tree in
    let u = c.in-Some.unit.now in
    let items : c.deref.result.now ≡ now.units.items = c.deref.ensures.value in
    let lt : i < length now.units.items = subst (λ (k : ℕ). k < length now.units.items) c.tree.ensures (subst (λ (us : List Program). c.tree.result < length us) items c.in-Some.ensures.lookup.3.0) in
    let is : u ≡ slice_index_or now.units.items i u = c.in-Some.ensures.lookup.1 ∙ ap (λ (us : List Program). slice_index_or us c.tree.result u) items ∙ ap (λ (k : ℕ). slice_index_or now.units.items k u) c.tree.ensures in
    if_ok _ _ c.declared.result
    (λ d h. λ t table grows. h t table (unit_known now.heap.texts t grows now.units.items i u lt is c.requires.units) (unit_placed now.heap.texts t grows now.units.items i u lt is c.requires.units c.requires.places)
    ∙ ap (λ (n : NodeId). others_by (unit_in t u) (declared_by (unit_in t u) n.0)) c.node.ensures
    ∙ ap (λ (tree : Tree). others_by tree (declared_by tree c.args.frame.now.node.0)) (sym (tree_some t now.units.items i u lt is)))
    c.declared.ensures.others

pub returns-in-Some-clause-others_found : goal.returns-in-Some-clause-others_found
returns-in-Some-clause-others_found g c =
    let now = c.args.config.now in
    let i = c.args.frame.now.tree in
    let u = c.in-Some.unit.now in
    let items : c.deref.result.now ≡ now.units.items = c.deref.ensures.value in
    let lt : i < length now.units.items = subst (λ (k : ℕ). k < length now.units.items) c.tree.ensures (subst (λ (us : List Program). c.tree.result < length us) items c.in-Some.ensures.lookup.3.0) in
    let is : u ≡ slice_index_or now.units.items i u = c.in-Some.ensures.lookup.1 ∙ ap (λ (us : List Program). slice_index_or us c.tree.result u) items ∙ ap (λ (k : ℕ). slice_index_or now.units.items k u) c.tree.ensures in
    if_ok _ _ c.declared.result (λ d h. h now.heap.texts (unit_here (KnowsUnit now.heap.texts) now.units.items i u lt is c.requires.units) (unit_here (PlacesUnit now.heap.texts) now.units.items i u lt is c.requires.places)) c.declared.ensures.others_found

pub returns-in-None-clause-formals : goal.returns-in-None-clause-formals
returns-in-None-clause-formals g c =
    let now = c.args.config.now in
    let i = c.args.frame.now.tree in
    let le : length now.units.items ≤ i = subst (λ (k : ℕ). length now.units.items ≤ k) c.tree.ensures (subst (λ (us : List Program). length us ≤ c.tree.result) c.deref.ensures.value (ltb-false c.tree.result (length c.deref.result.now) (sym c.in-None.ensures.lookup.0))) in
    if_ok _ _ c.nothing.result
    (λ d h. λ t. ap (λ (x : Declarations). each (text_in t) x.formals) h ∙ ap (λ (tree : Tree). (declared_by tree c.args.frame.now.node.0).formals) (sym (tree_none t now.units.items i le)))
    c.nothing.ensures

pub returns-in-None-clause-functions : goal.returns-in-None-clause-functions
returns-in-None-clause-functions g c =
    let now = c.args.config.now in
    let i = c.args.frame.now.tree in
    let le : length now.units.items ≤ i = subst (λ (k : ℕ). length now.units.items ≤ k) c.tree.ensures (subst (λ (us : List Program). length us ≤ c.tree.result) c.deref.ensures.value (ltb-false c.tree.result (length c.deref.result.now) (sym c.in-None.ensures.lookup.0))) in
    if_ok _ _ c.nothing.result
    (λ d h. λ t. ap (λ (x : Declarations). numbers x.functions) h ∙ ap (λ (tree : Tree). (declared_by tree c.args.frame.now.node.0).functions) (sym (tree_none t now.units.items i le)))
    c.nothing.ensures

pub returns-in-None-clause-variables : goal.returns-in-None-clause-variables
returns-in-None-clause-variables g c =
    let now = c.args.config.now in
    let i = c.args.frame.now.tree in
    let le : length now.units.items ≤ i = subst (λ (k : ℕ). length now.units.items ≤ k) c.tree.ensures (subst (λ (us : List Program). length us ≤ c.tree.result) c.deref.ensures.value (ltb-false c.tree.result (length c.deref.result.now) (sym c.in-None.ensures.lookup.0))) in
    if_ok _ _ c.nothing.result
    (λ d h. λ t table grows. ap (λ (x : Declarations). each (text_in t) x.variables) h ∙ ap (λ (tree : Tree). (declared_by tree c.args.frame.now.node.0).vars) (sym (tree_none t now.units.items i le)))
    c.nothing.ensures

pub returns-in-Some-clause-nodes : goal.returns-in-Some-clause-nodes
returns-in-Some-clause-nodes g c =
    let now = c.args.config.now in
    let i = c.args.frame.now.tree in
    let u = c.in-Some.unit.now in
    let items : c.deref.result.now ≡ now.units.items = c.deref.ensures.value in
    let lt : i < length now.units.items = subst (λ (k : ℕ). k < length now.units.items) c.tree.ensures (subst (λ (us : List Program). c.tree.result < length us) items c.in-Some.ensures.lookup.3.0) in
    let is : u ≡ slice_index_or now.units.items i u = c.in-Some.ensures.lookup.1 ∙ ap (λ (us : List Program). slice_index_or us c.tree.result u) items ∙ ap (λ (k : ℕ). slice_index_or now.units.items k u) c.tree.ensures in
    if_ok _ _ c.declared.result
    (λ d h. λ v found. h ∙ ap (λ (n : NodeId). functions_among u.program.nodes (elements_at u.program.nodes n.0)) c.node.ensures ∙ ap (λ (w : Program). functions_among w.program.nodes (elements_at w.program.nodes c.args.frame.now.node.0)) (unit_is now.units.items i v u lt is found))
    c.declared.ensures.numbered

pub returns-in-None-clause-nodes : goal.returns-in-None-clause-nodes
returns-in-None-clause-nodes g c =
    let now = c.args.config.now in
    let i = c.args.frame.now.tree in
    let le : length now.units.items ≤ i = subst (λ (k : ℕ). length now.units.items ≤ k) c.tree.ensures (subst (λ (us : List Program). length us ≤ c.tree.result) c.deref.ensures.value (ltb-false c.tree.result (length c.deref.result.now) (sym c.in-None.ensures.lookup.0))) in
    if_ok _ _ c.nothing.result (λ d h. λ v found. absurd (no_unit now.units.items i v le found)) c.nothing.ensures

pub returns-in-None-clause-others : goal.returns-in-None-clause-others
returns-in-None-clause-others g c =
    let now = c.args.config.now in
    let i = c.args.frame.now.tree in
    let le : length now.units.items ≤ i = subst (λ (k : ℕ). length now.units.items ≤ k) c.tree.ensures (subst (λ (us : List Program). length us ≤ c.tree.result) c.deref.ensures.value (ltb-false c.tree.result (length c.deref.result.now) (sym c.in-None.ensures.lookup.0))) in
    if_ok _ _ c.nothing.result
    (λ d h. λ t table grows. ap (λ (x : Declarations). each (text_in t) x.others) h ∙ ap (λ (tree : Tree). others_by tree (declared_by tree c.args.frame.now.node.0)) (sym (tree_none t now.units.items i le)))
    c.nothing.ensures
