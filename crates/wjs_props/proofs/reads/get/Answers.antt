use Rattle.std.proofs.Common.{sym, ap, ◌∙◌}
use Rattle.wjs_store.specs.Shown.{content_of}
use Rattle.wjs_heap.specs.Means.{parts}
use Rattle.wjs_props.proofs.Getting.{begins, ends_fixed, ends_found, ends_absent, goes_on, fixed_there, none_of, absent_of, next_of}
use Rattle.std.specs.FinMap as map
use Rattle.wjs_arena.proofs.Fields.{prototyped, prototyped_is}
use Rattle.wjs_props.proofs.reads.get.Goals as goal

pub up-init : goal.up-init
up-init g c = begins c.args.world c.args.name c.args.object (parts g.S.WorldStore.meaning c.args.heap.now) c.requires.heap c.requires.world c.requires.object c.requires.name

pub returns-in-Some-clause-gets : goal.returns-in-Some-clause-gets
returns-in-Some-clause-gets g c =
    let p = parts g.S.WorldStore.meaning in
    ends_fixed c.args.world c.args.name c.args.object (p c.args.heap.now) (p c.up.heap) c.up.at c.up.invariant c.in-Some.value (sym c.fixed.ensures.fixed ∙ c.in-Some.is)

pub returns-in-Some-clause-found : goal.returns-in-Some-clause-found
returns-in-Some-clause-found g c = fixed_there (parts g.S.WorldStore.meaning c.up.heap) c.up.invariant.heap c.up.at c.args.name c.in-Some.value (sym c.fixed.ensures.fixed ∙ c.in-Some.is)

pub returns-in-Present-clause-gets : goal.returns-in-Present-clause-gets
returns-in-Present-clause-gets g c =
    let p = parts g.S.WorldStore.meaning in
    ends_found c.args.world c.args.name c.args.object (p c.args.heap.now) (p c.up.heap) c.up.at c.up.invariant (p c.read.new.heap) c.in_ok-found.found (sym c.fixed.ensures.fixed ∙ none_of _ c.in_default.not-Some) c.in_ok-found.ensures.reads c.in-Present.field-0 (ap content_of c.in-Present.is)

pub returns-in-None-clause-gets : goal.returns-in-None-clause-gets
returns-in-None-clause-gets g c =
    let p = parts g.S.WorldStore.meaning in
    ends_absent c.args.world c.args.name c.args.object (p c.args.heap.now) (p c.up.heap) c.up.at c.up.invariant (p c.read.new.heap) c.in_ok-found.found (sym c.fixed.ensures.fixed ∙ none_of _ c.in_default.not-Some) c.in_ok-found.ensures.reads (absent_of _ c.in_default-found.not-Present)
    (next_of (p c.up.heap) (p c.read.new.heap) c.up.at (prototyped (map.get c.read.new.heap.arena c.up.at) c.prototype.result) c.in_ok-found.ensures.reads.arena c.up.invariant.there (prototyped_is (map.get c.read.new.heap.arena c.up.at) c.prototype.result c.prototype.ensures.prototype) ∙ c.in-None.is)

pub up-preserved : goal.up-preserved
up-preserved g c =
    let p = parts g.S.WorldStore.meaning in
    goes_on c.args.world c.args.name c.args.object (p c.args.heap.now) (p c.up.heap) c.up.at c.up.invariant (p c.read.new.heap) c.in_ok-found.found (sym c.fixed.ensures.fixed ∙ none_of _ c.in_default.not-Some) c.in_ok-found.ensures.reads c.in-Some-prototype.prototype (absent_of _ c.in_default-found.not-Present)
    (next_of (p c.up.heap) (p c.read.new.heap) c.up.at (prototyped (map.get c.read.new.heap.arena c.up.at) c.prototype.result) c.in_ok-found.ensures.reads.arena c.up.invariant.there (prototyped_is (map.get c.read.new.heap.arena c.up.at) c.prototype.result c.prototype.ensures.prototype) ∙ c.in-Some-prototype.is)
