use Rattle.std.proofs.Common.{refl, sym, ap, ◌∙◌, subst, is_some, ◌<◌}
use Rattle.std.specs.FinMap as map
use Rattle.wjs_arena.specs.Entries.{depth_of, prototype_of}
use Rattle.wjs_arena.specs.Chains.{chain_from, none_fixed}
use Rattle.wjs_arena.proofs.Fields.{prototyped, prototyped_is}
use Rattle.wjs_arena.proofs.Walks.{chain_step, chain_none, link_is, there_by, there_next, less_deep, fixed_here, not_fixed_here, none_of}
use Rattle.wjs_arena.proofs.arena.Arena.is_puttable.Goals as goal

pub returns-then-is_some : goal.returns-then-is_some
returns-then-is_some c =
    let m = c.args.self.now in
    let there = there_by m c.up.at c.in-Some.next c.in-Some.is c.up.invariant.there in
    let p = prototype_of m c.in-Some.next in
    let step = ap (λ o. chain_from (depth_of m o) m o) c.in-Some.is ∙ chain_step m c.fixed.ensures.arena c.in-Some.next p there refl in
    sym (sym c.up.invariant.rest ∙ fixed_here m (chain_from (depth_of m c.up.at) m c.up.at) c.in-Some.next (chain_from (depth_of m p) m p) c.args.name step (ap is_some (sym c.fixed.ensures.fixed) ∙ sym c.is_some.ensures ∙ c.if-is_some.true))

pub up-preserved : goal.up-preserved
up-preserved c =
    let m = c.args.self.now in
    let there = there_by m c.up.at c.in-Some.next c.in-Some.is c.up.invariant.there in
    let p = c.prototype-at.result in
    let is = link_is m c.in-Some.next (prototyped (map.get m c.in-Some.next) c.prototype-at.result) there (prototyped_is (map.get m c.in-Some.next) c.prototype-at.result c.prototype-at.ensures.prototype) in
    let step = ap (λ o. chain_from (depth_of m o) m o) c.in-Some.is ∙ chain_step m c.prototype-at.ensures.arena c.in-Some.next p there is in
    record {
      there = there_next m c.prototype-at.ensures.arena c.in-Some.next p is;
      rest = sym (not_fixed_here m (chain_from (depth_of m c.up.at) m c.up.at) c.in-Some.next (chain_from (depth_of m p) m p) c.args.name step (ap is_some (sym c.fixed.ensures.fixed) ∙ sym c.is_some.ensures ∙ c.if-is_some.false)) ∙ c.up.invariant.rest;
    }

pub up-smaller : goal.up-smaller
up-smaller c =
    let m = c.args.self.now in
    let there = there_by m c.up.at c.in-Some.next c.in-Some.is c.up.invariant.there in
    let p = c.prototype-at.result in
    subst (λ o. depth_of m p < depth_of m o) (sym c.in-Some.is) (less_deep m c.prototype-at.ensures.arena c.in-Some.next p there (link_is m c.in-Some.next (prototyped (map.get m c.in-Some.next) c.prototype-at.result) there (prototyped_is (map.get m c.in-Some.next) c.prototype-at.result c.prototype-at.ensures.prototype)))

pub returns : goal.returns
returns c =
    let m = c.args.self.now in
    sym (ap (λ os. none_fixed m os c.args.name) (chain_none m c.up.at (none_of c.up.at c.in_default.not-Some))) ∙ c.up.invariant.rest
