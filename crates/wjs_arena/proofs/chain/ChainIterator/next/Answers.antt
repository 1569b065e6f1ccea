use Rattle.std.proofs.Common.{◌≡◌, ◌∷◌, sym, ap, ◌∙◌, subst, rules, length}
use Rattle.std.specs.FinMap as map
use Rattle.std.specs.Iterator.{YieldsFirst}
use Rattle.wjs_arena.specs.Rest.{rest}
use Rattle.wjs_arena.specs.Entries.{depth_of}
use Rattle.wjs_arena.specs.Chains.{chain_from}
use Rattle.wjs_arena.proofs.Fields.{prototyped, prototyped_is}
use Rattle.wjs_arena.proofs.Walks.{chain_step, chain_none, link_is, there_by}
use Rattle.wjs_arena.proofs.chain.ChainIterator.next.Goals as goal

pub returns-in_err-id-clause-steps : goal.returns-in_err-id-clause-steps
returns-in_err-id-clause-steps c =
    let done = chain_none c.args.self.now.arena.now c.args.self.now.next c.in_err-id.was in
    subst (λ r. YieldsFirst rest c.args.self.now r c.args.self.now) (sym c.from_residual.ensures) (done, done)

pub returns-clause-steps : goal.returns-clause-steps
returns-clause-steps c =
    let m = c.args.self.now.arena.now in
    let there = there_by m c.args.self.now.next c.in_ok-id.id c.in_ok-id.was c.args.self.now.there in
    ap (λ o. chain_from (depth_of m o) m o) c.in_ok-id.was
    ∙ chain_step m c.prototype-self.ensures.arena c.in_ok-id.id c.prototype-self.result there (link_is m c.in_ok-id.id (prototyped (map.get m c.in_ok-id.id) c.prototype-self.result) there (prototyped_is (map.get m c.in_ok-id.id) c.prototype-self.result c.prototype-self.ensures.prototype))

pub returns-clause-goes : goal.returns-clause-goes
returns-clause-goes c =
    let m = c.args.self.now.arena.now in
    let there = there_by m c.args.self.now.next c.in_ok-id.id c.in_ok-id.was c.args.self.now.there in
    let step : rest c.args.self.now ≡ c.in_ok-id.id ∷ chain_from (depth_of m c.prototype-self.result) m c.prototype-self.result =
    ap (λ o. chain_from (depth_of m o) m o) c.in_ok-id.was
    ∙ chain_step m c.prototype-self.ensures.arena c.in_ok-id.id c.prototype-self.result there (link_is m c.in_ok-id.id (prototyped (map.get m c.in_ok-id.id) c.prototype-self.result) there (prototyped_is (map.get m c.in_ok-id.id) c.prototype-self.result c.prototype-self.ensures.prototype)) in
    search (rules, ap length step)
