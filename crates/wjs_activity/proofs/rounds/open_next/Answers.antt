use Rattle.std.proofs.Common.{◌≡◌, ◌+◌, ◌-◌, ◌<◌, sym, subst, arith}
use Rattle.std.proofs.lemmas.Result.{IfOk-weaker}
use Rattle.wjs_session.specs.Stores.{worlds_in}
use Rattle.wjs_tries.specs.Common.{IsCommon}
use Rattle.wjs_tries.specs.Hiding.{no_owner, MayList}
use Rattle.wjs_tries.specs.Meant.{session_meaning}
use Rattle.wjs_tries.specs.Turning.{Begun}
use Rattle.wjs_activity.proofs.rounds.open_next.Goals as goal

pub open-requires-clause-some : goal.open-requires-clause-some
open-requires-clause-some c = let next = c.in-Some.ensures.next in omega (arith, next)

pub open-requires-clause-common : goal.open-requires-clause-common
open-requires-clause-common c =
    let common = c.args.common in
    let next : c.in-Some.owner ≡ c.args.drawn + 1 = c.in-Some.ensures.next in
    let before : c.args.drawn ≡ c.in-Some.owner - 1 = omega (arith, next) in
    subst (λ d. IsCommon common.texts common.arena common.units.items (worlds_in common.shared) d) before c.requires.common

pub open-requires-clause-apart : goal.open-requires-clause-apart
open-requires-clause-apart c = λ u listed.
    let next = c.in-Some.ensures.next in
    subst (λ q. MayList q c.args.common u) (sym next) (c.requires.apart (subst (λ n. n < no_owner) next c.in-Some.ensures.few) u listed)

pub returns-in-Some-clause-begun : goal.returns-in-Some-clause-begun
returns-in-Some-clause-begun c =
    let next = c.in-Some.ensures.next in
    IfOk-weaker c.open.result _ _
    (λ config b. subst (λ q. Begun session_meaning q (c.args.rules.first + c.args.place) c.args.rules.budget c.args.common config) next b)
    c.open.ensures.begun

pub returns-in-Some-clause-few : goal.returns-in-Some-clause-few
returns-in-Some-clause-few c =
    let next = c.in-Some.ensures.next in
    IfOk-weaker c.open.result _ _
    (λ config b. subst (λ n. n < no_owner) next c.in-Some.ensures.few)
    c.open.ensures.running
