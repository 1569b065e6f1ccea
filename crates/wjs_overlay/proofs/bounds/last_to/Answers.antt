use Rattle.std.proofs.Common.{◌≡◌, ℕ, ◌-◌, ◌<◌, false, nat_le, length, Some, MatchOption, sym, ◌∙◌, subst, arith}
use Rattle.wjs_base.proofs.Lists.{get_there}
use Rattle.wjs_overlay.specs.declared.bounds.Bound.{Bound}
use Rattle.wjs_overlay.specs.Covers.{covers}
use Rattle.wjs_overlay.proofs.Covering.{covers_last, covers_nothing}
use Rattle.wjs_names.proofs.Seeks.{got_at}
use Rattle.wjs_overlay.proofs.bounds.last_to.Goals as goal

pub returns-then-count-eq0 : goal.returns-then-count-eq0
returns-then-count-eq0 c = λ serial. covers_nothing c.args.bounds.now c.args.place c.count_to-count.result c.if-count-eq0.true c.count_to-count.ensures serial

pub returns : goal.returns
returns c =
    let bs = c.args.bounds.now in
    let n = c.count_to-count.result in
    let w = c.count_to-count.ensures.within in
    let more : 0 < n = omega (arith, c.if-count-eq0.false) in
    let l : n - 1 < length bs = omega (arith, w) in
    let s = get_there bs (n - 1) l in
    let e : c.copied.result ≡ Some s.0 = c.copied.ensures ∙ got_at bs (n - 1) c.get.result c.get.ensures.lookup ∙ s.1 in
    subst (λ o. MatchOption o ((serial : ℕ) → covers bs c.args.place serial ≡ false) (λ (b : Bound). (serial : ℕ) → covers bs c.args.place serial ≡ nat_le serial b.serial)) (sym e)
    (covers_last bs c.args.place n s.0 c.requires c.count_to-count.ensures more s.1)
