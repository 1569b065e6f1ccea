use Rattle.std.proofs.Common.{◌≡◌, sym, ap, ◌∙◌, subst, Some}
use Rattle.std.specs.FinMap as map
use Rattle.wjs_base.specs.declared.ids.WorldId.{WorldId}
use Rattle.wjs_store.specs.Fixed.{begun}
use Rattle.wjs_store.specs.Meaning.{Meaning, Worlds}
use Rattle.wjs_store.specs.State.{next_id, sprout, sprouted}
use Rattle.wjs_session.specs.Stores.{worlds_in}
use Rattle.wjs_session.specs.Session.{world_at, session}
use Rattle.wjs_session.specs.Kept.{IsSession, IsAlone}
use Rattle.wjs_session.specs.Begun.{Begins}
use Rattle.wjs_session.specs.Told.{told_of}
use Rattle.wjs_session.specs.Tells.{TellsMarks}
use Rattle.std.proofs.Common.{false}
use Rattle.wjs_session.proofs.Worlds.{first_there}
use Rattle.wjs_session.proofs.BeginLaws.{count_none, kept_begun, tells_begun, begins}
use Rattle.wjs_session.proofs.AnswerLaws.{of_does, overlay_reached, sprouted_is, alone_begun}
use Rattle.wjs_session.proofs.session.Session.begin.Goals as goal

pub sprout-requires : goal.sprout-requires
sprout-requires c = first_there (worlds_in c.args.shared) c.first-first.result (overlay_reached c.args.shared c.requires.live) c.first-first.ensures

pub starting-requires : goal.starting-requires
starting-requires c =
    let F = worlds_in c.args.shared in
    let d = of_does c.args.shared c.sprout.new.self (sprout c.first-first.result c.args.owner false) (sprouted c.in_ok-world.world) c.in_ok-world.ensures.0 in
    let is = sprouted_is c.in_ok-world.world (next_id F c.args.owner) d.answers in
    ap (λ (w : WorldId). w.serial) is ∙ count_none F c.args.owner (overlay_reached c.args.shared c.requires.live) c.requires.new

pub invariant_of-result : goal.invariant_of-result
invariant_of-result c =
    let F = worlds_in c.args.shared in
    let r = overlay_reached c.args.shared c.requires.live in
    let d = of_does c.args.shared c.sprout.new.self (sprout c.first-first.result c.args.owner false) (sprouted c.in_ok-world.world) c.in_ok-world.ensures.0 in
    let is = sprouted_is c.in_ok-world.world (next_id F c.args.owner) d.answers in
    let inner : worlds_in c.in_ok-inner.inner ≡ begun c.in_ok-world.world = ap (λ (m : Meaning). m.full map.empty) c.in_ok-inner.ensures in
    let kept = kept_begun F c.first-first.result c.args.owner r c.first-first.ensures (count_none F c.args.owner r c.requires.new) in
    let told = told_of c.nothing.result.chain.value in
    let tells = tells_begun F c.first-first.result c.args.owner r c.first-first.ensures (count_none F c.args.owner r c.requires.new) told c.nothing.ensures in
    record {
      works = λ e. (d.spent ∙ c.requires.live, ap (λ (m : Meaning). m.spent) c.in_ok-inner.ensures);
      kept = λ e. subst (λ (H : Worlds). IsSession (worlds_in c.sprout.new.self) c.in_ok-world.world H) (sym inner) (subst (λ (w : WorldId). IsSession (worlds_in c.sprout.new.self) w (begun w)) (sym is) (subst (λ (H : Worlds). IsSession H (next_id F c.args.owner) (begun (next_id F c.args.owner))) (sym d.worlds) kept));
      alone = λ e n. subst IsAlone (sym inner) (alone_begun c.in_ok-world.world);
      marks = λ e. subst (λ (H : Worlds). TellsMarks (world_at (worlds_in c.sprout.new.self) c.in_ok-world.world) H told) (sym inner) (subst (λ (w : WorldId). TellsMarks (world_at (worlds_in c.sprout.new.self) w) (begun w) told) (sym is) (subst (λ (H : Worlds). TellsMarks (world_at H (next_id F c.args.owner)) (begun (next_id F c.args.owner)) told) (sym d.worlds) tells));
    }

pub returns : goal.returns
returns c =
    let F = worlds_in c.args.shared in
    let r = overlay_reached c.args.shared c.requires.live in
    let d = of_does c.args.shared c.sprout.new.self (sprout c.first-first.result c.args.owner false) (sprouted c.in_ok-world.world) c.in_ok-world.ensures.0 in
    let is = sprouted_is c.in_ok-world.world (next_id F c.args.owner) d.answers in
    let inner : worlds_in c.in_ok-inner.inner ≡ begun c.in_ok-world.world = ap (λ (m : Meaning). m.full map.empty) c.in_ok-inner.ensures in
    let told = told_of c.nothing.result.chain.value in
    let all = begins F c.first-first.result c.args.owner r c.first-first.ensures (count_none F c.args.owner r c.requires.new) told c.nothing.ensures in
    subst (λ (H : Worlds). Begins F c.args.owner c.in_ok-world.world (session (worlds_in c.sprout.new.self) c.in_ok-world.world H told false)) (sym inner) (subst (λ (w : WorldId). Begins F c.args.owner w (session (worlds_in c.sprout.new.self) w (begun w) told false)) (sym is) (subst (λ (H : Worlds). Begins F c.args.owner (next_id F c.args.owner) (session H (next_id F c.args.owner) (begun (next_id F c.args.owner)) told false)) (sym d.worlds) all))
