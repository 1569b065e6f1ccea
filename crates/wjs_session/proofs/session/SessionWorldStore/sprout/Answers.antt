use Rattle.std.proofs.Common.{◌≡◌, refl, sym, ap, ◌∙◌}
use Rattle.std.proofs.lemmas.Bool.{true≢false}
use Rattle.wjs_store.specs.State.{next_id, sprout, sprouted}
use Rattle.wjs_session.specs.Told.{told_of}
use Rattle.wjs_session.specs.Stores.{worlds_in}
use Rattle.wjs_session.specs.Session.{world_at, first_copy, owned}
use Rattle.wjs_session.proofs.StoreLaws.{has_full, session_answers}
use Rattle.wjs_session.proofs.AnswerLaws.{of_does, sprouted_is, made_below}
use Rattle.wjs_session.proofs.TellLaws.{tells_more}
use Rattle.wjs_session.proofs.session.SessionWorldStore.sprout.Goals as goal

pub sprout-requires : goal.sprout-requires
sprout-requires c = sym (has_full (world_at (worlds_in c.args.self.now.shared) c.args.self.now.world) (worlds_in c.args.self.now.inner) (owned (world_at (worlds_in c.args.self.now.shared) c.args.self.now.world) (first_copy (worlds_in c.args.self.now.shared))) c.args.world) ∙ c.requires

pub invariant_of-self-2 : goal.invariant_of-self-2
invariant_of-self-2 c =
    let F = worlds_in c.args.self.now.shared in
    let i = c.args.self.now.world in
    let G = worlds_in c.args.self.now.inner in
    let a = sprout c.args.world c.args.owner c.args.strict in
    let n = c.sprout.new.self in
    let d = of_does c.args.self.now.inner n a (sprouted c.in_ok-child.child) c.in_ok-child.ensures.0 in
    let there = sym (has_full (world_at (worlds_in c.args.self.now.shared) c.args.self.now.world) (worlds_in c.args.self.now.inner) (owned (world_at (worlds_in c.args.self.now.shared) c.args.self.now.world) (first_copy (worlds_in c.args.self.now.shared))) c.args.world) ∙ c.requires in
    let made = made_below F i G (c.args.self.now.kept c.if-self.false) c.args.world c.args.owner c.args.strict there (worlds_in n) c.in_ok-child.child d.worlds (sprouted_is c.in_ok-child.child (next_id G c.args.owner) d.answers) in
    record {
      works = λ e. ((c.args.self.now.works c.if-self.false).0, d.spent ∙ (c.args.self.now.works c.if-self.false).1);
      kept = λ e. made.kept;
      alone = λ e z. absurd (true≢false z);
      marks = λ e. tells_more F i G a (sprouted c.in_ok-child.child) F (worlds_in n) (told_of c.args.self.now.told.chain.value) (told_of c.tell.new.self.chain.value) (c.args.self.now.kept c.if-self.false) (c.args.self.now.marks c.if-self.false) made (λ v p. refl) c.tell.ensures;
    }

pub returns : goal.returns
returns c =
    let F = worlds_in c.args.self.now.shared in
    let i = c.args.self.now.world in
    let G = worlds_in c.args.self.now.inner in
    let a = sprout c.args.world c.args.owner c.args.strict in
    let n = c.sprout.new.self in
    let d = of_does c.args.self.now.inner n a (sprouted c.in_ok-child.child) c.in_ok-child.ensures.0 in
    let there = sym (has_full (world_at (worlds_in c.args.self.now.shared) c.args.self.now.world) (worlds_in c.args.self.now.inner) (owned (world_at (worlds_in c.args.self.now.shared) c.args.self.now.world) (first_copy (worlds_in c.args.self.now.shared))) c.args.world) ∙ c.requires in
    let made = made_below F i G (c.args.self.now.kept c.if-self.false) c.args.world c.args.owner c.args.strict there (worlds_in n) c.in_ok-child.child d.worlds (sprouted_is c.in_ok-child.child (next_id G c.args.owner) d.answers) in
    session_answers F i G a (sprouted c.in_ok-child.child) F (worlds_in n) (told_of c.args.self.now.told.chain.value) (told_of c.tell.new.self.chain.value) c.args.self.now.spent c.if-self.false c.tell.ensures made
