use Rattle.std.proofs.Common.{◌≡◌, sym, ap, ◌∙◌}
use Rattle.wjs_store.specs.State.{write, wrote}
use Rattle.wjs_store.specs.Shown.{content_of}
use Rattle.wjs_session.specs.Told.{told_of}
use Rattle.wjs_session.specs.Stores.{worlds_in}
use Rattle.wjs_session.specs.Session.{world_at, first_copy, owned}
use Rattle.wjs_session.proofs.StoreLaws.{has_full}
use Rattle.wjs_session.proofs.TellLaws.{tells_more}
use Rattle.wjs_session.proofs.session.SessionWorldStore.write.Goals as goal

pub write-requires-clause-there : goal.write-requires-clause-there
write-requires-clause-there c = sym (has_full (world_at (worlds_in c.args.self.now.shared) c.args.self.now.world) (worlds_in c.args.self.now.inner) (owned (world_at (worlds_in c.args.self.now.shared) c.args.self.now.world) (first_copy (worlds_in c.args.self.now.shared))) c.args.world) ∙ c.requires

pub invariant_of-self-2 : goal.invariant_of-self-2
invariant_of-self-2 c =
    let s = c.args.self.now in
    let e = c.in_ok-write.ensures in record {
      works = λ _. (e.works.0 ∙ (s.works c.if-self.false).0, e.works.1 ∙ (s.works c.if-self.false).1);
      kept = λ _. e.answered.kept;
      alone = λ _ n. e.alone n;
      marks = λ _. tells_more (worlds_in s.shared) s.world (worlds_in s.inner) (write c.args.world c.args.slot (content_of c.args.content)) wrote (worlds_in c.write.new.shared) (worlds_in c.write.new.inner) (told_of s.told.chain.value) (told_of c.tell.new.self.chain.value) (s.kept c.if-self.false) (s.marks c.if-self.false) e.answered e.marks c.tell.ensures;
    }
