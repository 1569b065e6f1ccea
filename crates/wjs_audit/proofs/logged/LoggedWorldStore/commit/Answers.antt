use Rattle.std.proofs.Common.{refl, false}
use Rattle.wjs_audit.specs.declared.deed.Deed.TheVariants.{Commit}
use Rattle.wjs_audit.specs.Recorded.{Recorded}
use Rattle.wjs_audit.proofs.Keeping.{logged_did, logged_kept}
use Rattle.wjs_audit.proofs.logged.LoggedWorldStore.commit.Goals as goal

pub invariant_of-self-2 : goal.invariant_of-self-2
invariant_of-self-2 g c e =
    let m = g.S.WorldStore.meaning in
    let inside : Recorded _ = record { inner = c.self.inside.inner; log = c.self.inside.log; spent = c.self.inside.spent } in
    let after : Recorded _ = record { inner = c.commit.new.self; log = c.push.new.self; spent = false } in
    logged_kept m inside c.args.self.now after c.self.view_is (record { deed = Commit c.args.world c.in_ok-verdict.verdict; line = 0 }) (c.self.invariant c.if-self.false) c.in_ok-verdict.ensures (g.met.S.WorldStore.sound c.commit.new.self) c.requires c.in_ok-push.ensures.ok refl

pub returns : goal.returns
returns g c =
    let m = g.S.WorldStore.meaning in
    let inside : Recorded _ = record { inner = c.self.inside.inner; log = c.self.inside.log; spent = c.self.inside.spent } in
    let after : Recorded _ = record { inner = c.commit.new.self; log = c.push.new.self; spent = false } in
    logged_did m inside c.args.self.now after c.self.view_is (record { deed = Commit c.args.world c.in_ok-verdict.verdict; line = 0 }) c.if-self.false refl c.in_ok-push.ensures.ok c.in_ok-verdict.ensures
