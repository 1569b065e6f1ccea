use Rattle.std.proofs.Common.{refl, false}
use Rattle.wjs_audit.specs.declared.deed.Deed.TheVariants.{Sprout}
use Rattle.wjs_audit.specs.Recorded.{Recorded}
use Rattle.wjs_audit.proofs.Keeping.{logged_did, logged_kept}
use Rattle.wjs_audit.proofs.logged.LoggedWorldStore.sprout.Goals as goal

pub invariant_of-self-2 : goal.invariant_of-self-2
invariant_of-self-2 g c e =
    let m = g.S.WorldStore.meaning in
    let inside : Recorded _ = record { inner = c.self.inside.inner; log = c.self.inside.log; spent = c.self.inside.spent } in
    let after : Recorded _ = record { inner = c.sprout.new.self; log = c.push.new.self; spent = false } in
    logged_kept m inside c.args.self.now after c.self.view_is (record { deed = Sprout c.args.world c.args.owner c.args.strict c.in_ok-child.child; line = 0 }) (c.self.invariant c.if-self.false) c.in_ok-child.ensures (g.met.S.WorldStore.sound c.sprout.new.self) c.requires c.in_ok-push.ensures.ok refl

pub returns : goal.returns
returns g c =
    let m = g.S.WorldStore.meaning in
    let inside : Recorded _ = record { inner = c.self.inside.inner; log = c.self.inside.log; spent = c.self.inside.spent } in
    let after : Recorded _ = record { inner = c.sprout.new.self; log = c.push.new.self; spent = false } in
    logged_did m inside c.args.self.now after c.self.view_is (record { deed = Sprout c.args.world c.args.owner c.args.strict c.in_ok-child.child; line = 0 }) c.if-self.false refl c.in_ok-push.ensures.ok c.in_ok-child.ensures
