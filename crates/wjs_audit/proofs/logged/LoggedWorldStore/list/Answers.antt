use Rattle.std.proofs.Common.{◌≡◌, List, [], ◌∷◌, ◌++◌, refl, sym, ap, ◌∙◌, subst, false}
use Rattle.wjs_base.specs.declared.values.Name.{Name}
use Rattle.wjs_base.specs.Order.{name_cmp}
use Rattle.wjs_store.specs.Ascends.{Ascends}
use Rattle.wjs_audit.specs.declared.deed.Deed.TheVariants.{List as ListOf}
use Rattle.wjs_audit.specs.declared.deed.Entry.{Entry}
use Rattle.wjs_audit.specs.Recorded.{Recorded}
use Rattle.wjs_audit.proofs.Keeping.{logged_did, logged_kept, names_ascend}
use Rattle.wjs_audit.proofs.logged.LoggedWorldStore.list.Goals as goal

pub push-requires : goal.push-requires
push-requires g c =
    let m = g.S.WorldStore.meaning in
    let did = c.in_ok-listed.ensures in
    subst (Ascends name_cmp) (sym c.in_ok-names.ensures) (names_ascend (m c.self.inside.inner) (m c.list.new.self) c.args.world c.args.object c.in_ok-listed.listed did.0 (g.met.S.WorldStore.sound c.list.new.self) did.1)

pub invariant_of-self-2 : goal.invariant_of-self-2
invariant_of-self-2 g c e =
    let m = g.S.WorldStore.meaning in
    let inside : Recorded _ = record { inner = c.self.inside.inner; log = c.self.inside.log; spent = c.self.inside.spent } in
    let after : Recorded _ = record { inner = c.list.new.self; log = c.push.new.self; spent = false } in
    let entry : List Name → Entry = λ names. record { deed = ListOf c.args.world c.args.object names; line = 0 } in
    let pushed : c.push.new.self ≡ c.self.inside.log ++ entry c.in_ok-listed.listed ∷ [] = c.in_ok-push.ensures.ok ∙ ap (λ (names : List Name). c.self.inside.log ++ entry names ∷ []) c.in_ok-names.ensures in
    logged_kept m inside c.args.self.now after c.self.view_is (entry c.in_ok-listed.listed) (c.self.invariant c.if-self.false) c.in_ok-listed.ensures (g.met.S.WorldStore.sound c.list.new.self) c.requires pushed refl

pub returns : goal.returns
returns g c =
    let m = g.S.WorldStore.meaning in
    let inside : Recorded _ = record { inner = c.self.inside.inner; log = c.self.inside.log; spent = c.self.inside.spent } in
    let after : Recorded _ = record { inner = c.list.new.self; log = c.push.new.self; spent = false } in
    let entry : List Name → Entry = λ names. record { deed = ListOf c.args.world c.args.object names; line = 0 } in
    let pushed : c.push.new.self ≡ c.self.inside.log ++ entry c.in_ok-listed.listed ∷ [] = c.in_ok-push.ensures.ok ∙ ap (λ (names : List Name). c.self.inside.log ++ entry names ∷ []) c.in_ok-names.ensures in
    logged_did m inside c.args.self.now after c.self.view_is (entry c.in_ok-listed.listed) c.if-self.false refl pushed c.in_ok-listed.ensures
