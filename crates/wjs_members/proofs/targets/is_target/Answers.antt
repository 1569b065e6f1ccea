use Rattle.std.proofs.Common.{◌≡◌, ℕ, suc, ◌-◌, refl, ap, ◌∙◌, arith}
use Rattle.wjs_meaning.specs.Deeds.{tree_here}
use Rattle.wjs_meaning.specs.Trees.{is_target_to}
use Rattle.wjs_frames.specs.Parts.{env_in}
use Rattle.wjs_members.proofs.TargetNodes.{target_by}
use Rattle.wjs_members.specs.declared.targets.TargetForm.TheVariants as forms
use Rattle.wjs_members.proofs.targets.is_target.Goals as goal

pub inner-init : goal.inner-init
inner-init g c = λ t. refl

pub returns-in-Target : goal.returns-in-Target
returns-in-Target g c = λ t. c.inner.invariant t ∙ target_by g.S.WorldStore.meaning c.args.config.now c.args.frame.now t c.inner.parens c.inner.at forms.Target c.in-Target.ensures

pub returns-in-Other : goal.returns-in-Other
returns-in-Other g c = λ t. c.inner.invariant t ∙ target_by g.S.WorldStore.meaning c.args.config.now c.args.frame.now t c.inner.parens c.inner.at forms.Other c.in-Other.ensures

pub inner-preserved : goal.inner-preserved
inner-preserved g c = λ t.
    let tree = tree_here (env_in g.S.WorldStore.meaning c.args.config.now t c.args.frame.now) in
    let p : c.inner.parens ≡ suc (c.inner.parens - 1) = omega (arith, c.inner-test.true) in
    c.inner.invariant t ∙ target_by g.S.WorldStore.meaning c.args.config.now c.args.frame.now t c.inner.parens c.inner.at (forms.Inside c.in-Inside.part) c.in-Inside.ensures ∙ ap (λ q. is_target_to q tree c.in-Inside.part.0) p

pub returns : goal.returns
returns g c = λ t.
    let tree = tree_here (env_in g.S.WorldStore.meaning c.args.config.now t c.args.frame.now) in
    let p : c.inner.parens ≡ 0 = omega (arith, c.inner-test.false) in
    c.inner.invariant t ∙ ap (λ q. is_target_to (suc q) tree c.inner.at.0) p ∙ c.is_bare_target.ensures t
