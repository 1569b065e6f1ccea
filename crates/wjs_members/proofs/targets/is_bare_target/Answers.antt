use Rattle.wjs_members.proofs.TargetNodes.{target_by}
use Rattle.wjs_members.specs.declared.targets.TargetForm.TheVariants as forms
use Rattle.wjs_members.proofs.targets.is_bare_target.Goals as goal

pub returns-in-Target : goal.returns-in-Target
returns-in-Target g c = λ t. target_by g.S.WorldStore.meaning c.args.config.now c.args.frame.now t 0 c.args.node forms.Target c.in-Target.ensures

pub returns-in-Inside : goal.returns-in-Inside
returns-in-Inside g c = λ t. target_by g.S.WorldStore.meaning c.args.config.now c.args.frame.now t 0 c.args.node (forms.Inside c.in-Inside.field-0) c.in-Inside.ensures

pub returns-in-Other : goal.returns-in-Other
returns-in-Other g c = λ t. target_by g.S.WorldStore.meaning c.args.config.now c.args.frame.now t 0 c.args.node forms.Other c.in-Other.ensures
