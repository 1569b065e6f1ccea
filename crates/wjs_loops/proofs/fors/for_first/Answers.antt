use Rattle.std.proofs.Common.{◌∙◌}
use Rattle.wjs_effects.proofs.StandingFors.{for_stands}
use Rattle.wjs_loops.proofs.fors.for_first.Goals as goal

pub for_from-requires-clause-test : goal.for_from-requires-clause-test
for_from-requires-clause-test g c =
    (for_stands g.S.WorldStore.meaning c.args.config.now c.args.frame c.requires.runs.there _ _ _ _ (c.in-Some-For.ensures ∙ c.in-Some-For.field-0-is)).0

pub for_from-requires-clause-update : goal.for_from-requires-clause-update
for_from-requires-clause-update g c =
    (for_stands g.S.WorldStore.meaning c.args.config.now c.args.frame c.requires.runs.there _ _ _ _ (c.in-Some-For.ensures ∙ c.in-Some-For.field-0-is)).1.0

pub for_from-requires-clause-body : goal.for_from-requires-clause-body
for_from-requires-clause-body g c =
    (for_stands g.S.WorldStore.meaning c.args.config.now c.args.frame c.requires.runs.there _ _ _ _ (c.in-Some-For.ensures ∙ c.in-Some-For.field-0-is)).1.1
