use Rattle.std.proofs.Common.{inl, inr, refl, ◌∙◌}
use Rattle.wjs_loops.proofs.Parts.{part_stands}
use Rattle.wjs_effects.proofs.StandingFors.{for_stands}
use Rattle.wjs_eval_stmt.proofs.begins.again.Goals as goal

pub while_again-requires-clause-test : goal.while_again-requires-clause-test
while_again-requires-clause-test g c =
    part_stands g.S.WorldStore.meaning c.args.config.now c.args.frame c.requires.runs.there _ _ (c.in-Some-While.ensures ∙ c.in-Some-While.field-0-is) (inl refl)

pub while_again-requires-clause-body : goal.while_again-requires-clause-body
while_again-requires-clause-body g c =
    part_stands g.S.WorldStore.meaning c.args.config.now c.args.frame c.requires.runs.there _ _ (c.in-Some-While.ensures ∙ c.in-Some-While.field-0-is) (inr (inl refl))

pub stmt_iteration-requires-clause-part : goal.stmt_iteration-requires-clause-part
stmt_iteration-requires-clause-part g c =
    part_stands g.S.WorldStore.meaning c.args.config.now c.args.frame c.requires.runs.there _ _ (c.in-Some-DoWhile.ensures ∙ c.in-Some-DoWhile.field-0-is) (inl refl)

pub stmt_iteration-requires-clause-point : goal.stmt_iteration-requires-clause-point
stmt_iteration-requires-clause-point g c =
    part_stands g.S.WorldStore.meaning c.args.config.now c.args.frame c.requires.runs.there _ _ (c.in-Some-DoWhile.ensures ∙ c.in-Some-DoWhile.field-0-is) (inr (inl refl))

pub for_again-requires-clause-test : goal.for_again-requires-clause-test
for_again-requires-clause-test g c =
    (for_stands g.S.WorldStore.meaning c.args.config.now c.args.frame c.requires.runs.there _ _ _ _ (c.in-Some-For.ensures ∙ c.in-Some-For.field-0-is)).0

pub for_again-requires-clause-update : goal.for_again-requires-clause-update
for_again-requires-clause-update g c =
    (for_stands g.S.WorldStore.meaning c.args.config.now c.args.frame c.requires.runs.there _ _ _ _ (c.in-Some-For.ensures ∙ c.in-Some-For.field-0-is)).1.0

pub for_again-requires-clause-body : goal.for_again-requires-clause-body
for_again-requires-clause-body g c =
    (for_stands g.S.WorldStore.meaning c.args.config.now c.args.frame c.requires.runs.there _ _ _ _ (c.in-Some-For.ensures ∙ c.in-Some-For.field-0-is)).1.1
