use Rattle.std.proofs.Common.{refl}
use Rattle.wjs_by_content.specs.declared.answers.PutAnswer.TheVariants.{Done, Ignored}
use Rattle.wjs_by_content.specs.Tables.{name_in, value_in}
use Rattle.wjs_model.specs.Contents.{completion_in}
use Rattle.wjs_heap_steps.proofs.Later.{later_twice}
use Rattle.wjs_effects.proofs.Carrying.{carry_done, carry_refused}
use Rattle.wjs_effects.proofs.carries.put_and_end.Goals as goal

pub returns-in-Done-clause-does : goal.returns-in-Done-clause-does
returns-in-Done-clause-does g c = carry_done g.S.WorldStore.meaning c.args.object (λ t. name_in t c.args.name) (λ t. value_in t c.args.value) c.args.frame.now (λ t. completion_in t c.args.completion) c.args.config.now c.put.new.config c.in_ok-answer.answer Done c.in-Done.is (λ t go. refl) c.in_ok-answer.ensures.does

pub returns-in-Done-clause-found : goal.returns-in-Done-clause-found
returns-in-Done-clause-found g c = c.in_ok-answer.ensures.later.completions c.args.completion c.requires.completion

pub returns-in-Ignored-clause-does : goal.returns-in-Ignored-clause-does
returns-in-Ignored-clause-does g c = carry_done g.S.WorldStore.meaning c.args.object (λ t. name_in t c.args.name) (λ t. value_in t c.args.value) c.args.frame.now (λ t. completion_in t c.args.completion) c.args.config.now c.put.new.config c.in_ok-answer.answer Ignored c.in-Ignored.is (λ t go. refl) c.in_ok-answer.ensures.does

pub returns-in-Ignored-clause-found : goal.returns-in-Ignored-clause-found
returns-in-Ignored-clause-found g c = c.in_ok-answer.ensures.later.completions c.args.completion c.requires.completion

pub returns-in_ok-error-in-BadLength-clause-does : goal.returns-in_ok-error-in-BadLength-clause-does
returns-in_ok-error-in-BadLength-clause-does g c =
    let error = c.in_ok-error-in-BadLength in
    carry_refused g.S.WorldStore.meaning c.args.object (λ t. name_in t c.args.name) (λ t. value_in t c.args.value) c.args.frame.now (λ t. completion_in t c.args.completion) c.args.config.now c.put.new.config c.in_ok-answer.answer error.error c.create_error.new.config c.in-BadLength.is c.in_ok-answer.ensures.later c.in_ok-answer.ensures.does error.ensures.does

pub returns-in_ok-error-in-BadLength-clause-later : goal.returns-in_ok-error-in-BadLength-clause-later
returns-in_ok-error-in-BadLength-clause-later g c = later_twice g.S.WorldStore.meaning c.args.config.now c.put.new.config c.create_error.new.config c.in_ok-answer.ensures.later c.in_ok-error-in-BadLength.ensures.later
