use Rattle.std.proofs.Common.{rules, ◌≡◌, ◌∙◌, ap₂}
use Rattle.std.proofs.lemmas.Result.{IfOk-weaker}
use Rattle.clap.specs.Words.{rule_of, with_rule}
use Rattle.wjs_options.specs.Command.{IsModes, steps_rule, number_rule, turn_rule}
use Rattle.wjs_options.proofs.command.command.Goals as goal

pub returns : goal.returns
returns c =
    let names = c.as_slice.result in
    let modes : IsModes names = search rules in
    let steps_is : rule_of c.option.result ≡ steps_rule = rw c.unsigned-steps.ensures at c.option.ensures.rule in
    let number_is : rule_of c.option-3.result ≡ number_rule = rw c.unsigned-number.ensures at c.option-3.ensures.rule in
    let turn_is : rule_of c.option-4.result ≡ turn_rule = rw c.unsigned-turn.ensures at c.option-4.ensures.rule in
    IfOk-weaker c.arg-4.result _ _ (λ made h. (
      names,
      modes,
      h.shape c.option-4.ensures.local
          ∙ ap₂ with_rule (c.in_ok-arg-3.ensures.shape c.option-3.ensures.local
          ∙ ap₂ with_rule (c.in_ok-arg-2.ensures.shape c.option-2.ensures.local
          ∙ ap₂ with_rule (c.in_ok-arg.ensures.shape c.option.ensures.local ∙ ap₂ with_rule c.new.ensures.app steps_is) c.option-2.ensures.rule) number_is) turn_is,
    )) c.arg-4.ensures
