use Rattle.std.proofs.Common.{true, false, sym, ap}
use Rattle.wjs_by_content.specs.Tables.{value_in}
use Rattle.wjs_by_content.specs.Values.{Value, String}
use Rattle.wjs_meaning.specs.NativesOfTexts.{is_truth}
use Rattle.wjs_meaning.specs.Deeds.{Act, give}
use Rattle.wjs_by_content.specs.Conversions.{primitive_text}
use Rattle.wjs_frames.specs.Parts.{env_in}
use Rattle.wjs_meaning.specs.Errors.{throw}
use Rattle.wjs_meaning.specs.declared.trouble.Trouble.TheVariants.{WrongReceiver}
use Rattle.wjs_step_common.proofs.Following.{follows_as}
use Rattle.wjs_native_text.proofs.Receiving.{received, receiver_as, no_truth}
use Rattle.wjs_native_text.proofs.receivers.truth_text.Goals as goal

abbrev spelled : Value → Act
spelled v = give (String (primitive_text v))

pub returns-in-Bool : goal.returns-in-Bool
returns-in-Bool g c =
    let m = g.S.WorldStore.meaning in
    let old = c.args.config.now in
    let new = c.give_spelled.new.config in
    let t = new.heap.texts in
    let env = env_in m old t c.args.frame in
    follows_as m _ _ old new c.give_spelled.result (λ grows. receiver_as is_truth (value_in t c.args.this) env spelled) (c.in-Bool.ensures.does.by (received is_truth env spelled) new c.give_spelled.result c.give_spelled.ensures)

pub returns-in_default : goal.returns-in_default
returns-in_default g c =
    let m = g.S.WorldStore.meaning in
    let old = c.args.config.now in
    let new = c.throw.new.config in
    let t = new.heap.texts in
    let r = c.throw.result in
    let env = env_in m old t c.args.frame in
    let none = no_truth t c.primitive_value.result c.in_default.not-Bool in
    follows_as m _ _ old new r (λ grows. receiver_as is_truth (value_in t c.args.this) env spelled)
    (c.primitive_value.ensures.does.by (received is_truth env spelled) new r (follows_as m _ _ old new r (λ grows. ap (λ b. elim b as (λ x. Act) [ true ↦ spelled (value_in t c.primitive_value.result) | false ↦ throw WrongReceiver env ]) (sym none)) c.throw.ensures))
