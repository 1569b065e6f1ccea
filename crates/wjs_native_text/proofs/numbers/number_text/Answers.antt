use Rattle.std.proofs.Common.{true, false, sym, ap}
use Rattle.std.specs.Prelude.{map}
use Rattle.wjs_by_content.specs.Tables.{value_in}
use Rattle.wjs_by_content.specs.Values.{Value}
use Rattle.wjs_meaning.specs.Deeds.{Act}
use Rattle.wjs_meaning.specs.NativesOfObjects.{value_at, whole_of}
use Rattle.wjs_meaning.specs.NativesOfTexts as line
use Rattle.wjs_frames.specs.Parts.{env_in}
use Rattle.wjs_step_common.proofs.Following.{follows_as}
use Rattle.wjs_meaning.specs.Errors.{throw}
use Rattle.wjs_meaning.specs.declared.trouble.Trouble.TheVariants.{WrongReceiver}
use Rattle.wjs_native_text.proofs.Receiving.{received, receiver_as, no_number}
use Rattle.wjs_native_text.proofs.numbers.number_text.Goals as goal

pub returns-in-Number : goal.returns-in-Number
returns-in-Number g c =
    let m = g.S.WorldStore.meaning in
    let old = c.args.config.now in
    let new = c.with_radix.new.config in
    let t = new.heap.texts in
    let vs = map (value_in t) c.args.args.now in
    let env = env_in m old t c.args.frame in
    let go = (λ (v : Value). line.with_radix (whole_of v) (value_at vs 0) env) in
    follows_as m _ _ old new c.with_radix.result (λ grows. receiver_as line.is_number (value_in t c.args.this) env go)
    (c.in-Number.ensures.does.by (received line.is_number env go) new c.with_radix.result (follows_as m _ _ old new c.with_radix.result (λ grows. ap (λ r. line.with_radix c.in-Number.number.number r env) (sym (c.value_at.ensures.means t))) c.with_radix.ensures))

pub returns-in_default : goal.returns-in_default
returns-in_default g c =
    let m = g.S.WorldStore.meaning in
    let old = c.args.config.now in
    let new = c.throw.new.config in
    let t = new.heap.texts in
    let vs = map (value_in t) c.args.args.now in
    let env = env_in m old t c.args.frame in
    let go = (λ (v : Value). line.with_radix (whole_of v) (value_at vs 0) env) in
    let r = c.throw.result in
    let none = no_number t c.primitive_value.result c.in_default.not-Number in
    follows_as m _ _ old new r (λ grows. receiver_as line.is_number (value_in t c.args.this) env go)
    (c.primitive_value.ensures.does.by (received line.is_number env go) new r (follows_as m _ _ old new r (λ grows. ap (λ b. elim b as (λ x. Act) [ true ↦ go (value_in t c.primitive_value.result) | false ↦ throw WrongReceiver env ]) (sym none)) c.throw.ensures))
