use Rattle.std.proofs.Common.{◌≡◌, ◌<◌, ◌++◌, length, take, drop, sym, ap, ◌∙◌, arith, rules}
use Rattle.std.specs.Prelude.{map}
use Rattle.wjs_by_content.specs.Tables.{value_in}
use Rattle.wjs_meaning.specs.Errors.{give_text}
use Rattle.wjs_meaning.specs.NativesOfTexts as line
use Rattle.std.proofs.lemmas.List.{take_all, append-nil, append_assoc}
use Rattle.wjs_base.specs.Text.{longest}
use Rattle.wjs_native_text.proofs.Joining.{joined_more, joined_parts, still_too_long}
use Rattle.wjs_native_text.proofs.strings.join_texts.Goals as goal

pub loop-value-init : goal.loop-value-init
loop-value-init g c = λ t more. sym (append-nil c.args.units.now.items)

pub loop-value-preserved : goal.loop-value-preserved
loop-value-preserved g c = λ t more.
    let v = c.value-item.result in
    let now : c.extend_from_slice.new.self.items ≡ c.loop-value.units.items ++ c.text_of.result.now = search rules in
    now ∙ joined_more (value_in t) c.args.values.now c.loop-value.value-index v c.args.units.now.items c.loop-value.units.items c.text_of.result.now c.loop-value-test.true c.value-item.is (c.loop-value.invariant t more) (c.text_of.ensures.text t more)

pub returns-then-len-gt-LONGEST_TEXT : goal.returns-then-len-gt-LONGEST_TEXT
returns-then-len-gt-LONGEST_TEXT g c = λ t more env.
    let start = c.args.units.now.items in
    let vs = c.args.values.now in
    let i = c.loop-value.value-index in
    let so_far = line.joined (map (value_in t) (take i vs)) in
    let rest = line.joined (map (value_in t) (drop i vs)) in
    let long : longest < length c.loop-value.units.items = omega arith in
    still_too_long c.loop-value.units.items rest env long
    ∙ ap (λ u. give_text u env) (ap (λ u. u ++ rest) (c.loop-value.invariant t more) ∙ append_assoc start so_far rest ∙ ap (λ l. start ++ l) (sym (joined_parts (value_in t) vs i)))

pub returns : goal.returns
returns g c = λ t more env. ap (λ u. give_text u env) (c.loop-value.invariant t more ∙ ap (λ l. c.args.units.now.items ++ line.joined (map (value_in t) l)) (take_all c.loop-value.value-index c.args.values.now c.loop-value-test.false))
