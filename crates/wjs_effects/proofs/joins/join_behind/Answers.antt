use Rattle.std.proofs.Common.{◌≤◌, ◌++◌, List, length, length-append, subst, sym, ap, ◌∙◌, arith}
use Rattle.std.specs.Prelude.{ℕ}
use Rattle.wjs_base.specs.declared.values.Value.{Value as Numbered}
use Rattle.wjs_base.specs.Text.{Table, longest}
use Rattle.wjs_base.proofs.TextLaws.{Grows-refl}
use Rattle.wjs_by_content.specs.Tables.{text_in}
use Rattle.wjs_by_content.specs.Values.{Text, Value, String}
use Rattle.wjs_model.specs.Soundness.{HasValue}
use Rattle.wjs_heap_steps.proofs.Composing.{does_map}
use Rattle.wjs_step_common.proofs.Following.{does_as}
use Rattle.wjs_effects.specs.Making.{spelled, spelled_if, joined}
use Rattle.wjs_effects.proofs.Joining.{behind_front}
use Rattle.wjs_effects.proofs.joins.join_behind.Goals as goal

pub returns-clause-does : goal.returns-clause-does
returns-clause-does g c =
    let m = g.S.WorldStore.meaning in
    let old = c.args.config.now in
    let new = c.extend.new.config in
    let p = c.args.pieces in
    let back = c.as_slice.result.now in
    let whole : Table → Text = λ t. text_in t c.args.front ++ back in
    let told : Table → Text → Value = λ t u. String u in
    does_as m old new (λ t. String (whole t)) (λ t. String (joined t p)) (λ t. String (text_in t c.in_ok-id.id))
    (does_map m (λ t go. go (whole t)) (λ t. text_in t c.in_ok-id.id) told old new c.in_ok-id.ensures.does)
    (λ t more. ap String (behind_front t p c.args.front back c.requires.front
    (c.as_slice.ensures.value ∙ c.in_ok-push_more.ensures t more
    ∙ ap (λ (us : List ℕ). (us ++ spelled_if t p.third) ++ spelled_if t p.fourth) (c.in_ok-push_text.ensures t more ∙ ap (λ (us : List ℕ). us ++ spelled t p.second) c.new-units.ensures.items))))

pub extend-requires-clause-short : goal.extend-requires-clause-short
extend-requires-clause-short g c =
    let texts = c.args.config.now.heap.texts in
    let p = c.args.pieces in
    let back = c.as_slice.result.now in
    let more = Grows-refl texts in
    let is = behind_front texts p c.args.front back c.requires.front
    (c.as_slice.ensures.value ∙ c.in_ok-push_more.ensures texts more
    ∙ ap (λ (us : List ℕ). (us ++ spelled_if texts p.third) ++ spelled_if texts p.fourth) (c.in_ok-push_text.ensures texts more ∙ ap (λ (us : List ℕ). us ++ spelled texts p.second) c.new-units.ensures.items)) in
    let few : length (text_in texts c.args.front ++ back) ≤ longest = subst (λ (u : Text). length u ≤ longest) (sym is) (c.requires.pieces.1 texts more) in
    let long = length-append (text_in texts c.args.front) back in
    omega (arith, few, long)

pub push_text-requires-clause-value : goal.push_text-requires-clause-value
push_text-requires-clause-value g c = c.requires.pieces.0.1.0

pub extend-requires-clause-front : goal.extend-requires-clause-front
extend-requires-clause-front g c = subst (λ (v : Numbered). HasValue c.args.config.now v) c.requires.front c.requires.pieces.0.0
