use Rattle.std.proofs.Common.{◌≤◌, ◌++◌, List, length, subst, sym, ap, ◌∙◌}
use Rattle.std.specs.Prelude.{ℕ}
use Rattle.wjs_base.specs.Text.{Table, longest}
use Rattle.wjs_base.proofs.TextLaws.{Grows-refl}
use Rattle.wjs_by_content.specs.Tables.{text_in}
use Rattle.wjs_by_content.specs.Values.{Text, Value, String}
use Rattle.wjs_heap_steps.proofs.Composing.{does_map}
use Rattle.wjs_step_common.proofs.Following.{does_as}
use Rattle.wjs_effects.specs.Making.{spelled, spelled_if, joined}
use Rattle.wjs_effects.proofs.joins.join_all.Goals as goal

pub returns-clause-does : goal.returns-clause-does
returns-clause-does g c =
    let m = g.S.WorldStore.meaning in
    let old = c.args.config.now in
    let new = c.intern.new.config in
    let p = c.args.pieces in
    let units = c.as_slice.result.now in
    let told : Table → Text → Value = λ t u. String u in
    does_as m old new (λ t. String units) (λ t. String (joined t p)) (λ t. String (text_in t c.in_ok-id.id))
    (does_map m (λ t go. go units) (λ t. text_in t c.in_ok-id.id) told old new c.in_ok-id.ensures.does)
    (λ t more. ap String (c.as_slice.ensures.value ∙ c.in_ok-push_more.ensures t more
    ∙ ap (λ (us : List ℕ). (us ++ spelled_if t p.third) ++ spelled_if t p.fourth) (c.in_ok-push_text-2.ensures t more
    ∙ ap (λ (us : List ℕ). us ++ spelled t p.second) (c.in_ok-push_text.ensures t more ∙ ap (λ (us : List ℕ). us ++ spelled t p.first) c.new-units.ensures.items))))

pub intern-requires-clause-short : goal.intern-requires-clause-short
intern-requires-clause-short g c =
    let texts = c.args.config.now.heap.texts in
    let p = c.args.pieces in
    let more = Grows-refl texts in
    let is = c.as_slice.ensures.value ∙ c.in_ok-push_more.ensures texts more
    ∙ ap (λ (us : List ℕ). (us ++ spelled_if texts p.third) ++ spelled_if texts p.fourth) (c.in_ok-push_text-2.ensures texts more
    ∙ ap (λ (us : List ℕ). us ++ spelled texts p.second) (c.in_ok-push_text.ensures texts more ∙ ap (λ (us : List ℕ). us ++ spelled texts p.first) c.new-units.ensures.items)) in
    subst (λ (u : List ℕ). length u ≤ longest) (sym is) (c.requires.pieces.1 texts more)

pub push_text-requires-clause-value : goal.push_text-requires-clause-value
push_text-requires-clause-value g c = c.requires.pieces.0.0

pub push_text-requires-2-clause-value : goal.push_text-requires-2-clause-value
push_text-requires-2-clause-value g c = c.requires.pieces.0.1.0
