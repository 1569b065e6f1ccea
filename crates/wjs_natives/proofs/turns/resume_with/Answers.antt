use Rattle.std.proofs.Common.{◌≡◌, ◌+◌, ◌-◌, List, length, refl, sym, ap, ◌∙◌, subst, arith, rules, inl, inr}
use Rattle.std.specs.Prelude.{All, IfOk, map}
use Rattle.std.proofs.lemmas.Bool.{cases_lt}
use Rattle.wjs_base.specs.declared.values.Value.{Value}
use Rattle.wjs_base.specs.Text.{Table}
use Rattle.wjs_by_content.specs.Tables.{value_in}
use Rattle.wjs_meaning.specs.Deeds.{Act}
use Rattle.wjs_model.specs.Frames.{earliest_first}
use Rattle.wjs_model.specs.Contents.{holding_in, values_held}
use Rattle.wjs_model.specs.Soundness.{HasValue}
use Rattle.wjs_model.specs.Waiting.{after_argument}
use Rattle.wjs_frames.specs.Parts.{env_in}
use Rattle.wjs_frames.proofs.Held.{values_there}
use Rattle.wjs_natives.specs.Converting.{converting, placed, Progresses}
use Rattle.wjs_natives.proofs.Pairs.{map-placed, placed_length, placed_longer}
use Rattle.wjs_natives.proofs.Coming.{all_placed}
use Rattle.wjs_natives.proofs.Waiting.{argument_as}
use Rattle.wjs_natives.proofs.turns.resume_with.Goals as goal

pub convert_rest-requires-clause-values : goal.convert_rest-requires-clause-values
convert_rest-requires-clause-values g c =
    let old = c.args.config.now in
    let held = c.args.frame.held in
    let vs = earliest_first (values_held held) in
    let at = c.args.at in
    let said : c.put.new.values.items ≡ placed vs at c.args.value = c.in_ok-put.ensures ∙ ap (λ (l : List Value). placed l at c.args.value) c.in_ok-values.ensures in
    subst (λ (l : List Value). All (HasValue old) l) (sym said) (all_placed old vs at c.args.value (values_there old held c.requires.runs.there.held)
    c.requires.value)

pub convert_rest-requires-clause-given : goal.convert_rest-requires-clause-given
convert_rest-requires-clause-given g c = λ h.
    let vs = c.in_ok-values.values.items in
    let at = c.args.at in
    let given : c.saturating_sub-given.result ≡ length vs - 1 = search rules in
    let n = ap length c.in_ok-put.ensures in
    elim (cases_lt at (length vs)) [
      | inl below ↦ omega (arith, given, n, placed_length vs at c.args.value below)
      | inr past ↦ absurd (omega (arith, h, n, placed_longer vs at c.args.value past))
    ]

pub returns : goal.returns
returns g c =
    let m = g.S.WorldStore.meaning in
    let old = c.args.config.now in
    let new = c.convert_rest.new.config in
    let f = c.args.frame in
    let k = c.args.native in
    let v = c.args.value in
    let at = c.args.at in
    let vs = c.in_ok-values.values.items in
    let given : c.saturating_sub-given.result ≡ length vs - 1 = search rules in
    let goes : (t : Table) → converting k c.args.by_new c.saturating_sub-given.result (map (value_in t) c.put.new.values.items) (at + 1) (env_in m old t f) ≡ after_argument k c.args.by_new (holding_in t f.held).values at (env_in m old t f) (value_in t v) = λ t.
    ap (λ l. converting k c.args.by_new c.saturating_sub-given.result (map (value_in t) l) (at + 1) (env_in m old t f)) c.in_ok-put.ensures
    ∙ ap (λ l. converting k c.args.by_new c.saturating_sub-given.result l (at + 1) (env_in m old t f)) (map-placed (value_in t) vs at v)
    ∙ ap (λ n. converting k c.args.by_new n (placed (map (value_in t) vs) at (value_in t v)) (at + 1) (env_in m old t f)) given
    ∙ sym (argument_as t k c.args.by_new f.held vs at at (env_in m old t f) (value_in t v) (sym c.in_ok-values.ensures) refl) in
    subst (λ (deeds : Table → Act). IfOk c.convert_rest.result (λ p. Progresses m k c.args.by_new f deeds p old new)) (λ i t. goes t i) c.convert_rest.ensures
