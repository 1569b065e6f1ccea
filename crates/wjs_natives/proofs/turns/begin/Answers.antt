use Rattle.std.proofs.Common.{◌≡◌, ◌∷◌, List, length, refl, sym, ap, ◌∙◌, subst, arith, rules}
use Rattle.std.specs.Prelude.{All, IfOk, map}
use Rattle.std.proofs.lemmas.List.{length-map}
use Rattle.std.proofs.lemmas.List.Elements.{All-cons}
use Rattle.wjs_base.specs.declared.values.Value.{Value}
use Rattle.wjs_base.specs.Text.{Table}
use Rattle.wjs_by_content.specs.Tables.{value_in}
use Rattle.wjs_meaning.specs.Deeds.{Act}
use Rattle.wjs_meaning.specs.Natives.{native_of}
use Rattle.wjs_model.specs.Frames.{earliest_first}
use Rattle.wjs_model.specs.Contents.{holding_in, values_held}
use Rattle.wjs_model.specs.Soundness.{HasValue}
use Rattle.wjs_frames.specs.Parts.{env_in}
use Rattle.wjs_frames.proofs.Held.{values_there}
use Rattle.wjs_natives.specs.Converting.{converting, Progresses}
use Rattle.wjs_natives.proofs.Waiting.{begins_as, earliest-map}
use Rattle.wjs_natives.proofs.turns.begin.Goals as goal

pub convert_rest-requires-clause-values : goal.convert_rest-requires-clause-values
convert_rest-requires-clause-values g c =
    let old = c.args.config.now in
    let held = c.args.frame.held in
    let vs = earliest_first (values_held held) in
    let said : c.in_ok-values.values.items ≡ c.args.frame.this ∷ vs = c.in_ok-values.ensures ∙ ap (λ (v : Value). v ∷ c.in_ok-args.args.items) c.this.ensures ∙ ap (λ (l : List Value). c.args.frame.this ∷ l) c.in_ok-args.ensures in
    subst (λ (l : List Value). All (HasValue old) l) (sym said) (All-cons (HasValue old) c.args.frame.this vs c.requires.runs.there.this
    (values_there old held c.requires.runs.there.held))

pub convert_rest-requires-clause-given : goal.convert_rest-requires-clause-given
convert_rest-requires-clause-given g c = λ h.
    let given : c.len-given.result ≡ length c.in_ok-args.args.items = search rules in
    omega (arith, given, ap length c.in_ok-values.ensures)

pub returns : goal.returns
returns g c =
    let m = g.S.WorldStore.meaning in
    let old = c.args.config.now in
    let new = c.convert_rest.new.config in
    let f = c.args.frame in
    let k = c.args.native in
    let vs = earliest_first (values_held f.held) in
    let given : c.len-given.result ≡ length c.in_ok-args.args.items = search rules in
    let said : c.in_ok-values.values.items ≡ f.this ∷ vs = c.in_ok-values.ensures ∙ ap (λ (v : Value). v ∷ c.in_ok-args.args.items) c.this.ensures ∙ ap (λ (l : List Value). f.this ∷ l) c.in_ok-args.ensures in
    let count = λ (t : Table). given ∙ ap length c.in_ok-args.ensures ∙ sym (length-map vs (value_in t)) ∙ ap length (sym (earliest-map (value_in t) (values_held f.held))) in
    let begins : (t : Table) → converting k c.args.by_new c.len-given.result (map (value_in t) c.in_ok-values.values.items) 0 (env_in m old t f) ≡ native_of k c.args.by_new (holding_in t f.held).values (env_in m old t f) = λ t.
    ap (λ l. converting k c.args.by_new c.len-given.result (map (value_in t) l) 0 (env_in m old t f)) said
    ∙ begins_as k c.args.by_new c.len-given.result (value_in t f.this) (map (value_in t) vs) (holding_in t f.held).values (env_in m old t f) refl (sym (earliest-map (value_in t) (values_held f.held))) (count t) in
    subst (λ (deeds : Table → Act). IfOk c.convert_rest.result (λ p. Progresses m k c.args.by_new f deeds p old new)) (λ i t. begins t i) c.convert_rest.ensures
