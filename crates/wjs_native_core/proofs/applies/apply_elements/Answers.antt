use Rattle.std.proofs.Common.{◌≡◌, Bool, true, false, List, [], sym, ap, ◌∙◌, subst, rules}
use Rattle.wjs_by_content.specs.Objects.{Arena, object_at}
use Rattle.wjs_by_content.specs.Tables.{value_in}
use Rattle.wjs_by_content.specs.Values.{Value}
use Rattle.wjs_meaning.specs.Deeds.{Act}
use Rattle.wjs_meaning.specs.NativesOfObjects as line
use Rattle.wjs_model.specs.declared.frame.Held.{Held}
use Rattle.wjs_model.specs.Soundness.{HasItems}
use Rattle.wjs_frames.specs.Parts.{env_in}
use Rattle.wjs_frames.proofs.Shorter.{follows_look}
use Rattle.wjs_step_common.proofs.Following.{follows_as, env_later}
use Rattle.wjs_native_core.proofs.Applying.{apply_starts, if_list}
use Rattle.wjs_frames.proofs.Handling.{runs_later, runs_held}
use Rattle.wjs_native_core.proofs.applies.apply_elements.Goals as goal

pub returns-then-not-is_list_class : goal.returns-then-not-is_list_class
returns-then-not-is_list_class g c =
    let m = g.S.WorldStore.meaning in
    let old = c.args.config.now in
    let new = c.throw.new.config in
    let t = new.heap.texts in
    let r = c.throw.result in
    let env = env_in m old t c.args.frame in
    let by : Bool → Act = if_list c.args.function (value_in t c.args.this) c.args.object env in
    follows_look m (λ (arena : Arena). by (line.is_list_class (object_at arena c.args.object).class)) _ old new r
    (λ arena s. ap by (ap line.is_list_class (c.class_of.ensures.is t arena s) ∙ c.is_list_class.ensures ∙ (let no : c.is_list_class.result ≡ false = search rules in no)))
    c.throw.ensures

pub apply_rest-requires-clause-runs : goal.apply_rest-requires-clause-runs
apply_rest-requires-clause-runs g c =
    let mid = c.get_known.new.config in
    let later = c.in_ok-length.ensures.later in
    let held = subst (λ (l : List Held). HasItems mid l) (sym c.in_ok-elements_for.ensures) ((later.objects c.args.function c.requires.function, later.values c.args.this c.requires.this), (later.objects c.args.object c.requires.object, tt)) in
    rw c.set_held.ensures (runs_held _ mid c.args.frame c.in_ok-elements_for.field-0 (runs_later _ _ _ _ c.requires.runs later) held)

pub returns : goal.returns
returns g c =
    let m = g.S.WorldStore.meaning in
    let old = c.args.config.now in
    let mid = c.get_known.new.config in
    let new = c.apply_rest.new.config in
    let t = new.heap.texts in
    let r = c.apply_rest.result in
    let f = c.args.frame in
    let env = env_in m old t f in
    let o = c.args.object in
    let fn = c.args.function in
    let this = value_in t c.args.this in
    let by : Bool → Act = if_list fn this o env in
    let to : Value → Act = λ v. line.apply_from (line.apply_length v) 0 [] o fn this env in
    follows_look m (λ (arena : Arena). by (line.is_list_class (object_at arena o).class)) _ old new r
    (λ arena s. ap by (ap line.is_list_class (c.class_of.ensures.is t arena s) ∙ c.is_list_class.ensures ∙ (let yes : c.is_list_class.result ≡ true = search rules in yes)))
    (c.in_ok-length.ensures.does.by to new r
    (follows_as m _ _ mid new r
    (λ grows.
    apply_starts t c.in_ok-elements_for.field-0 o fn c.args.this c.apply_length-count.result (env_in m mid t f) c.in_ok-elements_for.ensures
    ∙ ap (λ e. line.apply_from c.apply_length-count.result 0 [] o fn this e) (env_later m old mid t f c.in_ok-length.ensures.later)
    ∙ ap (λ k. line.apply_from k 0 [] o fn this env) (sym (c.apply_length-count.ensures t grows)))
    (rw c.set_held.ensures at c.apply_rest.ensures)))
