use Rattle.std.proofs.Common.{◌≡◌, ◌+◌, ◌-◌, ◌<◌, List, length, get_or, sym, ap, ◌∙◌, subst, arith, rules, Ok}
use Rattle.std.specs.Prelude.{map}
use Rattle.wjs_base.specs.declared.values.Value.{Value}
use Rattle.wjs_base.specs.declared.values.Value.TheVariants as values
use Rattle.wjs_by_content.specs.Tables.{value_in}
use Rattle.wjs_by_content.specs.Values.{Undefined}
use Rattle.wjs_base.specs.Text.{Table}
use Rattle.wjs_meaning.specs.Deeds.{Sub, then_value}
use Rattle.wjs_model.specs.Rest.{begin_conversion}
use Rattle.wjs_frames.specs.Following.{Follows}
use Rattle.wjs_frames.specs.Parts.{env_in}
use Rattle.wjs_natives.specs.Kinds.{conversions}
use Rattle.wjs_natives.specs.Converting.{converting, placed, IsReady}
use Rattle.wjs_natives.proofs.Tables.{place_within, place_below}
use Rattle.wjs_natives.proofs.Coming.{Reached, reached_next, reached_end, reached_still, reached_waits, value_within}
use Rattle.wjs_frames.proofs.Handling.{runs_later}
use Rattle.wjs_natives.proofs.conversions.convert_rest.Goals as goal

pub wait_for-requires-clause-at : goal.wait_for-requires-clause-at
wait_for-requires-clause-at g c =
    let t = c.values.config.heap.texts in
    let h = rw c.in-Err.is at c.in_ok-converted.ensures.converts in
    subst (λ (l : List Value). c.values.at < length l) (sym c.deref-in-Err.ensures.value)
    (value_within t c.values.values.items c.values.at c.value_at-value.result (c.value_at-value.ensures.is ∙ ap (λ l. get_or l c.values.at values.Undefined) c.deref.ensures.value) (h.1 t))

pub returns-in-Err : goal.returns-in-Err
returns-in-Err g c =
    let m = g.S.WorldStore.meaning in
    let old = c.args.config.now in
    let mid = c.convert_now.new.config in
    let new = c.wait_for.new.config in
    let t = new.heap.texts in
    let vs = c.values.values.items in
    let at = c.values.at in
    let v = c.value_at-value.result in
    let deeds = λ (u : Table). converting c.args.native c.args.by_new c.args.given (map (value_in u) c.args.values.items) c.args.at (env_in m old u c.args.frame) in
    let converts = rw c.in-Err.is at c.in_ok-converted.ensures.converts in
    let is : v ≡ get_or vs at values.Undefined = c.value_at-value.ensures.is ∙ ap (λ (l : List Value). get_or l at values.Undefined) c.deref.ensures.value in
    let reached = reached_still m c.args.native c.args.by_new c.args.frame c.args.given deeds old c.values.config mid vs at c.values.invariant.1 c.in_ok-converted.ensures.does c.in_ok-converted.ensures.later in
    let waits = subst (λ (l : List Value). Follows m (Sub (begin_conversion c.in-Err.conversion (value_in t (get_or l at values.Undefined)) (env_in m mid t c.args.frame)) (then_value (λ x. converting c.args.native c.args.by_new (length l - 1) (placed (map (value_in t) l) at x) (at + 1) (env_in m mid t c.args.frame)))) mid new) c.deref-in-Err.ensures.value (rw c.values.invariant.0 at c.in_ok-wait_for-in-Err.ensures) in
    reached_waits m c.args.native c.args.by_new c.args.frame c.args.given deeds old mid new vs at c.in-Some.kind v c.in-Err.conversion (Ok tt) reached (sym c.in-Some.ensures)
    (λ u. ap (λ (l : List Value). get_or (map (value_in u) l) at Undefined) (sym c.deref.ensures.value) ∙ c.value_at-value.ensures.means u)
    is converts.0 (value_within t vs at v is (converts.1 t)) waits

pub overflow_add-at : goal.overflow_add-at
overflow_add-at g c =
    let below : c.values.at < c.args.given + 4 = place_below c.args.native c.args.given c.values.at c.in-Some.kind c.in-Some.ensures in
    search rules

pub values-smaller : goal.values-smaller
values-smaller g c =
    let within : c.values.at < length (conversions c.args.native c.args.given) = place_within c.args.native c.args.given c.values.at c.in-Some.kind c.in-Some.ensures in
    omega arith

pub values-preserved : goal.values-preserved
values-preserved g c =
    let m = g.S.WorldStore.meaning in
    let old = c.args.config.now in
    let vs = c.values.values.items in
    let deeds = λ (t : Table). converting c.args.native c.args.by_new c.args.given (map (value_in t) c.args.values.items) c.args.at (env_in m old t c.args.frame) in
    let found = rw c.in-Ok.is at c.in_ok-converted.ensures.found in
    let converts = rw c.in-Ok.is at c.in_ok-converted.ensures.converts in (
      c.values.invariant.0,
      subst (λ (l : List Value). Reached m c.args.native c.args.by_new c.args.frame c.args.given deeds old c.convert_now.new.config l (c.values.at + 1)) (sym c.in_ok-put-in-Ok.ensures)
          (reached_next m c.args.native c.args.by_new c.args.frame c.args.given deeds old c.values.config c.convert_now.new.config vs c.values.at c.in-Some.kind c.value_at-value.result c.in-Ok.converted c.values.invariant.1 (sym c.in-Some.ensures)
          (λ t. ap (λ l. get_or (map (value_in t) l) c.values.at Undefined) (sym c.deref.ensures.value) ∙ c.value_at-value.ensures.means t)
          c.in_ok-converted.ensures.does c.in_ok-converted.ensures.later found converts),
    )

pub returns : goal.returns
returns g c =
    let m = g.S.WorldStore.meaning in
    let old = c.args.config.now in
    let deeds = λ (t : Table). converting c.args.native c.args.by_new c.args.given (map (value_in t) c.args.values.items) c.args.at (env_in m old t c.args.frame) in (
      c.values.invariant.0,
      subst (λ (l : List Value). IsReady m c.args.native c.args.by_new c.args.frame deeds l old c.values.config) (sym c.truncate.ensures.items)
          (reached_end m c.args.native c.args.by_new c.args.frame c.args.given deeds old c.values.config c.values.values.items c.values.at c.values.invariant.1 (sym c.in_default.ensures)),
    )

pub wait_for-requires-clause-runs : goal.wait_for-requires-clause-runs
wait_for-requires-clause-runs g c =
    rw c.values.invariant.0 (runs_later _ _ _ _ (runs_later _ _ _ _ c.requires.runs c.values.invariant.1.later) c.in_ok-converted.ensures.later)
