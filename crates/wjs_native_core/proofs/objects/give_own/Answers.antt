use Rattle.std.proofs.Common.{Bool, false, not, sym, ap, ◌∙◌}
use Rattle.std.specs.Prelude.{◌&&◌, is_some}
use Rattle.wjs_base.proofs.Options.{some_map}
use Rattle.wjs_by_content.specs.Objects.{Arena, fixed, is_hidden}
use Rattle.wjs_by_content.specs.Tables.{name_in, value_in}
use Rattle.wjs_meaning.specs.Deeds.{Act}
use Rattle.wjs_meaning.specs.Operators.{give_truth}
use Rattle.wjs_frames.specs.Parts.{env_in}
use Rattle.wjs_step_common.proofs.Following.{follows_as, follows_found}
use Rattle.wjs_native_core.proofs.Looking.{owned}
use Rattle.wjs_native_core.proofs.objects.give_own.Goals as goal

pub returns-then-is_some : goal.returns-then-is_some
returns-then-is_some g c =
    let m = g.S.WorldStore.meaning in
    let old = c.args.config.now in
    let new = c.give.new.config in
    let t = new.heap.texts in
    let r = c.give.result in
    let n = name_in t c.args.name in
    let by : Bool → Bool → Act = owned c.args.enumerable c.args.object n (env_in m old t c.args.frame) in
    follows_found m (λ (arena : Arena). by (is_some (fixed arena c.args.object n)) (is_hidden arena c.args.object n)) _ old new r
    (λ grows arena s. ap (λ b. by b (is_hidden arena c.args.object n)) (ap is_some (c.fixed.ensures.is t grows arena s) ∙ some_map (value_in t) c.fixed.result ∙ sym c.is_some.ensures ∙ c.if-is_some.true))
    c.give.ensures

pub returns : goal.returns
returns g c =
    let m = g.S.WorldStore.meaning in
    let old = c.args.config.now in
    let new = c.give-2.new.config in
    let t = new.heap.texts in
    let r = c.give-2.result in
    let n = name_in t c.args.name in
    let by : Bool → Bool → Act = owned c.args.enumerable c.args.object n (env_in m old t c.args.frame) in
    follows_found m (λ (arena : Arena). by (is_some (fixed arena c.args.object n)) (is_hidden arena c.args.object n)) _ old new r
    (λ grows arena s.
    ap (λ b. by b (is_hidden arena c.args.object n)) (ap is_some (c.fixed.ensures.is t grows arena s) ∙ some_map (value_in t) c.fixed.result ∙ sym c.is_some.ensures ∙ c.if-is_some.false)
    ∙ ap (by false) (c.is_hidden-hidden.ensures.is t grows arena s))
    (c.in_ok-found.ensures.does.by (λ found. give_truth (is_some found && not (c.args.enumerable && c.is_hidden-hidden.result))) new r
    (follows_as m _ _ c.read_content.new.config new r (λ grows. ap give_truth (sym (c.shows.ensures t))) c.give-2.ensures))
