use Rattle.std.proofs.Common.{◌≤◌, ◌++◌, List, ℕ, length, sym, ap, ◌∙◌, subst}
use Rattle.std.specs.Prelude.{codes}
use Rattle.wjs_base.specs.Text.{longest}
use Rattle.wjs_arena.specs.declared.class.Class.{Class}
use Rattle.wjs_by_content.specs.Objects.{Arena, object_at}
use Rattle.wjs_by_content.specs.Values.{String}
use Rattle.wjs_meaning.specs.Builtins.{shown_class}
use Rattle.wjs_meaning.specs.Deeds.{give}
use Rattle.wjs_frames.proofs.Shorter.{follows_look}
use Rattle.wjs_step_common.proofs.Following.{follows_as}
use Rattle.wjs_native_core.proofs.Showing.{class_short}
use Rattle.wjs_native_core.proofs.objects.give_class_of.Goals as goal

pub give_short-requires-clause-short : goal.give_short-requires-clause-short
give_short-requires-clause-short g c =
    let said = c.as_slice.ensures.value ∙ c.in_ok-units.ensures ∙ ap (λ u. codes "[object " ++ u ++ codes "]") c.class_name.ensures in
    subst (λ (u : List ℕ). length u ≤ longest) (sym said) (class_short c.class_of-class.result)

pub returns : goal.returns
returns g c =
    let m = g.S.WorldStore.meaning in
    let old = c.args.config.now in
    let new = c.give_short.new.config in
    let t = new.heap.texts in
    let r = c.give_short.result in
    let said = c.as_slice.ensures.value ∙ c.in_ok-units.ensures ∙ ap (λ u. codes "[object " ++ u ++ codes "]") c.class_name.ensures in
    let by = λ (k : Class). give (String (codes "[object " ++ shown_class k ++ codes "]")) in
    follows_look m (λ (arena : Arena). by (object_at arena c.args.object).class) _ old new r (λ arena s. ap by (c.class_of-class.ensures.is t arena s))
    (follows_as m _ _ old new r (λ grows. ap (λ u. give (String u)) said) c.give_short.ensures)
