use Rattle.std.proofs.Common.{Bool, ap, ◌∙◌, subst}
use Rattle.std.specs.Prelude.{Result, OnOk}
use Rattle.wjs_base.specs.declared.ids.OutOfMemory.{OutOfMemory}
use Rattle.wjs_base.specs.Text.{Table}
use Rattle.wjs_by_content.specs.Tables.{name_in, value_in}
use Rattle.wjs_by_content.specs.Conversions.{primitive_text}
use Rattle.wjs_by_content.specs.Values.{Text, Boolean, Object}
use Rattle.wjs_meaning.specs.Deeds.{Act, Completion, Gives, Sub, then_text}
use Rattle.wjs_meaning.specs.Operators.{give_truth, in_name, in_values}
use Rattle.wjs_meaning.specs.Properties.{has}
use Rattle.wjs_frames.specs.Parts.{env_in}
use Rattle.wjs_frames.specs.Shortening.{Shortens}
use Rattle.wjs_frames.proofs.Shorter.{follows_ret, shorten_sub, shorten_trans}
use Rattle.wjs_heap_steps.proofs.Later.{later_same}
use Rattle.wjs_step_common.proofs.Converting.{text_shortens}
use Rattle.wjs_effects.proofs.Leaving.{follows_when}
use Rattle.wjs_effects.proofs.Storing.{has_goes}
use Rattle.wjs_effects.proofs.results.found_in.Goals as goal

pub returns-in_ok-answer-in-Some-clause-does : goal.returns-in_ok-answer-in-Some-clause-does
returns-in_ok-answer-in-Some-clause-does g c = record {
  by = λ go later r h.
      let m = g.S.WorldStore.meaning in
      let old = c.args.config.now in
      let t = later.heap.texts in
      let env = env_in m old t c.args.frame.now in
      let o = c.args.object in
      let v = value_in t c.args.left in
      let name = name_in t c.in-Some.name in
      let next : Bool → Act = λ b. Sub (give_truth b) go in
      follows_when m old later r (Sub (in_values v (Object o) env) go) (has o name env next)
      (λ more. shorten_trans _ _ _
      (subst (λ (x : Text). Shortens (Sub (in_values v (Object o) env) go) (Sub (in_name o env x) go)) (c.in-Some.ensures.is t more)
      (shorten_sub (in_values v (Object o) env) (in_name o env (primitive_text v)) go (text_shortens v env (in_name o env) (c.in-Some.ensures.primitive t))))
      (has_goes o name env give_truth go))
      (c.in_ok-answer-in-Some.ensures.does.by next later r (follows_ret m (Gives (Boolean c.in_ok-answer-in-Some.answer)) go _ later r h));
}

pub returns-in-None-clause-later : goal.returns-in-None-clause-later
returns-in-None-clause-later g c = later_same g.S.WorldStore.meaning c.args.config.now c.requires.base
