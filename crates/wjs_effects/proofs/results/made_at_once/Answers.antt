use Rattle.wjs_by_content.specs.Tables.{value_in}
use Rattle.wjs_meaning.specs.Deeds.{Gives, Sub}
use Rattle.wjs_meaning.specs.Operators as line
use Rattle.wjs_frames.specs.Parts.{env_in}
use Rattle.wjs_frames.proofs.Shorter.{shorten_ended}
use Rattle.wjs_heap_steps.proofs.Later.{later_same}
use Rattle.wjs_effects.specs.Making.{made_in}
use Rattle.wjs_effects.proofs.Leaving.{follows_when}
use Rattle.wjs_effects.proofs.results.made_at_once.Goals as goal

pub returns-in_ok-value-in-Some-clause-does : goal.returns-in_ok-value-in-Some-clause-does
returns-in_ok-value-in-Some-clause-does g c = record {
  by = λ go later r h.
      let m = g.S.WorldStore.meaning in
      let old = c.args.config.now in
      let t = later.heap.texts in
      let env = env_in m old t c.args.frame.now in
      let act = line.operate c.args.operator (value_in t c.args.left) (value_in t c.args.right) env in
      let said = Gives (made_in t c.in-Some.made) in
      follows_when m old later r (Sub act go) (go said) (λ more. shorten_ended act said go (c.in-Some.ensures.ends t more env))
      (c.in_ok-value-in-Some.ensures.does.by (λ v. go (Gives v)) later r h);
}

pub returns-in-None-clause-later : goal.returns-in-None-clause-later
returns-in-None-clause-later g c = later_same g.S.WorldStore.meaning c.args.config.now c.requires.base
