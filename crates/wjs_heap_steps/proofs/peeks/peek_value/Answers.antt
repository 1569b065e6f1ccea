use Rattle.std.proofs.Common.{subst}
use Rattle.wjs_base.specs.declared.values.Content.{Content}
use Rattle.wjs_by_content.specs.Values.{value_or_undefined}
use Rattle.wjs_by_content.specs.Tables.{name_in, content_in}
use Rattle.wjs_meaning.specs.Properties as line
use Rattle.wjs_frames.specs.Parts.{env_in}
use Rattle.wjs_heap_steps.specs.Peeking.{Peeks}
use Rattle.wjs_heap_steps.proofs.Peeking.{peeks_map}
use Rattle.wjs_heap_steps.proofs.peeks.peek_value.Goals as goal

pub returns-in-Present-clause-peeks : goal.returns-in-Present-clause-peeks
returns-in-Present-clause-peeks g c =
    let m = g.S.WorldStore.meaning in
    let now = c.args.config.now in
    subst (λ (x : Content). Peeks m (λ t. line.get_value c.args.object (name_in t c.args.name) (env_in m now t c.args.frame.now)) (λ t. value_or_undefined (content_in t x)) now) c.in-Present.is (peeks_map m _ _ (λ t. value_or_undefined) now c.in_ok-found.ensures.peeks)

pub returns-in-Absent-clause-peeks : goal.returns-in-Absent-clause-peeks
returns-in-Absent-clause-peeks g c =
    let m = g.S.WorldStore.meaning in
    let now = c.args.config.now in
    subst (λ (x : Content). Peeks m (λ t. line.get_value c.args.object (name_in t c.args.name) (env_in m now t c.args.frame.now)) (λ t. value_or_undefined (content_in t x)) now) c.in-Absent.is (peeks_map m _ _ (λ t. value_or_undefined) now c.in_ok-found.ensures.peeks)
