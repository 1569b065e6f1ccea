use Rattle.wjs_by_content.specs.Tables.{name_in, value_in}
use Rattle.wjs_by_content.specs.Values.{Value}
use Rattle.wjs_meaning.specs.Deeds.{Completion, Gives, Local}
use Rattle.wjs_meaning.specs.References.{value_of}
use Rattle.wjs_base.specs.Text.{Table}
use Rattle.wjs_frames.specs.Parts.{env_in}
use Rattle.wjs_heap_steps.proofs.Composing.{does_map}
use Rattle.wjs_heap_steps.proofs.operands.local_completion.Goals as goal

pub returns-clause-does : goal.returns-clause-does
returns-clause-does g c =
    let m = g.S.WorldStore.meaning in
    let old = c.args.config.now in
    let gives : Table → Value → Completion = λ t v. Gives v in
    does_map m (λ t. value_of (Local c.args.scope (name_in t c.args.name)) (env_in m old t c.args.frame.now)) (λ t. value_in t c.in_ok-value.value) gives old c.local_value.new.config c.in_ok-value.ensures.does
