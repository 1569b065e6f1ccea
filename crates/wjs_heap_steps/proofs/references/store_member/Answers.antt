use Rattle.wjs_by_content.specs.Tables.{name_in, value_in}
use Rattle.wjs_meaning.specs.Deeds.{Member}
use Rattle.wjs_meaning.specs.References as line
use Rattle.wjs_frames.specs.Parts.{env_in}
use Rattle.wjs_heap_steps.proofs.Composing.{first_at_once}
use Rattle.wjs_heap_steps.proofs.Referring.{store_stays}
use Rattle.wjs_heap_steps.proofs.references.store_member.Goals as goal

pub returns-in_default-clause-does : goal.returns-in_default-clause-does
returns-in_default-clause-does g c =
    let m = g.S.WorldStore.meaning in
    let old = c.args.config.now in
    first_at_once m (λ t. line.store (Member (value_in t c.args.base) (name_in t c.args.name)) (value_in t c.args.value) (env_in m old t c.args.frame.now)) old (λ t act. store_stays t c.args.base c.args.name (value_in t c.args.value) (env_in m old t c.args.frame.now) act c.in_default.not-Object)

pub returns-in-Object-clause-does : goal.returns-in-Object-clause-does
returns-in-Object-clause-does g c = rw c.in-Object.is c.store_property.ensures.does
