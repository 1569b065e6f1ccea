use Rattle.std.proofs.Common.{subst}
use Rattle.wjs_base.specs.declared.values.Content.{Content}
use Rattle.wjs_by_content.specs.Names.{slot}
use Rattle.wjs_by_content.specs.Values.{value_or_undefined}
use Rattle.wjs_by_content.specs.Tables.{name_in, content_in}
use Rattle.wjs_meaning.specs.Deeds.{Do, Read}
use Rattle.wjs_frames.specs.Doing.{Does}
use Rattle.wjs_heap_steps.proofs.Composing.{does_map}
use Rattle.wjs_heap_steps.proofs.slots.read.Goals as goal

pub returns-in-Present-clause-does : goal.returns-in-Present-clause-does
returns-in-Present-clause-does g c =
    let m = g.S.WorldStore.meaning in
    let old = c.args.config.now in
    subst (λ (x : Content). Does m (λ t go. Do (Read c.args.frame.now.world (slot c.args.object (name_in t c.args.name))) (λ found. go (value_or_undefined found))) (λ t. value_or_undefined (content_in t x)) old c.read_content.new.config) c.in-Present.is (does_map m _ _ (λ t. value_or_undefined) old c.read_content.new.config c.in_ok-found.ensures.does)

pub returns-in-Absent-clause-does : goal.returns-in-Absent-clause-does
returns-in-Absent-clause-does g c =
    let m = g.S.WorldStore.meaning in
    let old = c.args.config.now in
    subst (λ (x : Content). Does m (λ t go. Do (Read c.args.frame.now.world (slot c.args.object (name_in t c.args.name))) (λ found. go (value_or_undefined found))) (λ t. value_or_undefined (content_in t x)) old c.read_content.new.config) c.in-Absent.is (does_map m _ _ (λ t. value_or_undefined) old c.read_content.new.config c.in_ok-found.ensures.does)
