use Rattle.std.proofs.Common.{Option, Some, sym, subst}
use Rattle.wjs_base.specs.declared.values.Value.{Value as NumberedValue}
use Rattle.wjs_base.specs.Text.{Table}
use Rattle.wjs_by_content.specs.Tables.{text_in, value_in}
use Rattle.wjs_by_content.specs.Values.{Value, value_or_undefined}
use Rattle.wjs_meaning.specs.Properties as line
use Rattle.wjs_meaning.specs.References as references
use Rattle.wjs_frames.specs.Parts.{env_in}
use Rattle.wjs_heap_steps.specs.Peeking.{Peeks}
use Rattle.wjs_heap_steps.proofs.Peeking.{if_some, peeks_map}
use Rattle.wjs_heap_steps.proofs.peeks.member_held.Goals as goal

pub returns-in-Object-clause-peeks : goal.returns-in-Object-clause-peeks
returns-in-Object-clause-peeks g c =
    let m = g.S.WorldStore.meaning in
    let now = c.args.config.now in
    if_some _ _ c.peek_held.result (λ v p.
    let held : Table → Option Value = λ t. Some (value_in t v) in
    subst (λ (base : NumberedValue). Peeks m (λ t. references.member_value (value_in t base) (text_in t c.args.id) (env_in m now t c.args.frame.now)) (λ t. value_in t v) now) (sym c.in-Object.is)
    (peeks_map m (λ t. line.get c.in-Object.object (text_in t c.args.id) (env_in m now t c.args.frame.now)) held (λ t x. value_or_undefined x) now p)) c.peek_held.ensures.peeks
