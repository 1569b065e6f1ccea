use Rattle.std.proofs.Common.{subst, sym}
use Rattle.wjs_base.specs.Text.{Table}
use Rattle.wjs_by_content.specs.Tables.{name_in, value_in}
use Rattle.wjs_by_content.specs.Values.{Value}
use Rattle.wjs_meaning.specs.Deeds.{Completion, Gives}
use Rattle.wjs_meaning.specs.References.{member_value}
use Rattle.wjs_model.specs.declared.frame.Reference.{Reference}
use Rattle.wjs_model.specs.Contents.{reference_in}
use Rattle.wjs_model.specs.Operands.{evaluated}
use Rattle.wjs_frames.specs.Doing.{Does}
use Rattle.wjs_frames.specs.Parts.{env_in}
use Rattle.wjs_heap_steps.proofs.Composing.{does_map}
use Rattle.wjs_heap_steps.proofs.operands.reference_completion.Goals as goal

pub returns-in-Local-clause-does : goal.returns-in-Local-clause-does
returns-in-Local-clause-does g c = rw c.in-Local.is c.local_completion.ensures.does

pub returns-in-Global-clause-does : goal.returns-in-Global-clause-does
returns-in-Global-clause-does g c = rw c.in-Global.is c.global_completion.ensures.does

pub returns-in_ok-value-in-Member-clause-does : goal.returns-in_ok-value-in-Member-clause-does
returns-in_ok-value-in-Member-clause-does g c =
    let m = g.S.WorldStore.meaning in
    let old = c.args.config.now in
    let new = c.member_value.new.config in
    let f = c.args.frame.now in
    let at = c.in-Member in
    let v = c.in_ok-value-in-Member.value in
    let gives : Table → Value → Completion = λ t x. Gives x in
    subst (λ (q : Reference). Does m (λ t. evaluated (reference_in t q) (env_in m old t f)) (λ t. Gives (value_in t v)) old new) (sym at.is)
    (does_map m (λ t. member_value (value_in t at.base) (name_in t at.name) (env_in m old t f)) (λ t. value_in t v) gives old new c.in_ok-value-in-Member.ensures.does)
