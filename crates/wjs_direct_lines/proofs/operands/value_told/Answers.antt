use Rattle.std.proofs.Common.{true, ap, subst, sym}
use Rattle.wjs_base.specs.declared.values.Value.TheVariants as values
use Rattle.wjs_by_content.specs.Tables.{value_in}
use Rattle.wjs_meaning.specs.Deeds.{Sub}
use Rattle.wjs_effects.proofs.Leaving.{shorten_as}
use Rattle.wjs_heap_steps.proofs.Later.{later_same}
use Rattle.wjs_stopping.specs.Ends.{gives_in}
use Rattle.wjs_stopping.specs.Evaluating.{Evaluates}
use Rattle.wjs_stopping.proofs.Evaluating.{line_ends}
use Rattle.wjs_direct_lines.specs.declared.operands.Query.{Query}
use Rattle.wjs_direct_lines.specs.Operands.{after_value}
use Rattle.wjs_direct_lines.proofs.operands.value_told.Goals as goal

pub returns-in-Delete-clause-later : goal.returns-in-Delete-clause-later
returns-in-Delete-clause-later g c = later_same g.S.WorldStore.meaning c.args.config.now c.requires.base

pub returns-in-Delete-clause-found : goal.returns-in-Delete-clause-found
returns-in-Delete-clause-found g c = (tt, c.requires.empty)

pub returns-in-Delete-clause-does : goal.returns-in-Delete-clause-does
returns-in-Delete-clause-does g c =
    let s = c.args.stops.now in
    line_ends g.S.WorldStore.meaning gives_in (λ t. after_value c.args.query (value_in t c.args.value)) (values.Bool true) s.waits s.top c.args.config.now
    (λ t more. shorten_as _ _ (ap (λ (query : Query). after_value query (value_in t c.args.value)) c.in-Delete.is))

pub returns-in-Typeof-clause-does : goal.returns-in-Typeof-clause-does
returns-in-Typeof-clause-does g c =
    let k = c.value_typed.new in
    subst (λ (query : Query). Evaluates g.S.WorldStore.meaning (λ t go. Sub (after_value query (value_in t c.args.value)) go) gives_in c.value_typed.result k.stops.waits k.stops.top c.args.config.now k.config) (sym c.in-Typeof.is) c.value_typed.ensures.does
