use Rattle.wjs_by_content.specs.Tables.{value_in}
use Rattle.wjs_meaning.specs.Deeds.{give}
use Rattle.wjs_meaning.specs.References.{store}
use Rattle.wjs_model.specs.declared.frame.Completion.TheVariants as completions
use Rattle.wjs_model.specs.Contents.{reference_in}
use Rattle.wjs_direct_lines.specs.Deeds.{line_here}
use Rattle.wjs_direct_lines.proofs.Assigning.{ends_so, store_done, value_does, value_found}
use Rattle.wjs_direct_lines.proofs.Parts.{in_all}
use Rattle.wjs_direct_lines.proofs.stores.stored.Goals as goal

pub value_or_thrown-requires : goal.value_or_thrown-requires
value_or_thrown-requires g c = ends_so c.args.told c.in_ok-end.end c.in_ok-end.ensures.ends

pub returns-clause-later : goal.returns-clause-later
returns-clause-later g c = in_all c.value_or_thrown.result c.in_ok-end.ensures.later

pub returns-clause-found : goal.returns-clause-found
returns-clause-found g c =
    let s = c.args.stops.now in
    value_found g.S.WorldStore.meaning c.in_ok-end.end c.value_or_thrown.result s.waits s.top c.store_and_end.new.config c.value_or_thrown.ensures c.in_ok-end.ensures.found c.requires.empty

pub returns-clause-does : goal.returns-clause-does
returns-clause-does g c =
    let m = g.S.WorldStore.meaning in
    let old = c.args.config.now in
    let new = c.store_and_end.new.config in
    let f = c.args.frame.now in
    let s = c.args.stops.now in
    value_does m (line_here m old f (λ t env. store (reference_in t c.args.reference) (value_in t c.args.value) env (give (value_in t c.args.told)))) c.in_ok-end.end c.value_or_thrown.result s.waits s.top old new c.value_or_thrown.ensures
    (store_done m old new f c.args.reference c.args.value (completions.Gives c.args.told) c.in_ok-end.end s.waits s.top c.in_ok-end.ensures.does)
