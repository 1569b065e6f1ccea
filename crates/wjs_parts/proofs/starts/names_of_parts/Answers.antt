use Rattle.wjs_model.specs.Texts.{KnowsUnit}
use Rattle.wjs_parts.proofs.Openings.{names_on, all_at}
use Rattle.wjs_parts.proofs.starts.names_of_parts.Goals as goal

pub loop-part-preserved : goal.loop-part-preserved
loop-part-preserved c =
    let parts = c.args.parts.now in
    let i = c.loop-part.part-index in
    let u = c.part-item.result in
    record {
      are = λ t table known. names_on t parts i u c.loop-part.names.items c.add_names.new.names.items c.loop-part-test.true c.part-item.is (c.in_ok-add_names.ensures.are t table (all_at (KnowsUnit t) parts i u c.loop-part-test.true c.part-item.is known)) (c.loop-part.invariant.are t table known);
      found = λ t known. c.in_ok-add_names.ensures.found t (all_at (KnowsUnit t) parts i u c.loop-part-test.true c.part-item.is known) (c.loop-part.invariant.found t known);
    }
