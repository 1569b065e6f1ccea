use Rattle.std.proofs.Common.{◌∙◌, sym, arith}
use Rattle.wjs_by_content.specs.Tables.{text_in}
use Rattle.wjs_loops.proofs.Walks.{behind_there, walk_passes, walk_meets, walk_ends, walk_past}
use Rattle.wjs_loops.proofs.labels.is_label.Goals as goal

pub same_label-requires-clause-first : goal.same_label-requires-clause-first
same_label-requires-clause-first c = behind_there c.args.texts.now c.args.unit.now c.loop-at.at c.in-Some.name (omega (arith, c.args.unit.now.body_is_last)) (sym c.label_at.ensures ∙ c.in-Some.is) c.requires.unit

pub loop-at-preserved : goal.loop-at-preserved
loop-at-preserved c = λ t grows.
    walk_passes t c.args.unit.now c.loop-at.at c.in-Some.name (text_in t c.args.label) (sym c.label_at.ensures ∙ c.in-Some.is) (sym (c.same_label.ensures t grows) ∙ c.if-same_label.false)
    ∙ c.loop-at.invariant t grows

pub returns-then-same_label : goal.returns-then-same_label
returns-then-same_label c = λ t grows.
    sym (c.loop-at.invariant t grows)
    ∙ walk_meets t c.args.unit.now c.loop-at.at c.in-Some.name (text_in t c.args.label) (sym c.label_at.ensures ∙ c.in-Some.is) (sym (c.same_label.ensures t grows) ∙ c.if-same_label.true)

pub returns-in_default : goal.returns-in_default
returns-in_default c = λ t grows.
    sym (c.loop-at.invariant t grows)
    ∙ walk_ends t c.args.unit.now c.loop-at.at (text_in t c.args.label) (sym c.label_at.ensures ∙ c.in_default.is)

pub returns : goal.returns
returns c = λ t grows.
    sym (c.loop-at.invariant t grows)
    ∙ walk_past t c.args.unit.now c.loop-at.at (text_in t c.args.label) (omega (arith, c.args.unit.now.body_is_last))
