use Rattle.std.proofs.Common.{◌≡◌}
use Rattle.wjs_base.specs.Text.{Table, Grows}
use Rattle.wjs_by_content.specs.Tables.{text_in}
use Rattle.wjs_meaning.specs.Trees.{labels, has_text}
use Rattle.wjs_model.specs.Units.{unit_in}
use Rattle.wjs_loops.proofs.labels.is_label.Given as goal

-- the labels of the node at hand are the rest of the statement's, and none that was passed is the one that is sought
abbrev pub invariant-loop-at : goal.invariant-loop-at
invariant-loop-at l = (t : Table) → Grows l.texts t → has_text (labels (unit_in t l.unit) l.at) (text_in t l.label) ≡ has_text (labels (unit_in t l.unit) l.fn.node.0) (text_in t l.label)
