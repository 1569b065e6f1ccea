use Rattle.std.proofs.Common.{IsTrue, Contains, ◌↔◌, sym, subst}
use Rattle.wjs_labels.specs.Around.{labels_of}
use Rattle.wjs_labels.specs.declared.around.Labels.{Labels}
use Rattle.wjs_labels.proofs.Labels.{goes_outwards}
use Rattle.wjs_labels.proofs.around.+has_label.Goals as goal

pub returns-else-eq : goal.returns-else-eq
returns-else-eq t c =
    subst (λ (z : Labels). IsTrue c.has_label.result ↔ Contains (labels_of z) c.args.name) (sym c.in-Within.is)
    (goes_outwards c.in-Within.nearest c.args.name (labels_of c.in-Within.outer.now) c.has_label.result c.eq.result c.eq.ensures c.if-eq.false c.has_label.ensures)
