use Rattle.std.proofs.Common.{Bool, IsTrue, Contains, ◌↔◌, sym, subst}
use Rattle.wjs_tree.specs.Jumps.{if_loop}
use Rattle.wjs_labels.specs.Around.{loops_of}
use Rattle.wjs_labels.specs.declared.around.Labels.{Labels}
use Rattle.wjs_labels.proofs.Labels.{goes_outwards}
use Rattle.wjs_labels.proofs.around.+has_loop.Goals as goal

pub returns-else-eq : goal.returns-else-eq
returns-else-eq t c =
    let loop = c.if-not-is_loop.false in
    subst (λ (z : Labels). IsTrue c.has_loop-else-eq.result ↔ Contains (loops_of z) c.args.name) (sym c.in-Within.is)
    (subst (λ (z : Bool). IsTrue c.has_loop-else-eq.result ↔ Contains (if_loop z c.in-Within.nearest (loops_of c.in-Within.outer.now)) c.args.name) (sym loop) (goes_outwards c.in-Within.nearest c.args.name (loops_of c.in-Within.outer.now) c.has_loop-else-eq.result c.eq.result c.eq.ensures c.if-eq.false c.has_loop-else-eq.ensures))
