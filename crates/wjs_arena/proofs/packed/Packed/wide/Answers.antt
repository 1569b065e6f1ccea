use Rattle.std.proofs.Common.{ap, ◌∙◌}
use Rattle.wjs_arena.specs.declared.rare.Wide.{Wide}
use Rattle.wjs_arena.proofs.Packing.{packed_is}
use Rattle.wjs_arena.proofs.packed.Packed.wide.Goals as goal

pub rare_of-requires : goal.rare_of-requires
rare_of-requires c = ap (λ (w : Wide). w.world) c.in_ok-beside.ensures.ok

pub returns : goal.returns
returns c =
    let is = c.in_ok-rest.ensures.wide ∙ c.in_ok-beside.ensures.ok in
    packed_is c.args.depth c.args.object _ _ _ _ (ap (λ (w : Wide). w.depth) is) (ap (λ (w : Wide). w.prototype) is) (ap (λ (w : Wide). w.scope) is) c.in_ok-rest.ensures.few
