use Rattle.wjs_arena.specs.Packed.{wide_in}
use Rattle.wjs_arena.proofs.Packing.{depth_kept, packed_is}
use Rattle.wjs_arena.proofs.packed.Packed.short.Goals as goal

pub returns : goal.returns
returns c =
    let w = wide_in c.in_ok-rest.rest in
    let l = c.args.links in
    let depth = depth_kept l.prototype.linked l.prototype.owner l.prototype.serial c.args.object.prototype l.depth w.depth c.requires.prototype in
    packed_is l.depth c.args.object _ _ _ _ depth (c.requires.prototype w.prototype) (c.requires.scope w.scope) c.in_ok-rest.ensures
