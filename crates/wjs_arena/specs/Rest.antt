-- What a walk along the prototypes has still to give.
use Rattle.std.specs.Prelude.{List}
use Rattle.wjs_base.specs.declared.ids.ObjId.{ObjId}
use Rattle.wjs_arena.specs.declared.chain.Chain.{Chain}
use Rattle.wjs_arena.specs.Entries.{depth_of}
use Rattle.wjs_arena.specs.Chains.{chain_from}

abbrev pub rest : Chain → List ObjId
rest c = chain_from (depth_of c.arena.now c.next) c.arena.now c.next
