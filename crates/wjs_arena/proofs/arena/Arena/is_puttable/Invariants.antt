use Rattle.std.proofs.Common.{◌≡◌}
use Rattle.wjs_arena.specs.Entries.{IsThere, depth_of}
use Rattle.wjs_arena.specs.Chains.{chain_from, none_fixed, is_puttable}
use Rattle.wjs_arena.proofs.arena.Arena.is_puttable.Given as goal

abbrev pub invariant-up : goal.invariant-up
invariant-up l = record {
  there : IsThere l.self l.at;
  rest : none_fixed l.self (chain_from (depth_of l.self l.at) l.self l.at) l.name ≡ is_puttable l.self l.fn.id l.name;
}

abbrev pub decreases-up : goal.decreases-up
decreases-up l = depth_of l.self l.at
