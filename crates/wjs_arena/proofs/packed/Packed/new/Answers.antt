use Rattle.std.proofs.Common.{◌≡◌, ℕ, subst}
use Rattle.std.specs.Prelude.{IfOk}
use Rattle.wjs_arena.specs.Entries.{Entry}
use Rattle.wjs_arena.proofs.packed.Packed.new.Goals as goal

pub short-requires : goal.short-requires
short-requires c = c.in-Some.ensures.links

pub returns-in-Some : goal.returns-in-Some
returns-in-Some c = subst (λ (d : ℕ). IfOk c.short.result (λ (packed : Entry). packed ≡ record { object = c.args.object; depth = d })) c.in-Some.ensures.depth c.short.ensures
