use Rattle.std.proofs.Common.{Bool, List}
use Rattle.std.specs.Prelude.{map, length}
use Rattle.wjs_arena.specs.declared.native.Native.{Native}
use Rattle.wjs_base.specs.Text.{Table}
use Rattle.wjs_by_content.specs.Tables.{value_in}
use Rattle.wjs_by_content.specs.Values.{Value}
use Rattle.wjs_meaning.specs.Deeds.{Env}
use Rattle.wjs_meaning.specs.Kinds.{kinds_of}
use Rattle.wjs_natives.proofs.Staying.{StaysTo}
use Rattle.wjs_natives.proofs.stays.all_stay.Given as goal

abbrev pub invariant-loop-at : goal.invariant-loop-at
invariant-loop-at l = (t : Table) (native : Native) (by_new : Bool) (done : List Value) (env : Env) → StaysTo native by_new env done (kinds_of l.kinds (length l.args)) (map (value_in t) l.args) l.at
