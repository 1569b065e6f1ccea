-- The natives of Object, Function, Error, World and Array (ECMA-262, 3rd edition, sections 15.2 to 15.4 and 15.11), which are the core's.
use Rattle.std.specs.Prelude.{Bool, true, false}
use Rattle.wjs_arena.specs.declared.native.Native.{Native}
use Rattle.wjs_arena.specs.declared.native.Native.TheVariants as native

abbrev pub is_core : Native → Bool
is_core (native.Object k) = true
is_core (native.Function k) = true
is_core (native.Error k) = true
is_core (native.World k) = true
is_core (native.Array k) = true
is_core _ = false
