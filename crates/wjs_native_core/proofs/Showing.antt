-- What is shown of a class is short.
use Rattle.std.proofs.Common.{◌≤◌, ◌++◌, length, arith}
use Rattle.std.specs.Prelude.{codes}
use Rattle.wjs_base.specs.Text.{longest}
use Rattle.wjs_arena.specs.declared.class.Class.{Class}
use Rattle.wjs_arena.specs.declared.class.Class.TheVariants as class
use Rattle.wjs_meaning.specs.Builtins.{shown_class}

pub class_short : (c : Class) → length (codes "[object " ++ shown_class c ++ codes "]") ≤ longest
class_short class.Plain = omega arith
class_short class.Arguments = omega arith
class_short class.Global = omega arith
class_short class.Text = omega arith
class_short class.Bool = omega arith
class_short class.Fault = omega arith
class_short class.Function = omega arith
class_short class.Array = omega arith
class_short class.Number = omega arith
class_short class.World = omega arith
class_short class.Math = omega arith
class_short class.Scope = omega arith
