-- What a reserved word is as an expression.
use Rattle.std.specs.Prelude.{true, false}
use Rattle.wjs_tree.specs.declared.keys.Key.{Key}
use Rattle.wjs_tree.specs.declared.keys.Key.TheVariants as keys
use Rattle.wjs_parse_expr.specs.declared.primary.Reserved.{Reserved}
use Rattle.wjs_parse_expr.specs.declared.primary.Reserved.TheVariants as words

abbrev pub kind_of : Key → Reserved
kind_of keys.This = words.This
kind_of keys.ThisWorld = words.ThisWorld
kind_of keys.Null = words.Null
kind_of keys.True = words.Bool true
kind_of keys.False = words.Bool false
kind_of keys.Function = words.Function
kind_of _ = words.Other
