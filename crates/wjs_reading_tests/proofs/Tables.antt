-- Tokens without functions.
use Rattle.std.proofs.Common.{◌≡◌, ℕ, List, Option, None, true, refl, arith}
use Rattle.wjs_tree.specs.declared.tokens.Tok.{Tok}
use Rattle.wjs_tree.specs.declared.keys.Key.TheVariants as keys
use Rattle.wjs_tree.specs.declared.node.Node.{Node}
use Rattle.wjs_tree.specs.Trees.{Expr, Function}
use Rattle.wjs_tree.specs.Ends.{HasKey}
use Rattle.wjs_tree.specs.Spelling.{Stands}
use Rattle.wjs_parse_expr.specs.declared.functions.Functions.{Functions}
use Rattle.wjs_parse_expr.specs.Readings.{is_function}
use Rattle.wjs_parse_expr.specs.Table.{entry_at, Holds}

-- Where no token is `function`, an empty table of functions is right.
pub holds_without : (toks : List Tok) (functions : Functions) (ns : List Node) → ((place : ℕ) → HasKey toks place keys.Function → ⊥) → ((place : ℕ) → entry_at functions place ≡ None) → Holds toks functions 0 200 ns
holds_without toks functions ns nay none = record {
  entries = λ q node next e. absurd (let h = none q in cc);
  complete = λ q u m le b r. absurd (nay q (key u q m r.is r.reading.stands));
  apart = λ q q' node node' next next' e f le t u us vs s z. absurd (let h = none q in cc);
  low = omega arith;
}
  where
    key : (u : Expr) (q m : ℕ) → is_function u ≡ true → Stands toks u q m → HasKey toks q keys.Function
    key (Function x y z) q m h s = s.3
    key _ q m h s = cc
