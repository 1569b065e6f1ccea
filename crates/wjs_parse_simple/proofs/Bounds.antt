-- What stands at a place ends within the tokens.
use Rattle.std.proofs.Common.{ℕ, ◌≤◌, List, length, arith}
use Rattle.wjs_tree.specs.declared.tokens.Token.TheVariants as tokens
use Rattle.wjs_tree.specs.declared.signs.Sign.TheVariants as signs
use Rattle.wjs_tree.specs.declared.tokens.Tok.{Tok}
use Rattle.wjs_tree.specs.declared.node.End.{End}
use Rattle.wjs_tree.specs.declared.node.End.TheVariants as ends
use Rattle.wjs_tree.specs.Ends.{Ending, Ends}
use Rattle.wjs_parse_expr.proofs.Readings.{token_within}

pub ends_within : (toks : List Tok) (ending : Ending) (end : End) (m n : ℕ) → m ≤ length toks → Ends toks ending end m n → (m ≤ n) × (n ≤ length toks)
ends_within toks ending ends.Written m n le d = let w = token_within toks m (tokens.Sign signs.Semicolon) d.0 in (omega arith, omega arith)
ends_within toks ending ends.Inserted m n le d = (omega arith, omega arith)
