use Rattle.std.proofs.Common.{◌≡◌, ℕ, ◌<◌, Some}
use Rattle.std.specs.Prelude.{slice_get}
use Rattle.wjs_tree.specs.declared.keys.Key.{Key}
use Rattle.wjs_tree.specs.Keys.{spelling}
use Rattle.wjs_lexer.proofs.words.key_of.Given as goal

abbrev pub invariant-loop-key : goal.invariant-loop-key
invariant-loop-key l = (j : ℕ) (k : Key) → j < l.key-index → slice_get l.key-items j ≡ Some k → l.word ≡ spelling k → ⊥
