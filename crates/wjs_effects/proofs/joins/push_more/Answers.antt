use Rattle.std.proofs.Common.{◌++◌, List, ap, ◌∙◌}
use Rattle.std.specs.Prelude.{ℕ}
use Rattle.std.proofs.lemmas.Result.{on_ok_weaker}
use Rattle.wjs_effects.specs.Making.{spelled_if}
use Rattle.wjs_effects.proofs.joins.push_more.Goals as goal

pub returns : goal.returns
returns g c = on_ok_weaker c.push_if-2.result (λ last t more. last t more ∙ ap (λ (us : List ℕ). us ++ spelled_if t c.args.pieces.fourth) (c.in_ok-push_if.ensures t more)) c.push_if-2.ensures

pub push_if-requires-clause-piece : goal.push_if-requires-clause-piece
push_if-requires-clause-piece g c = c.requires.pieces.0.1.1.0

pub push_if-requires-2-clause-piece : goal.push_if-requires-2-clause-piece
push_if-requires-2-clause-piece g c = c.requires.pieces.0.1.1.1
