use Rattle.wjs_scope.proofs.Texts.{by_text}
use Rattle.wjs_scope.proofs.laws.places_are_of_texts.Goals as goal

pub returns : goal.returns
returns c = λ texts same scopes x table decides names has. by_text texts same table decides 0 scopes x names has
