use Rattle.std.proofs.Common.{◌∙◌, ap, sym}
use Rattle.wjs_scope.specs.Scopes.{is_in}
use Rattle.wjs_scope.proofs.Walks.{found}
use Rattle.wjs_scope.proofs.names.NameSet.contains.Goals as goal

pub returns : goal.returns
returns c = c.contains.ensures ∙ sym (found c.args.name c.self.inside.numbers.keys) ∙ ap (λ z. is_in z c.args.name) c.self.view_is
