use Rattle.std.proofs.Common.{◌∙◌, ap, map}
use Rattle.wjs_scope.specs.Declarations.{name_of, with_name}
use Rattle.wjs_scope.proofs.Walks.{added}
use Rattle.wjs_scope.proofs.names.NameSet.add.Goals as goal

pub returns : goal.returns
returns c = ap (map name_of) c.in_ok-insert.ensures.keys ∙ added c.args.name c.self.inside.numbers.keys ∙ ap (λ z. with_name z c.args.name) c.self.view_is
