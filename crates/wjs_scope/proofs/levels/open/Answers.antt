use Rattle.std.proofs.Common.{◌∙◌, refl}
use Rattle.wjs_scope.proofs.Opening.{opened}
use Rattle.wjs_scope.proofs.levels.open.Goals as goal

pub returns : goal.returns
returns c =
    opened c.args.levels.now.items c.push.new.self.items c.args.at c.len.result (record { names = c.args.names; outer = c.args.at }) c.args.names c.in_ok-push.ensures.items (c.len.ensures ∙ c.push.new.self.ok.0) refl refl
