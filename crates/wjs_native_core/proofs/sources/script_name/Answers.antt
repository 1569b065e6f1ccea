use Rattle.std.proofs.Common.{refl, ap, ◌∙◌}
use Rattle.std.specs.Prelude.{Option, unwrap_or, codes}
use Rattle.wjs_by_content.specs.Values.{Text}
use Rattle.wjs_meaning.specs.Trees.{name_of}
use Rattle.wjs_calls.proofs.FunctionNodes.{node_is}
use Rattle.wjs_native_core.proofs.sources.script_name.Goals as goal

pub returns-in-Some : goal.returns-in-Some
returns-in-Some g c = λ t grows.
    ap (λ n. unwrap_or (name_of n) (codes "anonymous")) (node_is t c.args.config.now.units.items c.args.tree _ _ refl)
    ∙ ap (λ (o : Option Text). unwrap_or o (codes "anonymous")) (c.in-Some.ensures.is t)
    ∙ c.units_of.ensures.text t grows

pub returns-in-None : goal.returns-in-None
returns-in-None g c = λ t grows.
    ap (λ n. unwrap_or (name_of n) (codes "anonymous")) (node_is t c.args.config.now.units.items c.args.tree _ _ refl)
    ∙ ap (λ (o : Option Text). unwrap_or o (codes "anonymous")) (c.in-None.ensures.is t)
