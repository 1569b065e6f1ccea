use Rattle.std.proofs.Common.{ap, sym, ◌∙◌}
use Rattle.std.specs.Option.{option_map}
use Rattle.wjs_layers.specs.Shorts.{apart_of, content_in, read_by}
use Rattle.wjs_layers.proofs.touched.recorded.Goals as goal

pub returns-in-Changed : goal.returns-in-Changed
returns-in-Changed c = c.held.ensures ∙ ap (option_map content_in) c.get.ensures ∙ ap (λ m. read_by m c.args.now (apart_of c.args.before.now c.args.slot)) (sym c.in-Changed.is)
