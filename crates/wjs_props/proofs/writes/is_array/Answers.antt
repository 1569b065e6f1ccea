use Rattle.std.proofs.Common.{ap, ◌∙◌}
use Rattle.wjs_by_content.specs.Objects.{is_array_class}
use Rattle.wjs_props.proofs.Putting.{array_in, no_array}
use Rattle.std.specs.FinMap as map
use Rattle.wjs_arena.proofs.Fields.{classed, classed_is}
use Rattle.wjs_props.proofs.writes.is_array.Goals as goal

pub returns-in-Array : goal.returns-in-Array
returns-in-Array c = λ t. array_in t c.args.arena.now c.args.object (classed (map.get c.args.arena.now c.args.object) c.class.result) c.requires (classed_is (map.get c.args.arena.now c.args.object) c.class.result c.class.ensures.class) ∙ ap is_array_class c.in-Array.is

pub returns-in_default : goal.returns-in_default
returns-in_default c = λ t. array_in t c.args.arena.now c.args.object (classed (map.get c.args.arena.now c.args.object) c.class.result) c.requires (classed_is (map.get c.args.arena.now c.args.object) c.class.result c.class.ensures.class) ∙ no_array c.class.result c.in_default.not-Array
