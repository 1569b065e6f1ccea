use Rattle.std.proofs.Common.{◌≡◌, map, take}
use Rattle.std.specs.Prelude.{All, filter_map}
use Rattle.wjs_base.specs.Text.{Table, Has}
use Rattle.wjs_by_content.specs.Tables.{text_in}
use Rattle.wjs_meaning.specs.Reading.{numbers}
use Rattle.wjs_meaning.specs.Trees.{name_of, node_at}
use Rattle.wjs_model.specs.Texts.{KnowsUnit}
use Rattle.wjs_model.specs.Units.{unit_in}
use Rattle.wjs_start.proofs.script.functions_named.Given as goal

abbrev pub invariant-loop-function : goal.invariant-loop-function
invariant-loop-function l = record {
  are : (t : Table) → map (text_in t) l.names.items ≡ filter_map (λ k. name_of (node_at (unit_in t l.script) k)) (numbers (take l.function-index l.functions));
  found : (t : Table) → KnowsUnit t l.script → All (Has t) l.names.items;
}
