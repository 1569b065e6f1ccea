use Rattle.std.proofs.Common.{drop}
use Rattle.std.specs.Prelude.{map}
use Rattle.wjs_by_content.specs.Tables.{text_in}
use Rattle.wjs_meaning.specs.Deeds.{write_all}
use Rattle.wjs_frames.specs.Following.{Later}
use Rattle.wjs_calls.specs.Leaving.{Leaves}
use Rattle.wjs_variables.specs.Filling.{undefined_slots}
use Rattle.wjs_variables.proofs.arguments.write_undefined.Given as goal

abbrev pub invariant-loop-name : goal.invariant-loop-name
invariant-loop-name g l = record {
  left : Leaves g.S.WorldStore.meaning (λ t. write_all l.frame.world (undefined_slots l.scope (map (text_in t) l.names))) (λ t. write_all l.frame.world (undefined_slots l.scope (map (text_in t) (drop l.name-index l.names)))) l.initial.config l.config;
  later : Later g.S.WorldStore.meaning l.initial.config l.config;
}
