use Rattle.std.proofs.Common.{drop}
use Rattle.std.specs.Prelude.{map}
use Rattle.wjs_by_content.specs.Tables.{text_in}
use Rattle.wjs_meaning.specs.Functions.{declare_variables}
use Rattle.wjs_frames.specs.Following.{Later}
use Rattle.wjs_frames.specs.Parts.{env_in}
use Rattle.wjs_calls.specs.Leaving.{Leaves}
use Rattle.wjs_variables.proofs.declarations.declare_variables.Given as goal

abbrev pub invariant-loop-name : goal.invariant-loop-name
invariant-loop-name g l = record {
  left : Leaves g.S.WorldStore.meaning (λ t. declare_variables (map (text_in t) l.names) (env_in g.S.WorldStore.meaning l.initial.config t l.frame)) (λ t. declare_variables (map (text_in t) (drop l.name-index l.names)) (env_in g.S.WorldStore.meaning l.initial.config t l.frame)) l.initial.config l.config;
  later : Later g.S.WorldStore.meaning l.initial.config l.config;
}
