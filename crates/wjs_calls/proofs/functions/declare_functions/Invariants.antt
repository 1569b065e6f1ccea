use Rattle.std.proofs.Common.{drop}
use Rattle.wjs_meaning.specs.Reading.{numbers}
use Rattle.wjs_meaning.specs.Functions.{declare_functions}
use Rattle.wjs_frames.specs.Following.{Later}
use Rattle.wjs_frames.specs.Parts.{env_in}
use Rattle.wjs_calls.specs.Leaving.{Leaves}
use Rattle.wjs_calls.proofs.functions.declare_functions.Given as goal

abbrev pub invariant-loop-function : goal.invariant-loop-function
invariant-loop-function g l = record {
  left : Leaves g.S.WorldStore.meaning (λ t. declare_functions (numbers l.functions) l.holder (env_in g.S.WorldStore.meaning l.initial.config t l.frame)) (λ t. declare_functions (numbers (drop l.function-index l.functions)) l.holder (env_in g.S.WorldStore.meaning l.initial.config t l.frame)) l.initial.config l.config;
  later : Later g.S.WorldStore.meaning l.initial.config l.config;
}
