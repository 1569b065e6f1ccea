use Rattle.std.proofs.Common.{List, subst}
use Rattle.std.specs.Prelude.{option_map}
use Rattle.wjs_model.specs.declared.frame.Activation.{Activation as Frame}
use Rattle.wjs_model.specs.Begun.{with_phase}
use Rattle.wjs_model.specs.Frames.{Pops}
use Rattle.wjs_model.specs.Stacks.{all_of}
use Rattle.wjs_model.proofs.frame.Frames.pop.Goals as goal

pub returns : goal.returns
returns c = subst (λ (l : List Frame). Pops l (option_map with_phase c.pop_top.result) (all_of c.pop_top.new.stack)) c.self.view_is c.pop_top.ensures.pops
