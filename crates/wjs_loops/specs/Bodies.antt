-- How a loop goes on after its body.
use Rattle.wjs_base.specs.Text.{Table}
use Rattle.wjs_meaning.specs.Deeds.{Act, Ret}
use Rattle.wjs_model.specs.declared.config.Config.{Config}
use Rattle.wjs_model.specs.Contents.{completion_in}
use Rattle.wjs_model.specs.Soundness.{HasCompletion}
use Rattle.wjs_loops.specs.declared.bodies.AfterBody.{AfterBody}
use Rattle.wjs_loops.specs.declared.bodies.AfterBody.TheVariants.{Again, Ends}

-- once more, or the end
abbrev pub goes_on : Table → AfterBody → Act → Act
goes_on t Again again = again
goes_on t (Ends c) again = Ret (completion_in t c)

-- what it ends with is there
abbrev pub Leaves : {S : Type 0} → Config S → AfterBody → Type 0
Leaves config Again = Unit {0}
Leaves config (Ends c) = HasCompletion config c
