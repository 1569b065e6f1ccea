use Rattle.std.proofs.Common.{ap, ◌∙◌, subst}
use Rattle.wjs_base.specs.declared.values.Name.{Name}
use Rattle.wjs_by_content.specs.Names.{length_name}
use Rattle.wjs_by_content.specs.Tables.{name_in}
use Rattle.wjs_by_content.specs.Values.{same_text}
use Rattle.wjs_model.specs.Soundness.{HasName}
use Rattle.wjs_heap_steps.proofs.Spelling.{index_not_length}
use Rattle.wjs_effects.proofs.deletes.is_length.Goals as goal

pub returns-in-Index : goal.returns-in-Index
returns-in-Index g c = λ t more. ap (λ (n : Name). same_text (name_in t n) length_name) c.in-Index.is ∙ index_not_length _ (subst (HasName c.args.config.now) c.in-Index.is c.requires)
