-- The loop `for`-`in`: the store of a name.
use Rattle.std.proofs.Common.{subst}
use Rattle.std.specs.Prelude.{OnOk}
use Rattle.wjs_base.specs.declared.ids.TextId.{TextId}
use Rattle.wjs_base.specs.Text.{Table}
use Rattle.wjs_by_content.specs.Tables.{text_in}
use Rattle.wjs_by_content.specs.Values.{Text, String}
use Rattle.wjs_store.specs.Meaning.{Meaning}
use Rattle.wjs_meaning.specs.Deeds.{Env, Normal}
use Rattle.wjs_model.specs.declared.config.Config.{Config}
use Rattle.wjs_model.specs.declared.frame.Activation.{Activation as Frame}
use Rattle.wjs_model.specs.declared.frame.Completion.{Completion as Said}
use Rattle.wjs_model.specs.declared.frame.Reference.{Reference as NumberedReference}
use Rattle.wjs_model.specs.Contents.{completion_in, reference_in}
use Rattle.wjs_frames.specs.Doing.{Does}
use Rattle.wjs_frames.specs.Following.{Follows, Later}
use Rattle.wjs_frames.specs.Parts.{env_in}
use Rattle.wjs_frames.proofs.Handling.{env_later}
use Rattle.wjs_effects.specs.Effects.{stored}

module _ {S : Type 0} (meaning : S → Meaning) (f : Frame) where
  -- its text is made, and stored
  pub text_stored : (old mid new : Config S) (name : Table → Text) (id : TextId) (q : NumberedReference) (e : Said) → Later meaning old mid → Does meaning (λ t go. go (name t)) (λ t. text_in t id) old mid
      → Does meaning (λ t. stored (reference_in t q) (String (text_in t id)) (env_in meaning mid t f) Normal) (λ t. completion_in t e) mid new
      → Does meaning (λ t. stored (reference_in t q) (String (name t)) (env_in meaning old t f) Normal) (λ t. completion_in t e) old new
  text_stored old mid new name id q e l spelt does = record {
    by = λ go later r h.
        let t = later.heap.texts in
        spelt.by (λ x. stored (reference_in t q) (String x) (env_in meaning old t f) Normal go) later r
        (subst (λ (env : Env). OnOk r (Follows meaning (stored (reference_in t q) (String (text_in t id)) env Normal go) mid later)) (env_later meaning old mid t f l) (does.by go later r h));
  }
