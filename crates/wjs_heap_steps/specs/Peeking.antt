-- Deeds that find something and change nothing.
use Rattle.std.specs.Prelude.{ℕ}
use Rattle.wjs_base.specs.Text.{Table}
use Rattle.wjs_store.specs.Meaning.{Meaning}
use Rattle.wjs_meaning.specs.Deeds.{Act}
use Rattle.wjs_model.specs.declared.config.Config.{Config}
use Rattle.wjs_frames.specs.Doing.{Does}

module _ {S : Type 0} (meaning : S → Meaning) where
  -- however many steps are left, they give this answer and leave the configuration as it is
  abbrev pub Peeks : {A : Type 0} → (Table → (A → Act) → Act) → (Table → A) → Config S → Type 0
  Peeks deeds answer c = (left : ℕ) → Does meaning deeds answer (record c { left = left }) (record c { left = left })
