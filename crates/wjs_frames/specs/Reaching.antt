-- Turns one after another, under the store's own view.
use Rattle.std.specs.Prelude.{◌≡◌, ℕ, ◌<◌, ◌⊎◌, IsTrue}
use Rattle.wjs_store.specs.Meaning.{Meaning}
use Rattle.wjs_model.specs.declared.config.Config.{Config}
use Rattle.wjs_model.specs.declared.config.State.TheVariants as states
use Rattle.wjs_model.specs.Soundness.{Sound}
use Rattle.wjs_model.specs.Outside.{Outside, alone}
use Rattle.wjs_model.specs.Configurations.{rest, turns, Stays, Turned}

module _ {S : Type 0} (meaning : S → Meaning) where
  -- the store's own view, no further objects, and the configuration's texts
  abbrev pub own_view : Config S → Outside
  own_view c = alone (meaning c.heap.store).own c.heap.texts

  abbrev pub AdmitsOwn : Config S → Type 0
  AdmitsOwn c = IsTrue ((meaning c.heap.store).admits (meaning c.heap.store).own)

  -- what was left to do with the steps that were left is what is left with those that are
  pub record Reaches (old new : Config S) : Type 0 where
    pub stays : Stays meaning old new
    pub kept : let t = new.heap.texts in let v = own_view new in rest meaning t v old old.left ≡ rest meaning t v new new.left

  -- the turns before the next step that is due, under the configuration's own texts
  abbrev pub turns_now : Config S → ℕ
  turns_now c = turns meaning c.heap.texts (own_view c) c

  -- steps are taken, or there are fewer turns before the next one, or the run has ended
  abbrev pub Falls : Config S → Config S → Type 0
  Falls old new = (new.left < old.left) ⊎ (((new.left ≡ old.left) × (turns_now new < turns_now old)) ⊎ ¬ (new.state ≡ states.Running))

  -- ---- laws

  -- a turn reaches what it leaves, and takes less than for ever
  abbrev pub TurnsReach : Type 0
  TurnsReach = (old new : Config S) → Sound meaning old → AdmitsOwn new → Turned meaning old new → Reaches old new × Falls old new

  -- what is reached from what was reached is reached
  abbrev pub ReachedIsReached : Type 0
  ReachedIsReached = (old mid new : Config S) → Sound meaning old → Sound meaning mid → Reaches old mid → Reaches mid new → Reaches old new
