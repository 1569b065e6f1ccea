-- What a move keeps of the deeds that are left to do above the frames of a configuration.
use Rattle.std.specs.Prelude.{◌≡◌, ℕ, suc, ◌+◌, ◌<◌, ◌≤◌, List}
use Rattle.wjs_base.specs.Text.{Table}
use Rattle.wjs_store.specs.Meaning.{Meaning}
use Rattle.wjs_meaning.specs.Deeds.{St, Completion, Act, Sub}
use Rattle.wjs_meaning.specs.Programs.{Ending, Done, StepsSpent, run_next}
use Rattle.wjs_model.specs.declared.config.Config.{Config}
use Rattle.wjs_model.specs.declared.config.State.TheVariants as states
use Rattle.wjs_model.specs.Contents.{Frame, Run}
use Rattle.wjs_model.specs.Rest.{rest_over, turns_over}
use Rattle.wjs_model.specs.Outside.{Outside, Admits, Knows}
use Rattle.wjs_model.specs.Configurations.{seen, tells, run_in, state_in, frames_in, rest, turns, Stays, StaysKnown}

-- the end of a run that does these deeds and then what the frames do
abbrev pub rest_with : Run → Act → List Frame → St → ℕ → Ending × St
rest_with run act fs st n = run_next (rest_over run act fs st n) (λ st' n'. (Done, st'))

module _ {S : Type 0} (meaning : S → Meaning) where
  -- under a table, and under whatever stands outside that is admitted afterwards and whose table knew the worlds: the deeds above the old frames are what the new configuration goes on with, once so many steps of those that were left are taken. Where none is, it takes fewer turns than the frame that does the deeds, by so many
  pub record Keeps (t : Table) (by : ℕ) (act : Act) (old new : Config S) : Type 0 where
    pub stays : Stays meaning old new
    pub cost : ℕ
    pub left : old.left ≡ cost + new.left
    pub alive : ¬ (new.state ≡ states.StepsSpent)
    pub kept : (v : Outside) → Admits meaning new v → Knows meaning old v → (n : ℕ)
        → seen (tells meaning old) (rest_with (run_in meaning t old) act (frames_in meaning t old) (state_in meaning t v old) (cost + n)) ≡ rest meaning t v new n
    -- with fewer steps left the deeds would have been at their end
    pub paid : (v : Outside) → Admits meaning new v → Knows meaning old v → (m : ℕ) → m < cost
        → (rest_with (run_in meaning t old) act (frames_in meaning t old) (state_in meaning t v old) m).0 ≡ StepsSpent
    pub knows : StaysKnown meaning old new
    pub falls : cost ≡ 0 → (v : Outside) → Admits meaning new v → Knows meaning old v
        → turns meaning t v new + by ≤ suc (turns_over (run_in meaning t old) act (frames_in meaning t old) (state_in meaning t v old))

  -- what is kept of nested deeds above the middle one's frames is kept of them, with what follows them, above the old one's
  pub record Opens (t : Table) (go : Completion → Act) (old mid : Config S) : Type 0 where
    pub by : (act : Act) (later : Config S) → Keeps t 0 act mid later → Keeps t 1 (Sub act go) old later
