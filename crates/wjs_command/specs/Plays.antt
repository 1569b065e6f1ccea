-- What a play of the scripts that bytes are divided into owes.
use Rattle.std.specs.Prelude.{◌≡◌, ℕ, List, [], Option, None, Some, codes}
use Rattle.wjs_meaning.specs.Trees.{Tree}
use Rattle.wjs_alone.specs.Serial.{End, Serial, due}
use Rattle.wjs_alone.specs.Playing.{Play, play, bytes_of}
use Rattle.wjs_division.specs.declared.input.InputFault.{InputFault}
use Rattle.wjs_division.specs.declared.input.InputFault.TheVariants as inputs
use Rattle.wjs_division.specs.Inputs.{HasFault, IsInput}
use Rattle.wjs_command.specs.declared.status.Status.TheVariants as statuses
use Rattle.wjs_command.specs.Table.{Told, line}
use Rattle.wjs_command.specs.Scripts.{IsLibrary}
use Rattle.wjs_command.specs.Refusals.{refused, text_of_refusal}

-- why bytes are no input of a play, in words
abbrev pub text_of_input : InputFault → List ℕ
text_of_input inputs.NotUtf8 = codes "not UTF-8"
text_of_input inputs.TooMany = codes "too many activities"
text_of_input (inputs.Refused refusal) = text_of_refusal refusal
text_of_input inputs.OutOfMemory = codes "out of memory"

-- the bytes are no input of a play, for this reason
pub record IsNoPlay (bytes : List ℕ) (told : Told) : Type 0 where
  pub fault : InputFault
  pub why : HasFault bytes fault
  pub is : told ≡ refused (text_of_input fault)

-- a play's bytes; or, where the library needs more steps than there are, and the play is over before its first part begins, a line
abbrev pub told_by_play : Option Tree → List Tree → ℕ → Option Play → Told
told_by_play library parts steps None = record { out = []; err = line (codes "step budget spent"); status = statuses.StepsSpent }
told_by_play library parts steps (Some played) = record { out = bytes_of library parts steps played; err = []; status = statuses.Done }

-- the parts are played behind the library: in rounds, in which each that has not ended takes a turn of so many steps
pub record IsPlayed (steps turn : ℕ) (parts : List Tree) (told : Told) : Type 0 where
  pub library : Option Tree
  pub first : IsLibrary library
  pub is : told ≡ told_by_play library parts steps (play library parts steps [] turn)

-- the bytes are divided into the scripts of these trees, which are played
pub record IsDivided (steps turn : ℕ) (bytes : List ℕ) (told : Told) : Type 0 where
  pub parts : List Tree
  pub input : IsInput bytes parts
  pub owed : IsPlayed steps turn parts told

-- what is owed for the bytes of a play
pub data OfPlay (steps turn : ℕ) (bytes : List ℕ) (told : Told) : Type 0 where
  refuses : IsNoPlay bytes told → OfPlay steps turn bytes told
  divides : IsDivided steps turn bytes told → OfPlay steps turn bytes told

-- ---- the same by parts that run alone

-- behind the library each part has run alone, one after another in the order of some ends: this was written of what is due for these, the output of those
-- that ended normally and a line for each
pub record RanAlone (steps : ℕ) (parts : List Tree) (Wrote : List ℕ → Type 0) : Type 0 where
  pub library : Option Tree
  pub first : IsLibrary library
  pub ends : List End
  pub serial : Serial library parts steps ends
  pub wrote : Wrote (due library parts steps ends)

-- so have the scripts that the bytes are divided into
pub record PlayedAlone (steps : ℕ) (bytes : List ℕ) (Wrote : List ℕ → Type 0) : Type 0 where
  pub parts : List Tree
  pub input : IsInput bytes parts
  pub alone : RanAlone steps parts Wrote
