-- What the words ask for.
use Rattle.std.specs.Prelude.{◌≡◌, ◌≢◌, ◌≤◌, ◌^◌, ⊤, ℕ, List, [], Option, Some, None, Result, Ok, Err}
use Rattle.std.specs.Prelude.{IsSome, codes, if◌then◌else◌, option_and_then, option_map, string_bytes}
use Rattle.std.specs.Str.{bytes_eq}
use Rattle.std.specs.Str.Parse.{digits_value, without_leading_plus}
use Rattle.clap.specs.Words.{App, IsUnsignedIn, Row, Text, fault_of, first_of, matches_of, one_of}
use Rattle.wjs_options.specs.Lines.{IsUsageLine}
use Rattle.wjs_options.specs.declared.mode.Mode.{Mode}
use Rattle.wjs_options.specs.declared.mode.Mode.TheVariants.{Run, Check, Tree, Gen, Play, Log, Audit}
use Rattle.wjs_options.specs.declared.answer.Options.{Options}
use Rattle.wjs_options.specs.declared.answer.WordsFault.{WordsFault}
use Rattle.wjs_options.specs.declared.answer.WordsFault.TheVariants.{Usage, OutOfMemory}

-- the mode of this name
abbrev pub mode_named : Text → Option Mode
mode_named name = if bytes_eq name (codes "run") then Some Run
    else (if bytes_eq name (codes "check") then Some Check
    else (if bytes_eq name (codes "tree") then Some Tree
    else (if bytes_eq name (codes "gen") then Some Gen
    else (if bytes_eq name (codes "play") then Some Play
    else (if bytes_eq name (codes "log") then Some Log
    else (if bytes_eq name (codes "audit") then Some Audit else None))))))

-- the number that the digits of a text write
abbrev pub number_of : Text → ℕ
number_of text = digits_value 10 (without_leading_plus text)

-- the options that `clap`'s matches give
pub record Gives (rows : List Row) (options : Options) : Type 0 where
  pub steps : option_map number_of (one_of (codes "steps") rows) ≡ Some options.steps
  pub steps_from : 1 ≤ options.steps
  pub steps_to : options.steps ≤ 10 ^ 12
  pub mode : option_and_then mode_named (first_of (codes "mode") rows) ≡ Some options.mode
  pub number : option_map number_of (one_of (codes "number") rows) ≡ Some options.number
  pub number_from : 1 ≤ options.number
  pub number_to : options.number ≤ 50000
  pub turn : option_map number_of (one_of (codes "turn") rows) ≡ Some options.turn
  pub turn_from : 1 ≤ options.turn
  pub turn_to : options.turn ≤ 10 ^ 6

-- a fault that is the line for a reason that holds, or want of memory
abbrev pub Says : Type 0 → WordsFault → Type 0
Says reason (Usage line) = reason × IsUsageLine (string_bytes line)
Says reason OutOfMemory = ⊤

-- the options where `clap` finds no fault, and else the line for standard error
abbrev pub Answers : App → List Text → Result Options WordsFault → Type 0
Answers app words (Ok options) = (fault_of app words ≡ []) × Gives (matches_of app words) options
Answers app words (Err fault) = Says (fault_of app words ≢ []) fault

-- the matches have a text that passed the parser of each option
abbrev pub HasNumber : List Row → Text → ℕ → Type 0
HasNumber rows id most = (text : Text) × (one_of id rows ≡ Some text) × IsUnsignedIn 1 most text

abbrev pub HasMode : List Row → Type 0
HasMode rows = (text : Text) × (first_of (codes "mode") rows ≡ Some text) × IsSome (mode_named text)

pub record HasOptions (rows : List Row) : Type 0 where
  pub steps : HasNumber rows (codes "steps") (10 ^ 12)
  pub mode : HasMode rows
  pub number : HasNumber rows (codes "number") 50000
  pub turn : HasNumber rows (codes "turn") (10 ^ 6)
