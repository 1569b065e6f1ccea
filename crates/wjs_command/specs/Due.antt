-- What a run of the program owes for its words and the bytes of its source.
use Rattle.std.specs.Prelude.{◌≡◌, ◌≢◌, ℕ, ◌+◌, ◌<◌, ◌≤◌, List, [], ◌++◌, length, take, codes, Option}
use Rattle.std.specs.Fmt.{decimal}
use Rattle.clap.specs.Words.{fault_of, matches_of}
use Rattle.wjs_options.specs.Command.{command}
use Rattle.wjs_options.specs.Lines.{IsUsageLine}
use Rattle.wjs_options.specs.Options.{Gives}
use Rattle.wjs_options.specs.declared.answer.Options.{Options}
use Rattle.wjs_options.specs.declared.mode.Mode.{Mode}
use Rattle.wjs_options.specs.declared.mode.Mode.TheVariants as modes
use Rattle.wjs_load.specs.declared.tokens.Refusal.{Refusal}
use Rattle.wjs_load.specs.Loading.{Refuses}
use Rattle.wjs_gen.specs.Script.{script}
use Rattle.wjs_audit.specs.declared.fault.AuditFault.{AuditFault}
use Rattle.wjs_audit.specs.declared.fault.AuditFault.TheVariants.{NotALog, NotTheAnswer, OutOfMemory}
use Rattle.wjs_logs.specs.Judging.{HasFault, IsRight}
use Rattle.wjs_logs.specs.Telling.{Tells}
use Rattle.wjs_by_content.specs.Plans.{Told as Deed}
use Rattle.wjs_meaning.specs.Trees.{Tree}
use Rattle.wjs_meaning.specs.Programs.{machine}
use Rattle.wjs_command.specs.declared.status.Status.TheVariants.{Done, Usage}
use Rattle.wjs_command.specs.Table.{Due, Told, line}
use Rattle.wjs_command.specs.Refusals.{refused, text_of_refusal}
use Rattle.wjs_command.specs.Plays.{OfPlay}
use Rattle.wjs_programs.specs.Programs.{IsProgram}
use Rattle.wjs_command.specs.Scripts.{IsLibrary}
use Rattle.wjs_command.specs.Runs.{LogsRun, told_by_run}

-- the most bytes that are read: those of a script, or in mode `audit` those of a log
abbrev pub most_of : Mode → ℕ
most_of modes.Audit = 67108864
most_of _ = 16777216

-- ---- what is owed for the bytes

-- there are too many bytes
pub record IsTooLong (mode : Mode) (bytes : List ℕ) (told : Told) : Type 0 where
  pub more : most_of mode < length bytes
  pub is : told ≡ refused (codes "too long")

-- the bytes are no script, for this reason
pub record IsRefused (bytes : List ℕ) (told : Told) : Type 0 where
  pub refusal : Refusal
  pub why : Refuses bytes refusal
  pub is : told ≡ refused (text_of_refusal refusal)

-- they are the script of this tree, for which this is owed
pub record IsRead (Owed : Tree → Told → Type 0) (bytes : List ℕ) (told : Told) : Type 0 where
  pub tree : Tree
  pub spelled : IsProgram bytes tree
  pub owed : Owed tree told

-- what is owed for a script's bytes, by what is owed for its tree
pub data OfScript (Owed : Tree → Told → Type 0) (bytes : List ℕ) (told : Told) : Type 0 where
  refuses : IsRefused bytes told → OfScript Owed bytes told
  reads : IsRead Owed bytes told → OfScript Owed bytes told

-- a script that is only read is run by no machine
abbrev pub IsChecked : Tree → Told → Type 0
IsChecked tree told = told ≡ record { out = line (codes "ok"); err = []; status = Done }

-- one that is run stands behind the library, with so many steps
pub record IsRun (mode : Mode) (steps : ℕ) (tree : Tree) (told : Told) : Type 0 where
  pub library : Option Tree
  pub first : IsLibrary library
  pub is : told ≡ told_by_run mode (machine library tree steps)

-- or its log is written
pub record IsLogged (steps : ℕ) (tree : Tree) (told : Told) : Type 0 where
  pub library : Option Tree
  pub first : IsLibrary library
  pub run : LogsRun (machine library tree steps) told

-- why a log is refused, in words
abbrev pub text_of_fault : AuditFault → List ℕ
text_of_fault (NotALog n) = codes "line " ++ decimal n ++ codes ": not a log line"
text_of_fault (NotTheAnswer n) = codes "line " ++ decimal n ++ codes ": not the machine's answer"
text_of_fault OutOfMemory = codes "out of memory"

-- the bytes are no log, or one with a wrong answer
pub record IsBlamed (bytes : List ℕ) (told : Told) : Type 0 where
  pub fault : AuditFault
  pub why : HasFault bytes fault
  pub is : told ≡ refused (text_of_fault fault)

-- they are a log whose answers are right
pub record IsAgreed (bytes : List ℕ) (told : Told) : Type 0 where
  pub right : IsRight bytes
  pub is : told ≡ record { out = line (codes "yes"); err = []; status = Done }

-- what is owed for the bytes of a log
pub data OfLog (bytes : List ℕ) (told : Told) : Type 0 where
  blames : IsBlamed bytes told → OfLog bytes told
  agrees : IsAgreed bytes told → OfLog bytes told

-- what is owed in a mode, with so many steps and turns of so many, for bytes that aren't too many
abbrev pub owed_in : Mode → ℕ → ℕ → List ℕ → Told → Type 0
owed_in modes.Check steps turn bytes told = OfScript IsChecked bytes told
owed_in modes.Play steps turn bytes told = OfPlay steps turn bytes told
owed_in modes.Log steps turn bytes told = OfScript (IsLogged steps) bytes told
owed_in modes.Audit steps turn bytes told = OfLog bytes told
owed_in mode steps turn bytes told = OfScript (IsRun mode steps) bytes told

pub record IsServed (options : Options) (bytes : List ℕ) (told : Told) : Type 0 where
  pub within : length bytes ≤ most_of options.mode
  pub owed : owed_in options.mode options.steps options.turn bytes told

-- what is owed for the bytes
pub data IsTold (options : Options) (bytes : List ℕ) (told : Told) : Type 0 where
  too_long : IsTooLong options.mode bytes told → IsTold options bytes told
  served : IsServed options bytes told → IsTold options bytes told

-- ---- what is owed for the words and the source's bytes

-- the words ask for this by `clap`'s definitions
pub record Asks (words : List (List ℕ)) (options : Options) : Type 0 where
  pub faultless : fault_of command words ≡ []
  pub gives : Gives (matches_of command words) options

-- the bytes that are served: in mode `gen` a script is generated, and the source isn't read
abbrev pub bytes_by : Mode → ℕ → List ℕ → List ℕ
bytes_by modes.Gen number bytes = script number
bytes_by _ number bytes = bytes

abbrev pub bytes_for : Options → List ℕ → List ℕ
bytes_for options bytes = bytes_by options.mode options.number bytes

-- what is taken from the source: all, but no more than one byte past the most
abbrev pub taken_by : Mode → List ℕ → List ℕ
taken_by modes.Gen bytes = []
taken_by mode bytes = take (most_of mode + 1) bytes

-- words with a fault by `clap`'s definitions; nothing is read
pub record IsUsage (words : List (List ℕ)) (due : Due) : Type 0 where
  pub fault : fault_of command words ≢ []
  pub said : IsUsageLine due.err
  pub is : due ≡ record { taken = []; out = []; err = due.err; status = Usage }

-- words that ask for something
pub record IsAsked (words : List (List ℕ)) (bytes : List ℕ) (due : Due) : Type 0 where
  pub options : Options
  pub asks : Asks words options
  pub told : Told
  pub is_told : IsTold options (bytes_for options bytes) told
  pub is : due ≡ record { taken = taken_by options.mode bytes; out = told.out; err = told.err; status = told.status }

pub data IsDue (words : List (List ℕ)) (bytes : List ℕ) (due : Due) : Type 0 where
  usage : IsUsage words due → IsDue words bytes due
  asked : IsAsked words bytes due → IsDue words bytes due

-- ---- one thing is due

-- the same bytes, or logs of the same actions with the same answers by content
pub data SameLog (one other : List ℕ) : Type 0 where
  same_bytes : other ≡ one → SameLog one other
  same_told : (told : List Deed) → Tells one told → Tells other told → SameLog one other

-- the words ask for another mode than `log`
abbrev pub AskNoLog : List (List ℕ) → Type 0
AskNoLog words = (options : Options) → Asks words options → options.mode ≢ modes.Log

-- for words without a fault at most one thing is due, in each mode but `log`
abbrev pub OneDue : Type 0
OneDue = (words : List (List ℕ)) (bytes : List ℕ) (d e : Due) → IsDue words bytes d → IsDue words bytes e → fault_of command words ≡ [] → AskNoLog words → e ≡ d

-- in mode `log` too, up to the log, which tells one list
abbrev pub OneLog : Type 0
OneLog = (words : List (List ℕ)) (bytes : List ℕ) (d e : Due) →
    IsDue words bytes d → IsDue words bytes e → fault_of command words ≡ [] → (e ≡ record d { out = e.out }) × SameLog d.out e.out

-- for words with a fault all but the text behind `usage: ` is one
abbrev pub OneUsage : Type 0
OneUsage = (words : List (List ℕ)) (bytes : List ℕ) (d e : Due) → IsDue words bytes d → IsDue words bytes e → fault_of command words ≢ [] → (e ≡ record d { err = e.err }) × IsUsageLine d.err × IsUsageLine e.err
