-- The parts of a run of the program: what it comes to before its line is written on err, and that line.
use Rattle.std.specs.Prelude.{◌≡◌, ◌≢◌, ℕ, List, [], ◌++◌, map as each, codes, Option, None, Some, Result, Ok, Err, ◌⊎◌}
use Rattle.clap.specs.Words.{fault_of}
use Rattle.wjs_base.specs.Text.{Table}
use Rattle.wjs_store.specs.Meaning.{Meaning, worlds}
use Rattle.wjs_io.specs.Streams.{Stream, Failed, Had, Gave, Got, GotPrefix, Stops}
use Rattle.wjs_by_content.specs.Tables.{value_in, arena_in}
use Rattle.wjs_by_content.specs.Worlds.{worlds_in, told_in}
use Rattle.wjs_store.specs.State.{first_world}
use Rattle.wjs_meaning.specs.Deeds.{St}
use Rattle.wjs_meaning.specs.Trees.{Tree}
use Rattle.wjs_meaning.specs.Programs.{Ending, Done, Threw, StepsSpent, machine}
use Rattle.wjs_meaning.specs.Start.{properties}
use Rattle.wjs_model.specs.declared.config.Config.{Config}
use Rattle.wjs_model.specs.declared.loaded.LoadedProgram.{LoadedProgram as Program}
use Rattle.wjs_model.specs.Configurations.{seen, after_done, tells}
use Rattle.wjs_model.specs.Soundness.{Sound, HasValue}
use Rattle.wjs_model.specs.Units.{unit_in}
use Rattle.wjs_load.specs.declared.tokens.LoadFault.{LoadFault}
use Rattle.wjs_load.specs.declared.tokens.LoadFault.TheVariants as faults
use Rattle.wjs_start.specs.First.{writes_told}
use Rattle.wjs_activity.specs.declared.whole.PlayEnd.{PlayEnd}
use Rattle.wjs_activity.specs.declared.whole.PlayEnd.TheVariants as played
use Rattle.wjs_division.specs.declared.input.InputFault.{InputFault}
use Rattle.wjs_division.specs.declared.input.InputFault.TheVariants as inputs
use Rattle.wjs_audit.specs.Deeds.{told_of}
use Rattle.wjs_audit.specs.Recorded.{Recorded}
use Rattle.wjs_audit.specs.declared.fault.AuditFault.{AuditFault}
use Rattle.wjs_audit.specs.declared.fault.AuditFault.TheVariants as audits
use Rattle.wjs_model.specs.declared.halt.Ending.{Ending as Outcome}
use Rattle.wjs_model.specs.declared.halt.Ending.TheVariants as outcomes
use Rattle.wjs_machine.specs.Runs.{run_of}
use Rattle.wjs_options.specs.Command.{command}
use Rattle.wjs_options.specs.declared.mode.Mode.{Mode}
use Rattle.wjs_options.specs.declared.mode.Mode.TheVariants.{Play}
use Rattle.wjs_options.specs.declared.answer.Options.{Options}
use Rattle.wjs_command.specs.declared.status.Status.{Status}
use Rattle.wjs_command.specs.declared.status.Status.TheVariants as statuses
use Rattle.wjs_command.specs.declared.report.Report.{Report}
use Rattle.wjs_command.specs.declared.report.Stop.{Stop}
use Rattle.wjs_command.specs.declared.report.Stop.TheVariants.{ReadFault, OutFault, OutOfMemory}
use Rattle.wjs_command.specs.Table.{Due, Told, line}
use Rattle.wjs_command.specs.Scripts.{IsLibrary}
use Rattle.wjs_command.specs.Runs.{LogsRun, told_by_run}
use Rattle.wjs_command.specs.Refusals.{text_of_refusal}
use Rattle.wjs_command.specs.Plays.{text_of_input, PlayedAlone}
use Rattle.wjs_command.specs.Due.{Asks, IsDue, IsTold, text_of_fault, bytes_for, taken_by}
use Rattle.wjs_command.specs.Command.{GotFront, Faultless}

-- ---- what is owed for a script is delivered

-- the report tells this status and this line
pub record IsReport (status : Status) (text : List ℕ) (report : Report) : Type 0 where
  pub status_is : report.status ≡ status
  pub line_is : report.line.items ≡ text

-- all that is due on out was written, and the rest is reported, or a fault came before
abbrev pub Delivers : Told → Stream → Result Report Stop → Type 0
Delivers told out (Ok report) = Got out told.out × IsReport told.status told.err report
Delivers told out (Err ReadFault) = ⊥
Delivers told out (Err OutFault) = Stops out told.out
Delivers told out (Err OutOfMemory) = GotPrefix out told.out

-- memory ran out before anything was written, or something that is owed was delivered as far as it goes
pub data Comes (Owed : Told → Type 0) (out : Stream) (result : Result Report Stop) : Type 0 where
  nothing : result ≡ Err OutOfMemory → Got out [] → Comes Owed out result
  something : (told : Told) → Owed told → Delivers told out result → Comes Owed out result

-- a play that has come to its end wrote all that was to be written, and one that was stopped a front
abbrev pub ComesAlone : ((List ℕ → Type 0) → Type 0) → Stream → Result Report Stop → Type 0
ComesAlone Alone out (Ok report) = report.status ≡ statuses.Done → Alone (Got out)
ComesAlone Alone out (Err ReadFault) = Unit {0}
ComesAlone Alone out (Err OutFault) = Alone (Stops out)
ComesAlone Alone out (Err OutOfMemory) = Got out [] ⊎ Alone (GotPrefix out)

-- a refusal is reported by this text
abbrev pub Refuses : List ℕ → Result Report Stop → Type 0
Refuses text (Ok report) = IsReport statuses.Refused (line text) report
Refuses text (Err e) = e ≡ OutOfMemory

-- a fault of loading is reported, or memory ran out
abbrev pub RefusesAs : LoadFault → Result Report Stop → Type 0
RefusesAs (faults.Refused refusal) result = Refuses (text_of_refusal refusal) result
RefusesAs faults.OutOfMemory result = result ≡ Err OutOfMemory

-- a fault of a play's input is reported, or memory ran out
abbrev pub RefusesInput : InputFault → Result Report Stop → Type 0
RefusesInput inputs.OutOfMemory result = result ≡ Err OutOfMemory
RefusesInput fault result = Refuses (text_of_input fault) result

-- a fault of a log is reported, or memory ran out
abbrev pub RefusesLog : AuditFault → Result Report Stop → Type 0
RefusesLog audits.OutOfMemory result = result ≡ Err OutOfMemory
RefusesLog fault result = Refuses (text_of_fault fault) result

-- bytes were written, or a fault came before; for want of memory none were
abbrev pub Writes : List ℕ → Stream → Result (Unit {0}) Stop → Type 0
Writes bytes out (Ok done) = Got out bytes
Writes bytes out (Err ReadFault) = ⊥
Writes bytes out (Err OutFault) = Stops out bytes
Writes bytes out (Err OutOfMemory) = Got out []

-- ---- a run

-- how a run ended, by the meaning
abbrev pub MeansEnd : Table → Outcome → Ending → Type 0
MeansEnd t outcomes.Done e = e ≡ Done
MeansEnd t (outcomes.Threw v) e = e ≡ Threw (value_in t v)
MeansEnd t outcomes.StepsSpent e = e ≡ StepsSpent
MeansEnd t outcomes.SinkFailed e = ⊥
MeansEnd t outcomes.OutOfMemory e = ⊥

-- why a run was stopped before its end
abbrev pub stop_in : Outcome → Option Stop
stop_in outcomes.SinkFailed = Some OutFault
stop_in outcomes.OutOfMemory = Some OutOfMemory
stop_in _ = None

module _ {S : Type 0} (meaning : S → Meaning) where
  -- the configuration is the end of this run
  pub record IsEndOf (c : Config S) (ending : Outcome) (r : Ending × St) : Type 0 where
    pub ends : MeansEnd c.heap.texts ending r.0
    pub worlds_are : (r.1).full ≡ worlds_in c.heap.texts (worlds (meaning c.heap.store))
    pub arena_is : (r.1).arena ≡ arena_in c.heap.texts c.heap.arena

  -- what is left to do of the configuration is this run; its actions, where the store tells them, come behind the writes of the first slots
  abbrev pub RunIs : Config S → Ending × St → Type 0
  RunIs c r = run_of meaning c ≡ seen (tells meaning c) (after_done (writes_told properties) r)

  -- the run of the script, behind the library, before its first step
  pub record Begins (texts : Table) (script : Program) (steps : ℕ) (c : Config S) : Type 0 where
    pub library : Option Tree
    pub first : IsLibrary library
    pub run : RunIs c (machine library (unit_in texts script) steps)
    pub sound : Sound meaning c
    pub world : c.world ≡ first_world

-- the value that a run threw is there
abbrev pub HasThrown : {S : Type 0} → Config S → Outcome → Type 0
HasThrown c (outcomes.Threw v) = HasValue c v
HasThrown c _ = Unit {0}

-- what the run of the script owes
pub record IsRunOf (texts : Table) (script : Program) (steps : ℕ) (mode : Mode) (told : Told) : Type 0 where
  pub library : Option Tree
  pub first : IsLibrary library
  pub is : told ≡ told_by_run mode (machine library (unit_in texts script) steps)

-- what a run of the script owes whose log is written
pub record IsLogRun (texts : Table) (script : Program) (steps : ℕ) (told : Told) : Type 0 where
  pub library : Option Tree
  pub first : IsLibrary library
  pub run : LogsRun (machine library (unit_in texts script) steps) told

-- how a play ended is told: its output was written before
abbrev pub TellsPlay : PlayEnd → Result Report Stop → Type 0
TellsPlay (played.Done ends heap) (Ok report) = IsReport statuses.Done [] report
TellsPlay (played.Done ends heap) (Err e) = ⊥
TellsPlay played.StepsSpent (Ok report) = IsReport statuses.StepsSpent (line (codes "step budget spent")) report
TellsPlay played.StepsSpent (Err e) = e ≡ OutOfMemory
TellsPlay played.SinkFailed result = result ≡ Err OutFault
TellsPlay played.OutOfMemory result = result ≡ Err OutOfMemory

-- the store of the configuration has logged the writes of the first slots and then this run's actions
abbrev pub HasLogged : {S : Type 0} → Config (Recorded S) → Ending × St → Type 0
HasLogged c r = each (told_in c.heap.texts) (told_of c.heap.store.log) ≡ writes_told properties ++ (r.1).done

-- ---- words, source and out

-- what was done with what the options ask for
abbrev pub ReachesTold : Options → List ℕ → Stream → Stream → Result Report Stop → Type 0
ReachesTold options bytes source out (Ok report) = (told : Told) × IsTold options (bytes_for options bytes) told × IsReport told.status told.err report × Gave source (taken_by options.mode bytes) × Got out told.out
ReachesTold options bytes source out (Err ReadFault) = Failed source × Got out []
ReachesTold options bytes source out (Err OutFault) = (told : Told) × IsTold options (bytes_for options bytes) told × Stops out told.out
ReachesTold options bytes source out (Err OutOfMemory) = Got out [] ⊎ ((told : Told) × IsTold options (bytes_for options bytes) told × GotPrefix out told.out)

pub record Serves (options : Options) (source out : Stream) (outcome : Result Report Stop) : Type 0 where
  pub bytes : List ℕ
  pub had : Had source bytes
  pub reaches : ReachesTold options bytes source out outcome
  pub alone : options.mode ≡ Play → ComesAlone (PlayedAlone options.steps bytes) out outcome

-- what was done before the line on err
abbrev pub Reaches : List (List ℕ) → List ℕ → Stream → Stream → Result Report Stop → Type 0
Reaches words bytes source out (Ok report) = (due : Due) × IsDue words bytes due × IsReport due.status due.err report × Gave source due.taken × Got out due.out
Reaches words bytes source out (Err ReadFault) = Failed source × Got out []
Reaches words bytes source out (Err OutFault) = (due : Due) × IsDue words bytes due × Stops out due.out
Reaches words bytes source out (Err OutOfMemory) = Got out [] ⊎ GotFront words bytes out

-- the words have a fault exactly where the status is Usage
abbrev pub WordsFit : List (List ℕ) → Status → Type 0
WordsFit words statuses.Usage = fault_of command words ≢ []
WordsFit words _ = Faultless words

-- what the outcome says of the words and of the faults, without the bytes
abbrev pub HasCauses : List (List ℕ) → Stream → Stream → Result Report Stop → Type 0
HasCauses words source out (Ok report) = WordsFit words report.status
HasCauses words source out (Err ReadFault) = Failed source × Faultless words
HasCauses words source out (Err OutFault) = Failed out × Faultless words
HasCauses words source out (Err OutOfMemory) = Unit {0}

pub record Attempts (words : List (List ℕ)) (source out : Stream) (outcome : Result Report Stop) : Type 0 where
  pub bytes : List ℕ
  pub had : Had source bytes
  pub reaches : Reaches words bytes source out outcome
  pub alone : (options : Options) → Asks words options → options.mode ≡ Play → ComesAlone (PlayedAlone options.steps bytes) out outcome
  pub causes : HasCauses words source out outcome

-- ---- the line on err

-- a line was written, or err failed before its end
abbrev pub Reports : Stream → List ℕ → Status → Status → Type 0
Reports err text status result = ((result ≡ status) × Got err text) ⊎ ((result ≡ statuses.ErrFault) × Stops err text)

-- what is written on err, and the status
abbrev pub Finishes : Stream → Result Report Stop → Status → Type 0
Finishes err (Ok report) status = Reports err report.line.items report.status status
Finishes err (Err ReadFault) status = Reports err (line (codes "read failed")) statuses.ReadFault status
Finishes err (Err OutFault) status = (status ≡ statuses.OutFault) × Got err []
Finishes err (Err OutOfMemory) status = (status ≡ statuses.OutOfMemory) × (Got err (line (codes "out of memory")) ⊎ Stops err (line (codes "out of memory")))
