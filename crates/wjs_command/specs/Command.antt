-- What a run of the program ends with, for its words and the bytes of its source.
use Rattle.std.specs.Prelude.{◌≡◌, ◌≢◌, ℕ, List, [], codes, ◌⊎◌}
use Rattle.clap.specs.Words.{fault_of}
use Rattle.wjs_options.specs.Command.{command}
use Rattle.wjs_options.specs.declared.answer.Options.{Options}
use Rattle.wjs_options.specs.declared.mode.Mode.TheVariants.{Play}
use Rattle.wjs_io.specs.Streams.{Stream, Failed, Had, Gave, Got, GotPrefix, GotLess, Stops}
use Rattle.wjs_command.specs.declared.status.Status.{Status}
use Rattle.wjs_command.specs.declared.status.Status.TheVariants.{Done, Threw, StepsSpent, OutOfMemory, Refused, Usage, ReadFault, OutFault, ErrFault}
use Rattle.wjs_command.specs.Table.{Due, line}
use Rattle.wjs_command.specs.Plays.{PlayedAlone}
use Rattle.wjs_command.specs.Due.{Asks, IsDue}

-- ---- the table of endings

-- the status, with all that is due
pub record AsDue (words : List (List ℕ)) (bytes : List ℕ) (source out err : Stream) (status : Status) : Type 0 where
  pub due : Due
  pub is_due : IsDue words bytes due
  pub same : status ≡ due.status
  pub taken : Gave source due.taken
  pub on_out : Got out due.out
  pub on_err : Got err due.err

-- a front of what is due on out was written
pub record GotFront (words : List (List ℕ)) (bytes : List ℕ) (out : Stream) : Type 0 where
  pub due : Due
  pub is_due : IsDue words bytes due
  pub on_out : GotPrefix out due.out

-- memory ran out; the line on err is tried once
pub record RanOut (words : List (List ℕ)) (bytes : List ℕ) (out err : Stream) : Type 0 where
  pub on_out : Got out [] ⊎ GotFront words bytes out
  pub on_err : Got err (line (codes "out of memory")) ⊎ (GotPrefix err (line (codes "out of memory")) × Failed err)

-- the source failed
pub record SourceFailed (source out err : Stream) : Type 0 where
  pub cause : Failed source
  pub on_out : Got out []
  pub on_err : Got err (line (codes "read failed"))

-- out failed before all that is due was written
pub record OutFailed (words : List (List ℕ)) (bytes : List ℕ) (out err : Stream) : Type 0 where
  pub cause : Failed out
  pub due : Due
  pub is_due : IsDue words bytes due
  pub on_out : GotLess out due.out
  pub on_err : Got err []

-- all that is due was written on out, and less on err
pub record GotAllOut (words : List (List ℕ)) (bytes : List ℕ) (out err : Stream) : Type 0 where
  pub due : Due
  pub is_due : IsDue words bytes due
  pub on_out : Got out due.out
  pub on_err : GotLess err due.err

-- the line of a source that failed was not written to its end
pub record GotNoReason (source out err : Stream) : Type 0 where
  pub source_cause : Failed source
  pub on_out : Got out []
  pub on_err : GotLess err (line (codes "read failed"))

-- err failed before its line was written
pub record ErrFailed (words : List (List ℕ)) (bytes : List ℕ) (source out err : Stream) : Type 0 where
  pub cause : Failed err
  pub wrote : GotAllOut words bytes out err ⊎ GotNoReason source out err

-- how a run with this status ended
abbrev pub EndsBy : List (List ℕ) → List ℕ → Stream → Stream → Stream → Status → Type 0
EndsBy words bytes source out err Done = AsDue words bytes source out err Done
EndsBy words bytes source out err Threw = AsDue words bytes source out err Threw
EndsBy words bytes source out err StepsSpent = AsDue words bytes source out err StepsSpent
EndsBy words bytes source out err Refused = AsDue words bytes source out err Refused
EndsBy words bytes source out err Usage = AsDue words bytes source out err Usage
EndsBy words bytes source out err OutOfMemory = RanOut words bytes out err
EndsBy words bytes source out err ReadFault = SourceFailed source out err
EndsBy words bytes source out err OutFault = OutFailed words bytes out err
EndsBy words bytes source out err ErrFault = ErrFailed words bytes source out err

-- what a play that ended so wrote of what its scripts print alone: all of it, or a front
abbrev pub WroteAlone : ℕ → List ℕ → Stream → Status → Type 0
WroteAlone steps bytes out Done = PlayedAlone steps bytes (Got out)
WroteAlone steps bytes out OutFault = PlayedAlone steps bytes (Stops out)
WroteAlone steps bytes out OutOfMemory = Got out [] ⊎ PlayedAlone steps bytes (GotPrefix out)
WroteAlone steps bytes out _ = Unit {0}

-- the bytes are those that the source had, where it tells them, and the run ends for them by the table; a play wrote what its scripts print alone
pub record Ends (words : List (List ℕ)) (source out err : Stream) (status : Status) : Type 0 where
  pub bytes : List ℕ
  pub had : Had source bytes
  pub ends : EndsBy words bytes source out err status
  pub alone : (options : Options) → Asks words options → options.mode ≡ Play → WroteAlone options.steps bytes out status

-- ---- what is said of the causes without the bytes

-- the words have no fault by `clap`'s definitions
abbrev pub Faultless : List (List ℕ) → Type 0
Faultless words = fault_of command words ≡ []

-- Usage comes only for words with a fault, and a fault of a stream only where its count of faults rose
abbrev pub Causes : List (List ℕ) → Stream → Stream → Stream → Status → Type 0
Causes words source out err Usage = fault_of command words ≢ []
Causes words source out err ReadFault = Failed source × Faultless words
Causes words source out err OutFault = Failed out × Faultless words
Causes words source out err ErrFault = Failed err
Causes words source out err OutOfMemory = Unit {0}
Causes words source out err _ = Faultless words

-- ---- completeness

-- where no count of faults rose, a run ends with all that is due, or memory ran out
abbrev pub IsComplete : List (List ℕ) → List ℕ → Stream → Stream → Stream → Status → Type 0
IsComplete words bytes source out err status = (Failed source → ⊥) → (Failed out → ⊥) → (Failed err → ⊥) → (status ≡ OutOfMemory) ⊎ AsDue words bytes source out err status
