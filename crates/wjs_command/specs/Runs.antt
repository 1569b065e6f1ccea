-- What the machine's run of a script owes.
use Rattle.std.specs.Prelude.{◌≡◌, List, [], ℕ, ◌++◌, codes}
use Rattle.wjs_base.specs.Unicode.{utf8_of}
use Rattle.wjs_meaning.specs.Deeds.{St}
use Rattle.wjs_meaning.specs.Programs.{Ending, Done, Threw, StepsSpent, shown_text}
use Rattle.wjs_meaning.specs.Start.{properties}
use Rattle.wjs_start.specs.First.{writes_told}
use Rattle.wjs_logs.specs.Telling.{Tells}
use Rattle.wjs_reports.specs.Lines.{lines_of}
use Rattle.wjs_options.specs.declared.mode.Mode.{Mode}
use Rattle.wjs_options.specs.declared.mode.Mode.TheVariants as modes
use Rattle.wjs_command.specs.declared.status.Status.{Status}
use Rattle.wjs_command.specs.declared.status.Status.TheVariants as statuses
use Rattle.wjs_command.specs.Table.{Told, line}

-- the line that tells of a run's end, in its final state
abbrev pub line_of_end : Ending → St → List ℕ
line_of_end Done st = []
line_of_end (Threw v) st = line (codes "uncaught " ++ utf8_of (shown_text v st))
line_of_end StepsSpent st = line (codes "step budget spent")

abbrev pub status_of_end : Ending → Status
status_of_end Done = statuses.Done
status_of_end (Threw v) = statuses.Threw
status_of_end StepsSpent = statuses.StepsSpent

-- what stands behind a run's output: in mode `tree` a line for each world, and else nothing
abbrev pub behind_output : Mode → St → List ℕ
behind_output modes.Tree st = lines_of st.full
behind_output _ st = []

-- a run's log is written in place of its output: behind the writes of the first slots it tells the run's actions
pub record LogsRun (r : Ending × St) (told : Told) : Type 0 where
  pub log : Tells told.out (writes_told properties ++ (r.1).done)
  pub err : told.err ≡ line_of_end r.0 r.1
  pub status : told.status ≡ status_of_end r.0

abbrev pub told_by_run : Mode → Ending × St → Told
told_by_run mode r = record { out = (r.1).out ++ behind_output mode r.1; err = line_of_end r.0 r.1; status = status_of_end r.0 }
