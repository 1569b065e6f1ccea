-- Laws of what is left to do.
use Rattle.std.specs.Prelude.{◌≡◌, ℕ, List, [], ◌∷◌, ◌++◌, Option, None, Some}
use Rattle.wjs_by_content.specs.Values.{Object}
use Rattle.wjs_store.specs.State.{first_world}
use Rattle.wjs_meaning.specs.Builtins.{global_object}
use Rattle.wjs_meaning.specs.Trees.{Tree}
use Rattle.wjs_meaning.specs.Deeds.{St, Completion, Ret}
use Rattle.wjs_meaning.specs.Programs.{declared_names, machine}
use Rattle.wjs_meaning.specs.Start.{start}
use Rattle.wjs_model.specs.declared.point.Start.TheVariants as starts
use Rattle.wjs_model.specs.declared.point.CallPoint.TheVariants as call
use Rattle.wjs_model.specs.declared.point.Point.TheVariants as points
use Rattle.wjs_model.specs.Contents.{Frame, nothing, Moment, Due, Waiting, Run}
use Rattle.wjs_model.specs.Rest.{resumed, rest_of, rest_over, rest_top}

-- the programs of a run from the start
abbrev pub run_of : List Tree → Run
run_of trees = record { trees = trees; global = global_object; owner = 0 }

-- the body of the program of a number, which begins or waits for the one before it
abbrev pub program_frame : ℕ → ℕ → Moment → Frame
program_frame tree body moment = record { tree = tree; node = body; moment = moment; scope = global_object; this = Object global_object; world = first_world; held = nothing }

-- the frames of a run at its start: the library's body above the script's
abbrev pub first_frames : Option Tree → Tree → List Frame
first_frames None script = program_frame 0 script.body (Due starts.Program) ∷ []
first_frames (Some library) script = program_frame 1 script.body (Waiting (points.Call call.NextProgram)) ∷ program_frame 0 library.body (Due starts.Program) ∷ []

abbrev pub trees_of : Option Tree → Tree → List Tree
trees_of None script = script ∷ []
trees_of (Some library) script = library ∷ script ∷ []

-- the names that the script declares
abbrev pub script_names : Option Tree → Tree → List (List ℕ)
script_names None script = declared_names (script ∷ []) 0
script_names (Some library) script = declared_names (library ∷ script ∷ []) 1

-- what is left at the start is the whole run
abbrev pub StartIsTheRun : Type 0
StartIsTheRun = (library : Option Tree) (script : Tree) (budget : ℕ) → rest_of (run_of (trees_of library script)) (first_frames library script) (start (script_names library script)) budget ≡ machine library script budget

-- a frame that was given a completion goes on as the frames below an end with that completion
abbrev pub EndsGoDown : Type 0
EndsGoDown = (run : Run) (fs : List Frame) (f : Frame) (c : Completion) (st : St) (n : ℕ) → rest_top run fs (Some (record f { moment = resumed f.moment c })) st n ≡ rest_over run (Ret c) (fs ++ f ∷ []) st n
