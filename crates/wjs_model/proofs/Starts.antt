-- The start of a run, and the end of a frame.
use Rattle.std.proofs.Common.{◌≡◌, ℕ, List, [], ◌∷◌, ◌++◌, None, Some, refl, sym, ap, ◌∙◌}
use Rattle.wjs_meaning.specs.Trees.{Tree}
use Rattle.wjs_meaning.specs.Deeds.{St, AtProgram, Completion, Gives, Refers, Normal, Breaks, Continues, Returns, Throws, Ret, Tick, Eval, Outcome, Ends, Spent, interp, then_do}
use Rattle.wjs_meaning.specs.Programs.{eval, Ending, Done, program_env, run_next}
use Rattle.wjs_meaning.specs.Functions.{program_of}
use Rattle.wjs_meaning.specs.Start.{start}
use Rattle.wjs_meaning.proofs.Steps.{entries_lem}
use Rattle.wjs_model.specs.Contents.{Frame, Moment, Due, Ready, Waiting, Given, Entering, Run}
use Rattle.wjs_model.specs.Waiting.{next_program}
use Rattle.wjs_model.specs.Rest.{Go, act_at, resumed, act_after, under, rest_over}
use Rattle.wjs_model.specs.Laws.{script_names, StartIsTheRun, EndsGoDown}

-- what follows nothing changes nothing
pub then_ends : (o : Outcome) → then_do o Ends ≡ o
then_ends (Ends c st n) = refl
then_ends (Spent st) = refl

-- the body of a program that begins
begins : (trees : List Tree) (k : ℕ) (go : Go) (st : St) (n : ℕ)
    → then_do (interp eval (Tick (program_of (program_env trees k))) st n) go ≡ then_do (eval AtProgram (program_env trees k) st n) go
begins trees k go st n = ap (λ o. then_do o go) (sym (entries_lem AtProgram (program_env trees k) st n))

-- the run of one program
last_program : (o : Outcome) → run_next (then_do o Ends) (λ st' n'. (Done, st')) ≡ run_next o (λ st' n'. (Done, st'))
last_program o = ap (λ o'. run_next o' (λ st' n'. (Done, st'))) (then_ends o)

-- ---- a program that waited

-- goes on after the library
goes_on : List Tree → Go
goes_on trees c st n = then_do (interp eval (next_program (program_env trees 1) c) st n) Ends

-- the script's run
script_run : List Tree → St → ℕ → Ending × St
script_run trees st n = run_next (eval AtProgram (program_env trees 1) st n) (λ st' n'. (Done, st'))

ret_all : (o : Outcome) → then_do (then_do o (λ c st n. interp eval (Ret c) st n)) Ends ≡ o
ret_all (Ends c st n) = refl
ret_all (Spent st) = refl

runs_on : (trees : List Tree) (st : St) (n : ℕ)
    → run_next (then_do (interp eval (Eval AtProgram (program_env trees 1) Ret) st n) Ends) (λ st' n'. (Done, st')) ≡ script_run trees st n
unfolding script_run
runs_on trees st n = ap (λ o. run_next o (λ st' n'. (Done, st'))) (ret_all (eval AtProgram (program_env trees 1) st n))

after_library : (trees : List Tree) (o : Outcome)
    → run_next (then_do o (λ c st n. then_do (interp eval (next_program (program_env trees 1) c) st n) Ends)) (λ st' n'. (Done, st')) ≡ run_next o (script_run trees)
unfolding script_run
after_library trees (Spent st) = refl
after_library trees (Ends (Throws v) st n) = refl
after_library trees (Ends (Gives v) st n) = runs_on trees st n
after_library trees (Ends (Refers r) st n) = runs_on trees st n
after_library trees (Ends Normal st n) = runs_on trees st n
after_library trees (Ends (Breaks label) st n) = runs_on trees st n
after_library trees (Ends (Continues label) st n) = runs_on trees st n
after_library trees (Ends (Returns v) st n) = runs_on trees st n

pub start_lem : StartIsTheRun
unfolding goes_on script_run
start_lem None script budget =
    let trees = script ∷ [] in
    let st = start (script_names None script) in
    ap (λ o. run_next o (λ st' n'. (Done, st'))) (begins trees 0 Ends st budget)
    ∙ last_program (eval AtProgram (program_env trees 0) st budget)
start_lem (Some library) script budget =
    let trees = library ∷ script ∷ [] in
    let st = start (script_names (Some library) script) in
    ap (λ o. run_next o (λ st' n'. (Done, st'))) (begins trees 0 (goes_on trees) st budget)
    ∙ after_library trees (eval AtProgram (program_env trees 0) st budget)

-- ---- the end of a frame

under_snoc : (run : Run) (fs : List Frame) (f : Frame) (go : Go) (c : Completion) (st : St) (n : ℕ)
    → under run (fs ++ f ∷ []) go c st n ≡ then_do (interp eval (act_after run f c) st n) (under run fs go)
under_snoc run [] f go c st n = refl
under_snoc run (g ∷ fs) f go c st n = under_snoc run fs f _ c st n

-- what a frame does next is told by its moment alone
pub act_alike : (run : Run) (f : Frame) (was moment : Moment) → act_at run (record f { moment = was }) moment ≡ act_at run f moment
act_alike run f was (Due start) = refl
act_alike run f was (Ready start) = refl
act_alike run f was (Waiting point) = refl
act_alike run f was (Given point c) = refl
act_alike run f was (Entering point o) = refl

pub ends_lem : EndsGoDown
ends_lem run fs f c st n =
    let next = resumed f.moment c in
    ap (λ act. rest_over run act fs st n) (act_alike run f next next)
    ∙ sym (under_snoc run fs f Ends c st n)
