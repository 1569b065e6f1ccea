-- Laws of the meaning.
use Rattle.std.specs.Prelude.{◌≡◌, ℕ, ◌+◌, ◌≤◌, List, ◌++◌, Option}
use Rattle.wjs_meaning.specs.Trees.{Tree}
use Rattle.wjs_meaning.specs.Deeds.{St, Env, Goal, Tick, Outcome, Ends, Spent, interp}
use Rattle.wjs_meaning.specs.Programs.{entry, eval_to, eval, Ending, StepsSpent, machine}

-- at the end no more steps are left than so many
abbrev pub Within : Outcome → ℕ → Type 0
Within (Ends c st left) n = left ≤ n
Within (Spent st) n = Unit {0}

-- no goal gives steps back
abbrev pub StepsNeverRise : Type 0
StepsNeverRise = (goal : Goal) (env : Env) (st : St) (n : ℕ) → Within (eval goal env st n) n

-- a depth of as many as the steps is enough
abbrev pub DepthIsEnough : Type 0
DepthIsEnough = (depth : ℕ) (goal : Goal) (env : Env) (st : St) (n : ℕ) → n ≤ depth → eval_to depth goal env st n ≡ eval goal env st n

-- a goal takes one step, and then does what its form says
abbrev pub GoalsAreTheirEntries : Type 0
GoalsAreTheirEntries = (goal : Goal) (env : Env) (st : St) (n : ℕ) → eval goal env st n ≡ interp eval (Tick (entry goal env)) st n

-- what a run with more steps comes to: its output begins with that of the shorter run, and where that did not end for want of steps, it ended in the same way and state
pub record Outlasts (shorter longer : Ending × St) : Type 0 where
  pub output : (later : List ℕ) × ((longer.1).out ≡ (shorter.1).out ++ later)
  pub ending : ¬ (shorter.0 ≡ StepsSpent) → longer ≡ shorter

-- of any two trees, with any two budgets
abbrev pub BudgetLaw : Type 0
BudgetLaw = (library : Option Tree) (script : Tree) (budget more : ℕ) → Outlasts (machine library script budget) (machine library script (budget + more))
