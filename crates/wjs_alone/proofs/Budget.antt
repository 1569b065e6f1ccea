-- With more steps a part that had enough ends as it did.
use Rattle.std.proofs.Common.{◌≡◌, ℕ, zero, suc, ◌+◌, ◌≤◌, ◌⊎◌, List, inl, inr, refl, sym, ap, ◌∙◌, subst, arith}
use Rattle.wjs_meaning.specs.Trees.{Tree}
use Rattle.wjs_meaning.specs.Deeds.{St, Env, Goal, AtProgram, Completion, Gives, Refers, Normal, Breaks, Continues, Returns, Throws, Act, Ret, Tick, Eval, Sub, Do, answer_of, state_after, Outcome, Ends, Spent, Next, interp, then_do}
use Rattle.wjs_meaning.specs.Laws.{Within}
use Rattle.wjs_meaning.specs.Programs.{entry, eval_to, eval, Done, StepsSpent, env_of_program, run_next}
use Rattle.wjs_meaning.proofs.Steps.{within_interp, within_eval_to, entries_lem}
use Rattle.wjs_meaning.specs.Builtins.{global_object}
use Rattle.wjs_by_content.specs.Objects.{Arena}
use Rattle.wjs_alone.specs.Alone.{Copy, world_of, before, alone}
use Rattle.wjs_alone.specs.Laws.{OneEnding}

-- where one ends, the other ends so too, with so many steps more left
Ended : Outcome → Outcome → ℕ → Type 0
Ended (Ends c st m) two more = two ≡ Ends c st (m + more)
Ended (Spent st) two more = Unit {0}

ended_then : (one two : Outcome) (n more : ℕ) (go1 go2 : Completion → St → ℕ → Outcome) → Within one n → Ended one two more → ((c : Completion) (st : St) (m : ℕ) → m ≤ n → Ended (go1 c st m) (go2 c st (m + more)) more) → Ended (then_do one go1) (then_do two go2) more
unfolding Ended
ended_then (Ends c st m) two n more go1 go2 w e each = subst (λ o. Ended (go1 c st m) (then_do o go2) more) (sym e) (each c st m w)
ended_then (Spent st) two n more go1 go2 w e each = tt

ended_interp : (one two : Next) (most more : ℕ) → ((goal : Goal) (env : Env) (st : St) (n : ℕ) → n ≤ most → Ended (one goal env st n) (two goal env st (n + more)) more) → ((goal : Goal) (env : Env) (st : St) (n : ℕ) → Within (one goal env st n) n) → (a : Act) (st : St) (n : ℕ) → n ≤ most → Ended (interp one a st n) (interp two a st (n + more)) more
unfolding Ended
ended_interp one two most more e w (Ret c) st n le = refl
ended_interp one two most more e w (Tick a) st zero le = tt
ended_interp one two most more e w (Tick a) st (suc n) le =
    let same : suc (n + more) ≡ suc n + more = omega arith in
    subst (λ k. Ended (interp one a st n) (interp two (Tick a) st k) more) same (ended_interp one two most more e w a st n (omega arith))
ended_interp one two most more e w (Eval goal env go) st n le =
    ended_then (one goal env st n) (two goal env st (n + more)) n more _ _ (w goal env st n) (e goal env st n le) (λ c mid m le'. ended_interp one two most more e w (go c) mid m (omega arith))
ended_interp one two most more e w (Sub a go) st n le =
    ended_then (interp one a st n) (interp two a st (n + more)) n more _ _ (within_interp one w a st n) (ended_interp one two most more e w a st n le) (λ c mid m le'. ended_interp one two most more e w (go c) mid m (omega arith))
ended_interp one two most more e w (Do deed go) st n le = ended_interp one two most more e w (go (answer_of deed st)) (state_after deed st) n le

ended_eval_to : (depth more : ℕ) (goal : Goal) (env : Env) (st : St) (n : ℕ) → n ≤ depth → Ended (eval_to depth goal env st n) (eval goal env st (n + more)) more
unfolding Ended
ended_eval_to zero more goal env st n le = tt
ended_eval_to (suc depth) more goal env st zero le = tt
ended_eval_to (suc depth) more goal env st (suc n) le =
    let same : suc (n + more) ≡ suc n + more = omega arith in
    let h = ended_interp (eval_to depth) eval n more (λ goal' env' st' m le'. ended_eval_to depth more goal' env' st' m (omega arith)) (within_eval_to depth) (entry goal env) st n (omega arith) in
    subst (λ k. Ended (interp (eval_to depth) (entry goal env) st n) (eval goal env st k) more) same
    (subst (λ o. Ended (interp (eval_to depth) (entry goal env) st n) o more) (sym (entries_lem goal env st (suc (n + more)))) h)

-- ---- programs

ended_program : (one two : Outcome) (more : ℕ) → Ended one two more → ¬ ((run_next one (λ st' n'. (Done, st'))).0 ≡ StepsSpent) → run_next two (λ st' n'. (Done, st')) ≡ run_next one (λ st' n'. (Done, st'))
unfolding Ended
ended_program (Spent st) two more e enough = absurd (enough refl)
ended_program (Ends (Throws v) st m) two more e enough = ap (λ o. run_next o (λ st' n'. (Done, st'))) e
ended_program (Ends (Gives v) st m) two more e enough = ap (λ o. run_next o (λ st' n'. (Done, st'))) e
ended_program (Ends (Refers r) st m) two more e enough = ap (λ o. run_next o (λ st' n'. (Done, st'))) e
ended_program (Ends Normal st m) two more e enough = ap (λ o. run_next o (λ st' n'. (Done, st'))) e
ended_program (Ends (Breaks label) st m) two more e enough = ap (λ o. run_next o (λ st' n'. (Done, st'))) e
ended_program (Ends (Continues label) st m) two more e enough = ap (λ o. run_next o (λ st' n'. (Done, st'))) e
ended_program (Ends (Returns v) st m) two more e enough = ap (λ o. run_next o (λ st' n'. (Done, st'))) e

-- one number is the other and some more
either : (n m : ℕ) → ((k : ℕ) × (n + k ≡ m)) ⊎ ((k : ℕ) × (m + k ≡ n))
either zero m = inl (m, omega arith)
either (suc n) zero = inr (suc n, omega arith)
either (suc n) (suc m) = by (either n m)
  where
    by : ((k : ℕ) × (n + k ≡ m)) ⊎ ((k : ℕ) × (m + k ≡ n)) → ((k : ℕ) × (suc n + k ≡ suc m)) ⊎ ((k : ℕ) × (suc m + k ≡ suc n))
    by (inl h) = let e : n + h.0 ≡ m = h.1 in inl (h.0, omega arith)
    by (inr h) = let e : m + h.0 ≡ n = h.1 in inr (h.0, omega arith)

module _ (trees : List Tree) (tree owner : ℕ) (copy : Copy) (arena : Arena) where
  pub with_more : (n more : ℕ) → ¬ ((alone trees tree owner copy arena n).0 ≡ StepsSpent) → alone trees tree owner copy arena (n + more) ≡ alone trees tree owner copy arena n
  with_more n more enough =
      let env = env_of_program trees tree (world_of owner) global_object owner in
      let st = before owner copy arena in
      ended_program (eval AtProgram env st n) (eval AtProgram env st (n + more)) more (ended_eval_to n more AtProgram env st n (omega arith)) enough

  one_ending_of : (n m : ℕ) → ¬ ((alone trees tree owner copy arena n).0 ≡ StepsSpent) → ¬ ((alone trees tree owner copy arena m).0 ≡ StepsSpent) → alone trees tree owner copy arena n ≡ alone trees tree owner copy arena m
  one_ending_of n m a b = by (either n m)
    where
      by : ((k : ℕ) × (n + k ≡ m)) ⊎ ((k : ℕ) × (m + k ≡ n)) → alone trees tree owner copy arena n ≡ alone trees tree owner copy arena m
      by (inl h) = sym (with_more n h.0 a) ∙ ap (alone trees tree owner copy arena) h.1
      by (inr h) = sym (ap (alone trees tree owner copy arena) h.1) ∙ with_more m h.0 b

pub one_ending_lem : OneEnding
one_ending_lem trees tree owner copy arena n m a b = one_ending_of trees tree owner copy arena n m a b
