-- A greater budget.
use Rattle.std.proofs.Common.{◌≡◌, ℕ, zero, suc, ◌+◌, ◌≤◌, List, [], ◌∷◌, ◌++◌, None, Some, refl, sym, ap, ◌∙◌, subst, arith, append_assoc}
use Rattle.wjs_meaning.specs.Trees.{Tree}
use Rattle.wjs_meaning.specs.Deeds.{St, Env, Goal, AtProgram, Completion, Gives, Refers, Normal, Breaks, Continues, Returns, Throws, Deed, Read, Write, Listing, Sprout, Commit, HasWorld, Look, Create, Emit, Act, Ret, Tick, Eval, Sub, Do, answer_of, state_after, Outcome, Ends, Spent, Next, interp, then_do}
use Rattle.wjs_meaning.specs.Programs.{entry, eval_to, eval, Ending, Done, Threw, program_env, run_next, run_from}
use Rattle.wjs_meaning.specs.Laws.{Within, Outlasts, BudgetLaw}
use Rattle.wjs_meaning.proofs.Steps.{within_interp, within_eval_to, entries_lem}

-- ---- nothing is taken back from the output

record Longer (old new : St) : Type 0 where
  later : List ℕ
  is : new.out ≡ old.out ++ later

-- the state that a run reaches
abbrev reached : Outcome → St
reached (Ends c st n) = st
reached (Spent st) = st

append_nil : (xs : List ℕ) → xs ≡ xs ++ []
append_nil [] = refl
append_nil (x ∷ xs) = ap (λ l. x ∷ l) (append_nil xs)

longer_same : (st : St) → Longer st st
longer_same st = record { later = []; is = append_nil st.out }

longer_by : (old mid new : St) → Longer old mid → Longer mid new → Longer old new
longer_by old mid new a b = record { later = a.later ++ b.later; is = b.is ∙ ap (λ l. l ++ b.later) a.is ∙ append_assoc old.out a.later b.later }

longer_then : (st : St) (o : Outcome) (go : Completion → St → ℕ → Outcome) → Longer st (reached o) → ((c : Completion) (mid : St) (m : ℕ) → Longer mid (reached (go c mid m))) → Longer st (reached (then_do o go))
longer_then st (Ends c mid m) go l each = longer_by st mid _ l (each c mid m)
longer_then st (Spent mid) go l each = l

longer_deed : (deed : Deed) (st : St) → Longer st (state_after deed st)
longer_deed (Read w s) st = record { later = []; is = append_nil st.out }
longer_deed (Write w s c) st = record { later = []; is = append_nil st.out }
longer_deed (Listing w o) st = record { later = []; is = append_nil st.out }
longer_deed (Sprout w owner strict) st = record { later = []; is = append_nil st.out }
longer_deed (Commit w) st = record { later = []; is = append_nil st.out }
longer_deed (HasWorld w) st = longer_same st
longer_deed Look st = longer_same st
longer_deed (Create owner internals) st = record { later = []; is = append_nil st.out }
longer_deed (Emit bytes) st = record { later = bytes; is = refl }

longer_interp : (next : Next) → ((goal : Goal) (env : Env) (st : St) (n : ℕ) → Longer st (reached (next goal env st n))) → (a : Act) (st : St) (n : ℕ) → Longer st (reached (interp next a st n))
longer_interp next h (Ret c) st n = longer_same st
longer_interp next h (Tick a) st zero = longer_same st
longer_interp next h (Tick a) st (suc n) = longer_interp next h a st n
longer_interp next h (Eval goal env go) st n = longer_then st (next goal env st n) _ (h goal env st n) (λ c mid m. longer_interp next h (go c) mid m)
longer_interp next h (Sub a go) st n = longer_then st (interp next a st n) _ (longer_interp next h a st n) (λ c mid m. longer_interp next h (go c) mid m)
longer_interp next h (Do deed go) st n = longer_by st (state_after deed st) _ (longer_deed deed st) (longer_interp next h (go (answer_of deed st)) (state_after deed st) n)

longer_eval_to : (depth : ℕ) (goal : Goal) (env : Env) (st : St) (n : ℕ) → Longer st (reached (eval_to depth goal env st n))
longer_eval_to zero goal env st n = longer_same st
longer_eval_to (suc depth) goal env st n = longer_interp (eval_to depth) (longer_eval_to depth) (Tick (entry goal env)) st n

-- ---- one goal with more steps

-- with so many steps more the end is the same, and a run that was spent goes on
Grows : Outcome → Outcome → ℕ → Type 0
Grows (Ends c st m) two more = two ≡ Ends c st (m + more)
Grows (Spent st) two more = Longer st (reached two)

grows_then : (one two : Outcome) (n more : ℕ) (go1 go2 : Completion → St → ℕ → Outcome) → Within one n → Grows one two more → ((c : Completion) (st : St) (m : ℕ) → m ≤ n → Grows (go1 c st m) (go2 c st (m + more)) more) → ((c : Completion) (st : St) (m : ℕ) → Longer st (reached (go2 c st m))) → Grows (then_do one go1) (then_do two go2) more
unfolding Grows
grows_then (Ends c st m) two n more go1 go2 w g each longer = subst (λ o. Grows (go1 c st m) (then_do o go2) more) (sym g) (each c st m w)
grows_then (Spent st) (Ends c mid m) n more go1 go2 w g each longer = longer_by st mid _ g (longer c mid m)
grows_then (Spent st) (Spent mid) n more go1 go2 w g each longer = g

grows_interp : (one two : Next) (most more : ℕ) → ((goal : Goal) (env : Env) (st : St) (n : ℕ) → n ≤ most → Grows (one goal env st n) (two goal env st (n + more)) more) → ((goal : Goal) (env : Env) (st : St) (n : ℕ) → Within (one goal env st n) n) → ((goal : Goal) (env : Env) (st : St) (n : ℕ) → Longer st (reached (two goal env st n))) → (a : Act) (st : St) (n : ℕ) → n ≤ most → Grows (interp one a st n) (interp two a st (n + more)) more
unfolding Grows
grows_interp one two most more g w l (Ret c) st n le = refl
grows_interp one two most more g w l (Tick a) st zero le = longer_interp two l (Tick a) st (0 + more)
grows_interp one two most more g w l (Tick a) st (suc n) le =
    let e : suc (n + more) ≡ suc n + more = omega arith in
    subst (λ k. Grows (interp one a st n) (interp two (Tick a) st k) more) e (grows_interp one two most more g w l a st n (omega arith))
grows_interp one two most more g w l (Eval goal env go) st n le =
    grows_then (one goal env st n) (two goal env st (n + more)) n more _ _ (w goal env st n) (g goal env st n le) (λ c mid m le'. grows_interp one two most more g w l (go c) mid m (omega arith)) (λ c mid m. longer_interp two l (go c) mid m)
grows_interp one two most more g w l (Sub a go) st n le =
    grows_then (interp one a st n) (interp two a st (n + more)) n more _ _ (within_interp one w a st n) (grows_interp one two most more g w l a st n le) (λ c mid m le'. grows_interp one two most more g w l (go c) mid m (omega arith)) (λ c mid m. longer_interp two l (go c) mid m)
grows_interp one two most more g w l (Do deed go) st n le = grows_interp one two most more g w l (go (answer_of deed st)) (state_after deed st) n le

longer_eval : (goal : Goal) (env : Env) (st : St) (n : ℕ) → Longer st (reached (eval goal env st n))
longer_eval goal env st n = longer_eval_to n goal env st n

grows_eval_to : (depth more : ℕ) (goal : Goal) (env : Env) (st : St) (n : ℕ) → n ≤ depth → Grows (eval_to depth goal env st n) (eval goal env st (n + more)) more
unfolding Grows
grows_eval_to zero more goal env st n le = longer_eval goal env st (n + more)
grows_eval_to (suc depth) more goal env st zero le = longer_eval goal env st (0 + more)
grows_eval_to (suc depth) more goal env st (suc n) le =
    let e : suc (n + more) ≡ suc n + more = omega arith in
    let h = grows_interp (eval_to depth) eval n more (λ goal' env' st' m le'. grows_eval_to depth more goal' env' st' m (omega arith)) (within_eval_to depth) longer_eval (entry goal env) st n (omega arith) in
    subst (λ k. Grows (interp (eval_to depth) (entry goal env) st n) (eval goal env st k) more) e
    (subst (λ o. Grows (interp (eval_to depth) (entry goal env) st n) o more) (sym (entries_lem goal env st (suc (n + more)))) h)

-- ---- programs

longer_next : (st : St) (o : Outcome) (go : St → ℕ → Ending × St) → Longer st (reached o) → ((mid : St) (m : ℕ) → Longer mid (go mid m).1) → Longer st (run_next o go).1
longer_next st (Spent mid) go l each = l
longer_next st (Ends (Throws v) mid m) go l each = l
longer_next st (Ends _ mid m) go l each = longer_by st mid _ l (each mid m)

longer_run : (count k : ℕ) (trees : List Tree) (st : St) (n : ℕ) → Longer st (run_from count k trees st n).1
longer_run zero k trees st n = longer_same st
longer_run (suc count) k trees st n =
    longer_next st (eval AtProgram (program_env trees k) st n) _ (longer_eval AtProgram (program_env trees k) st n) (λ mid m. longer_run count (k + 1) trees mid m)

outlasts_same : (r : Ending × St) → Outlasts r r
outlasts_same r = record { output = ([], append_nil (r.1).out); ending = λ _. refl }

outlasts_next : (one two : Outcome) (n more : ℕ) (go : St → ℕ → Ending × St) → Within one n → Grows one two more → ((st : St) (m : ℕ) → Outlasts (go st m) (go st (m + more))) → ((st : St) (m : ℕ) → Longer st (go st m).1) → Outlasts (run_next one go) (run_next two go)
unfolding Grows
outlasts_next (Spent st) two n more go w g each longer =
    let l = longer_next st two go g longer in
    record { output = (l.later, l.is); ending = λ not_spent. absurd (not_spent refl) }
outlasts_next (Ends (Throws v) st m) two n more go w g each longer = subst (λ o. Outlasts (Threw v, st) (run_next o go)) (sym g) (outlasts_same (Threw v, st))
outlasts_next (Ends (Gives v) st m) two n more go w g each longer = subst (λ o. Outlasts (go st m) (run_next o go)) (sym g) (each st m)
outlasts_next (Ends (Refers r) st m) two n more go w g each longer = subst (λ o. Outlasts (go st m) (run_next o go)) (sym g) (each st m)
outlasts_next (Ends Normal st m) two n more go w g each longer = subst (λ o. Outlasts (go st m) (run_next o go)) (sym g) (each st m)
outlasts_next (Ends (Breaks label) st m) two n more go w g each longer = subst (λ o. Outlasts (go st m) (run_next o go)) (sym g) (each st m)
outlasts_next (Ends (Continues label) st m) two n more go w g each longer = subst (λ o. Outlasts (go st m) (run_next o go)) (sym g) (each st m)
outlasts_next (Ends (Returns v) st m) two n more go w g each longer = subst (λ o. Outlasts (go st m) (run_next o go)) (sym g) (each st m)

outlasts_run : (count k : ℕ) (trees : List Tree) (st : St) (n more : ℕ) → Outlasts (run_from count k trees st n) (run_from count k trees st (n + more))
outlasts_run zero k trees st n more = outlasts_same (Done, st)
outlasts_run (suc count) k trees st n more =
    outlasts_next (eval AtProgram (program_env trees k) st n) (eval AtProgram (program_env trees k) st (n + more)) n more _ (within_eval_to n AtProgram (program_env trees k) st n) (grows_eval_to n more AtProgram (program_env trees k) st n (omega arith)) (λ mid m. outlasts_run count (k + 1) trees mid m more) (λ mid m. longer_run count (k + 1) trees mid m)

pub budget_lem : BudgetLaw
budget_lem None script budget more = outlasts_run 1 0 (script ∷ []) _ budget more
budget_lem (Some library) script budget more = outlasts_run 2 0 (library ∷ script ∷ []) _ budget more
