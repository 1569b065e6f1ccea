-- What holds of every tree of deeds, and so of every form.
use Rattle.std.proofs.Common.{◌≡◌, ℕ, zero, suc, ◌≤◌, refl, ap, ◌∙◌, arith}
use Rattle.wjs_meaning.specs.Deeds.{St, Env, Goal, Completion, Act, Ret, Tick, Eval, Sub, Do, answer_of, state_after, Outcome, Ends, Spent, Next, interp, then_do}
use Rattle.wjs_meaning.specs.Programs.{entry, eval_to, eval}
use Rattle.wjs_meaning.specs.Laws.{Within, StepsNeverRise, DepthIsEnough, GoalsAreTheirEntries}

within_more : (o : Outcome) (m n : ℕ) → m ≤ n → Within o m → Within o n
within_more (Ends c st k) m n le h = omega arith
within_more (Spent st) m n le h = tt

within_then : (o : Outcome) (n : ℕ) (go : Completion → St → ℕ → Outcome) → Within o n → ((c : Completion) (st : St) (m : ℕ) → Within (go c st m) m) → Within (then_do o go) n
within_then (Ends c st m) n go h each = within_more (go c st m) m n h (each c st m)
within_then (Spent st) n go h each = tt

pub within_interp : (next : Next) → ((goal : Goal) (env : Env) (st : St) (n : ℕ) → Within (next goal env st n) n) → (a : Act) (st : St) (n : ℕ) → Within (interp next a st n) n
within_interp next h (Ret c) st n = omega arith
within_interp next h (Tick a) st zero = tt
within_interp next h (Tick a) st (suc n) = within_more _ n (suc n) (omega arith) (within_interp next h a st n)
within_interp next h (Eval goal env go) st n = within_then (next goal env st n) n _ (h goal env st n) (λ c st m. within_interp next h (go c) st m)
within_interp next h (Sub a go) st n = within_then (interp next a st n) n _ (within_interp next h a st n) (λ c st m. within_interp next h (go c) st m)
within_interp next h (Do deed go) st n = within_interp next h (go (answer_of deed st)) (state_after deed st) n

pub within_eval_to : (depth : ℕ) (goal : Goal) (env : Env) (st : St) (n : ℕ) → Within (eval_to depth goal env st n) n
within_eval_to zero goal env st n = tt
within_eval_to (suc depth) goal env st n = within_interp (eval_to depth) (within_eval_to depth) (Tick (entry goal env)) st n

pub steps_never_rise_lem : StepsNeverRise
steps_never_rise_lem goal env st n = within_eval_to n goal env st n

-- two meanings of goals that agree where at most so many steps are left
record Agree (one two : Next) (most : ℕ) : Type 0 where
  at : (goal : Goal) (env : Env) (st : St) (n : ℕ) → n ≤ most → one goal env st n ≡ two goal env st n

then_agree : (o : Outcome) (n : ℕ) (one two : Completion → St → ℕ → Outcome) → Within o n → ((c : Completion) (st : St) (m : ℕ) → m ≤ n → one c st m ≡ two c st m) → then_do o one ≡ then_do o two
then_agree (Ends c st m) n one two h each = each c st m h
then_agree (Spent st) n one two h each = refl

interp_agree : (one two : Next) (most : ℕ) → Agree one two most → ((goal : Goal) (env : Env) (st : St) (n : ℕ) → Within (two goal env st n) n) → (a : Act) (st : St) (n : ℕ) → n ≤ most → interp one a st n ≡ interp two a st n
interp_agree one two most same h (Ret c) st n le = refl
interp_agree one two most same h (Tick a) st zero le = refl
interp_agree one two most same h (Tick a) st (suc n) le = interp_agree one two most same h a st n (omega arith)
interp_agree one two most same h (Eval goal env go) st n le =
    ap (λ o. then_do o (λ c st' n'. interp one (go c) st' n')) (same.at goal env st n le)
    ∙ then_agree (two goal env st n) n _ _ (h goal env st n) (λ c st' m le'. interp_agree one two most same h (go c) st' m (omega arith))
interp_agree one two most same h (Sub a go) st n le =
    ap (λ o. then_do o (λ c st' n'. interp one (go c) st' n')) (interp_agree one two most same h a st n le)
    ∙ then_agree (interp two a st n) n _ _ (within_interp two h a st n) (λ c st' m le'. interp_agree one two most same h (go c) st' m (omega arith))
interp_agree one two most same h (Do deed go) st n le = interp_agree one two most same h (go (answer_of deed st)) (state_after deed st) n le

depths_agree : (b c : ℕ) (goal : Goal) (env : Env) (st : St) (n : ℕ) → n ≤ b → n ≤ c → eval_to b goal env st n ≡ eval_to c goal env st n
depths_agree zero zero goal env st n le1 le2 = refl
depths_agree zero (suc c) goal env st zero le1 le2 = refl
depths_agree zero (suc c) goal env st (suc n) le1 le2 = absurd (omega arith)
depths_agree (suc b) zero goal env st zero le1 le2 = refl
depths_agree (suc b) zero goal env st (suc n) le1 le2 = absurd (omega arith)
depths_agree (suc b) (suc c) goal env st zero le1 le2 = refl
depths_agree (suc b) (suc c) goal env st (suc n) le1 le2 =
    interp_agree (eval_to b) (eval_to c) n (record { at = λ goal' env' st' m le. depths_agree b c goal' env' st' m (omega arith) (omega arith) }) (within_eval_to c) (entry goal env) st n (omega arith)

pub depth_is_enough_lem : DepthIsEnough
depth_is_enough_lem depth goal env st n le = depths_agree depth n goal env st n le (omega arith)

pub entries_lem : GoalsAreTheirEntries
entries_lem goal env st zero = refl
entries_lem goal env st (suc n) =
    interp_agree (eval_to n) eval n (record { at = λ goal' env' st' m le. depths_agree n m goal' env' st' m le (omega arith) }) steps_never_rise_lem (entry goal env) st n (omega arith)
