-- Ends so far are completed: each activity that has not ended is run alone behind them, in ascending order.
use Rattle.std.proofs.Common.{◌≡◌, ℕ, zero, suc, ◌+◌, ◌≤◌, ◌==◌, ◌⊎◌, inl, inr, Bool, true, false, cond, List, [], ◌∷◌, ◌++◌, length, Option, None, Some, refl}
use Rattle.std.proofs.Common.{sym, ap, ◌∙◌, subst, arith, append_assoc, append-nil, length-append}
use Rattle.std.specs.Prelude.{All, count_by, max}
use Rattle.std.proofs.lemmas.Bool.{eqb-true, eqb-false, ne_eqb, cases_eq}
use Rattle.std.proofs.lemmas.List.Elements.{All-nil, All-cons, All-weaker, All-push}
use Rattle.wjs_io.specs.Streams.{Stream}
use Rattle.wjs_by_content.specs.Objects.{Arena}
use Rattle.wjs_model.specs.declared.halt.Halt.{Halt}
use Rattle.wjs_model.specs.declared.halt.Halt.TheVariants as halts
use Rattle.wjs_meaning.specs.Trees.{Tree}
use Rattle.wjs_alone.specs.Alone.{Copy, Outcome, outcome_of, copy_after, objects_after, printed}
use Rattle.wjs_alone.specs.Serial.{Run, End, runs_of, run_at, outcomes_by, printed_by, copy_by, ObjectsGrow, IsSerial, out_of, lines_from}
use Rattle.wjs_activity.specs.SoFar.{left_by, SoFar, times_ended, times_owned}
use Rattle.wjs_activity.specs.Rounds.{Further, WroteBy}
use Rattle.wjs_activity.proofs.Appended.{runs_then, told_then, holds_same, copy_then, outcomes_then, printed_then, left_then, grow_then}
use Rattle.wjs_activity.proofs.Playing.{ended_as_before, ended_once_more}
use Rattle.wjs_activity.proofs.Stepped.{count_push, one_more}
use Rattle.wjs_activity.proofs.Taking.{none_drawn}

-- ---- an owner that none has

abbrev last_owner : List End → ℕ
last_owner [] = 0
last_owner (e ∷ es) = max e.run.owner (last_owner es)

below_last : (es : List End) → All (λ e. e.run.owner ≤ last_owner es) es
below_last [] = All-nil (λ (e : End). e.run.owner ≤ 0)
below_last (e ∷ es) =
    All-cons (λ (x : End). x.run.owner ≤ max e.run.owner (last_owner es)) e es (omega arith)
    (All-weaker (λ (x : End). x.run.owner ≤ last_owner es) (λ (x : End). x.run.owner ≤ max e.run.owner (last_owner es)) (λ x h. omega (arith, h)) es
    (below_last es))

next_owner : (es : List End) → times_owned (last_owner es + 1) es ≡ 0
next_owner es = none_drawn es (last_owner es) (last_owner es + 1) (omega arith) (below_last es)

module _ (library : Option Tree) (parts : List Tree) (budget : ℕ) (copy : Copy) (arena : Arena) where
  -- ---- one more is run alone

  module _ (ends : List End) (now : Copy) (objects : Arena) (s : SoFar library parts budget copy arena now objects ends) (k : ℕ)
      (number : (1 ≤ k) × (k ≤ length parts)) (fresh : times_ended k ends ≡ 0) where
    abbrev owner : ℕ
    owner = last_owner ends + 1

    abbrev run : Run
    run = record { activity = k; owner = owner; objects = left_by library parts budget copy arena (runs_of ends) }

    abbrev end : End
    end = record { run = run; outcome = outcome_of owner (run_at library parts budget now run); tries = 1 }

    run_same : run_at library parts budget (copy_by library parts budget copy (runs_of ends)) run ≡ run_at library parts budget now run
    run_same = ap (λ m. run_at library parts budget m run) s.holds

    not_first : (owner == 0) ≡ false
    not_first = ne_eqb owner 0 (λ is. omega (arith, is))

    prints_one : printed_by library parts budget copy (runs_of (ends ++ end ∷ []))
        ≡ printed_by library parts budget copy (runs_of ends) ++ printed (run_at library parts budget now run)
    prints_one =
        ap (printed_by library parts budget copy) (runs_then ends end)
        ∙ printed_then library parts budget copy (runs_of ends) run
        ∙ ap (λ r. printed_by library parts budget copy (runs_of ends) ++ printed r) run_same

    so_far_one : SoFar library parts budget copy arena (copy_after owner now (run_at library parts budget now run))
        (objects_after run.objects (run_at library parts budget now run)) (ends ++ end ∷ [])
    so_far_one = record {
      grow = subst (ObjectsGrow library parts budget copy arena) (sym (runs_then ends end))
          (grow_then library parts budget copy arena (runs_of ends) run s.grow (λ o x at. at)
          (λ o x w none at is. let h : None ≡ Some x = sym none ∙ at in absurd (cc)));
      left = holds_same (left_by library parts budget copy arena (runs_of (ends ++ end ∷ []))) (objects_after run.objects (run_at library parts budget now run))
          (ap (left_by library parts budget copy arena) (runs_then ends end) ∙ left_then library parts budget copy arena (runs_of ends) run
          ∙ ap (objects_after run.objects) run_same);
      outcomes =
          told_then ends end
          ∙ ap (λ (l : List Outcome). l ++ end.outcome ∷ []) s.outcomes
          ∙ ap (λ r. outcomes_by library parts budget copy (runs_of ends) ++ outcome_of owner r ∷ []) (sym run_same)
          ∙ sym (ap (outcomes_by library parts budget copy) (runs_then ends end) ∙ outcomes_then library parts budget copy (runs_of ends) run);
      holds =
          ap (copy_by library parts budget copy) (runs_then ends end)
          ∙ copy_then library parts budget copy (runs_of ends) run
          ∙ (λ i. copy_after owner (s.holds i) (run_same i));
      tries = All-push (λ (x : End). (1 ≤ x.tries) × (x.tries ≤ 4)) ends end s.tries (omega arith, omega arith);
      once = λ j. one_more (λ (x : End). x.run.activity) ends end fresh j (s.once j);
      owners = λ q. one_more (λ (x : End). x.run.owner) ends end (next_owner ends) q (s.owners q);
      none_first =
          let none : times_owned 0 ends ≡ 0 = s.none_first in
          let all : times_owned 0 (ends ++ end ∷ []) ≡ times_owned 0 ends + 0 = count_push (λ (x : End). x.run.owner == 0) ends end
          ∙ ap (λ b. times_owned 0 ends + cond b 1 0) not_first in
          omega (arith, all, none);
      numbers = All-push (λ (x : End). (1 ≤ x.run.activity) × (x.run.activity ≤ length parts)) ends end s.numbers number;
    }

  -- ---- all that are left

  -- some ends more, behind which the first activities have ended
  record Completes (ends : List End) (first : ℕ) : Type 0 where
    pub more : List End
    pub rest : List ℕ
    pub now : Copy
    pub objects : Arena
    pub so_far : SoFar library parts budget copy arena now objects (ends ++ more)
    pub prints : printed_by library parts budget copy (runs_of (ends ++ more)) ≡ printed_by library parts budget copy (runs_of ends) ++ rest
    pub ended : (k : ℕ) → 1 ≤ k → k ≤ first → times_ended k (ends ++ more) ≡ 1

  or_one : (n : ℕ) → n ≤ 1 → (n ≡ 0) ⊎ (n ≡ 1)
  or_one zero h = inl refl
  or_one (suc zero) h = inr refl
  or_one (suc (suc n)) h = absurd (omega (arith, h))

  -- where the end of the next one comes, all up to it have ended
  one_here : (before : List End) (e : End) (first : ℕ) → e.run.activity ≡ suc first → times_ended (suc first) before ≡ 0
      → ((i : ℕ) → 1 ≤ i → i ≤ first → times_ended i before ≡ 1) → (j : ℕ) → 1 ≤ j → j ≤ suc first → times_ended j (before ++ e ∷ []) ≡ 1
  one_here before e first number none ended j from upto = by (e.run.activity == j) refl
    where
      by : (b : Bool) → (e.run.activity == j) ≡ b → times_ended j (before ++ e ∷ []) ≡ 1
      by true is =
          let same : e.run.activity ≡ j = eqb-true e.run.activity j is in
          ended_once_more j before e is (subst (λ i. times_ended i before ≡ 0) (sym number ∙ same) none)
      by false is =
          let apart : ¬ (e.run.activity ≡ j) = eqb-false e.run.activity j is in
          let not_next : ¬ (j ≡ suc first) = λ same. apart (number ∙ sym same) in
          let below : j ≤ first = omega (arith, upto, not_next) in
          ended_as_before j before e is ∙ ended j from below

  -- the next one, which has ended or not
  next_one : (ends : List End) (first : ℕ) → suc first ≤ length parts → (c : Completes ends first) → (times_ended (suc first) (ends ++ c.more) ≡ 0)
      ⊎ (times_ended (suc first) (ends ++ c.more) ≡ 1) → Completes ends (suc first)
  next_one ends first within c (inr one) = record {
    more = c.more;
    rest = c.rest;
    now = c.now;
    objects = c.objects;
    so_far = c.so_far;
    prints = c.prints;
    ended = λ k from upto. last k from upto (cases_eq k (suc first));
  }
    where
      last : (k : ℕ) → 1 ≤ k → k ≤ suc first → (k ≡ suc first) ⊎ (k ≡ suc first → ⊥) → times_ended k (ends ++ c.more) ≡ 1
      last k from upto (inl e) = subst (λ j. times_ended j (ends ++ c.more) ≡ 1) (sym e) one
      last k from upto (inr apart) = c.ended k from (omega (arith, upto, apart))
  next_one ends first within c (inl none) =
      let before = ends ++ c.more in
      let k = suc first in
      let number : (1 ≤ k) × (k ≤ length parts) = (omega arith, within) in
      let e = end before c.now c.objects c.so_far k number none in
      let whole = append_assoc ends c.more (e ∷ []) in
      record {
        more = c.more ++ e ∷ [];
        rest = c.rest ++ printed (run_at library parts budget c.now e.run);
        now = copy_after e.run.owner c.now (run_at library parts budget c.now e.run);
        objects = objects_after e.run.objects (run_at library parts budget c.now e.run);
        so_far = subst (SoFar library parts budget copy arena (copy_after e.run.owner c.now (run_at library parts budget c.now e.run))
            (objects_after e.run.objects (run_at library parts budget c.now e.run))) whole (so_far_one before c.now c.objects c.so_far k number none);
        prints =
            ap (λ (es : List End). printed_by library parts budget copy (runs_of es)) (sym whole)
            ∙ prints_one before c.now c.objects c.so_far k number none
            ∙ ap (λ (l : List ℕ). l ++ printed (run_at library parts budget c.now e.run)) c.prints
            ∙ append_assoc (printed_by library parts budget copy (runs_of ends)) c.rest (printed (run_at library parts budget c.now e.run));
        ended = λ j from upto. subst (λ es. times_ended j es ≡ 1) whole (one_here before e first refl none c.ended j from upto);
      }

  complete : (ends : List End) (now : Copy) (objects : Arena) → SoFar library parts budget copy arena now objects ends → (first : ℕ) → first ≤ length parts
      → Completes ends first
  complete ends now objects s zero within = record {
    more = [];
    rest = [];
    now = now;
    objects = objects;
    so_far = subst (SoFar library parts budget copy arena now objects) (sym (append-nil ends)) s;
    prints = ap (λ (es : List End). printed_by library parts budget copy (runs_of es)) (append-nil ends)
        ∙ sym (append-nil (printed_by library parts budget copy (runs_of ends)));
    ended = λ k from upto. absurd (omega (arith, from, upto));
  }
  complete ends now objects s (suc first) within =
      let c = complete ends now objects s first (omega (arith, within)) in
      next_one ends first within c (or_one (times_ended (suc first) (ends ++ c.more)) (c.so_far.once (suc first)))

  -- ends so far of which each activity has one are serial
  pub serial_all : (ends : List End) (now : Copy) (objects : Arena) → SoFar library parts budget copy arena now objects ends
      → ((k : ℕ) → 1 ≤ k → k ≤ length parts → times_ended k ends ≡ 1) → IsSerial library parts budget copy arena ends
  serial_all ends now objects s all = record {
    each_once = all;
    no_other = s.numbers;
    owners = λ q. by q (q == 0) refl;
    tries = s.tries;
    objects = s.grow;
    outcomes = s.outcomes;
  }
    where
      by : (q : ℕ) (b : Bool) → (q == 0) ≡ b → count_by (λ (e : End). e.run.owner == q) ends ≤ cond b 0 1
      by q true e =
          let is : q ≡ 0 = eqb-true q 0 e in
          let none : times_owned q ends ≡ 0 = subst (λ n. times_owned n ends ≡ 0) (sym is) s.none_first in
          omega (arith, none)
      by q false e = s.owners q

  -- a front of some bytes is one of more
  pub front_of : (s : Stream) (halt : Halt) (gone all later : List ℕ) → all ≡ gone ++ later → WroteBy s halt gone → WroteBy s halt all
  front_of s halts.SinkFailed gone all later e h = record {
    cause = h.cause;
    wrote = record {
      prefix = record {
        front = h.wrote.prefix.front;
        rest = h.wrote.prefix.rest ++ later;
        whole = e ∙ ap (λ (l : List ℕ). l ++ later) h.wrote.prefix.whole ∙ append_assoc h.wrote.prefix.front h.wrote.prefix.rest later;
        got = h.wrote.prefix.got;
      };
      shorter = let some = h.wrote.shorter in omega (arith, some, length-append h.wrote.prefix.rest later);
    };
  }
  front_of s halts.OutOfMemory gone all later e h = record {
    front = h.front;
    rest = h.rest ++ later;
    whole = e ∙ ap (λ (l : List ℕ). l ++ later) h.whole
        ∙ append_assoc h.front h.rest later;
    got = h.got;
  }

  -- ends that were halted are completed to serial ones, and what was written is a front of what those owe
  pub completed : (s : Stream) (halt : Halt) (more : List End) (gone : List ℕ) (now : Copy) (objects : Arena)
      → Further library parts budget copy arena [] more gone → WroteBy s halt gone → SoFar library parts budget copy arena now objects more
      → (ends : List End) × IsSerial library parts budget copy arena ends × WroteBy s halt (out_of library parts budget copy ends)
  completed s halt more gone now objects further wrote so_far =
      let c = complete more now objects so_far (length parts) (omega arith) in
      let es = more ++ c.more in
      let lines = lines_from (length parts) 1 es in
      let whole = ap (λ (l : List ℕ). l ++ lines) (c.prints ∙ ap (λ (l : List ℕ). l ++ c.rest) further.is) ∙ append_assoc gone c.rest lines in
      (es, serial_all es c.now c.objects c.so_far c.ended, front_of s halt gone (out_of library parts budget copy es) (c.rest ++ lines) whole wrote)
