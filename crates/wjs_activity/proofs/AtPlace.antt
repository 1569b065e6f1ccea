-- A turn at a place, with the fourth try where it is due.
use Rattle.std.proofs.Common.{◌≡◌, ℕ, ◌≤◌, ◌<◌, ◌==◌, ◌⊎◌, inl, inr, Bool, true, false, not, ◌&&◌, List, [], ◌++◌, length, Option, None, Some, refl, sym, ap}
use Rattle.std.proofs.Common.{◌∙◌, subst, arith, append_assoc, append-nil, length-set}
use Rattle.std.specs.Prelude.{slice_get}
use Rattle.std.proofs.lemmas.Bool.{eqb-true, eq-eqb, false≢true}
use Rattle.std.proofs.lemmas.Option.{same_Some}
use Rattle.wjs_base.proofs.Booleans.{by_bool}
use Rattle.wjs_io.specs.Streams.{Stream, stream, Got, Stops}
use Rattle.wjs_io.proofs.Written.{Appends-nil, Appends-then}
use Rattle.wjs_by_content.specs.Tables.{arena_in}
use Rattle.wjs_model.specs.declared.halt.Halt.{Halt}
use Rattle.wjs_model.specs.declared.halt.Halt.TheVariants as halts
use Rattle.wjs_meaning.specs.Trees.{Tree}
use Rattle.wjs_alone.specs.Serial.{End}
use Rattle.wjs_alone.specs.Playing as defined
use Rattle.wjs_alone.specs.Playing.{goes_on, try_of, next_try, turn}
use Rattle.wjs_alone.specs.Fronts.{Fronts}
use Rattle.wjs_alone.proofs.AllTurns.{next_front, try_front}
use Rattle.wjs_activity.specs.declared.activities.Activity.{Activity}
use Rattle.wjs_activity.specs.declared.activities.Play.{Play}
use Rattle.wjs_activity.specs.declared.activities.Rules.{Rules}
use Rattle.wjs_activity.specs.SoFar.{SoFar, IsPlay}
use Rattle.wjs_activity.specs.Exactly.{IsExactly, TurnIs}
use Rattle.wjs_tries.specs.Turning.{first_in}
use Rattle.wjs_activity.specs.Rounds.{TurnsTo, HaltsIn, HaltsAt, OneTurn, LastTurn, LastHalts, LastIs, TurnMade, TurnAt, TurnPrints, Changes, Settled, Sooner}
use Rattle.wjs_activity.specs.Rounds.{Becomes, Is, by_turn, at_place, last_is_due, After, MayTurn}
use Rattle.wjs_activity.proofs.Standing.{by_place}
use Rattle.wjs_activity.proofs.Places.{set_other, set_there}
use Rattle.wjs_activity.proofs.Founds.{stands_at}
use Rattle.wjs_activity.proofs.Fourths.{turn_there, turn_prints, turn_alone, turn_of_fourth, turn_twice}
use Rattle.wjs_activity.proofs.Composed.{further_none, further_then, wrote_then}

-- ---- the activity there

both_true : (a b : Bool) → (not a && b) ≡ true → (a ≡ false) × (b ≡ true)
both_true true b h = absurd (false≢true h)
both_true false b h = (refl, h)

module _ (budget place : ℕ) where
  others_changed : (p q : Play) → Changes budget place p q → (i : ℕ) → ¬ (i ≡ place) → slice_get q.activities.items i ≡ slice_get p.activities.items i
  others_changed p q c i away = ap (λ l. slice_get l i) c.is ∙ set_other p.activities.items place i c.now away

  pub long_changed : (p q : Play) → Changes budget place p q → length q.activities.items ≡ length p.activities.items
  long_changed p q c = ap length c.is ∙ length-set p.activities.items place c.now

  now_changed : (p q : Play) → (c : Changes budget place p q) → (a : Activity) → slice_get p.activities.items place ≡ Some a
      → slice_get q.activities.items place ≡ Some c.now
  now_changed p q c a at = ap (λ l. slice_get l place) c.is ∙ set_there p.activities.items place a c.now at

  -- no turn, since it had ended
  pub at_none : (p : Play) (a : Activity) → slice_get p.activities.items place ≡ Some a → a.ended ≡ true → TurnAt budget place p p
  at_none p a at over = record {
    others = λ i away. refl;
    long = refl;
    never_more = omega arith;
    less = λ b found on. absurd (false≢true (sym on ∙ ap (λ (x : Activity). x.ended) (same_Some b a (sym found ∙ at)) ∙ over));
    sooner = λ b now found found' on few. absurd (false≢true (sym on ∙ ap (λ (x : Activity). x.ended) (same_Some now a (sym found' ∙ at)) ∙ over));
  }

  at_once : (p q : Play) → Changes budget place p q → TurnAt budget place p q
  at_once p q c = record {
    others = others_changed p q c;
    long = long_changed p q c;
    never_more = let lt = c.less in omega (arith, lt);
    less = λ b found on. c.less;
    sooner = λ b now found found' on few.
        let same : c.now ≡ now = same_Some c.now now (sym (now_changed p q c b found) ∙ found') in
        subst (Sooner budget b) same (c.sooner b found) on few;
  }

  at_twice : (p q r : Play) (c : Changes budget place p q) → Changes budget place q r → last_is_due c.now ≡ true → TurnAt budget place p r
  at_twice p q r c d due = record {
    others = λ i away. others_changed q r d i away ∙ others_changed p q c i away;
    long = long_changed q r d ∙ long_changed p q c;
    never_more = let one = c.less in let two = d.less in omega (arith, one, two);
    less = λ b found on. let one = c.less in let two = d.less in omega (arith, one, two);
    sooner = λ b now found found' on few.
        let at = now_changed p q c b found in
        let same : d.now ≡ now = same_Some d.now now (sym (now_changed q r d c.now at) ∙ found') in
        absurd (not_on c.now d.now due (d.after c.now at) (ap (λ (x : Activity). x.ended) same ∙ on));
  }
    where
      -- behind the fourth try it has ended
      not_on : (x y : Activity) → last_is_due x ≡ true → After x y → ¬ (y.ended ≡ false)
      not_on x y due (inl over) e = false≢true (sym e ∙ over)
      not_on x y due (inr h) e =
          let lt = h.1 in
          let three = eqb-true x.dropped 3 (both_true x.ended (x.dropped == 3) due).1 in
          absurd (omega (arith, lt, three))

  -- ---- the fourth try

  pub may_first : (steps : ℕ) (p : Play) (a : Activity) → Settled p.activities.items → slice_get p.activities.items place ≡ Some a → a.ended ≡ false
      → (x : Activity) → slice_get p.activities.items place ≡ Some x → MayTurn budget steps x
  may_first steps p a settled at on x found =
      let same : a ≡ x = same_Some a x (sym at ∙ found) in
      subst (MayTurn budget steps) same (on, inl (settled place a at on))

  -- where the last one is due it may have a turn of all steps
  pub may_last : (p q : Play) (a : Activity) (c : Changes budget place p q) → slice_get p.activities.items place ≡ Some a → (x : Activity)
      → slice_get q.activities.items place ≡ Some x → last_is_due x ≡ true → MayTurn budget budget x
  may_last p q a c at x found due =
      let same : c.now ≡ x = same_Some c.now x (sym (now_changed p q c a at) ∙ found) in
      let parts = both_true c.now.ended (c.now.dropped == 3) (ap last_is_due same ∙ due) in
      subst (MayTurn budget budget) same (by parts.0 (eqb-true c.now.dropped 3 parts.1) (c.after a at))
    where
      rests : c.now.dropped ≡ 3 → (c.now.dropped < 3) ⊎ ((c.now.dropped ≡ 3) × (c.now.running ≡ None)) → (c.now.running ≡ None) × (budget ≤ budget)
      rests e (inl lt) = absurd (omega (arith, e, lt))
      rests e (inr k) = (k.1, omega arith)

      by : c.now.ended ≡ false → c.now.dropped ≡ 3 → After a c.now → MayTurn budget budget c.now
      by on three (inl over) = absurd (false≢true (sym on ∙ over))
      by on three (inr h) = (on, inr (rests three h.2))

  -- where it isn't due, none has had three tries dropped
  settled_once : (p q : Play) (a : Activity) (c : Changes budget place p q) → Settled p.activities.items → slice_get p.activities.items place ≡ Some a
      → last_is_due c.now ≡ false → Settled q.activities.items
  settled_once p q a c settled at not_due i b found on = by_place i place (b.dropped < 3)
      (λ hi.
      let same : c.now ≡ b = same_Some c.now b (sym (now_changed p q c a at) ∙ ap (slice_get q.activities.items) (sym hi) ∙ found) in
      subst (λ (x : Activity). x.dropped < 3) same (by (ap (λ (x : Activity). x.ended) same ∙ on) (c.after a at)))
      (λ ni. settled i b (sym (others_changed p q c i ni) ∙ found) on)
    where
      few : c.now.ended ≡ false → (c.now.dropped < 3) ⊎ ((c.now.dropped ≡ 3) × (c.now.running ≡ None)) → c.now.dropped < 3
      few f (inl lt) = lt
      few f (inr k) = absurd (false≢true (sym not_due ∙ (λ i. not (f i) && eq-eqb c.now.dropped 3 k.0 i)))

      by : c.now.ended ≡ false → After a c.now → c.now.dropped < 3
      by e (inl over) = absurd (false≢true (sym e ∙ over))
      by e (inr h) = few e h.2

  -- behind the last one it has ended
  settled_twice : (p q r : Play) (a : Activity) (c : Changes budget place p q) → Changes budget place q r → Settled p.activities.items
      → slice_get p.activities.items place ≡ Some a → last_is_due c.now ≡ true → Settled r.activities.items
  settled_twice p q r a c d settled at due i b found on = by_place i place (b.dropped < 3)
      (λ hi.
      let same : d.now ≡ b = same_Some d.now b (sym (now_changed q r d c.now (now_changed p q c a at)) ∙ ap (slice_get r.activities.items) (sym hi) ∙ found) in
      absurd (by (ap (λ (x : Activity). x.ended) same ∙ on) (d.after c.now (now_changed p q c a at))))
      (λ ni. settled i b (sym (others_changed p q c i ni) ∙ sym (others_changed q r d i ni) ∙ found) on)
    where
      three : c.now.dropped ≡ 3
      three = eqb-true c.now.dropped 3 (both_true c.now.ended (c.now.dropped == 3) due).1

      by : d.now.ended ≡ false → After c.now d.now → ⊥
      by e (inl over) = false≢true (sym e ∙ over)
      by e (inr h) = let lt = h.1 in let e3 = three in absurd (omega (arith, lt, e3))

module _ (rules : Rules) (s : Stream) (place : ℕ) (p q r : Play) (a : Activity) (at : slice_get p.activities.items place ≡ Some a)
    (c : Changes rules.budget place p q) (l : LastTurn rules s place q r) where
  at_q : slice_get q.activities.items place ≡ Some c.now
  at_q = now_changed rules.budget place p q c a at

  pub settled_at : Settled p.activities.items → Settled r.activities.items
  settled_at settled = by_bool (last_is_due c.now)
      (λ due. settled_twice rules.budget place p q r a c (l.one c.now at_q due) settled at due)
      (λ not_due. subst (λ (x : Play). Settled x.activities.items) (sym (l.none c.now at_q not_due))
      (settled_once rules.budget place p q a c settled at not_due))

  pub turned_at : TurnAt rules.budget place p r
  turned_at = by_bool (last_is_due c.now)
      (λ due. at_twice rules.budget place p q r c (l.one c.now at_q due) due)
      (λ not_due. subst (TurnAt rules.budget place p) (sym (l.none c.now at_q not_due)) (at_once rules.budget place p q c))

-- ---- it is the turn of the definition

module _ (rules : Rules) (place steps : ℕ) (p q : Play) (a : Activity) (at : slice_get p.activities.items place ≡ Some a) where
  -- it was stopped
  pub turn_stopped : (s : Stream) (halt : Halt) → a.ended ≡ false → HaltsAt rules s place steps p halt
      → HaltsIn rules s (by_turn rules.budget (at_place place steps)) p halt
  turn_stopped s halt on h = λ library parts copy arena ends first is.
      let one = h library parts copy arena ends first is in
      record {
        more = one.more;
        gone = one.gone;
        further = one.further;
        wrote = one.wrote;
        now = one.now;
        objects = one.objects;
        so_far = one.so_far;
        exact = λ d ex.
            let f = stands_at rules.budget p ends d ex place a at on in
            subst (Fronts (d.out ++ one.gone)) (sym (turn_there library parts rules.budget d (at_place place steps) f.is f.there))
            (one.exact d ex f.is f.there (next_try library parts rules.budget) (λ front b e k. next_front library parts rules.budget front b e k));
      }

  module _ (b0 b1 b2 : Option (List ℕ)) (f0 f1 f2 : ℕ) (one : OneTurn rules (stream b0 b1 f0 f1) place steps p q) where
    abbrev x : Activity
    x = one.changes.now

    at_x : slice_get q.activities.items place ≡ Some x
    at_x = now_changed rules.budget place p q one.changes a at

    module _ (library : Option Tree) (parts : List Tree) (ends more : List End) (gone : List ℕ) (d : defined.Play)
        (t : TurnIs library parts rules.budget steps place d q (ends ++ more) gone) where
      -- the fourth try, where it was due, is of this turn
      both_turns : (r : Play) (later : List End) (rest : List ℕ)
          → ((y : Activity) → slice_get q.activities.items place ≡ Some y → last_is_due y ≡ true → MayTurn rules.budget rules.budget y)
          → LastIs library parts rules.budget place q r t.now ((ends ++ more) ++ later) rest
          → Becomes (Is (by_turn rules.budget (at_place place steps))) library parts rules.budget r d (ends ++ (more ++ later)) (gone ++ rest)
      both_turns r later rest may l = by_bool (last_is_due x)
          (λ due.
          let two = l.due x at_x due in
          record {
            now = two.now;
            by = turn_twice library parts rules.budget steps place d q (ends ++ more) gone t x at_x due (may x at_x due) r ((ends ++ more) ++ later) rest two;
            is = subst (λ es. IsExactly rules.budget r es two.now) (append_assoc ends more later) two.is;
            out = two.out ∙ ap (λ (l : List ℕ). l ++ rest) t.out ∙ append_assoc d.out gone rest;
          })
          (λ not_due.
          let same = l.not_due x at_x not_due in
          record {
            now = t.now;
            by = turn_alone library parts rules.budget steps place d q (ends ++ more) gone t x at_x not_due;
            is = subst (λ es. IsExactly rules.budget r es t.now) (append_assoc ends more later) same.0;
            out = t.out ∙ ap (λ (l : List ℕ). d.out ++ l) (sym (append-nil gone) ∙ ap (λ (l : List ℕ). gone ++ l) (sym same.1));
          })

      -- where it was stopped, what was written for it comes behind
      fourth_prints : (rest : List ℕ) → last_is_due x ≡ true → MayTurn rules.budget rules.budget x
          → TurnPrints library parts rules.budget place rules.budget t.now rest
          → Fronts (d.out ++ (gone ++ rest)) (turn library parts rules.budget d (at_place place steps))
      fourth_prints rest due may prints =
          let f = stands_at rules.budget q (ends ++ more) t.now t.is place x at_x may.0 in
          let whole : t.now.out ++ rest ≡ d.out ++ (gone ++ rest) = ap (λ (l : List ℕ). l ++ rest) t.out ∙ append_assoc d.out gone rest in
          subst (λ l. Fronts l (turn library parts rules.budget d (at_place place steps))) whole
          (subst (Fronts (t.now.out ++ rest)) (sym (turn_of_fourth library parts rules.budget steps place d q
          (ends ++ more) gone t x at_x due may f.is f.there)) (prints f.is f.there goes_on (λ front b e k. k)))

    pub turn_taken : (r : Play) → ((y : Activity) → slice_get q.activities.items place ≡ Some y → last_is_due y ≡ true → MayTurn rules.budget rules.budget y)
        → LastTurn rules (stream b1 b2 f1 f2) place q r
        → TurnsTo rules (stream b0 b2 f0 f2) (Is (by_turn rules.budget (at_place place steps))) p r
    turn_taken r may last = λ library parts copy arena ends first is.
        let m = one.turns library parts copy arena ends first is in
        let n = last.turns library parts copy arena (ends ++ m.more) first m.is in
        record {
          more = m.more ++ n.more;
          gone = m.gone ++ n.gone;
          further = further_then library parts rules.budget copy arena ends m.more n.more m.gone n.gone m.further n.further;
          got = Appends-then b0 b1 b2 m.gone n.gone m.got n.got;
          is = subst (IsPlay library parts rules.budget copy arena r) (append_assoc ends m.more n.more) n.is;
          exact = λ d ex. let t = m.exact d ex in both_turns library parts ends m.more m.gone d t r n.more n.gone may (n.exact t.now t.is);
        }

    pub last_stopped : (halt : Halt) → f0 ≤ f1 → ((y : Activity) → slice_get q.activities.items place ≡ Some y → last_is_due y ≡ true
        → MayTurn rules.budget rules.budget y) → LastHalts rules (stream b1 b2 f1 f2) place q halt
        → HaltsIn rules (stream b0 b2 f0 f2) (by_turn rules.budget (at_place place steps)) p halt
    last_stopped halt le may last = λ library parts copy arena ends first is.
        let m = one.turns library parts copy arena ends first is in
        let n = last.halts library parts copy arena (ends ++ m.more) first m.is in
        let due = last.due x at_x in
        record {
          more = m.more ++ n.more;
          gone = m.gone ++ n.gone;
          further = further_then library parts rules.budget copy arena ends m.more n.more m.gone n.gone m.further n.further;
          wrote = wrote_then b0 b1 b2 f0 f1 f2 halt m.gone n.gone le m.got n.wrote;
          now = n.now;
          objects = n.objects;
          so_far = subst (SoFar library parts rules.budget copy arena n.now n.objects) (append_assoc ends m.more n.more) n.so_far;
          exact = λ d ex. let t = m.exact d ex in fourth_prints library parts ends m.more m.gone d t n.gone due (may x at_x due) (n.exact t.now t.is);
        }

-- ---- one turn alone

module _ (rules : Rules) where
  -- memory ran out before anything was written
  pub out_of_memory : (b : Option (List ℕ)) (f place steps : ℕ) (p : Play) → HaltsAt rules (stream b b f f) place steps p halts.OutOfMemory
  out_of_memory b f place steps p = λ library parts copy arena ends first is. record {
    more = [];
    gone = [];
    further = further_none library parts rules.budget copy arena ends;
    wrote = record { front = []; rest = []; whole = refl; got = Appends-nil b };
    now = first_in p.common;
    objects = arena_in p.common.texts p.common.arena;
    so_far = subst (SoFar library parts rules.budget copy arena (first_in p.common) (arena_in p.common.texts p.common.arena)) (sym (append-nil ends)) is.so_far;
    exact = λ d ex was there go keeps.
        let front : List ℕ = d.out ++ [] in
        try_front library parts rules.budget front go (keeps front) steps was (try_of was d) d ([], sym (append-nil front ∙ append-nil d.out));
  }

  -- what is printed for a turn was written
  pub one_turned : (s : Stream) (place steps : ℕ) (p q : Play) (output : List ℕ) → TurnMade rules place steps p q output → Got s output
      → OneTurn rules s place steps p q
  one_turned s place steps p q output t got = record {
    turns = λ library parts copy arena ends first is.
        let m = t.made library parts copy arena ends first is in
        record { more = (m.made).more; gone = output; further = (m.made).further; got = got; is = (m.made).is; exact = m.exact };
    changes = t.changes;
  }

  -- the sink failed before it was
  pub one_stopped : (s : Stream) (place steps : ℕ) (p q : Play) (output : List ℕ) → TurnMade rules place steps p q output → Stops s output
      → HaltsAt rules s place steps p halts.SinkFailed
  one_stopped s place steps p q output t stops = λ library parts copy arena ends first is.
      let m = t.made library parts copy arena ends first is in
      record {
        more = (m.made).more;
        gone = output;
        further = (m.made).further;
        wrote = stops;
        now = first_in q.common;
        objects = arena_in q.common.texts q.common.arena;
        so_far = (m.made).is.so_far;
        exact = λ d ex. turn_prints library parts rules.budget steps place d q (ends ++ (m.made).more) output (m.exact d ex);
      }

  -- the fourth try's, where it was due
  pub last_taken : (s : Stream) (place : ℕ) (p q : Play) → ((a : Activity) → slice_get p.activities.items place ≡ Some a → last_is_due a ≡ true)
      → OneTurn rules s place rules.budget p q → LastTurn rules s place p q
  last_taken s place p q due one = record {
    turns = λ library parts copy arena ends first is.
        let m = one.turns library parts copy arena ends first is in
        record {
          more = m.more;
          gone = m.gone;
          further = m.further;
          got = m.got;
          is = m.is;
          exact = λ d ex. record { due = λ a at is_due. m.exact d ex; not_due = λ a at not_due. absurd (false≢true (sym not_due ∙ due a at)) };
        };
    none = λ a at not_due. absurd (false≢true (sym not_due ∙ due a at));
    one = λ a at is_due. one.changes;
  }

  pub last_left : (b : Option (List ℕ)) (f place : ℕ) (p : Play) → ((a : Activity) → slice_get p.activities.items place ≡ Some a → last_is_due a ≡ false)
      → LastTurn rules (stream b b f f) place p p
  last_left b f place p none = record {
    turns = λ library parts copy arena ends first is. record {
      more = [];
      gone = [];
      further = further_none library parts rules.budget copy arena ends;
      got = Appends-nil b;
      is = subst (IsPlay library parts rules.budget copy arena p) (sym (append-nil ends)) is;
      exact = λ d ex. record {
        due = λ a at is_due. absurd (false≢true (sym (none a at) ∙ is_due));
        not_due = λ a at not_due. (subst (λ es. IsExactly rules.budget p es d) (sym (append-nil ends)) ex, refl);
      };
    };
    none = λ a at not_due. refl;
    one = λ a at is_due. absurd (false≢true (sym (none a at) ∙ is_due));
  }
