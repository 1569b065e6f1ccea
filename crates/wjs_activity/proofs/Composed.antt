-- Turns one after another, and what is written for them.
use Rattle.std.proofs.Common.{ℕ, ◌≤◌, List, [], ◌++◌, length, Option, sym, ap, ◌∙◌, subst, arith, append_assoc, append-nil}
use Rattle.std.specs.Prelude.{Result, Ok, Err, IfErr}
use Rattle.wjs_io.specs.Streams.{Stream, stream, Got}
use Rattle.wjs_io.proofs.Written.{Appends-nil, Appends-then}
use Rattle.wjs_io.proofs.Rising.{later_rise}
use Rattle.wjs_by_content.specs.Objects.{Arena}
use Rattle.wjs_model.specs.declared.halt.Halt.{Halt}
use Rattle.wjs_model.specs.declared.halt.Halt.TheVariants as halts
use Rattle.wjs_meaning.specs.Trees.{Tree}
use Rattle.wjs_alone.specs.Alone.{Copy}
use Rattle.wjs_alone.specs.Serial.{End, runs_of, printed_by}
use Rattle.wjs_alone.specs.Playing as defined
use Rattle.wjs_alone.specs.Fronts.{Fronts}
use Rattle.wjs_activity.specs.declared.activities.Play.{Play}
use Rattle.wjs_activity.specs.declared.activities.Rules.{Rules}
use Rattle.wjs_activity.specs.SoFar.{SoFar, IsPlay}
use Rattle.wjs_activity.specs.Exactly.{IsExactly}
use Rattle.wjs_activity.specs.Rounds.{Further, WroteBy, TurnsBy, TurnsTo, HaltsIn, IsGoing}

-- ---- what is printed

module _ (library : Option Tree) (parts : List Tree) (budget : ℕ) (copy : Copy) (arena : Arena) where
  pub further_none : (ends : List End) → Further library parts budget copy arena ends [] []
  further_none ends = record {
    is = ap (λ (es : List End). printed_by library parts budget copy (runs_of es)) (append-nil ends)
        ∙ sym (append-nil (printed_by library parts budget copy (runs_of ends)));
  }

  pub further_then : (ends one two : List End) (a b : List ℕ) → Further library parts budget copy arena ends one a
      → Further library parts budget copy arena (ends ++ one) two b → Further library parts budget copy arena ends (one ++ two) (a ++ b)
  further_then ends one two a b f g = record {
    is =
        ap (λ (es : List End). printed_by library parts budget copy (runs_of es)) (sym (append_assoc ends one two))
        ∙ g.is
        ∙ ap (λ (l : List ℕ). l ++ b) f.is
        ∙ append_assoc (printed_by library parts budget copy (runs_of ends)) a b;
  }

-- ---- what is written

pub wrote_then : (b0 b1 b2 : Option (List ℕ)) (f0 f1 f2 : ℕ) (halt : Halt) (one two : List ℕ) → f0 ≤ f1 → Got (stream b0 b1 f0 f1) one
    → WroteBy (stream b1 b2 f1 f2) halt two → WroteBy (stream b0 b2 f0 f2) halt (one ++ two)
wrote_then b0 b1 b2 f0 f1 f2 halts.SinkFailed one two le got h = record {
  cause = later_rise f0 f1 f2 le h.cause;
  wrote = record {
    prefix = record {
      front = one ++ h.wrote.prefix.front;
      rest = h.wrote.prefix.rest;
      whole = ap (λ (l : List ℕ). one ++ l) h.wrote.prefix.whole ∙ sym (append_assoc one h.wrote.prefix.front h.wrote.prefix.rest);
      got = Appends-then b0 b1 b2 one h.wrote.prefix.front got h.wrote.prefix.got;
    };
    shorter = h.wrote.shorter;
  };
}
wrote_then b0 b1 b2 f0 f1 f2 halts.OutOfMemory one two le got h = record {
  front = one ++ h.front;
  rest = h.rest;
  whole = ap (λ (l : List ℕ). one ++ l) h.whole ∙ sym (append_assoc one h.front h.rest);
  got = Appends-then b0 b1 b2 one h.front got h.got;
}

module _ (rules : Rules) where
  -- no turn was taken
  pub turns_none : (b : Option (List ℕ)) (f : ℕ) (p : Play) (By : Option Tree → List Tree → defined.Play → defined.Play → Type 0)
      → ((library : Option Tree) (parts : List Tree) (ends : List End) (d : defined.Play) → IsExactly rules.budget p ends d → By library parts d d)
      → TurnsTo rules (stream b b f f) By p p
  turns_none b f p By same = λ library parts copy arena ends first is. record {
    more = [];
    gone = [];
    further = further_none library parts rules.budget copy arena ends;
    got = Appends-nil b;
    is = subst (IsPlay library parts rules.budget copy arena p) (sym (append-nil ends)) is;
    exact = λ d ex. record {
      now = d;
      by = same library parts ends d ex;
      is = subst (λ es. IsExactly rules.budget p es d) (sym (append-nil ends)) ex;
      out = sym (append-nil d.out);
    };
  }

  pub turns_then : (b0 b1 b2 : Option (List ℕ)) (f0 f1 f2 : ℕ) (p q r : Play) (One Two Both : Option Tree → List Tree → defined.Play → defined.Play → Type 0)
      → ((library : Option Tree) (parts : List Tree) (ends : List End) (d e g : defined.Play) → One library parts d e → IsExactly rules.budget q ends e
      → Two library parts e g → Both library parts d g)
      → TurnsTo rules (stream b0 b1 f0 f1) One p q → TurnsTo rules (stream b1 b2 f1 f2) Two q r → TurnsTo rules (stream b0 b2 f0 f2) Both p r
  turns_then b0 b1 b2 f0 f1 f2 p q r One Two Both both h k = λ library parts copy arena ends first is.
      let one = h library parts copy arena ends first is in
      let two = k library parts copy arena (ends ++ one.more) first one.is in
      record {
        more = one.more ++ two.more;
        gone = one.gone ++ two.gone;
        further = further_then library parts rules.budget copy arena ends one.more two.more one.gone two.gone one.further two.further;
        got = Appends-then b0 b1 b2 one.gone two.gone one.got two.got;
        is = subst (IsPlay library parts rules.budget copy arena r) (append_assoc ends one.more two.more) two.is;
        exact = λ d ex.
            let a = one.exact d ex in
            let b = two.exact a.now a.is in
            record {
              now = b.now;
              by = both library parts (ends ++ one.more) d a.now b.now a.by a.is b.by;
              is = subst (λ es. IsExactly rules.budget r es b.now) (append_assoc ends one.more two.more) b.is;
              out = b.out ∙ ap (λ (l : List ℕ). l ++ two.gone) a.out ∙ append_assoc d.out one.gone two.gone;
            };
      }

  -- what the definition's play becomes is said otherwise
  pub turns_so : (s : Stream) (p q : Play) (One Two : Option Tree → List Tree → defined.Play → defined.Play → Type 0)
      → ((library : Option Tree) (parts : List Tree) (ends later : List End) (d e : defined.Play) → IsExactly rules.budget p ends d
      → IsExactly rules.budget q later e → One library parts d e → Two library parts d e) → TurnsTo rules s One p q → TurnsTo rules s Two p q
  turns_so s p q One Two so h = λ library parts copy arena ends first is.
      let one = h library parts copy arena ends first is in
      record {
        more = one.more;
        gone = one.gone;
        further = one.further;
        got = one.got;
        is = one.is;
        exact = λ d ex. let a = one.exact d ex in record {
          now = a.now;
          by = so library parts ends (ends ++ one.more) d a.now ex a.is a.by;
          is = a.is;
          out =
              a.out;
        };
      }

  pub halts_then : (b0 b1 b2 : Option (List ℕ)) (f0 f1 f2 : ℕ) (p q : Play) (halt : Halt)
      (One : Option Tree → List Tree → defined.Play → defined.Play → Type 0) (step whole : Option Tree → List Tree → defined.Play → defined.Play)
      → ((library : Option Tree) (parts : List Tree) (ends : List End) (d e : defined.Play) → One library parts d e → IsExactly rules.budget q ends e
      → (front : List ℕ) → Fronts front (step library parts e) → Fronts front (whole library parts d))
      → f0 ≤ f1 → TurnsTo rules (stream b0 b1 f0 f1) One p q → HaltsIn rules (stream b1 b2 f1 f2) step q halt → HaltsIn rules (stream b0 b2 f0 f2) whole p halt
  halts_then b0 b1 b2 f0 f1 f2 p q halt One step whole later le h k = λ library parts copy arena ends first is.
      let one = h library parts copy arena ends first is in
      let two = k library parts copy arena (ends ++ one.more) first one.is in
      record {
        more = one.more ++ two.more;
        gone = one.gone ++ two.gone;
        further = further_then library parts rules.budget copy arena ends one.more two.more one.gone two.gone one.further two.further;
        wrote = wrote_then b0 b1 b2 f0 f1 f2 halt one.gone two.gone le one.got two.wrote;
        now = two.now;
        objects = two.objects;
        so_far = subst (SoFar library parts rules.budget copy arena two.now two.objects) (append_assoc ends one.more two.more) two.so_far;
        exact = λ d ex.
            let a = one.exact d ex in
            let whole_out = ap (λ (l : List ℕ). l ++ two.gone) a.out ∙ append_assoc d.out one.gone two.gone in
            later library parts (ends ++ one.more) d a.now a.by a.is (d.out ++ (one.gone ++ two.gone))
            (subst (λ l. Fronts l (step library parts a.now)) whole_out (two.exact a.now a.is));
      }

  -- what follows prints behind it
  pub halts_so : (s : Stream) (p : Play) (halt : Halt) (step whole : Option Tree → List Tree → defined.Play → defined.Play)
      → ((library : Option Tree) (parts : List Tree) (ends : List End) (d : defined.Play) → IsExactly rules.budget p ends d → (front : List ℕ)
      → Fronts front (step library parts d) → Fronts front (whole library parts d)) → HaltsIn rules s step p halt → HaltsIn rules s whole p halt
  halts_so s p halt step whole later h = λ library parts copy arena ends first is.
      let one = h library parts copy arena ends first is in
      record {
        more = one.more;
        gone = one.gone;
        further = one.further;
        wrote = one.wrote;
        now = one.now;
        objects = one.objects;
        so_far = one.so_far;
        exact = λ d ex. later library parts ends d ex (d.out ++ one.gone) (one.exact d ex);
      }

  pub goes_on : (s : Stream) (Exact : Option Tree → List Tree → defined.Play → List End → List ℕ → Type 0) (p q : Play) → IsGoing rules p
      → TurnsBy rules s Exact p q → IsGoing rules q
  goes_on s Exact p q g t =
      let to = t g.library g.parts g.copy g.arena g.ends g.first g.is in
      record { library = g.library; parts = g.parts; copy = g.copy; arena = g.arena; ends = g.ends ++ to.more; some = g.some; first = g.first; is = to.is }

  -- a play has few activities
  pub few_activities : (p : Play) → IsGoing rules p → length p.activities.items ≤ 1000
  few_activities p g = let count = g.is.count in let few = g.is.few in omega (arith, count, few)

-- ---- answers

pub if_err : {A E : Type 0} (r : Result A E) (P Q : E → Type 0) → ((e : E) → P e → Q e) → IfErr r P → IfErr r Q
if_err (Ok a) P Q f h = tt
if_err (Err e) P Q f h = f e h
