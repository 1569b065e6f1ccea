-- What is delivered in parts.
use Rattle.std.proofs.Common.{◌≡◌, ℕ, ◌≤◌, inl, inr, List, [], ◌++◌, Option, Result, Ok, Err, IsErrAnd, refl, sym, ◌∙◌, ap, subst, append_assoc, append-nil}
use Rattle.wjs_io.specs.Streams.{Stream, stream, Got, GotPrefix, Stops}
use Rattle.wjs_io.proofs.Written.{Appends-nil, Appends-then}
use Rattle.wjs_io.proofs.Rising.{later_rise}
use Rattle.wjs_command.specs.declared.report.Report.{Report}
use Rattle.wjs_command.specs.declared.report.Stop.{Stop}
use Rattle.wjs_command.specs.declared.report.Stop.TheVariants.{ReadFault, OutFault, OutOfMemory}
use Rattle.wjs_command.specs.declared.status.Status.{Status}
use Rattle.wjs_command.specs.declared.status.Status.TheVariants as statuses
use Rattle.wjs_command.specs.Table.{Told}
use Rattle.wjs_command.specs.Attempt.{Delivers, Comes, nothing, something, ComesAlone, Refuses, Writes}

-- a front of all is a front of more
pub prefix_longer : (s : Stream) (bytes all later : List ℕ) → all ≡ bytes ++ later → GotPrefix s bytes → GotPrefix s all
prefix_longer s bytes all later e h = record {
  front = h.front;
  rest = h.rest ++ later;
  whole = e ∙ ap (λ l. l ++ later) h.whole ∙ append_assoc h.front h.rest later;
  got = h.got;
}

-- all is a front
pub prefix_all : (s : Stream) (bytes : List ℕ) → Got s bytes → GotPrefix s bytes
prefix_all s bytes h = record { front = bytes; rest = []; whole = sym (append-nil bytes); got = h }

-- nothing is a front
prefix_none : (s : Stream) (bytes : List ℕ) → Got s [] → GotPrefix s bytes
prefix_none s bytes h = record { front = []; rest = bytes; whole = refl; got = h }

-- what went out, and then what is delivered
pub deliver_on : (before middle after : Option (List ℕ)) (f0 f1 f2 : ℕ) (first : List ℕ) (told : Told) (result : Result Report Stop) → f0 ≤ f1 → Got (stream before middle f0 f1) first → Delivers told (stream middle after f1 f2) result → Delivers (record told { out = first ++ told.out }) (stream before after f0 f2) result
deliver_on before middle after f0 f1 f2 first told (Ok report) le got d = (Appends-then before middle after first told.out got d.0, d.1)
deliver_on before middle after f0 f1 f2 first told (Err ReadFault) le got d = absurd d
deliver_on before middle after f0 f1 f2 first told (Err OutFault) le got d = record {
  cause = later_rise f0 f1 f2 le d.cause;
  wrote = record {
    prefix = record {
      front = first ++ d.wrote.prefix.front;
      rest = d.wrote.prefix.rest;
      whole = ap (λ l. first ++ l) d.wrote.prefix.whole ∙ sym (append_assoc first d.wrote.prefix.front d.wrote.prefix.rest);
      got = Appends-then before middle after first d.wrote.prefix.front got d.wrote.prefix.got;
    };
    shorter = d.wrote.shorter;
  };
}
deliver_on before middle after f0 f1 f2 first told (Err OutOfMemory) le got d = record {
  front = first ++ d.front;
  rest = d.rest;
  whole = ap (λ l. first ++ l) d.whole ∙ sym (append_assoc first d.front d.rest);
  got = Appends-then before middle after first d.front got d.got;
}

-- what was written in vain is delivered in vain
pub writes_stop : (told : Told) (out : Stream) (stop : Stop) → Writes told.out out (Err stop) → Delivers told out (Err stop)
writes_stop told out ReadFault h = absurd h
writes_stop told out OutFault h = h
writes_stop told out OutOfMemory h = prefix_none out told.out h

-- what is owed is what is owed by more
pub comes_as : (P Q : Told → Type 0) (out : Stream) (result : Result Report Stop) → ((told : Told) → P told → Q told) → Comes P out result → Comes Q out result
comes_as P Q out result f (nothing e got) = nothing e got
comes_as P Q out result f (something told p d) = something told (f told p) d

-- ---- want of memory, as a `?` hands it on

pub spent_is : {T : Type 0} (result : Result T Stop) → IsErrAnd result (λ stop. stop ≡ OutOfMemory) → result ≡ Err OutOfMemory
spent_is (Ok x) h = absurd h
spent_is (Err stop) h = ap Err h

-- before anything was written
pub spent_comes : (Owed : Told → Type 0) (held : Option (List ℕ)) (faults : ℕ) (result : Result Report Stop) → IsErrAnd result (λ stop. stop ≡ OutOfMemory) → Comes Owed (stream held held faults faults) result
spent_comes Owed held faults result h = nothing (spent_is result h) (Appends-nil held)

-- after all was
pub spent_delivers : (told : Told) (out : Stream) (result : Result Report Stop) → IsErrAnd result (λ stop. stop ≡ OutOfMemory) → Got out told.out → Delivers told out result
spent_delivers told out result h got = subst (Delivers told out) (sym (spent_is result h)) (prefix_all out told.out got)

pub spent_refuses : (text : List ℕ) (result : Result Report Stop) → IsErrAnd result (λ stop. stop ≡ OutOfMemory) → Refuses text result
spent_refuses text result h = subst (Refuses text) (sym (spent_is result h)) refl

-- ---- a play, by what its parts print alone

-- what is written alone by one reading is by another
pub alone_as : (P Q : (List ℕ → Type 0) → Type 0) (out : Stream) (result : Result Report Stop) →
    ((Wrote : List ℕ → Type 0) → P Wrote → Q Wrote) → ComesAlone P out result → ComesAlone Q out result
alone_as P Q out (Ok report) f h = λ done. f (Got out) (h done)
alone_as P Q out (Err ReadFault) f h = tt
alone_as P Q out (Err OutFault) f h = f (Stops out) h
alone_as P Q out (Err OutOfMemory) f (inl got) = inl got
alone_as P Q out (Err OutOfMemory) f (inr h) = inr (f (GotPrefix out) h)

-- a play of another status has not come to its end
abbrev pub IsOther : Status → Type 0
IsOther statuses.Done = ⊥
IsOther _ = Unit {0}

pub not_done : (s : Status) (report : Report) → IsOther s → report.status ≡ s → report.status ≡ statuses.Done → ⊥
not_done s report other is done = subst IsOther (sym is ∙ done) other

-- nothing was written
pub none_alone : (Alone : (List ℕ → Type 0) → Type 0) (out : Stream) (result : Result Report Stop) →
    result ≡ Err OutOfMemory → Got out [] → ComesAlone Alone out result
none_alone Alone out result e got = subst (ComesAlone Alone out) (sym e) (inl got)

pub spent_alone : (Alone : (List ℕ → Type 0) → Type 0) (held : Option (List ℕ)) (faults : ℕ) (result : Result Report Stop) →
    IsErrAnd result (λ stop. stop ≡ OutOfMemory) → ComesAlone Alone (stream held held faults faults) result
spent_alone Alone held faults result h = none_alone Alone (stream held held faults faults) result (spent_is result h) (Appends-nil held)

pub refused_alone : (Alone : (List ℕ → Type 0) → Type 0) (out : Stream) (text : List ℕ) (result : Result Report Stop) →
    Refuses text result → Got out [] → ComesAlone Alone out result
refused_alone Alone out text (Ok report) is got = λ done. absurd (not_done statuses.Refused report tt is.status_is done)
refused_alone Alone out text (Err e) is got = none_alone Alone out (Err e) (ap Err is) got
