-- Bytes that are written in pieces.
use Rattle.std.proofs.Common.{◌≡◌, ℕ, ◌<◌, ◌≤◌, ◌^◌, List, [], ◌∷◌, ◌++◌, Option, None, Some, length, take, drop, sym, ◌∙◌, ap, arith, append_assoc, length-append, length-drop, ◌⊎◌, inl, inr, Result, Ok, Err, OnOk, IfErr}
use Rattle.std.specs.Io.KnownBytes.{Appends}
use Rattle.std.proofs.lemmas.List.{take-append-drop, append-nil}
use Rattle.wjs_io.specs.Faults.{Rises, HasCause}
use Rattle.wjs_io.specs.declared.loops.Stopped.{Stopped}
use Rattle.wjs_io.specs.Streams.{stream, Got, Stops}

-- the front of the bytes is written, and this is the rest
pub record Written (before after : Option (List ℕ)) (faults_before faults_after : ℕ) (bytes rest : List ℕ) : Type 0 where
  pub front : List ℕ
  pub whole : bytes ≡ front ++ rest
  pub got : Appends before after front
  pub never_falls : faults_before ≤ faults_after

pub Appends-nil : (a : Option (List ℕ)) → Appends a a []
Appends-nil None = tt
Appends-nil (Some x) = sym (append-nil x)

pub Appends-then : (a b c : Option (List ℕ)) (bs cs : List ℕ) → Appends a b bs → Appends b c cs → Appends a c (bs ++ cs)
Appends-then None b c bs cs p q = tt
Appends-then (Some x) None c bs cs p q = absurd p
Appends-then (Some x) (Some y) None bs cs p q = absurd q
Appends-then (Some x) (Some y) (Some z) bs cs p q = q ∙ ap (λ l. l ++ cs) p ∙ append_assoc x bs cs

-- a sink stopped within the piece that follows the front
pub written_stops : (before middle after : Option (List ℕ)) (faults counted counted_after : ℕ) (bytes rest piece behind : List ℕ) (gone : ℕ) → Written before middle faults counted bytes rest → rest ≡ piece ++ behind → gone < length piece → Appends middle after (take gone piece) → Rises counted counted_after → Stops (stream before after faults counted_after) bytes
written_stops before middle after faults counted counted_after bytes rest piece behind gone w split few got rises =
    record {
      cause = omega (arith, rises);
      wrote = record {
        prefix = record {
          front = w.front ++ take gone piece;
          rest = drop gone piece ++ behind;
          whole = w.whole ∙ ap (λ bs. w.front ++ bs) (split ∙ ap (λ bs. bs ++ behind) (sym (take-append-drop gone piece)) ∙ append_assoc (take gone piece) (drop gone piece) behind) ∙ sym (append_assoc w.front (take gone piece) (drop gone piece ++ behind));
          got = Appends-then before middle after w.front (take gone piece) w.got got;
        };
        shorter = omega (arith, length-append (drop gone piece) behind, length-drop gone piece);
      };
    }

pub written_more : (before middle after : Option (List ℕ)) (faults counted counted_after : ℕ) (bytes rest piece behind : List ℕ) → Written before middle faults counted bytes rest → rest ≡ piece ++ behind → Appends middle after piece → counted ≤ counted_after → Written before after faults counted_after bytes behind
written_more before middle after faults counted counted_after bytes rest piece behind w split got falls =
    record {
      front = w.front ++ piece;
      whole = w.whole ∙ ap (λ bs. w.front ++ bs) split ∙ sym (append_assoc w.front piece behind);
      got = Appends-then before middle after w.front piece w.got got;
      never_falls = omega arith;
    }

pub stops_at : (before after : Option (List ℕ)) (faults more : ℕ) (bytes : List ℕ) (gone : ℕ) → gone < length bytes → Appends before after (take gone bytes) → Rises faults more → Stops (stream before after faults more) bytes
stops_at before after faults more bytes gone few got rises =
    record {
      cause = rises;
      wrote = record {
        prefix = record { front = take gone bytes; rest = drop gone bytes; whole = sym (take-append-drop gone bytes); got = got };
        shorter = omega (arith, length-drop gone bytes);
      };
    }

-- what write_all_of answers
pub tried : (before after : Option (List ℕ)) (faults more : ℕ) (bytes : List ℕ) (r : Result (Unit {0}) Stopped) → OnOk r (Appends before after bytes) → IfErr r (λ s. s.gone < length bytes) → IfErr r (λ s. Appends before after (take s.gone bytes)) → HasCause faults more r → Got (stream before after faults more) bytes ⊎ Stops (stream before after faults more) bytes
tried before after faults more bytes (Ok done) ok few gone cause = inl ok
tried before after faults more bytes (Err s) ok few gone cause = inr (stops_at before after faults more bytes s.gone few gone cause.rises)
