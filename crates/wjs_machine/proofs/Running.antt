-- Turns and output one after another.
use Rattle.std.proofs.Common.{◌≡◌, ℕ, ◌<◌, not, IsTrue, List, ◌++◌, inl, inr, sym, ap, ◌∙◌, subst, arith, append_assoc, length, length-append}
use Rattle.wjs_base.specs.Text.{Table, Grows}
use Rattle.wjs_base.proofs.TextLaws.{Grows-refl}
use Rattle.wjs_store.specs.Meaning.{Meaning, View, IsSound}
use Rattle.wjs_io.specs.Streams.{Stream, Stops}
use Rattle.wjs_meaning.specs.Deeds.{St}
use Rattle.wjs_meaning.specs.Programs.{Ending}
use Rattle.wjs_model.specs.declared.config.Config.{Config}
use Rattle.wjs_model.specs.Outside.{alone}
use Rattle.wjs_model.specs.Configurations.{rest, turns}
use Rattle.wjs_model.specs.Soundness.{Sound}
use Rattle.wjs_frames.specs.Taking.{Turns}
use Rattle.wjs_frames.specs.Reaching.{own_view, AdmitsOwn, Reaches, Falls, turns_now}
use Rattle.wjs_frames.proofs.Reaching.{turn_reaches, stays_on}
use Rattle.wjs_frames.proofs.Growing.{left_alike, later_alike}
use Rattle.wjs_machine.specs.Flushing.{after_output, GoesOut, Flushes}
use Rattle.wjs_machine.specs.Runs.{run_of, output_of, Advances}
use Rattle.wjs_machine.proofs.Flushes.{output_lem, turns_lem, output_first}
use Rattle.wjs_machine.proofs.Pending.{sound_out, stays_out}

-- output after output
pub after_both : (one two : List ℕ) (r : Ending × St) → after_output one (after_output two r) ≡ after_output (one ++ two) r
after_both one two r = ap (λ out. (r.0, record r.1 { out = out })) (sym (append_assoc one two (r.1).out))

-- less than a front is less than all
pub stops_longer : (s : Stream) (bytes all later : List ℕ) → all ≡ bytes ++ later → Stops s bytes → Stops s all
stops_longer s bytes all later e h = record {
  cause = h.cause;
  wrote = record {
    prefix = record {
      front = h.wrote.prefix.front;
      rest = h.wrote.prefix.rest ++ later;
      whole = e ∙ ap (λ l. l ++ later) h.wrote.prefix.whole ∙ append_assoc h.wrote.prefix.front h.wrote.prefix.rest later;
      got = h.wrote.prefix.got;
    };
    shorter = longer h.wrote.prefix.rest later h.wrote.shorter;
  };
}
  where
    longer : (xs ys : List ℕ) → 0 < length xs → 0 < length (xs ++ ys)
    longer xs ys h = omega (arith, h, length-append xs ys)

module _ {S : Type 0} (meaning : S → Meaning) where
  -- output that goes out leaves what was left to do
  pub out_run : (gone : List ℕ) (old new : Config S) → GoesOut gone old new → run_of meaning old ≡ after_output gone (run_of meaning new)
  out_run gone old new h =
      output_lem meaning gone old new h old.heap.texts (own_view meaning old) old.left
      ∙ ap (λ (c : Config S). after_output gone (rest meaning c.heap.texts (own_view meaning c) new c.left)) (sym h.same)

  out_turns : (gone : List ℕ) (old new : Config S) → GoesOut gone old new → turns_now meaning new ≡ turns_now meaning old
  out_turns gone old new h =
      ap (λ (c : Config S). turns meaning c.heap.texts (own_view meaning c) new) h.same
      ∙ sym (turns_lem meaning gone old new h old.heap.texts (own_view meaning old))

  out_falls : (gone : List ℕ) (old mid new : Config S) → GoesOut gone mid new → Falls meaning old mid → Falls meaning old new
  out_falls gone old mid new h (inl less) = inl (subst (λ n. n < old.left) (sym (ap (λ (c : Config S). c.left) h.same)) less)
  out_falls gone old mid new h (inr (inl less)) = inr (inl (ap (λ (c : Config S). c.left) h.same ∙ less.0, subst (λ n. n < turns_now meaning old) (sym (out_turns gone mid new h)) less.1))
  out_falls gone old mid new h (inr (inr ended)) = inr (inr (λ e. ended (sym (ap (λ (c : Config S). c.state) h.same) ∙ e)))

  -- what is pending is a front of all the output
  pub pending_first : (c : Config S) → (later : List ℕ) × (output_of meaning c ≡ c.pending.items ++ later)
  pending_first c = output_first meaning c c.heap.texts (own_view meaning c) c.left

  -- what is left to do is the same in later texts
  later_run : (c : Config S) (t : Table) (own : View) (n : ℕ) → Sound meaning c → Grows c.heap.texts t → own ≡ (meaning c.heap.store).own → rest meaning t (alone own t) c n ≡ rest meaning c.heap.texts (own_view meaning c) c n
  later_run c t own n sound g same =
      (left_alike meaning t (alone own t) c sound g).rest n
      ∙ ap (λ v. rest meaning c.heap.texts (alone v t) c n) same
      ∙ (later_alike meaning c.heap.texts t (own_view meaning c) c sound (Grows-refl c.heap.texts) g sound.base.marks).rest n

-- over a store that admits its own view while it works
module _ {S : Type 0} (meaning : S → Meaning) (works : (s : S) → IsTrue (not (meaning s).spent) → IsSound (meaning s)) where
  pub own_admitted : (c : Config S) → Sound meaning c → AdmitsOwn meaning c
  own_admitted c sound = (works c.heap.store sound.base.works).admits_own

  -- a turn reaches what it leaves
  reached : (old new : Config S) → Sound meaning old → Turns meaning old new → Reaches meaning old new × Falls meaning old new
  reached old new sound turns = turn_reaches meaning old new sound (own_admitted new turns.sound) turns.turned

  -- and so leaves what was left to do
  turn_run : (old new : Config S) → Sound meaning old → Turns meaning old new → run_of meaning old ≡ run_of meaning new
  turn_run old new sound turns =
      let r = (reached old new sound turns).0 in
      sym (later_run meaning old new.heap.texts (meaning new.heap.store).own old.left sound r.stays.texts r.stays.own) ∙ r.kept

  -- a turn, and what goes out
  pub advanced : (s : Stream) (old mid new : Config S) → Sound meaning old → Turns meaning old mid → Flushes s mid new → Advances meaning s old new
  advanced s old mid new sound turns f =
      let r = reached old mid sound turns in
      record {
        between = mid;
        turned = turns.turned;
        gone = f.gone;
        got = f.got;
        out = f.out;
        run = turn_run old mid sound turns ∙ out_run meaning f.gone mid new f.out;
        falls = out_falls meaning f.gone old mid new f.out r.1;
        stays = stays_on meaning old mid new r.0.stays (stays_out meaning mid new f.out.same);
        sound = sound_out meaning mid new f.out.same turns.sound;
        few = f.few;
      }

  -- the sink failed at the output of a turn
  pub turn_stops : (s : Stream) (old mid : Config S) → Sound meaning old → Turns meaning old mid → Stops s mid.pending.items → Stops s (output_of meaning old)
  turn_stops s old mid sound turns h =
      let first = pending_first meaning mid in
      stops_longer s mid.pending.items (output_of meaning old) first.0 (ap (λ r. (r.1).out) (turn_run old mid sound turns) ∙ first.1) h
