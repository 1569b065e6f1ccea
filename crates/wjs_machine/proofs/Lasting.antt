-- The end of a run.
use Rattle.std.proofs.Common.{◌≡◌, ℕ, ◌≤◌, List, [], ◌++◌, Bool, true, false, Option, None, Some, refl, sym, ap, ◌∙◌, subst}
use Rattle.std.specs.Prelude.{is_some, unwrap_or}
use Rattle.std.proofs.lemmas.List.{append-nil}
use Rattle.wjs_base.specs.Text.{Table}
use Rattle.wjs_store.specs.Meaning.{Meaning, PlainAct, PlainReply}
use Rattle.wjs_io.specs.Streams.{Stream, stream, Got, Stops}
use Rattle.wjs_io.proofs.Written.{Appends-then}
use Rattle.wjs_by_content.specs.Tables.{value_in, arena_in}
use Rattle.wjs_by_content.specs.Worlds.{told_by}
use Rattle.wjs_meaning.specs.Deeds.{St}
use Rattle.wjs_meaning.specs.Programs.{Ending, Done, Threw, StepsSpent}
use Rattle.wjs_model.specs.declared.config.Config.{Config}
use Rattle.wjs_model.specs.declared.config.State.{State}
use Rattle.wjs_model.specs.declared.config.State.TheVariants as states
use Rattle.wjs_model.proofs.Beside.{beside_nothing}
use Rattle.wjs_model.specs.Configurations.{rest_by, seen, tells, run_in, frames_in, state_in}
use Rattle.wjs_model.specs.Soundness.{HasThrown, Sound}
use Rattle.wjs_frames.specs.Reaching.{own_view}
use Rattle.wjs_frames.proofs.Reaching.{stays_on}
use Rattle.wjs_machine.specs.Flushing.{FlushesAll}
use Rattle.wjs_machine.specs.Runs.{run_of, output_of, Reaches, EndsAs, RunsTo, ending_of}
use Rattle.wjs_model.specs.declared.halt.Ending.{Ending as Outcome}
use Rattle.wjs_model.specs.declared.halt.Ending.TheVariants as outcomes
use Rattle.wjs_machine.proofs.Running.{out_run, pending_first, stops_longer}
use Rattle.wjs_machine.proofs.Pending.{sound_out, stays_out}
use Rattle.wjs_machine.proofs.Stepping.{stops_on, prefix_on}

seen_ending : (b : Bool) (r : Ending × St) → (seen b r).0 ≡ r.0
seen_ending true r = refl
seen_ending false r = refl

seen_full : (b : Bool) (r : Ending × St) → ((seen b r).1).full ≡ (r.1).full
seen_full true r = refl
seen_full false r = refl

seen_arena : (b : Bool) (r : Ending × St) → ((seen b r).1).arena ≡ (r.1).arena
seen_arena true r = refl
seen_arena false r = refl

seen_out : (b : Bool) (r : Ending × St) → ((seen b r).1).out ≡ (r.1).out
seen_out true r = refl
seen_out false r = refl

-- the actions of a state are those that are told
seen_done : (t : Table) (told : Option (List (PlainAct × PlainReply))) (ending : Ending) (st : St) → st.done ≡ unwrap_or (told_by t told) [] → ((seen (is_some told) (ending, st)).1).done ≡ unwrap_or (told_by t told) []
seen_done t None ending st h = refl
seen_done t (Some done) ending st h = h

module _ {S : Type 0} (meaning : S → Meaning) where
  -- the run of a configuration that has ended so
  ended_run : (c : Config S) (state : State) (ending : Ending) → c.state ≡ state → rest_by c.heap.texts state (run_in meaning c.heap.texts c) (frames_in meaning c.heap.texts c) (state_in meaning c.heap.texts (own_view meaning c) c) c.left ≡ (ending, state_in meaning c.heap.texts (own_view meaning c) c) → run_of meaning c ≡ seen (tells meaning c) (ending, state_in meaning c.heap.texts (own_view meaning c) c)
  ended_run c state ending e r = ap (seen (tells meaning c)) (ap (λ s. rest_by c.heap.texts s (run_in meaning c.heap.texts c) (frames_in meaning c.heap.texts c) (state_in meaning c.heap.texts (own_view meaning c) c) c.left) e ∙ r)

  -- and all its output is written
  ends : (s : Stream) (old new : Config S) (ending : Ending) → Sound meaning old → FlushesAll s old new → run_of meaning new ≡ seen (tells meaning new) (ending, state_in meaning new.heap.texts (own_view meaning new) new) → EndsAs meaning s old new ending
  ends s old new ending sound f r =
      let b = tells meaning new in
      let last : Ending × St = (ending, state_in meaning new.heap.texts (own_view meaning new) new) in
      let run = out_run meaning old.pending.items old new f.out in
      let all : output_of meaning old ≡ old.pending.items =
      ap (λ q. (q.1).out) run
      ∙ ap (λ l. old.pending.items ++ l) (ap (λ q. (q.1).out) r ∙ seen_out b last ∙ f.none)
      ∙ append-nil old.pending.items in
      record {
        got = subst (Got s) (sym all) f.got;
        ends = ap (λ q. q.0) run ∙ ap (λ q. q.0) r ∙ seen_ending b last;
        worlds = ap (λ q. (q.1).full) run ∙ ap (λ q. (q.1).full) r ∙ seen_full b last;
        arena = ap (λ q. (q.1).arena) run ∙ ap (λ q. (q.1).arena) r ∙ seen_arena b last ∙ beside_nothing (arena_in new.heap.texts new.heap.arena);
        done = ap (λ q. (q.1).done) run ∙ ap (λ q. (q.1).done) r ∙ seen_done new.heap.texts (meaning new.heap.store).told ending (state_in meaning new.heap.texts (own_view meaning new) new) refl;
        stays = stays_out meaning old new f.out.same;
        sound = sound_out meaning old new f.out.same sound;
      }

  by_state : (s : Stream) (old new : Config S) (state : State) → new.state ≡ state → ¬ (state ≡ states.Running) → Sound meaning old → FlushesAll s old new → RunsTo meaning s old new (ending_of state)
  by_state s old new states.Running e ended sound f = absurd (ended refl)
  by_state s old new states.Done e ended sound f = ends s old new Done sound f (ended_run new states.Done Done e refl)
  by_state s old new states.StepsSpent e ended sound f = ends s old new StepsSpent sound f (ended_run new states.StepsSpent StepsSpent e refl)
  by_state s old new (states.Threw v) e ended sound f = (
    ends s old new (Threw (value_in new.heap.texts v)) sound f (ended_run new (states.Threw v) (Threw (value_in new.heap.texts v)) e refl),
    subst (HasThrown new) e (sound_out meaning old new f.out.same sound).thrown,
  )

  pub finishes : (s : Stream) (old new : Config S) → ¬ (old.state ≡ states.Running) → Sound meaning old → FlushesAll s old new → RunsTo meaning s old new (ending_of new.state)
  finishes s old new ended sound f = by_state s old new new.state refl (λ e. ended (sym (ap (λ (c : Config S). c.state) f.out.same) ∙ e)) sound f

  pub finish_stops : (s : Stream) (old : Config S) → Stops s old.pending.items → Stops s (output_of meaning old)
  finish_stops s old h = let first = pending_first meaning old in stops_longer s old.pending.items (output_of meaning old) first.0 first.1 h

  -- ---- the whole run

  ends_on : (before middle after : Option (List ℕ)) (f0 f1 f2 : ℕ) (old mid new : Config S) (ending : Ending) → Reaches meaning (stream before middle f0 f1) old mid → EndsAs meaning (stream middle after f1 f2) mid new ending → EndsAs meaning (stream before after f0 f2) old new ending
  ends_on before middle after f0 f1 f2 old mid new ending a e = record {
    got = subst (Got (stream before after f0 f2)) (sym (ap (λ q. (q.1).out) a.run)) (Appends-then before middle after a.gone (output_of meaning mid) a.got e.got);
    ends = ap (λ q. q.0) a.run ∙ e.ends;
    worlds = ap (λ q. (q.1).full) a.run ∙ e.worlds;
    arena = ap (λ q. (q.1).arena) a.run ∙ e.arena;
    done = ap (λ q. (q.1).done) a.run ∙ e.done;
    stays = stays_on meaning old mid new a.stays e.stays;
    sound = e.sound;
  }

  pub runs : (before middle after : Option (List ℕ)) (f0 f1 f2 : ℕ) (old mid new : Config S) (ending : Outcome) → f0 ≤ f1 → Reaches meaning (stream before middle f0 f1) old mid → RunsTo meaning (stream middle after f1 f2) mid new ending → RunsTo meaning (stream before after f0 f2) old new ending
  runs before middle after f0 f1 f2 old mid new outcomes.Done le a h = ends_on before middle after f0 f1 f2 old mid new Done a h
  runs before middle after f0 f1 f2 old mid new (outcomes.Threw v) le a h = (ends_on before middle after f0 f1 f2 old mid new (Threw (value_in new.heap.texts v)) a h.0, h.1)
  runs before middle after f0 f1 f2 old mid new outcomes.StepsSpent le a h = ends_on before middle after f0 f1 f2 old mid new StepsSpent a h
  runs before middle after f0 f1 f2 old mid new outcomes.SinkFailed le a h = stops_on meaning before middle after f0 f1 f2 old mid le a h
  runs before middle after f0 f1 f2 old mid new outcomes.OutOfMemory le a h = prefix_on meaning before middle after f0 f1 f1 f2 old mid a h
