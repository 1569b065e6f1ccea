-- A play of the scripts that bytes are divided into.
use Rattle.std.proofs.Common.{◌≡◌, ℕ, ◌≤◌, ◌^◌, inl, inr, List, [], ◌∷◌, Option, None, Some, Result, Ok, Err, length, refl, sym, ap, subst}
use Rattle.std.specs.Prelude.{All, map as each}
use Rattle.std.proofs.lemmas.List.Elements.{All-head, All-tail}
use Rattle.wjs_base.specs.Text.{Table, Grows}
use Rattle.wjs_io.specs.Streams.{Stream, stream, Got}
use Rattle.wjs_io.proofs.Written.{Appends-nil}
use Rattle.wjs_meaning.specs.Trees.{Tree}
use Rattle.wjs_model.specs.declared.loaded.LoadedProgram.{LoadedProgram as Program}
use Rattle.wjs_model.specs.Texts.{KnowsUnit}
use Rattle.wjs_model.specs.Units.{unit_in}
use Rattle.wjs_frames.proofs.NodesGrow.{unit_grows}
use Rattle.wjs_activity.specs.declared.whole.PlayEnd.{PlayEnd}
use Rattle.wjs_activity.specs.declared.whole.PlayEnd.TheVariants as played
use Rattle.wjs_alone.specs.Playing.{Play, play}
use Rattle.wjs_activity.specs.Plays.{Plays}
use Rattle.wjs_division.specs.declared.input.InputFault.{InputFault}
use Rattle.wjs_division.specs.declared.input.InputFault.TheVariants as inputs
use Rattle.wjs_division.specs.Inputs.{HasFault, IsInput, IsNoInput}
use Rattle.wjs_options.specs.declared.mode.Mode.{Mode}
use Rattle.wjs_options.specs.declared.mode.Mode.TheVariants as modes
use Rattle.wjs_command.specs.declared.report.Report.{Report}
use Rattle.wjs_command.specs.declared.report.Stop.{Stop}
use Rattle.wjs_command.specs.declared.status.Status.TheVariants as statuses
use Rattle.wjs_command.specs.Table.{Told}
use Rattle.wjs_command.specs.Scripts.{IsLibrary}
use Rattle.wjs_command.specs.Refusals.{refused}
use Rattle.wjs_command.specs.Plays.{text_of_input, told_by_play, IsPlayed, OfPlay, refuses, divides, RanAlone, PlayedAlone}
use Rattle.wjs_command.specs.Due.{most_of, owed_in}
use Rattle.wjs_command.specs.Attempt.{Comes, nothing, something, ComesAlone, Refuses, RefusesInput, TellsPlay}
use Rattle.wjs_command.proofs.Deliveries.{comes_as, alone_as, not_done, none_alone, refused_alone}

-- ---- by the mode

pub most_play : (mode : Mode) (bytes : List ℕ) → mode ≡ modes.Play → length bytes ≤ most_of mode → length bytes ≤ 2 ^ 24
most_play mode bytes is within = subst (λ (m : Mode). length bytes ≤ most_of m) is within

pub play_owed : (mode : Mode) (steps turn : ℕ) (bytes : List ℕ) (told : Told) →
    mode ≡ modes.Play → OfPlay steps turn bytes told → owed_in mode steps turn bytes told
play_owed mode steps turn bytes told is h = subst (λ (m : Mode). owed_in m steps turn bytes told) (sym is) h

-- ---- bytes that are no input

module _ (bytes : List ℕ) (fault : InputFault) (steps turn : ℕ) (one : Option (List ℕ)) (counted : ℕ) where
  why_none : (result : Result Report Stop) →
      HasFault bytes fault → Refuses (text_of_input fault) result → Comes (OfPlay steps turn bytes) (stream one one counted counted) result
  why_none (Ok report) why is = something (refused (text_of_input fault)) (refuses (record { fault = fault; why = why; is = refl })) (Appends-nil one, is)
  why_none (Err e) why is = nothing (ap Err is) (Appends-nil one)

pub no_input_comes : (bytes : List ℕ) (fault : InputFault) (steps turn : ℕ) (one : Option (List ℕ)) (counted : ℕ) (result : Result Report Stop) →
    IsNoInput bytes fault → RefusesInput fault result → Comes (OfPlay steps turn bytes) (stream one one counted counted) result
no_input_comes bytes inputs.NotUtf8 steps turn one counted result why is = why_none bytes inputs.NotUtf8 steps turn one counted result why is
no_input_comes bytes inputs.TooMany steps turn one counted result why is = why_none bytes inputs.TooMany steps turn one counted result why is
no_input_comes bytes (inputs.Refused r) steps turn one counted result why is = why_none bytes (inputs.Refused r) steps turn one counted result why is
no_input_comes bytes inputs.OutOfMemory steps turn one counted result why is = nothing is (Appends-nil one)

module _ (Alone : (List ℕ → Type 0) → Type 0) (one : Option (List ℕ)) (counted : ℕ) (result : Result Report Stop) where
  abbrev still : Stream
  still = stream one one counted counted

  pub no_input_alone : (fault : InputFault) → RefusesInput fault result → ComesAlone Alone (stream one one counted counted) result
  no_input_alone inputs.NotUtf8 is = refused_alone Alone still (text_of_input inputs.NotUtf8) result is (Appends-nil one)
  no_input_alone inputs.TooMany is = refused_alone Alone still (text_of_input inputs.TooMany) result is (Appends-nil one)
  no_input_alone (inputs.Refused r) is = refused_alone Alone still (text_of_input (inputs.Refused r)) result is (Appends-nil one)
  no_input_alone inputs.OutOfMemory is = none_alone Alone still result is (Appends-nil one)

-- ---- parts

module _ (bytes : List ℕ) (parts : List Tree) (steps turn : ℕ) (s : Stream) (result : Result Report Stop) (input : IsInput bytes parts) where
  pub divided_comes : Comes (IsPlayed steps turn parts) s result → Comes (OfPlay steps turn bytes) s result
  divided_comes h =
      comes_as (IsPlayed steps turn parts) (OfPlay steps turn bytes) s result (λ told owed. divides (record { parts = parts; input = input; owed = owed })) h

  pub divided_alone : ComesAlone (RanAlone steps parts) s result → ComesAlone (PlayedAlone steps bytes) s result
  divided_alone h = alone_as (RanAlone steps parts) (PlayedAlone steps bytes) s result (λ Wrote ran. record { parts = parts; input = input; alone = ran }) h

-- in a table that has grown the parts' trees are the same
pub trees_stay : (old new : Table) (us : List Program) → Grows old new → All (KnowsUnit old) us → each (unit_in new) us ≡ each (unit_in old) us
trees_stay old new [] g known = refl
trees_stay old new (u ∷ us) g known = λ i. unit_grows old new g u (All-head (KnowsUnit old) u us known) i ∷ trees_stay old new us g (All-tail (KnowsUnit old) u us known) i

-- behind this library
module _ (library : Option Tree) (first : IsLibrary library) (parts : List Tree) (steps turn : ℕ) (s : Stream) where
  abbrev tells : Option Play → Told
  tells p = told_by_play library parts steps p

  -- what this play comes to is owed
  owes : (p : Option Play) → play library parts steps [] turn ≡ p → IsPlayed steps turn parts (tells p)
  owes p is = record { library = library; first = first; is = ap tells (sym is) }

  abbrev Owed : Told → Type 0
  Owed told = IsPlayed steps turn parts told

  come : (end : PlayEnd) (result : Result Report Stop) → Plays library parts steps [] turn s end → TellsPlay end result → Comes Owed s result
  come (played.Done told heap) (Ok report) h t = something (tells (Some h.played)) (owes (Some h.played) h.is) (h.got, t)
  come (played.Done told heap) (Err e) h t = absurd t
  come played.StepsSpent (Ok report) h t = something (tells None) (owes None h.0) (h.1, t)
  come played.StepsSpent (Err e) h t = nothing (ap Err t) h.1
  come played.SinkFailed result h t = subst (Comes Owed s) (sym t) (something (tells (Some h.played)) (owes (Some h.played) h.is) h.wrote)
  come played.OutOfMemory result (inl got) t = nothing t got
  come played.OutOfMemory result (inr h) t = subst (Comes Owed s) (sym t) (something (tells (Some h.played)) (owes (Some h.played) h.is) h.wrote)

  -- and is what its parts come to alone
  abbrev Alone : (List ℕ → Type 0) → Type 0
  Alone Wrote = RanAlone steps parts Wrote

  alone : (end : PlayEnd) (result : Result Report Stop) → Plays library parts steps [] turn s end → TellsPlay end result → ComesAlone Alone s result
  alone (played.Done told heap) (Ok report) h t =
      λ done. record { library = library; first = first; ends = (h.played).ends; serial = h.serial; wrote = subst (Got s) (sym h.prints) h.got }
  alone (played.Done told heap) (Err e) h t = absurd t
  alone played.StepsSpent (Ok report) h t = λ done. absurd (not_done statuses.StepsSpent report tt t.status_is done)
  alone played.StepsSpent (Err e) h t = none_alone Alone s (Err e) (ap Err t) h.1
  alone played.SinkFailed result h t =
      subst (ComesAlone Alone s) (sym t) (record { library = library; first = first; ends = h.ends; serial = h.serial; wrote = h.alone })
  alone played.OutOfMemory result (inl got) t = none_alone Alone s result t got
  alone played.OutOfMemory result (inr h) t =
      subst (ComesAlone Alone s) (sym t) (inr (record { library = library; first = first; ends = h.ends; serial = h.serial; wrote = h.alone }))

-- the same where the parts are only equal
module _ (library : Option Tree) (parts known : List Tree) (steps turn : ℕ) (s : Stream) (end : PlayEnd) (result : Result Report Stop)
    (first : IsLibrary library) (same : parts ≡ known) (h : Plays library parts steps [] turn s end) (t : TellsPlay end result) where
  pub play_comes : Comes (IsPlayed steps turn known) s result
  play_comes = subst (λ (ts : List Tree). Comes (IsPlayed steps turn ts) s result) same (come library first parts steps turn s end result h t)

  pub play_alone : ComesAlone (RanAlone steps known) s result
  play_alone = subst (λ (ts : List Tree). ComesAlone (RanAlone steps ts) s result) same (alone library first parts steps turn s end result h t)
