-- Output that goes out while a run goes on.
use Rattle.std.specs.Prelude.{◌≡◌, ℕ, ◌<◌, List, [], ◌++◌, length}
use Rattle.wjs_base.specs.Text.{Table}
use Rattle.wjs_store.specs.Meaning.{Meaning}
use Rattle.wjs_io.specs.Streams.{Stream, Got}
use Rattle.wjs_meaning.specs.Deeds.{St}
use Rattle.wjs_meaning.specs.Programs.{Ending}
use Rattle.wjs_model.specs.declared.config.Config.{Config}
use Rattle.wjs_model.specs.Outside.{Outside}
use Rattle.wjs_model.specs.Configurations.{rest, turns}

-- the end of a run before which these bytes went out
abbrev pub after_output : List ℕ → Ending × St → Ending × St
after_output gone r = (r.0, record r.1 { out = gone ++ (r.1).out })

-- a front of what is pending has gone out, and nothing else has changed
pub record GoesOut {S : Type 0} (gone : List ℕ) (old new : Config S) : Type 0 where
  pub same : new ≡ record old { pending = new.pending }
  pub pending : old.pending.items ≡ gone ++ new.pending.items

module _ {S : Type 0} (meaning : S → Meaning) where
  -- what is left to do is the same, after that output
  abbrev pub OutputGoesOut : Type 0
  OutputGoesOut = (gone : List ℕ) (old new : Config S) → GoesOut gone old new → (t : Table) (v : Outside) (n : ℕ) → rest meaning t v old n ≡ after_output gone (rest meaning t v new n)

  -- and as many turns are left before the next step
  abbrev pub OutputTakesNoTurn : Type 0
  OutputTakesNoTurn = (gone : List ℕ) (old new : Config S) → GoesOut gone old new → (t : Table) (v : Outside) → turns meaning t v old ≡ turns meaning t v new

-- a front of what is pending was written, and fewer bytes than a piece are pending still
pub record Flushes {S : Type 0} (s : Stream) (old new : Config S) : Type 0 where
  pub gone : List ℕ
  pub got : Got s gone
  pub out : GoesOut gone old new
  pub few : length new.pending.items < 4096

-- all that was pending was written
pub record FlushesAll {S : Type 0} (s : Stream) (old new : Config S) : Type 0 where
  pub got : Got s old.pending.items
  pub out : GoesOut old.pending.items old new
  pub none : new.pending.items ≡ []
