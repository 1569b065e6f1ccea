-- A store with its log.
use Rattle.std.specs.Prelude.{Bool, ◌||◌, List, Some}
use Rattle.wjs_store.specs.Meaning.{Meaning}
use Rattle.wjs_audit.specs.declared.deed.Entry.{Entry}
use Rattle.wjs_audit.specs.Deeds.{told_of}

pub record Recorded (Store : Type 0) : Type 0 where
  pub inner : Store
  pub log : List Entry
  -- whether a call answered that memory was wanted
  pub spent : Bool

-- what the inner store means, with the log told
abbrev pub telling : Meaning → List Entry → Bool → Meaning
telling m log spent = record m { told = Some (told_of log); spent = m.spent || spent }
