-- What a store that is logged keeps.
use Rattle.std.specs.Prelude.{◌≡◌, List, IsTrue}
use Rattle.std.specs.List.{All}
use Rattle.wjs_store.specs.Meaning.{Meaning, View}
use Rattle.wjs_store.specs.Run.{after_all}
use Rattle.wjs_store.specs.Fixed.{fresh}
use Rattle.wjs_audit.specs.declared.deed.Entry.{Entry}
use Rattle.wjs_audit.specs.Deeds.{actions_of}
use Rattle.wjs_audit.specs.Right.{AreRight}

-- entries of no text
abbrev pub AreUnnumbered : List Entry → Type 0
AreUnnumbered entries = All (λ (e : Entry). e.line ≡ 0) entries

-- the log is the machine's from the fresh state on, and the worlds are those that it leaves, under each admitted view
pub record IsKept (m : Meaning) (log : List Entry) : Type 0 where
  pub right : AreRight log
  pub worlds : (v : View) → IsTrue (m.admits v) → m.full v ≡ after_all fresh (actions_of log)
  pub unnumbered : AreUnnumbered log
