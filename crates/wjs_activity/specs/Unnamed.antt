-- Who names whom where parts are run one after another: an owner's objects are its own until its end.
use Rattle.std.specs.Prelude.{◌≡◌, ℕ, List, [], ◌∷◌, Option, Some, IsTrue}
use Rattle.std.specs.FinMap as map
use Rattle.wjs_base.specs.declared.ids.ObjId.{ObjId}
use Rattle.wjs_by_content.specs.Names.{Slot}
use Rattle.wjs_by_content.specs.Objects.{Arena}
use Rattle.wjs_by_content.specs.Values.{Value, Object}
use Rattle.wjs_meaning.specs.Trees.{Tree}
use Rattle.wjs_alone.specs.Alone.{Copy, copy_after}
use Rattle.wjs_alone.specs.Serial.{Run, run_at}

-- by an owner, and some objects
module _ (owner : ℕ) (objects : Arena) where
  -- an object of another owner, which is among them
  abbrev pub IsOthers : ObjId → Type 0
  IsOthers o = ¬ (o.owner ≡ owner) × IsTrue (map.contains_key objects o)

  -- the object that a value is, if it is one
  abbrev pub OthersValue : Value → Type 0
  OthersValue (Object o) = IsOthers o
  OthersValue v = Unit {0}

  -- what the present slots and their contents name
  abbrev pub NamesOthers : Copy → Type 0
  NamesOthers copy = (s : Slot) (v : Value) → map.get copy s ≡ Some v → IsOthers s.object × OthersValue v

-- by the library's tree, the parts' and the budget of each: what the first world holds before each run names no object of its owner,
-- and each that it names is among the run's objects
module _ (library : Option Tree) (parts : List Tree) (budget : ℕ) where
  abbrev pub NamesNone : Copy → List Run → Type 0
  NamesNone copy [] = Unit {0}
  NamesNone copy (r ∷ rs) = NamesOthers r.owner r.objects copy × NamesNone (copy_after r.owner copy (run_at library parts budget copy r)) rs
