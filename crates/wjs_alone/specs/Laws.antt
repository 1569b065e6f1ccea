-- Laws of parts alone, of serial ends and of plays.
use Rattle.std.specs.Prelude.{◌≡◌, ℕ, List, Option, None}
use Rattle.std.specs.FinMap as map
use Rattle.wjs_base.specs.declared.ids.ObjId.{ObjId}
use Rattle.wjs_by_content.specs.Objects.{Arena}
use Rattle.wjs_meaning.specs.Trees.{Tree}
use Rattle.wjs_meaning.specs.Programs.{StepsSpent}
use Rattle.wjs_alone.specs.Alone.{Copy, alone}
use Rattle.wjs_alone.specs.Serial.{End, runs_of, tries_of, IsSerial}
use Rattle.wjs_alone.specs.Playing.{Play, PlayTurn, activity_in, turn}

-- with any two budgets that are enough a part alone ends in one way, with one output and one state
abbrev pub OneEnding : Type 0
OneEnding = (trees : List Tree) (tree owner : ℕ) (copy : Copy) (arena : Arena) (n m : ℕ) → ¬ ((alone trees tree owner copy arena n).0 ≡ StepsSpent) → ¬ ((alone trees tree owner copy arena m).0 ≡ StepsSpent) → alone trees tree owner copy arena n ≡ alone trees tree owner copy arena m

-- objects of its owner that were there before play no part
abbrev pub OwnObjectsAreLeftOut : Type 0
OwnObjectsAreLeftOut = (trees : List Tree) (tree owner : ℕ) (copy : Copy) (one two : Arena) (n : ℕ) → ((o : ObjId) → ¬ (o.owner ≡ owner) → map.get one o ≡ map.get two o) → alone trees tree owner copy one n ≡ alone trees tree owner copy two n

-- ends are decided by the order of their runs, their owners and objects; that they are serial does not decide the number of their tries
abbrev pub OrderDecides : Type 0
OrderDecides = (library : Option Tree) (parts : List Tree) (budget : ℕ) (copy : Copy) (arena : Arena) (one two : List End) → IsSerial library parts budget copy arena one → IsSerial library parts budget copy arena two → runs_of one ≡ runs_of two → tries_of one ≡ tries_of two → one ≡ two

-- whatever was there, some ends are in serial order
abbrev pub SomeAreSerial : Type 0
SomeAreSerial = (library : Option Tree) (parts : List Tree) (budget : ℕ) (copy : Copy) (arena : Arena) → (ends : List End) × IsSerial library parts budget copy arena ends

-- a turn of an activity that has ended, or of none, is left out
abbrev pub EndedTakeNoTurn : Type 0
EndedTakeNoTurn = (library : Option Tree) (parts : List Tree) (budget : ℕ) (s : Play) (t : PlayTurn) → activity_in s.activities t.activity ≡ None → turn library parts budget s t ≡ s
