-- A store that tells its actions is sound where the inner one is.
use Rattle.std.specs.Prelude.{Bool, true, false, not, ◌||◌, List, IsTrue}
use Rattle.wjs_store.specs.Meaning.{Meaning, IsSound}
use Rattle.wjs_audit.specs.declared.deed.Entry.{Entry}
use Rattle.wjs_audit.specs.Recorded.{telling}

not_either : (a b : Bool) → IsTrue (not (a || b)) → IsTrue (not a)
not_either true b h = h
not_either false b h = cc

pub telling_sound : (m : Meaning) (log : List Entry) (spent : Bool) → (IsTrue (not m.spent) → IsSound m) → IsTrue (not (telling m log spent).spent) → IsSound (telling m log spent)
telling_sound m log spent sound h =
    let s = sound (not_either m.spent spent h) in
    record { admits_own = s.admits_own; reached = s.reached; same_marks = s.same_marks }
