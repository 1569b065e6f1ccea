-- How the code keeps the arena: the objects, and those that stand for worlds by the worlds.
use Rattle.std.specs.Prelude.{◌≡◌, ℕ, ◌==◌, not, cond, List, [], ◌∷◌, ◌++◌, Option, None, Some, ◌↔◌}
use Rattle.std.specs.Ordering.{nat_cmp}
use Rattle.std.specs.BTreeMap.{BTreeMap, get, is_at}
use Rattle.std.specs.FinMap as map
use Rattle.std.specs.FinMap.{FinMap}
use Rattle.wjs_base.specs.declared.ids.ObjId.{ObjId}
use Rattle.wjs_base.specs.declared.ids.WorldId.{WorldId}
use Rattle.wjs_base.specs.Order.{world_cmp}
use Rattle.wjs_arena.specs.Entries.{Objects, Entry, IsArena, world_of}
use Rattle.wjs_arena.specs.Rows.{put_from}

abbrev pub WorldObjects : Type 0
WorldObjects = FinMap world_cmp ObjId

pub record IsKept (rows : Objects) (by_world : WorldObjects) : Type 0 where
  pub arena : IsArena rows
  pub worlds : (w : WorldId) (o : ObjId) → (map.get by_world w ≡ Some o) ↔ (world_of rows o ≡ Some w)

-- with one world more, where there is one
abbrev pub with_world : WorldObjects → Option WorldId → ObjId → WorldObjects
with_world by_world None o = by_world
with_world by_world (Some w) o = map.insert by_world w o

abbrev pub without_world : WorldObjects → Option WorldId → WorldObjects
without_world by_world None = by_world
without_world by_world (Some w) = map.remove by_world w

-- ---- worlds by owner

-- all of them: the first list of an owner counts, and of it what is of the owner's worlds
abbrev pub worlds_in : {V : Type 0} → (V → List (WorldId × ObjId)) → List (ℕ × V) → WorldObjects
worlds_in items [] = map.empty
worlds_in items (x ∷ xs) = map.from_entries (map.entries (map.retain_keys (map.from_entries {R = world_cmp} (items x.1)) (λ w. w.owner == x.0)) ++ map.entries (map.retain_keys (worlds_in items xs) (λ w. not (w.owner == x.0))))

-- an owner has got the object of its first world
abbrev pub PutsOne : BTreeMap ℕ (BTreeMap WorldId ObjId) → BTreeMap ℕ (BTreeMap WorldId ObjId) → WorldId → ObjId → Type 0
PutsOne old new w o = (tree : BTreeMap WorldId ObjId) × ((q : WorldId) → get world_cmp tree q ≡ cond (is_at (world_cmp w) q) (Some o) None) × ((q : ℕ) → get nat_cmp new q ≡ cond (is_at (nat_cmp w.owner) q) (Some tree) (get nat_cmp old q))

-- ---- an owner's objects, taken out

-- by serial
abbrev pub owned_objects : ℕ → List Entry → Objects
owned_objects owner rows = put_from owner 0 rows map.empty

-- those that stand for worlds do so for the owner's, and are found by them
pub record IsOwned (owner : ℕ) (objects : Objects) (by_world : BTreeMap WorldId ObjId) : Type 0 where
  pub own : (o : ObjId) (w : WorldId) → world_of objects o ≡ Some w → w.owner ≡ owner
  pub worlds : (w : WorldId) (o : ObjId) → w.owner ≡ owner → (get world_cmp by_world w ≡ Some o) ↔ (world_of objects o ≡ Some w)
