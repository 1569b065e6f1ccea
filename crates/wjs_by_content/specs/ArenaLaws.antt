-- What holds of arenas by content, each promised by a public function.
use Rattle.std.specs.Prelude.{◌≡◌, ℕ, true, None, Some}
use Rattle.std.specs.Option.{option_map}
use Rattle.std.specs.FinMap as map
use Rattle.wjs_base.specs.declared.ids.ObjId.{ObjId}
use Rattle.wjs_base.specs.declared.ids.WorldId.{WorldId}
use Rattle.wjs_base.specs.declared.values.Name.{Name}
use Rattle.wjs_base.specs.Text.{Table, Grows}
use Rattle.wjs_arena.specs.declared.object.Object.{Object as NumberedObject}
use Rattle.wjs_arena.specs.Entries as numbered
use Rattle.wjs_arena.specs.Chains as numbered_chain
use Rattle.wjs_by_content.specs.Objects.{object_at, depth_at, next_number, created, chain, fixed, flags, is_puttable, world_object}
use Rattle.wjs_by_content.specs.Tables.{name_in, value_in, object_in, entry_in, arena_in, knows_name, KnowsArena}

-- what is said of an arena without names is the same by content
pub record ArenasAgree (texts : Table) (objects : numbered.Objects) : Type 0 where
  pub found : (o : ObjId) → map.get (arena_in texts objects) o ≡ option_map (entry_in texts) (map.get objects o)
  pub prototypes : (o : ObjId) → (object_at (arena_in texts objects) o).prototype ≡ numbered.prototype_of objects o
  pub scopes : (o : ObjId) → (object_at (arena_in texts objects) o).scope ≡ numbered.scope_of objects o
  pub depths : (o : ObjId) → depth_at (arena_in texts objects) o ≡ numbered.depth_at objects o
  pub chains : (o : ObjId) → chain (arena_in texts objects) o ≡ numbered_chain.chain objects o
  pub numbers : (owner : ℕ) → next_number (arena_in texts objects) owner ≡ numbered.next_number objects owner
  pub creations : (owner : ℕ) (x : NumberedObject) → arena_in texts (numbered.created objects owner x) ≡ created (arena_in texts objects) owner (object_in texts x)

-- and what is said of known names
pub record NamesAgree (texts : Table) (objects : numbered.Objects) (o : ObjId) (n : Name) : Type 0 where
  pub fixed_values : fixed (arena_in texts objects) o (name_in texts n) ≡ option_map (value_in texts) (numbered_chain.fixed objects o n)
  pub attributes : flags (arena_in texts objects) o (name_in texts n) ≡ numbered_chain.flags objects o n
  pub puttable : is_puttable (arena_in texts objects) o (name_in texts n) ≡ numbered_chain.is_puttable objects o n

-- the World object of a world, and that it has none
pub record WorldsAgree (texts : Table) (objects : numbered.Objects) (w : WorldId) : Type 0 where
  pub there : (o : ObjId) → numbered.world_of objects o ≡ Some w → world_object (arena_in texts objects) w ≡ Some o
  pub none : ((o : ObjId) → numbered.world_of objects o ≡ Some w → ⊥) → world_object (arena_in texts objects) w ≡ None

abbrev pub ArenasByContent : Type 0
ArenasByContent = (texts : Table) (objects : numbered.Objects) → ArenasAgree texts objects

abbrev pub NamesByContent : Type 0
NamesByContent = (texts : Table) (objects : numbered.Objects) → KnowsArena texts objects → (o : ObjId) (n : Name) → knows_name texts n ≡ true → NamesAgree texts objects o n

abbrev pub WorldsByContent : Type 0
WorldsByContent = (texts : Table) (objects : numbered.Objects) → numbered.IsArena objects → (w : WorldId) → WorldsAgree texts objects w

-- a known arena stays as it is while the table grows
abbrev pub ArenasStay : Type 0
ArenasStay = (old new : Table) → Grows old new → (objects : numbered.Objects) → KnowsArena old objects → KnowsArena new objects × (arena_in new objects ≡ arena_in old objects)
