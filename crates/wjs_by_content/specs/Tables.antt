-- What a table of texts makes of texts, names, values and objects that are known by number.
use Rattle.std.specs.Prelude.{◌≡◌, Bool, true, not, ◌&&◌, nat_le, nat_lt, List, length, take, map as each, Option, Some, is_none}
use Rattle.std.specs.Option.{option_map}
use Rattle.std.specs.List.{list_any}
use Rattle.std.specs.FinMap as map
use Rattle.wjs_base.specs.declared.ids.ObjId.{ObjId}
use Rattle.wjs_base.specs.declared.ids.TextId.{TextId}
use Rattle.wjs_base.specs.declared.values.Name.{Name}
use Rattle.wjs_base.specs.declared.values.Name.TheVariants as name
use Rattle.wjs_base.specs.declared.values.Value.{Value as NumberedValue}
use Rattle.wjs_base.specs.declared.values.Value.TheVariants as value
use Rattle.wjs_base.specs.declared.values.Slot.{Slot as NumberedSlot}
use Rattle.wjs_base.specs.declared.values.Content.{Content}
use Rattle.wjs_base.specs.declared.values.Content.TheVariants.{Absent, Present}
use Rattle.wjs_base.specs.Spelling.{greatest_index, units_of}
use Rattle.wjs_base.specs.Text.{Table}
use Rattle.wjs_store.specs.Shown.{content_of}
use Rattle.wjs_by_content.specs.Renamed.{Holds}
use Rattle.wjs_by_content.specs.Rename.{renamed}
use Rattle.wjs_arena.specs.declared.object.Object.{Object as NumberedObject}
use Rattle.wjs_arena.specs.Entries.{Entry as NumberedEntry, Objects}
use Rattle.wjs_by_content.specs.Values.{Text, Value, Undefined, Null, Boolean, Number, String, Object, same_text}
use Rattle.wjs_by_content.specs.Names.{Slot, slot, index_of, index_name}
use Rattle.wjs_by_content.specs.Objects.{Internals, Entry, Arena}

module _ (texts : Table) where
  -- the text of a number
  abbrev pub text_in : TextId → Text
  text_in id = units_of texts (name.Text id)

  -- an index by its decimal spelling
  abbrev pub name_in : Name → Text
  name_in (name.Index index) = index_name index
  name_in (name.Text id) = text_in id

  abbrev pub value_in : NumberedValue → Value
  value_in value.Undefined = Undefined
  value_in value.Null = Null
  value_in (value.Bool b) = Boolean b
  value_in (value.Number x) = Number x.number
  value_in (value.Text id) = String (text_in id)
  value_in (value.Object o) = Object o

  -- none where it is absent
  abbrev pub content_in : Content → Option Value
  content_in c = option_map value_in (content_of c)

  abbrev pub slot_in : NumberedSlot → Slot
  slot_in s = slot s.object (name_in s.name)

  -- what stands under names
  abbrev pub under_in : {A B : Type 0} → (A → B) → List (Name × A) → List (Text × B)
  under_in f xs = each (λ x. (name_in x.0, f x.1)) xs

  abbrev pub object_in : NumberedObject → Internals
  object_in x = record {
    class = x.class;
    prototype = x.prototype;
    scope = x.scope;
    code = x.code;
    primitive = value_in x.primitive;
    world = x.world;
    fixed = under_in value_in x.fixed;
    flags = under_in (λ f. f) x.flags;
    all_kept = x.all_kept;
  }

  abbrev pub entry_in : NumberedEntry → Entry
  entry_in x = record { object = object_in x.object; depth = x.depth }

  abbrev pub arena_in : Objects → Arena
  arena_in objects = renamed (λ o. o) entry_in objects

  -- ---- what the table knows

  -- the number is in the table, and no earlier one has its text
  abbrev pub knows_text : TextId → Bool
  knows_text id = nat_lt id.0 (length texts) && not (list_any (same_text (text_in id)) (take id.0 texts))

  -- an index in range, or a text that spells none
  abbrev pub knows_name : Name → Bool
  knows_name (name.Index index) = nat_le index greatest_index
  knows_name (name.Text id) = knows_text id && is_none (index_of (text_in id))

  abbrev pub knows_value : NumberedValue → Bool
  knows_value (value.Text id) = knows_text id
  knows_value v = true

  abbrev pub knows_content : Content → Bool
  knows_content Absent = true
  knows_content (Present v) = knows_value v

  abbrev pub knows_slot : NumberedSlot → Bool
  knows_slot s = knows_name s.name

  -- each name of a list is known, and what stands under it
  abbrev pub KnowsUnder : {A : Type 0} → (A → Bool) → List (Name × A) → Type 0
  KnowsUnder knows xs = Holds (λ x. (knows_name x.0 ≡ true) × (knows x.1 ≡ true)) xs

  -- the names and values that an object holds are known
  pub record KnowsObject (x : NumberedObject) : Type 0 where
    pub primitive : knows_value x.primitive ≡ true
    pub fixed : KnowsUnder knows_value x.fixed
    pub flags : KnowsUnder (λ f. true) x.flags

  abbrev pub KnowsArena : Objects → Type 0
  KnowsArena objects = (o : ObjId) (e : NumberedEntry) → map.get objects o ≡ Some e → KnowsObject e.object
