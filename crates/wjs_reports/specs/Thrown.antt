-- The text of a thrown value, as bytes.
use Rattle.std.specs.Prelude.{◌≡◌, ℕ, List, Option, None, Some}
use Rattle.wjs_base.specs.declared.ids.ObjId.{ObjId}
use Rattle.wjs_base.specs.declared.ids.WorldId.{WorldId}
use Rattle.wjs_base.specs.declared.values.Value.{Value as NumberedValue}
use Rattle.wjs_base.specs.Unicode.{utf8_of}
use Rattle.wjs_store.specs.State.{State}
use Rattle.wjs_store.specs.Meaning.{Meaning, worlds}
use Rattle.wjs_arena.specs.declared.class.Class.{Class}
use Rattle.wjs_arena.specs.declared.class.Class.TheVariants as class
use Rattle.wjs_by_content.specs.Values.{Text, Value, String, Object}
use Rattle.wjs_by_content.specs.Names.{content, name_name, message_name}
use Rattle.wjs_by_content.specs.Objects.{Arena, object_at}
use Rattle.wjs_by_content.specs.Plans.{answer_of, worlds_after}
use Rattle.wjs_by_content.specs.Tables.{value_in, arena_in}
use Rattle.wjs_by_content.specs.Worlds.{worlds_in}
use Rattle.wjs_by_content.specs.Conversions.{primitive_text}
use Rattle.wjs_by_content.specs.Properties as plan
use Rattle.wjs_meaning.specs.Builtins.{shown_class}
use Rattle.wjs_meaning.specs.Deeds.{St}
use Rattle.wjs_meaning.specs.NativesOfObjects.{fault_text}
use Rattle.wjs_meaning.specs.Programs.{shown_in, shown_text}
use Rattle.wjs_model.specs.declared.config.Config.{Config}
use Rattle.wjs_model.specs.Configurations.{Stays}
use Rattle.wjs_model.specs.Soundness.{Base}

-- the bytes are the text of the value by content, in the configuration's own first world and for its owner, in each state with its worlds and objects
abbrev pub ShowsIn : {S : Type 0} → (S → Meaning) → Config S → NumberedValue → List ℕ → Type 0
ShowsIn meaning c value bytes = let t = c.heap.texts in (st : St) → st.full ≡ worlds_in t (worlds (meaning c.heap.store)) → st.arena ≡ arena_in t c.heap.arena → bytes ≡ utf8_of (shown_in c.world c.global c.owner (value_in t value) st)

-- the same in a run from the start
abbrev pub Shows : {S : Type 0} → (S → Meaning) → Config S → NumberedValue → List ℕ → Type 0
Shows meaning c value bytes = let t = c.heap.texts in (st : St) → st.full ≡ worlds_in t (worlds (meaning c.heap.store)) → st.arena ≡ arena_in t c.heap.arena → bytes ≡ utf8_of (shown_text (value_in t value) st)

-- what is left of a configuration whose first world was read: all but its texts and its store is as it was, and a run may go on
pub record Leaves {S : Type 0} (meaning : S → Meaning) (old new : Config S) : Type 0 where
  pub same : new ≡ record old { heap = new.heap }
  pub objects : new.heap.arena ≡ old.heap.arena
  pub stays : Stays meaning old new
  pub base : Base meaning new

-- ---- by the worlds and the objects

-- what a text is, if it is one
abbrev pub text_if : Option Value → Option Text
text_if (Some (String t)) = Some t
text_if v = None

-- an error's name and message are read in this order, where reads leave marks
abbrev pub shown_fault : Arena → State content → WorldId → ObjId → Text
shown_fault arena full w o =
    let name = plan.get arena o name_name in
    let message = plan.get arena o message_name in
    fault_text (answer_of name w full) (answer_of message w (worlds_after name w full))

abbrev pub shown_by : Class → Arena → State content → WorldId → ObjId → Text
shown_by class.Fault arena full w o = shown_fault arena full w o
shown_by c arena full w o = shown_class c

abbrev pub shown_object : Arena → State content → WorldId → ObjId → Text
shown_object arena full w o = shown_by (object_at arena o).class arena full w o

abbrev pub shown_value : Value → Arena → State content → WorldId → Text
shown_value (Object o) arena full w = shown_object arena full w o
shown_value v arena full w = primitive_text v
