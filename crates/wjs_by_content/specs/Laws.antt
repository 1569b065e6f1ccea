-- What holds of contents, each promised by a public function.
use Rattle.std.specs.Prelude.{◌≡◌, ◌≤◌, ◌↔◌, ℕ, true, List, ◌++◌, Some, IsTrue}
use Rattle.wjs_base.specs.declared.ids.ObjId.{ObjId}
use Rattle.wjs_base.specs.declared.ids.TextId.{TextId}
use Rattle.wjs_base.specs.declared.ids.WorldId.{WorldId}
use Rattle.wjs_base.specs.declared.values.Content.{Content}
use Rattle.wjs_base.specs.declared.values.Name.{Name}
use Rattle.wjs_base.specs.declared.values.Slot.{Slot as NumberedSlot}
use Rattle.wjs_base.specs.declared.values.Value.{Value as NumberedValue}
use Rattle.wjs_base.specs.Spelling.{greatest_index, IsName}
use Rattle.wjs_base.specs.Text.{Table, Grows, Has, IsTable}
use Rattle.wjs_store.specs.Meaning.{Meaning, View, Worlds, Does}
use Rattle.wjs_store.specs.Shown.{content_of, slots_of}
use Rattle.wjs_store.specs.State.{State, read, write, list, found, wrote, listed}
use Rattle.wjs_by_content.specs.Renamed.{KnowsContent}
use Rattle.wjs_by_content.specs.Values.{Text}
use Rattle.wjs_by_content.specs.Names.{content, index_of, index_name}
use Rattle.wjs_by_content.specs.Plans.{Plan, Gives, Reads, Writes, Lists, answer_of, worlds_after, actions_of, then_plan}
use Rattle.wjs_by_content.specs.Tables.{text_in, name_in, value_in, slot_in, content_in, knows_text, knows_name, knows_value, knows_slot}
use Rattle.wjs_by_content.specs.Telling.{names_of}
use Rattle.wjs_by_content.specs.Worlds.{worlds_in, listing, KnowsWorlds}
use Rattle.wjs_by_content.specs.Carried.{Carries}

-- a name spells an index in range exactly where it is its decimal spelling
abbrev pub IndicesAreSpelled : Type 0
IndicesAreSpelled = (name : Text) (n : ℕ) → (index_of name ≡ Some n) ↔ ((n ≤ greatest_index) × (name ≡ index_name n))

-- a table of different texts knows what is in it
pub record KnowsWhatIsThere (texts : Table) : Type 0 where
  pub ids : (id : TextId) → (knows_text texts id ≡ true) ↔ Has texts id
  pub names : (n : Name) → (knows_name texts n ≡ true) ↔ IsName texts n

abbrev pub TablesKnow : Type 0
TablesKnow = (texts : Table) → IsTable texts → KnowsWhatIsThere texts

-- what is known has another content than everything else that is known
pub record Tells (texts : Table) : Type 0 where
  pub names : (a b : Name) → knows_name texts a ≡ true → knows_name texts b ≡ true → name_in texts a ≡ name_in texts b → a ≡ b
  pub slots : (a b : NumberedSlot) → knows_slot texts a ≡ true → knows_slot texts b ≡ true → slot_in texts a ≡ slot_in texts b → a ≡ b
  pub values : (a b : NumberedValue) → knows_value texts a ≡ true → knows_value texts b ≡ true → value_in texts a ≡ value_in texts b → a ≡ b

abbrev pub ContentsTell : Type 0
ContentsTell = (texts : Table) → Tells texts

-- what is known stays known, with its content
pub record Stays (old new : Table) : Type 0 where
  pub texts : (id : TextId) → knows_text old id ≡ true → (knows_text new id ≡ true) × (text_in new id ≡ text_in old id)
  pub names : (n : Name) → knows_name old n ≡ true → (knows_name new n ≡ true) × (name_in new n ≡ name_in old n)
  pub slots : (s : NumberedSlot) → knows_slot old s ≡ true → (knows_slot new s ≡ true) × (slot_in new s ≡ slot_in old s)
  pub values : (v : NumberedValue) → knows_value old v ≡ true → (knows_value new v ≡ true) × (value_in new v ≡ value_in old v)
  pub worlds : (F : Worlds) → KnowsWorlds old F → KnowsWorlds new F × (worlds_in new F ≡ worlds_in old F)

abbrev pub ContentsStay : Type 0
ContentsStay = (old new : Table) → Grows old new → Stays old new

-- two plans in turn do what the second does after the first
pub record InTurn {A B : Type 0} (p : Plan A) (go : A → Plan B) (w : WorldId) (F : State content) : Type 0 where
  pub answers : answer_of (then_plan p go) w F ≡ answer_of (go (answer_of p w F)) w (worlds_after p w F)
  pub worlds : worlds_after (then_plan p go) w F ≡ worlds_after (go (answer_of p w F)) w (worlds_after p w F)
  pub actions : actions_of (then_plan p go) w F ≡ actions_of p w F ++ actions_of (go (answer_of p w F)) w (worlds_after p w F)

abbrev pub PlansCompose : Type 0 → Type 0 → Type 0
PlansCompose A B = (p : Plan A) (go : A → Plan B) (w : WorldId) (F : State content) → InTurn p go w F

-- a store's action is that of the plan with this action alone
pub record CarriesActions (texts : Table) (w : WorldId) (old new : Meaning) (v : View) : Type 0 where
  pub reads : (s : NumberedSlot) (c : Content) → Does old (read w s) (found (content_of c)) new → knows_slot texts s ≡ true → Carries texts w (Reads (slot_in texts s) Gives) (content_in texts c) old new v
  pub writes : (s : NumberedSlot) (c : Content) → Does old (write w s (content_of c)) wrote new → knows_slot texts s ≡ true → KnowsContent (names_of texts) (content_of c) → Carries {A = Unit {0}} texts w (Writes (slot_in texts s) (content_in texts c) (Gives tt)) tt old new v
  pub lists : (o : ObjId) (names : List Name) → Does old (list w o) (listed (slots_of o names)) new → Carries texts w (Lists o Gives) (listing texts o names) old new v

abbrev pub StoresCarryPlans : Type 0
StoresCarryPlans = (texts : Table) (w : WorldId) (old new : Meaning) (v : View) → IsTrue (new.admits v) → KnowsWorlds texts (old.full v) → CarriesActions texts w old new v
