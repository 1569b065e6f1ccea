-- What holds of slots and values under the names of their contents, each promised by a public function.
use Rattle.std.specs.Prelude.{◌≡◌, true, List, map as each, IsTrue, IsPermutation}
use Rattle.wjs_base.specs.declared.ids.ObjId.{ObjId}
use Rattle.wjs_base.specs.declared.ids.WorldId.{WorldId}
use Rattle.wjs_base.specs.declared.values.Slot.{Slot}
use Rattle.wjs_store.specs.Naming.{Naming, plain}
use Rattle.wjs_store.specs.State.{World, after, answer_to, slots_at, fails}
use Rattle.wjs_store.specs.Reached.{IsReached}
use Rattle.wjs_store.specs.Fixed.{fresh}
use Rattle.wjs_store.specs.Meaning.{Meaning, View, Worlds, PlainAct, PlainReply, Does}
use Rattle.wjs_by_content.specs.Ascends.{Ascends}
use Rattle.wjs_by_content.specs.Renamed.{Names, Grows, Known, Knows, KnownAct, named_world, named_state, named_act, NamedReply}
use Rattle.wjs_by_content.specs.Does.{DoesNamed}

module _ {J W : Type 0} {m : Naming J W} (r : Names plain m) where
  -- an action on known slots and values does the same under the names, answers alike, and leaves known ones
  pub record Commutes (F : Worlds) (a : PlainAct) : Type 0 where
    pub worlds : named_state r (after F a) ≡ after (named_state r F) (named_act r a)
    pub answer : NamedReply r (answer_to F a) (answer_to (named_state r F) (named_act r a))
    pub known : Known r (after F a)

module _ (J W : Type 0) where
  abbrev pub ActionsCommute : Type 0
  ActionsCommute = (m : Naming J W) (r : Names plain m) (F : Worlds) (a : PlainAct) → Known r F → KnownAct r a → Commutes r F a

  -- a store's action does the same under the names, under each view that is admitted afterwards
  abbrev pub StoresCommute : Type 0
  StoresCommute = (m : Naming J W) (r : Names plain m) (old : Meaning) (a : PlainAct) (answer : PlainReply) (new : Meaning) → Does old a answer new → (v : View) → IsTrue (new.admits v) → Known r (old.full v) → KnownAct r a → DoesNamed r old a answer new v

  -- the fresh state is known
  abbrev pub FreshIsKnown : Type 0
  FreshIsKnown = (m : Naming J W) (r : Names plain m) → Known r fresh

  -- the renamed slots in the order of the names are what the named state lists
  abbrev pub ListingsAgree : Type 0
  ListingsAgree = (m : Naming J W) (r : Names plain m) (F : Worlds) (w : WorldId) (o : ObjId) → Known r F → (ts : List J) → Ascends m.cmp ts → IsPermutation (each r.slot (slots_at F w o)) ts → ts ≡ slots_at (named_state r F) w o

  -- a slot fails the check exactly where its name does
  abbrev pub FaultsAgree : Type 0
  FaultsAgree = (m : Naming J W) (r : Names plain m) (x p : World plain) (s : Slot) → Knows r x → Knows r p → r.knows s ≡ true → fails (named_world r x) (named_world r p) (r.slot s) ≡ fails x p s

  -- a reached state is reached under the names
  abbrev pub ReachedAgree : Type 0
  ReachedAgree = (m : Naming J W) (r : Names plain m) (F : Worlds) → Known r F → IsReached F → IsReached (named_state r F)

  -- names that grow leave what was known as it was
  abbrev pub NamesGrow : Type 0
  NamesGrow = (m : Naming J W) (r t : Names plain m) → Grows r t → (F : Worlds) → Known r F → Known t F × (named_state t F ≡ named_state r F)
