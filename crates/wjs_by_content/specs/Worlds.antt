-- What a table of texts makes of worlds, and of the actions that were done in them.
use Rattle.std.specs.Prelude.{◌≡◌, true, List, map as each, Option}
use Rattle.std.specs.Option.{option_map}
use Rattle.std.specs.FinMap as map
use Rattle.wjs_base.specs.declared.ids.ObjId.{ObjId}
use Rattle.wjs_base.specs.declared.values.Name.{Name}
use Rattle.wjs_base.specs.declared.values.Slot.{Slot as NumberedSlot}
use Rattle.wjs_base.specs.Text.{Table}
use Rattle.wjs_store.specs.Meaning.{Worlds, PlainAct, PlainReply}
use Rattle.wjs_store.specs.Shown.{slots_of}
use Rattle.wjs_store.specs.State.{State, Act, Verdict, moved, differs, no_parent, found, wrote, listed, sprouted, committed}
use Rattle.wjs_by_content.specs.Ascends.{tagged}
use Rattle.wjs_by_content.specs.Renamed.{Holds, Known, KnownAct, KnowsContent, named_state, named_act}
use Rattle.wjs_by_content.specs.Rename.{shape}
use Rattle.wjs_by_content.specs.Values.{Text, Value}
use Rattle.wjs_by_content.specs.Names.{Slot, slot_cmp, content}
use Rattle.wjs_by_content.specs.Plans.{Heard, Found, Wrote, Listed, Sprouted, Committed, Told}
use Rattle.wjs_by_content.specs.Tables.{slot_in, value_in, knows_slot}
use Rattle.wjs_by_content.specs.Telling.{names_of}

-- the slots of a list in their order, each once
abbrev pub in_order : List Slot → List Slot
in_order ss = map.keys (map.from_entries {R = slot_cmp} (tagged ss))

module _ (texts : Table) where
  abbrev pub worlds_in : Worlds → State content
  worlds_in F = named_state (names_of texts) F

  abbrev pub act_in : PlainAct → Act Slot Value
  act_in a = named_act (names_of texts) a

  -- each slot and value of the worlds is known
  abbrev pub KnowsWorlds : Worlds → Type 0
  KnowsWorlds F = Known (names_of texts) F

  -- those of an action are
  abbrev pub KnowsAct : PlainAct → Type 0
  KnowsAct a = KnownAct (names_of texts) a

  -- the slot of a refused commit is
  abbrev pub KnowsVerdict : Verdict NumberedSlot → Type 0
  KnowsVerdict moved = Unit {0}
  KnowsVerdict (differs s) = knows_slot texts s ≡ true
  KnowsVerdict no_parent = Unit {0}

  -- those of an answer are: a content that was found, slots that were listed, the slot of a refused commit
  abbrev pub KnowsReply : PlainReply → Type 0
  KnowsReply (found c) = KnowsContent (names_of texts) c
  KnowsReply wrote = Unit {0}
  KnowsReply (listed ss) = Holds (λ s. knows_slot texts s ≡ true) ss
  KnowsReply (sprouted w) = Unit {0}
  KnowsReply (committed v) = KnowsVerdict v

  -- a listing in the order of contents
  abbrev pub heard_in : PlainReply → Heard
  heard_in (found c) = Found (option_map (value_in texts) c)
  heard_in wrote = Wrote
  heard_in (listed ss) = Listed (each (λ s. s.name) (in_order (each (slot_in texts) ss)))
  heard_in (sprouted w) = Sprouted w
  heard_in (committed v) = Committed (shape v)

  -- the names of an object's listed slots, in the order of contents
  abbrev pub listing : ObjId → List Name → List Text
  listing o names = each (λ s. s.name) (in_order (each (slot_in texts) (slots_of o names)))

  abbrev pub told_in : PlainAct × PlainReply → Told
  told_in e = (act_in e.0, heard_in e.1)

  -- the actions that a store tells, where it tells them
  abbrev pub told_by : Option (List (PlainAct × PlainReply)) → Option (List Told)
  told_by told = option_map (each told_in) told
