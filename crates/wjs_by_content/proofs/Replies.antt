-- What a table knows of actions and of their answers.
use Rattle.std.proofs.Common.{◌≡◌, true, List, [], ◌∷◌, map as each, refl, ap}
use Rattle.wjs_base.specs.declared.ids.WorldId.{WorldId}
use Rattle.wjs_base.specs.declared.values.Slot.{Slot as NumberedSlot}
use Rattle.wjs_base.specs.Text.{Table, Grows}
use Rattle.wjs_store.specs.Meaning.{Worlds, PlainAct, PlainReply}
use Rattle.wjs_store.specs.State.{Verdict, moved, differs, no_parent, read, write, list, sprout, commit, found, wrote, listed, sprouted, committed, verdict_at, answer_to}
use Rattle.wjs_by_content.specs.Renamed.{Holds}
use Rattle.wjs_by_content.proofs.Found.{known_content, known_slots, known_verdict}
use Rattle.wjs_by_content.proofs.Grow.{content_grows}
use Rattle.wjs_by_content.specs.Names.{Slot}
use Rattle.wjs_by_content.specs.Plans.{Found, Listed}
use Rattle.wjs_by_content.specs.Tables.{slot_in, knows_slot}
use Rattle.wjs_by_content.specs.Telling.{names_of}
use Rattle.wjs_by_content.specs.Worlds.{in_order, act_in, heard_in, KnowsWorlds, KnowsAct, KnowsVerdict, KnowsReply}
use Rattle.wjs_by_content.proofs.Growth.{slot_grows, names_grow}

-- ---- what the machine answers in known worlds is known

module _ (texts : Table) where
  verdict_knows : (F : Worlds) (w : WorldId) → KnowsWorlds texts F → (v : Verdict NumberedSlot) → verdict_at F w ≡ v → KnowsVerdict texts v
  verdict_knows F w k moved e = tt
  verdict_knows F w k (differs s) e = known_verdict (names_of texts) F w s k e
  verdict_knows F w k no_parent e = tt

  pub answer_knows : (F : Worlds) (a : PlainAct) → KnowsWorlds texts F → KnowsReply texts (answer_to F a)
  answer_knows F (read w s) k = known_content (names_of texts) F w s k
  answer_knows F (write w s c) k = tt
  answer_knows F (list w o) k = known_slots (names_of texts) F w o k
  answer_knows F (sprout w owner strict) k = tt
  answer_knows F (commit w) k = verdict_knows F w k (verdict_at F w) refl

-- ---- and stays known, with its content, as the table grows

module _ (old new : Table) (g : Grows old new) where
  pub slots_grow : (ss : List NumberedSlot) → Holds (λ s. knows_slot old s ≡ true) ss → Holds (λ s. knows_slot new s ≡ true) ss × (each (slot_in new) ss ≡ each (slot_in old) ss)
  slots_grow [] k = (tt, refl)
  slots_grow (s ∷ ss) k =
      let one = slot_grows old new g s k.0 in
      let more = slots_grow ss k.1 in
      ((one.0, more.0), λ i. one.1 i ∷ more.1 i)

  verdict_grows : (v : Verdict NumberedSlot) → KnowsVerdict old v → KnowsVerdict new v
  verdict_grows moved k = tt
  verdict_grows (differs s) k = (slot_grows old new g s k).0
  verdict_grows no_parent k = tt

  pub act_grows : (a : PlainAct) → KnowsAct old a → KnowsAct new a × (act_in new a ≡ act_in old a)
  act_grows (read w s) k = let e = slot_grows old new g s k in (e.0, ap (λ (z : Slot). read w z) e.1)
  act_grows (write w s c) k =
      let e = slot_grows old new g s k.0 in
      let d = content_grows (names_of old) (names_of new) (names_grow old new g) c k.1 in
      ((e.0, d.0), λ i. write w (e.1 i) (d.1 i))
  act_grows (list w o) k = (tt, refl)
  act_grows (sprout w owner strict) k = (tt, refl)
  act_grows (commit w) k = (tt, refl)

  pub reply_grows : (r : PlainReply) → KnowsReply old r → KnowsReply new r × (heard_in new r ≡ heard_in old r)
  reply_grows (found c) k = let d = content_grows (names_of old) (names_of new) (names_grow old new g) c k in (d.0, ap Found d.1)
  reply_grows wrote k = (tt, refl)
  reply_grows (listed ss) k = let e = slots_grow ss k in (e.0, ap (λ (zs : List Slot). Listed (each (λ s. s.name) (in_order zs))) e.1)
  reply_grows (sprouted w) k = (tt, refl)
  reply_grows (committed v) k = (verdict_grows v k, refl)
