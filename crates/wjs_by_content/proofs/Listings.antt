-- What a machine answers by number, in contents, is what it answers by content.
use Rattle.std.proofs.Common.{◌≡◌, cond, List, map as each, None, Some, refl, ap, sym, ◌∙◌, IsPermutation}
use Rattle.std.specs.Ordering.{eq_by_cmp}
use Rattle.std.specs.FinMap as map
use Rattle.std.proofs.lemmas.List.Sorted.{list_any-IsPermutation}
use Rattle.wjs_base.specs.Text.{Table}
use Rattle.wjs_store.specs.Meaning.{Worlds, PlainAct}
use Rattle.wjs_store.specs.State.{read, write, list, sprout, commit, slots_at, answer_to}
use Rattle.wjs_store.proofs.Ascending.{firsts, untagged, find_tag}
use Rattle.wjs_by_content.specs.Ascends.{tagged, Ascends}
use Rattle.wjs_by_content.proofs.RenamedKnown.{named_answer}
use Rattle.wjs_by_content.proofs.Sorted.{slots_ascend}
use Rattle.wjs_by_content.specs.Names.{Slot, slot_cmp, slot_total, slot_exact}
use Rattle.wjs_by_content.specs.Plans.{Found, Listed, Sprouted, Committed, heard}
use Rattle.wjs_by_content.specs.Tables.{slot_in}
use Rattle.wjs_by_content.specs.Telling.{names_of}
use Rattle.wjs_by_content.specs.Worlds.{in_order, worlds_in, act_in, heard_in, KnowsWorlds, KnowsAct}

-- ascending slots are the order of each list that has the same
pub ordered : (ss ts : List Slot) → Ascends slot_cmp ts → IsPermutation ss ts → in_order ss ≡ ts
ordered ss ts h p =
    let one = map.same_map slot_total slot_exact (map.from_entries {R = slot_cmp} (tagged ss)) (map.from_sorted {R = slot_cmp} (tagged ts)) (λ q.
    map.get-from_entries slot_total (tagged ss) q ∙ find_tag slot_cmp q ss
    ∙ ap (λ b. cond b (Some tt) None) (list_any-IsPermutation (eq_by_cmp slot_cmp q) ss ts p)
    ∙ sym (find_tag slot_cmp q ts) ∙ sym (map.get-from_sorted slot_cmp (tagged ts) q h)) in
    ap map.keys one ∙ ap firsts (map.entries-from_sorted slot_cmp (tagged ts) h) ∙ untagged ts

module _ (texts : Table) where
  pub same_heard : (F : Worlds) (a : PlainAct) → KnowsWorlds texts F → KnowsAct texts a → heard_in texts (answer_to F a) ≡ heard (answer_to (worlds_in texts F) (act_in texts a))
  same_heard F (read w s) k l = ap Found (sym (named_answer (names_of texts) F (read w s) k l))
  same_heard F (write w s c) k l = refl
  same_heard F (list w o) k l =
      ap (λ ss. Listed (each (λ s. s.name) ss)) (ordered (each (slot_in texts) (slots_at F w o)) (slots_at (worlds_in texts F) w o) (slots_ascend (worlds_in texts F) w o) (named_answer (names_of texts) F (list w o) k l))
  same_heard F (sprout w owner strict) k l = ap Sprouted (sym (named_answer (names_of texts) F (sprout w owner strict) k l))
  same_heard F (commit w) k l = ap Committed (sym (named_answer (names_of texts) F (commit w) k l))
