-- The listed names in their own order: the renamed slots, sorted, are what the named state lists.
use Rattle.std.proofs.Common.{◌≡◌, cond, List, ap, sym, ◌∙◌, map as each, None, Some, Ordering, IsPermutation}
use Rattle.std.specs.Ordering.{eq_by_cmp}
use Rattle.std.specs.Cmp.{IsTotalOrder}
use Rattle.std.specs.FinMap.{IsAntisymmetric}
use Rattle.std.specs.FinMap.Entries.{same_entries}
use Rattle.std.proofs.lemmas.List.Sorted.{IsPermutation-trans, IsPermutation-sym, list_any-IsPermutation}
use Rattle.wjs_base.specs.declared.ids.WorldId.{WorldId}
use Rattle.wjs_base.specs.declared.ids.ObjId.{ObjId}
use Rattle.wjs_store.specs.Naming.{Naming}
use Rattle.wjs_store.specs.State.{State, slots_at}
use Rattle.wjs_by_content.specs.Renamed.{Names, Known, named_state}
use Rattle.wjs_by_content.specs.Ascends.{tagged, Ascends}
use Rattle.wjs_store.proofs.Ascending.{firsts, untagged, find_tag}
pub use Rattle.wjs_store.proofs.Ascending.{slots_ascend}
use Rattle.wjs_by_content.proofs.RenamedKnown.{named_slots}

-- a list has one ascending order
one_order : {J : Type 0} {S : J → J → Ordering} → IsTotalOrder S → IsAntisymmetric S → (ss ts : List J) → Ascends S ss → Ascends S ts → IsPermutation ss ts → ss ≡ ts
one_order {S = S} total exact ss ts h k p = sym (untagged ss)
    ∙ ap firsts (same_entries S total exact (tagged ss) (tagged ts) h k (λ q. find_tag S q ss ∙ ap (λ b. cond b (Some tt) None) (list_any-IsPermutation (eq_by_cmp S q) ss ts p) ∙ sym (find_tag S q ts)))
    ∙ untagged ts

-- the renamed slots in ascending order are the named state's
pub named_listing : {K V J W : Type 0} {n : Naming K V} {m : Naming J W} (r : Names n m) (F : State n) (w : WorldId) (o : ObjId) → Known r F → (ts : List J) → Ascends m.cmp ts → IsPermutation (each r.slot (slots_at F w o)) ts → ts ≡ slots_at (named_state r F) w o
named_listing {m = m} r F w o k ts h p = one_order m.total m.exact ts (slots_at (named_state r F) w o) h (slots_ascend (named_state r F) w o) (IsPermutation-trans _ _ _ (IsPermutation-sym _ _ p) (named_slots r F w o k))
