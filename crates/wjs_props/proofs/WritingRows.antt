-- Several slots of an object are written.
use Rattle.std.proofs.Common.{List, [], ◌∷◌, sym, subst, IsTrue}
use Rattle.wjs_base.specs.declared.ids.ObjId.{ObjId}
use Rattle.wjs_base.specs.declared.ids.WorldId.{WorldId}
use Rattle.wjs_base.specs.declared.values.Content.TheVariants.{Present}
use Rattle.wjs_base.specs.declared.values.Name.{Name}
use Rattle.wjs_base.specs.declared.values.Slot.{Slot}
use Rattle.wjs_base.specs.declared.values.Value.{Value}
use Rattle.wjs_base.specs.Spelling.{IsName}
use Rattle.wjs_store.specs.Meaning.{Meaning, DoesAll, entries_of, writes_of}
use Rattle.wjs_store.proofs.AllAnswered.{all_admits}
use Rattle.wjs_arena.specs.Entries.{has}
use Rattle.wjs_by_content.specs.Renamed.{Holds}
use Rattle.wjs_heap.specs.Heap.{Parts, HasValue, IsHeap, Performs}
use Rattle.wjs_heap.specs.Means.{nothing}
use Rattle.wjs_heap.proofs.Turns.{performs_nothing, performs_then}
use Rattle.wjs_by_content.specs.Plans.{Gives, Writes}
use Rattle.wjs_by_content.specs.Tables.{slot_in, content_in}
use Rattle.wjs_props.specs.Several.{writes, rows_in}
use Rattle.wjs_props.proofs.Actions.{did_write}

pub did_rows : (w : WorldId) (o : ObjId) (rows : List (Name × Value)) (h : Parts) (new : Meaning) → IsHeap h → IsTrue (new.admits new.own) → IsTrue (has h.arena o) → Holds (λ row. IsName h.texts row.0 × HasValue h.texts h.arena row.1) rows
    → DoesAll h.store (writes_of w (entries_of o rows)) new → Performs w (λ t. writes (rows_in t o rows)) (λ t. nothing) h (record { texts = h.texts; arena = h.arena; store = new })
did_rows w o [] h new heap ok there named d = subst (λ (m : Meaning). Performs w (λ t. Gives nothing) (λ t. nothing) h (record { texts = h.texts; arena = h.arena; store = m })) (sym d) (performs_nothing w (λ t. nothing) h heap)
did_rows w o (row ∷ rows) h new heap ok there named d =
    let s : Slot = record { object = o; name = row.0 } in
    let c = Present row.1 in
    let mid : Parts = record { texts = h.texts; arena = h.arena; store = d.0 } in
    let last : Parts = record { texts = h.texts; arena = h.arena; store = new } in
    let one = did_write h d.0 heap (all_admits (writes_of w (entries_of o rows)) d.0 new d.2 ok) w s c (record { object = there; name = named.0.0 }) named.0.1 d.1 in
    let rest = did_rows w o rows mid new one.heap ok there named.1 d.2 in
    performs_then w (λ t. Writes (slot_in t s) (content_in t c) (Gives nothing)) (λ t u. writes (rows_in t o rows)) (λ t. nothing) (λ t. nothing) h mid last one rest
