-- An error's text from what stands under its name and its message.
use Rattle.std.proofs.Common.{◌≡◌, ◌∙◌, subst, IsTrue}
use Rattle.wjs_base.specs.declared.ids.ObjId.{ObjId}
use Rattle.wjs_base.specs.declared.ids.WorldId.{WorldId}
use Rattle.wjs_base.specs.declared.values.Content.{Content}
use Rattle.wjs_base.specs.Text.{Grows}
use Rattle.wjs_base.proofs.TextLaws.{Grows-refl, Grows-trans}
use Rattle.wjs_store.specs.Meaning.{View, worlds}
use Rattle.wjs_by_content.specs.Names.{name_name, message_name}
use Rattle.wjs_by_content.specs.Plans.{answer_of, worlds_after}
use Rattle.wjs_by_content.specs.Tables.{content_in, arena_in}
use Rattle.wjs_by_content.specs.Worlds.{worlds_in, KnowsWorlds}
use Rattle.wjs_by_content.proofs.ArenaGrowth.{arena_grows}
use Rattle.wjs_by_content.proofs.Growth.{worlds_grow}
use Rattle.wjs_heap.specs.Heap.{Parts, IsHeap, Performs}
use Rattle.wjs_by_content.specs.Properties as plan
use Rattle.wjs_meaning.specs.NativesOfObjects.{fault_text}
use Rattle.wjs_frames.proofs.Growing.{arena_known}
use Rattle.wjs_reports.specs.Thrown.{shown_fault}

-- the two reads of a heap, one after the other
pub fault_read : (w : WorldId) (o : ObjId) (name message : Content) (old mid new : Parts) → IsHeap old → KnowsWorlds old.texts (worlds old.store) → IsTrue (new.store.admits new.store.own)
    → Performs w (λ t. plan.get (arena_in t old.arena) o name_name) (λ t. content_in t name) old mid
    → Performs w (λ t. plan.get (arena_in t mid.arena) o message_name) (λ t. content_in t message) mid new
    → fault_text (content_in new.texts name) (content_in new.texts message) ≡ shown_fault (arena_in old.texts old.arena) (worlds_in old.texts (worlds old.store)) w o
fault_read w o name message old mid new heap marks admits first second =
    let t = new.texts in
    let v = old.store.own in
    let grown : Grows old.texts t = Grows-trans old.texts mid.texts t first.texts second.texts in
    let admitted : IsTrue (new.store.admits v) = subst (λ (x : View). IsTrue (new.store.admits x)) (second.own ∙ first.own) admits in
    let before : IsTrue (mid.store.admits v) = second.narrows v admitted in
    let later = worlds_grow old.texts t grown (worlds old.store) marks in
    let one = first.carries t t second.texts (Grows-refl t) v before later.0 in
    let two = second.carries t t (Grows-refl t) (Grows-refl t) v admitted one.knows in
    let found : content_in t message ≡ answer_of (plan.get (arena_in t old.arena) o message_name) w (worlds_after (plan.get (arena_in t old.arena) o name_name) w (worlds_in t (worlds old.store))) = two.answers ∙ (λ i. answer_of (plan.get (arena_in t (first.arena i)) o message_name) w (one.worlds i)) in
    (λ i. fault_text (one.answers i) (found i))
    ∙ (λ i. shown_fault ((arena_grows old.texts t grown old.arena (arena_known old heap)).1 i) (later.1 i) w o)
