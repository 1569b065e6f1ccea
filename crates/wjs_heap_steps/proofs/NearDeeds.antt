-- What each operation on properties finds and leaves is near.
use Rattle.std.proofs.Common.{Option, Some, IsTrue}
use Rattle.std.specs.Prelude.{Bool, not, List}
use Rattle.wjs_base.specs.declared.ids.ObjId.{ObjId}
use Rattle.wjs_base.specs.declared.ids.WorldId.{WorldId}
use Rattle.wjs_base.specs.declared.values.Name.{Name}
use Rattle.wjs_base.specs.declared.values.Value.{Value as NumberedValue}
use Rattle.wjs_base.specs.Text.{Table}
use Rattle.wjs_store.specs.Meaning.{Meaning, IsSound}
use Rattle.wjs_by_content.specs.Renamed.{Holds}
use Rattle.wjs_by_content.specs.Values.{Value}
use Rattle.wjs_by_content.specs.Names.{Slot}
use Rattle.wjs_by_content.specs.Tables.{name_in, value_in, slot_in, arena_in}
use Rattle.wjs_by_content.specs.Plans.{Gives, Reads, Writes}
use Rattle.wjs_by_content.specs.declared.answers.PutAnswer.{PutAnswer}
use Rattle.wjs_heap.specs.declared.heap.Heap.{Heap}
use Rattle.wjs_heap.specs.Heap.{Performs}
use Rattle.wjs_heap.specs.Means.{parts, nothing}
use Rattle.wjs_by_content.specs.Properties as plan
use Rattle.wjs_model.specs.declared.config.Config.{Config}
use Rattle.wjs_model.specs.Apart.{IsNear, NearValue}
use Rattle.wjs_model.specs.Soundness.{Base}
use Rattle.wjs_heap_steps.proofs.NearPlans.{Any, NearContent, get_reaches, has_reaches, put_reaches, delete_reaches, visits_reaches}
use Rattle.wjs_heap_steps.proofs.NearWorlds.{values_near}
use Rattle.wjs_heap_steps.proofs.Nearing.{Left, closed, plan_left}

module _ {S : Type 0} (meaning : S → Meaning) (old : Config S) (heap : Heap S) (sound : IsTrue (not (meaning heap.store).spent) → IsSound (meaning heap.store)) (base : Base meaning old) (w : WorldId) (o : ObjId) (h : IsNear old.apart.items o) where
  abbrev near : ObjId → Type 0
  near = IsNear old.apart.items

  pub get_left : (name : Name) (answer : Table → Option Value) → Performs w (λ t. plan.get (arena_in t old.heap.arena) o (name_in t name)) answer (parts meaning old.heap) (parts meaning heap) → NearContent near (answer heap.texts) × Left meaning old heap
  get_left name answer p = plan_left meaning old heap sound base (NearContent near) w _ answer (get_reaches near (arena_in heap.texts old.heap.arena) (closed meaning old base heap.texts) o (name_in heap.texts name) h) p

  pub has_left : (name : Name) (answer : Table → Bool) → Performs w (λ t. plan.has (arena_in t old.heap.arena) o (name_in t name)) answer (parts meaning old.heap) (parts meaning heap) → Left meaning old heap
  has_left name answer p = (plan_left meaning old heap sound base (Any near) w _ answer (has_reaches near (arena_in heap.texts old.heap.arena) (closed meaning old base heap.texts) o (name_in heap.texts name) h) p).1

  pub put_left : (name : Name) (v : NumberedValue) (answer : Table → PutAnswer) → NearValue old.apart.items v → Performs w (λ t. plan.put (arena_in t old.heap.arena) o (name_in t name) (value_in t v)) answer (parts meaning old.heap) (parts meaning heap) → Left meaning old heap
  put_left name v answer n p = (plan_left meaning old heap sound base (Any near) w _ answer (put_reaches near o h (arena_in heap.texts old.heap.arena) (name_in heap.texts name) (value_in heap.texts v) (values_near old.apart.items heap.texts v n)) p).1

  pub delete_left : (name : Name) (answer : Table → Bool) → Performs w (λ t. plan.delete (arena_in t old.heap.arena) o (name_in t name)) answer (parts meaning old.heap) (parts meaning heap) → Left meaning old heap
  delete_left name answer p = (plan_left meaning old heap sound base (Any near) w _ answer (delete_reaches near o h (arena_in heap.texts old.heap.arena) (name_in heap.texts name)) p).1

  pub visits_left : (answer : Table → List Slot) → Performs w (λ t. plan.visits (arena_in t old.heap.arena) o) answer (parts meaning old.heap) (parts meaning heap) → Holds (λ (s : Slot). near s.object) (answer heap.texts) × Left meaning old heap
  visits_left answer p = plan_left meaning old heap sound base (Holds (λ (s : Slot). near s.object)) w _ answer (visits_reaches near (arena_in heap.texts old.heap.arena) (closed meaning old base heap.texts) o h) p

  -- ---- slots

  pub read_left : (name : Name) (answer : Table → Option Value) → Performs w (λ t. Reads (slot_in t (record { object = o; name = name })) Gives) answer (parts meaning old.heap) (parts meaning heap) → NearContent near (answer heap.texts) × Left meaning old heap
  read_left name answer p = plan_left meaning old heap sound base (NearContent near) w _ answer (λ c n. n) p

  pub write_left : (name : Name) (v : NumberedValue) (answer : Table → Unit {0}) → NearValue old.apart.items v → Performs w (λ t. Writes (slot_in t (record { object = o; name = name })) (Some (value_in t v)) (Gives nothing)) answer (parts meaning old.heap) (parts meaning heap) → Left meaning old heap
  write_left name v answer n p = (plan_left meaning old heap sound base (Any near) w _ answer ((h, values_near old.apart.items heap.texts v n), tt) p).1
