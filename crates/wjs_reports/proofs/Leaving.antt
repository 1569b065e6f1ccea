-- What is left of a configuration whose first world was read.
use Rattle.std.proofs.Common.{◌≡◌, ℕ, List, Option, refl, sym, ap, ◌∙◌, subst, IsTrue}
use Rattle.std.specs.Prelude.{not, Result, Ok, Err, OnOk}
use Rattle.wjs_base.specs.declared.ids.ObjId.{ObjId}
use Rattle.wjs_base.specs.Text.{Table, IsTable, Grows}
use Rattle.wjs_store.specs.Meaning.{Meaning, IsSound}
use Rattle.wjs_arena.specs.Entries.{Objects, has}
use Rattle.wjs_by_content.specs.Properties as plan
use Rattle.wjs_by_content.specs.Tables.{arena_in}
use Rattle.wjs_by_content.specs.Values.{Text, Value}
use Rattle.wjs_heap.specs.declared.heap.Heap.{Heap}
use Rattle.wjs_heap.specs.Heap.{Performs}
use Rattle.wjs_heap.specs.Means.{parts}
use Rattle.wjs_model.specs.declared.config.Config.{Config}
use Rattle.wjs_model.specs.Apart.{IsNear}
use Rattle.wjs_model.specs.Soundness.{HasObject, Base}
use Rattle.wjs_frames.proofs.Reaching.{stays_on}
use Rattle.wjs_heap_steps.proofs.Later.{later_plan, later_texts}
use Rattle.wjs_heap_steps.proofs.NearPlans.{NearContent, get_reaches}
use Rattle.wjs_heap_steps.proofs.Nearing.{closed, plan_left}
use Rattle.wjs_heap_steps.proofs.Steps.{stays_same, ran_actions, ran_nothing}
use Rattle.wjs_reports.specs.Thrown.{Leaves}

-- what holds holds where the answer is Ok
pub on_any : {T E P : Type 0} (r : Result T E) → P → OnOk r P
on_any (Ok x) p = p
on_any (Err e) p = tt

module _ {S : Type 0} (meaning : S → Meaning) where
  pub leaves_same : (c : Config S) → Base meaning c → Leaves meaning c c
  leaves_same c base = record { same = refl; objects = refl; stays = stays_same meaning c; base = base }

  pub leaves_twice : (old mid new : Config S) → Leaves meaning old mid → Leaves meaning mid new → Leaves meaning old new
  leaves_twice old mid new f s = record {
    same = s.same ∙ ap (λ (c : Config S). record c { heap = new.heap }) f.same;
    objects = s.objects ∙ f.objects;
    stays = stays_on meaning old mid new f.stays s.stays;
    base = s.base;
  }

  pub world_left : (old new : Config S) → Leaves meaning old new → new.world ≡ old.world
  world_left old new l = ap (λ (c : Config S). c.world) l.same

  -- what was there is there
  pub object_left : (old new : Config S) (o : ObjId) → Leaves meaning old new → HasObject old o → HasObject new o
  object_left old new o l h = (
    subst (λ (m : Objects). IsTrue (has m o)) (sym l.objects) h.0,
    subst (λ (apart : List ℕ). IsNear apart o) (sym (ap (λ (c : Config S). c.apart.items) l.same)) h.1,
  )

  -- a property of an object was found in the first world
  pub get_leaves : (old : Config S) (heap : Heap S) → (IsTrue (not (meaning heap.store).spent) → IsSound (meaning heap.store)) → Base meaning old → (o : ObjId) → HasObject old o → (name : Text) (answer : Table → Option Value)
      → Performs old.world (λ t. plan.get (arena_in t old.heap.arena) o name) answer (parts meaning old.heap) (parts meaning heap) → Leaves meaning old (record old { heap = heap })
  get_leaves old heap sound base o h name answer p =
      let near : ObjId → Type 0 = IsNear old.apart.items in
      let left = plan_left meaning old heap sound base (NearContent near) old.world _ answer (get_reaches near (arena_in heap.texts old.heap.arena) (closed meaning old base heap.texts) o name h.1) p in
      record {
        same = refl;
        objects = p.arena;
        stays = (ran_actions meaning old.world _ answer old heap p).stays;
        base = (later_plan meaning old.world _ answer old heap base p left.1).base;
      }

  -- there are more texts
  pub texts_leave : (old : Config S) (texts : Table) → Base meaning old → IsTable texts → Grows old.heap.texts texts → Leaves meaning old (record old { heap = record old.heap { texts = texts } })
  texts_leave old texts base table g =
      let none : Table → Unit {0} = λ t. tt in
      record {
        same = refl;
        objects = refl;
        stays = (ran_nothing meaning none none old (record old.heap { texts = texts }) g refl refl (λ t k. refl)).stays;
        base = (later_texts meaning old texts base table g).base;
      }
