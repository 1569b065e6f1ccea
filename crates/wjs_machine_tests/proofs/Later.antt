-- What a turn leaves under later texts.
use Rattle.std.proofs.Common.{◌≡◌, Some, Result, Ok, Err, OnOk, sym, ap, ◌∙◌, subst, IsTrue}
use Rattle.std.specs.FinMap as map
use Rattle.wjs_base.specs.declared.ids.ObjId.{ObjId}
use Rattle.wjs_base.specs.declared.ids.OutOfMemory.{OutOfMemory}
use Rattle.wjs_base.specs.Order.{obj_cmp}
use Rattle.wjs_base.specs.Text.{Table, Grows}
use Rattle.wjs_base.proofs.TextLaws.{Grows-refl, Grows-trans}
use Rattle.wjs_base.proofs.Options.{none_there}
use Rattle.wjs_store.specs.Meaning.{Meaning, View}
use Rattle.wjs_by_content.specs.Objects.{Entry}
use Rattle.wjs_model.specs.declared.config.Config.{Config}
use Rattle.wjs_model.specs.declared.config.State.TheVariants as states
use Rattle.wjs_model.specs.Outside.{Admits, alone}
use Rattle.wjs_model.specs.Configurations.{rest, Stays, Turned, quietly, by_step, stopped, Quiet, Stepped, Stopped}
use Rattle.wjs_model.specs.Soundness.{Sound}
use Rattle.wjs_frames.specs.Growing.{MoreTextsChangeNothing}
use Rattle.wjs_frames.specs.Taking.{Turns}
use Rattle.wjs_frames.proofs.Taking.{seen_spent}
use Rattle.wjs_machine_tests.specs.Later.{Meets, Leaves}

none : (o : ObjId) (e : Entry) → map.get (map.empty {X = Entry} {R = obj_cmp}) o ≡ Some e → ⊥
none o e h = none_there (map.get (map.empty {X = Entry} {R = obj_cmp}) o) e (map.get-empty obj_cmp o) h

module _ {S : Type 0} (meaning : S → Meaning) where
  -- an admitted view with a later table stands outside
  outside : (c : Config S) (u : Table) (v : View) → Grows c.heap.texts u → IsTrue ((meaning c.heap.store).admits v) → Admits meaning c (alone v u)
  outside c u v g ok = record {
    view = ok;
    further = record { apart = λ o e h. absurd (none o e h); worlds = λ o e w h. absurd (none o e h) };
    texts = g;
  }

  narrowed : (old new : Config S) → Stays meaning old new → (v : View) → IsTrue ((meaning new.heap.store).admits v) → IsTrue ((meaning old.heap.store).admits v)
  narrowed old new stays v ok = (stays.narrows (alone v new.heap.texts) (outside new new.heap.texts v (Grows-refl new.heap.texts) ok)).view

  quiet_leaves : (old new : Config S) → Sound meaning new → Quiet meaning old new → Leaves meaning old new
  quiet_leaves old new sound q = record {
    sound = sound;
    texts = q.stays.texts;
    narrows = narrowed old new q.stays;
    kept = λ u v m. q.kept (alone v u) (outside new u v m.later m.admitted) m.knows old.left ∙ ap (rest meaning new.heap.texts (alone v u) new) (sym q.left);
    knows = λ u v m. q.knows (alone v u) (outside new u v m.later m.admitted) m.knows;
  }

  step_leaves : (old new : Config S) → Sound meaning new → Stepped meaning old new → Leaves meaning old new
  step_leaves old new sound q = record {
    sound = sound;
    texts = q.stays.texts;
    narrows = narrowed old new q.stays;
    kept = λ u v m. ap (rest meaning new.heap.texts (alone v u) old) q.left ∙ q.kept (alone v u) (outside new u v m.later m.admitted) m.knows new.left;
    knows = λ u v m. q.knows (alone v u) (outside new u v m.later m.admitted) m.knows;
  }

  stop_leaves : (old : Config S) → Sound meaning (record old { state = states.StepsSpent }) → Stopped meaning old (record old { state = states.StepsSpent }) → Leaves meaning old (record old { state = states.StepsSpent })
  stop_leaves old sound q = record {
    sound = sound;
    texts = Grows-refl old.heap.texts;
    narrows = λ v ok. ok;
    kept = λ u v m. ap (rest meaning old.heap.texts (alone v u) old) q.left ∙ q.due (alone v u) ∙ sym (seen_spent u (meaning old.heap.store).told _ _ _ _);
    knows = λ u v m. m.knows;
  }

  turned_leaves : (old new : Config S) → Sound meaning new → Turned meaning old new → Leaves meaning old new
  turned_leaves old new sound (quietly q) = quiet_leaves old new sound q
  turned_leaves old new sound (by_step q) = step_leaves old new sound q
  turned_leaves old new sound (stopped q) = subst (Leaves meaning old) (sym q.same) (stop_leaves old (subst (Sound meaning) q.same sound) (subst (Stopped meaning old) q.same q))

  pub turn_leaves : (old new : Config S) (r : Result (Unit {0}) OutOfMemory) → OnOk r (Turns meaning old new) → OnOk r (Leaves meaning old new)
  turn_leaves old new (Ok done) turns = turned_leaves old new turns.sound turns.turned
  turn_leaves old new (Err e) turns = tt

  -- ---- one turn after another

  module _ (same : MoreTextsChangeNothing meaning) (old mid new : Config S) (sound : Sound meaning old) (f : Leaves meaning old mid) where
    twice : Leaves meaning mid new → Leaves meaning old new
    twice s = record {
      sound = s.sound;
      texts = all;
      narrows = λ v ok. f.narrows v (s.narrows v ok);
      kept = λ u v m.
          let w = alone v u in
          (same new.heap.texts w old sound all).rest old.left
          ∙ sym ((same mid.heap.texts w old sound f.texts).rest old.left)
          ∙ f.kept u v (first u v m)
          ∙ sym ((same new.heap.texts w mid f.sound s.texts).rest mid.left)
          ∙ s.kept u v (second u v m);
      knows = λ u v m. s.knows u v (second u v m);
    }
      where
        all : Grows old.heap.texts new.heap.texts
        all = Grows-trans old.heap.texts mid.heap.texts new.heap.texts f.texts s.texts

        first : (u : Table) (v : View) → Meets meaning old new u v → Meets meaning old mid u v
        first u v m = record { later = Grows-trans mid.heap.texts new.heap.texts u s.texts m.later; admitted = s.narrows v m.admitted; knows = m.knows }

        second : (u : Table) (v : View) → Meets meaning old new u v → Meets meaning mid new u v
        second u v m = record { later = m.later; admitted = m.admitted; knows = f.knows u v (first u v m) }

    pub turns_leave : (r : Result (Unit {0}) OutOfMemory) → OnOk r (Leaves meaning mid new) → OnOk r (Leaves meaning old new)
    turns_leave (Ok done) s = twice s
    turns_leave (Err e) s = tt
