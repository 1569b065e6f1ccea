-- One deed after another.
use Rattle.std.proofs.Common.{◌≡◌, refl, ◌∙◌, subst}
use Rattle.wjs_base.specs.declared.ids.WorldId.{WorldId}
use Rattle.wjs_base.specs.Text.{Table, Grows}
use Rattle.wjs_base.proofs.TextLaws.{Grows-refl, Grows-trans}
use Rattle.wjs_by_content.specs.Plans.{Plan, Gives, then_plan}
use Rattle.wjs_by_content.specs.Carried.{Carries}
use Rattle.wjs_by_content.proofs.Carrying.{carries_nothing, carries_then}
use Rattle.wjs_heap.specs.Heap.{Parts, IsHeap, Performs}

-- nothing is done
pub performs_nothing : {A : Type 0} (w : WorldId) (a : Table → A) (h : Parts) → IsHeap h → Performs w (λ t. Gives (a t)) a h h
performs_nothing w a h heap = record {
  narrows = λ v ok. ok;
  carries = λ t u g gu v ok k. carries_nothing u w (a t) h.store v k;
  marks = λ k. k;
  told = λ k d. d;
  texts = Grows-refl h.texts;
  arena = refl;
  own = refl;
  around = refl;
  still_there = λ i there. there;
  heap = heap;
  spent = refl;
}

-- one plan and then another, which depends on the first one's answer
pub performs_then : {A B : Type 0} (w : WorldId) (p : Table → Plan A) (go : Table → A → Plan B) (a : Table → A) (b : Table → B) (old mid new : Parts)
    → Performs w p a old mid → Performs w (λ t. go t (a t)) b mid new → Performs w (λ t. then_plan (p t) (go t)) b old new
performs_then w p go a b old mid new f s = record {
  narrows = λ v ok. f.narrows v (s.narrows v ok);
  carries = λ t u g gu v ok k.
      let first = f.carries t u (Grows-trans mid.texts new.texts t s.texts g) gu v (s.narrows v ok) k in
      carries_then u w (p t) (go t) (a t) (b t) old.store mid.store new.store v first (s.carries t u g gu v ok first.knows);
  marks = λ k. s.marks (f.marks k);
  told = λ k d. s.told (f.marks k) (f.told k d);
  texts = Grows-trans old.texts mid.texts new.texts f.texts s.texts;
  arena = s.arena ∙ f.arena;
  own = s.own ∙ f.own;
  around = s.around ∙ f.around;
  still_there = λ i there. s.still_there i (f.still_there i there);
  heap = s.heap;
  spent = s.spent ∙ f.spent;
}

-- the same plan and answer
pub performs_same : {A : Type 0} (w : WorldId) (p q : Table → Plan A) (a b : Table → A) (old new : Parts) → ((t : Table) → Grows new.texts t → p t ≡ q t) → ((t : Table) → Grows new.texts t → a t ≡ b t) → Performs w p a old new → Performs w q b old new
performs_same w p q a b old new e d f = record {
  narrows = f.narrows;
  carries = λ t u g gu v ok k. subst (λ x. Carries u w (q t) x old.store new.store v) (d t g) (subst (λ x. Carries u w x (a t) old.store new.store v) (e t g) (f.carries t u g gu v ok k));
  marks = f.marks;
  told = f.told;
  texts = f.texts;
  arena = f.arena;
  own = f.own;
  around = f.around;
  still_there = f.still_there;
  heap = f.heap;
  spent = f.spent;
}
