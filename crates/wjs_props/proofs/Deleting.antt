-- [[HasProperty]] and [[Delete]].
use Rattle.std.proofs.Common.{◌≡◌, Bool, true, false, Option, None, Some, refl, sym, ap, ◌∙◌}
use Rattle.std.specs.Prelude.{is_some, is_none}
use Rattle.std.specs.Option.{option_map}
use Rattle.wjs_base.specs.declared.ids.ObjId.{ObjId}
use Rattle.wjs_base.specs.declared.ids.WorldId.{WorldId}
use Rattle.wjs_base.specs.declared.values.Content.{Content}
use Rattle.wjs_base.specs.declared.values.Name.{Name}
use Rattle.wjs_base.specs.declared.values.Value.{Value as NumberedValue}
use Rattle.wjs_base.specs.Spelling.{IsName}
use Rattle.wjs_base.specs.Text.{Table, Grows}
use Rattle.wjs_base.proofs.TextLaws.{Grows-trans}
use Rattle.wjs_store.specs.Shown.{content_of}
use Rattle.wjs_arena.specs.Chains as numbered
use Rattle.wjs_by_content.specs.Values.{Value}
use Rattle.wjs_by_content.specs.Names.{slot}
use Rattle.wjs_by_content.specs.Objects.{fixed, is_kept}
use Rattle.wjs_by_content.specs.Plans.{Plan, Gives, Reads, Writes}
use Rattle.wjs_by_content.specs.Tables.{name_in, value_in, slot_in, content_in, arena_in}
use Rattle.wjs_heap.specs.Heap.{Parts, IsHeap, Performs}
use Rattle.wjs_heap.specs.Means.{nothing}
use Rattle.wjs_by_content.specs.Properties as plan
use Rattle.wjs_heap.proofs.Turns.{performs_nothing, performs_then, performs_same}
use Rattle.wjs_props.proofs.ByContent.{fixed_in, flags_same}

is_some_in : (t : Table) (r : Option NumberedValue) → is_some (option_map (value_in t) r) ≡ is_some r
is_some_in t None = refl
is_some_in t (Some v) = refl

is_none_in : (t : Table) (r : Option NumberedValue) → is_none (option_map (value_in t) r) ≡ is_none r
is_none_in t None = refl
is_none_in t (Some v) = refl

-- the same reads, and whether something was found
pub has_performs : (w : WorldId) (p : Table → Plan (Option Value)) (c : Content) (b : Bool) (old new : Parts) → is_some (content_of c) ≡ b → Performs w p (λ t. content_in t c) old new → Performs w (λ t. plan.has_of (p t)) (λ t. b) old new
has_performs w p c b old new e f =
    performs_then w p (λ t found. Gives (is_some found)) (λ t. content_in t c) (λ t. b) old new new f
    (performs_same w (λ t. Gives b) _ (λ t. b) (λ t. b) new new (λ t g. ap (λ (x : Bool). Gives x) (sym (is_some_in t (content_of c) ∙ e))) (λ t g. refl) (performs_nothing w (λ t. b) new f.heap))

module _ (w : WorldId) (o : ObjId) (n : Name) (old : Parts) (heap : IsHeap old) (name : IsName old.texts n) where
  fixed_test : (b : Bool) → is_some (numbered.fixed old.arena o n) ≡ b → (t : Table) → Grows old.texts t → is_some (fixed (arena_in t old.arena) o (name_in t n)) ≡ b
  fixed_test b e t g = ap is_some (fixed_in old heap t g o n name) ∙ is_some_in t (numbered.fixed old.arena o n) ∙ e

  kept_test : (b : Bool) → (numbered.flags old.arena o n).kept ≡ b → (t : Table) → Grows old.texts t → is_kept (arena_in t old.arena) o (name_in t n) ≡ b
  kept_test b e t g = ap (λ f. f.kept) (flags_same old heap t g o n name) ∙ e

  unfixed : Table → Bool → Plan Bool
  unfixed t kept = elim kept [
    | true ↦ Reads (slot o (name_in t n)) (λ found. Gives (is_none found))
    | false ↦ Writes (slot o (name_in t n)) None (Gives true)
  ]

  plan_of : Table → Bool → Bool → Plan Bool
  plan_of t is_fixed kept = elim is_fixed [ true ↦ Gives false | false ↦ unfixed t kept ]

  pub delete_fixed : is_some (numbered.fixed old.arena o n) ≡ true → Performs w (λ t. plan.delete (arena_in t old.arena) o (name_in t n)) (λ t. false) old old
  unfolding plan_of unfixed
  delete_fixed e = performs_same w (λ t. Gives false) _ (λ t. false) (λ t. false) old old
      (λ t g. sym (ap (λ b. plan_of t b (is_kept (arena_in t old.arena) o (name_in t n))) (fixed_test true e t g)))
      (λ t g. refl)
      (performs_nothing w (λ t. false) old heap)

  pub delete_kept : (new : Parts) (c : Content) (b : Bool) → is_some (numbered.fixed old.arena o n) ≡ false → (numbered.flags old.arena o n).kept ≡ true → is_none (content_of c) ≡ b
      → Performs w (λ t. Reads (slot_in t (record { object = o; name = n })) Gives) (λ t. content_in t c) old new → Performs w (λ t. plan.delete (arena_in t old.arena) o (name_in t n)) (λ t. b) old new
  unfolding plan_of unfixed
  delete_kept new c b e k is f = performs_same w _ _ (λ t. b) (λ t. b) old new
      (λ t g. let g' = Grows-trans old.texts new.texts t f.texts g in sym (λ i. plan_of t (fixed_test false e t g' i) (kept_test true k t g' i)))
      (λ t g. refl)
      (performs_then w (λ t. Reads (slot_in t (record { object = o; name = n })) Gives) (λ t found. Gives (is_none found)) (λ t. content_in t c) (λ t. b) old new new f
      (performs_same w (λ t. Gives b) _ (λ t. b) (λ t. b) new new (λ t g. ap (λ (x : Bool). Gives x) (sym (is_none_in t (content_of c) ∙ is))) (λ t g. refl) (performs_nothing w (λ t. b) new f.heap)))

  pub delete_other : (new : Parts) → is_some (numbered.fixed old.arena o n) ≡ false → (numbered.flags old.arena o n).kept ≡ false
      → Performs w (λ t. Writes (slot_in t (record { object = o; name = n })) None (Gives nothing)) (λ t. nothing) old new → Performs w (λ t. plan.delete (arena_in t old.arena) o (name_in t n)) (λ t. true) old new
  unfolding plan_of unfixed
  delete_other new e k f = performs_same w _ _ (λ t. true) (λ t. true) old new
      (λ t g. let g' = Grows-trans old.texts new.texts t f.texts g in sym (λ i. plan_of t (fixed_test false e t g' i) (kept_test false k t g' i)))
      (λ t g. refl)
      (performs_then w (λ t. Writes (slot_in t (record { object = o; name = n })) None (Gives nothing)) (λ t u. Gives true) (λ t. nothing) (λ t. true) old new new f (performs_nothing w (λ t. true) new f.heap))
