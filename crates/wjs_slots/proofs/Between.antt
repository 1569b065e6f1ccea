-- The rows of objects from one to another.
use Rattle.std.proofs.Common.{◌≡◌, true, false, List, [], ◌∷◌, length, None, Some, is_some, refl, ap, sym, ◌∙◌, subst}
use Rattle.std.specs.declared.cmp.Ordering.{Ordering}
use Rattle.std.specs.declared.cmp.Ordering.TheVariants.{Less, Equal, Greater}
use Rattle.std.specs.Ordering.{is_lt, is_le, ordering_then, ordering_reverse}
use Rattle.std.specs.FinMap.{find}
use Rattle.std.specs.Map.{lookup_entry}
use Rattle.std.proofs.lemmas.Bool.{false≢true, true≢false}
use Rattle.wjs_base.specs.declared.ids.ObjId.{ObjId}
use Rattle.wjs_base.specs.declared.values.Name.TheVariants.{Index}
use Rattle.wjs_base.specs.declared.values.Slot.{Slot}
use Rattle.wjs_base.specs.Order.{name_cmp, obj_cmp, slot_cmp, obj_total, slot_total, slot_exact}
use Rattle.wjs_base.proofs.Options.{by_option}
use Rattle.wjs_rows.specs.Order.{is_from}
use Rattle.wjs_slots.specs.Least.{IsLeast}
use Rattle.wjs_names.specs.Lists.{IsInOrder}
use Rattle.wjs_names.proofs.Basics.{by_cmp}
use Rattle.wjs_names.proofs.Least.{first_on}
use Rattle.wjs_names.proofs.Walks.{first_name}

-- where there are no rows
pub find_nothing : {V : Type 0} (q : Slot) (far : List (Slot × V)) → length far ≡ 0 → find slot_cmp q far ≡ None
find_nothing q [] e = refl
find_nothing q (x ∷ far) e = cc

abbrev start_of : ObjId → Slot
start_of object = record { object = object; name = Index 0 }

le_then : (a b : Ordering) → is_le a ≡ true → is_le b ≡ true → is_le (ordering_then a b) ≡ true
le_then Less b h k = refl
le_then Equal b h k = k
le_then Greater b h k = absurd (false≢true h)

lt_then : (a b : Ordering) → is_lt a ≡ true → is_lt (ordering_then a b) ≡ true
lt_then Less b h = refl
lt_then Equal b h = absurd (false≢true h)
lt_then Greater b h = absurd (false≢true h)

starts : (first : ObjId) (q : Slot) → is_le (obj_cmp first q.object) ≡ true → is_from slot_cmp (start_of first) q ≡ true
starts first q h = le_then (obj_cmp first q.object) (name_cmp (Index 0) q.name) h (first_name q.name)

-- an object that isn't past the last is before one that is
before : (q last past : ObjId) → is_le (obj_cmp q last) ≡ true → is_le (obj_cmp past last) ≡ false → is_lt (obj_cmp q past) ≡ true
before q last past h k = by_cmp (obj_cmp past last)
    (λ e. absurd (true≢false (sym (ap is_le e) ∙ k)))
    (λ e. absurd (true≢false (sym (ap is_le e) ∙ k)))
    (λ e. let l : obj_cmp last past ≡ Less = obj_total.antisymm last past ∙ ap ordering_reverse e in
    by_cmp (obj_cmp q last)
    (λ d. ap is_lt (obj_total.trans q last past d l))
    (λ d. ap is_lt (obj_total.congr q last past d ∙ l))
    (λ d. absurd (false≢true (sym (ap is_le d) ∙ h))))

module _ {V : Type 0} (first : ObjId) (far : List (Slot × V)) (ordered : IsInOrder slot_cmp far) where
  pub none_from : None ≡ lookup_entry (is_from slot_cmp (start_of first)) far → (q : Slot) → is_le (obj_cmp first q.object) ≡ true → find slot_cmp q far ≡ None
  none_from e q h =
      let l = subst (IsLeast slot_cmp (λ k. find slot_cmp k far) (is_from slot_cmp (start_of first))) (sym e) (first_on slot_total slot_exact (is_from slot_cmp (start_of first)) far ordered) in
      l q (starts first q h)

pub none_until : {V : Type 0} (first last : ObjId) (far : List (Slot × V)) (d : Slot × V) → IsInOrder slot_cmp far → Some d ≡ lookup_entry (is_from slot_cmp (start_of first)) far → is_le (obj_cmp d.0.object last) ≡ false → (q : Slot) → is_le (obj_cmp first q.object) ≡ true → is_le (obj_cmp q.object last) ≡ true → find slot_cmp q far ≡ None
none_until first last far d ordered e past q h k =
    let l = subst (IsLeast slot_cmp (λ k. find slot_cmp k far) (is_from slot_cmp (start_of first))) (sym e) (first_on slot_total slot_exact (is_from slot_cmp (start_of first)) far ordered) in
    by_option (find slot_cmp q far) (λ n. n) (λ v s. absurd (true≢false (sym (lt_then (obj_cmp q.object d.0.object) (name_cmp q.name d.0.name) (before q.object last d.0.object k past)) ∙ l.2 q (starts first q h) (ap is_some s))))
