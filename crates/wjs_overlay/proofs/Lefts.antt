-- What a walk has still to do.
use Rattle.std.proofs.Common.{◌≡◌, ℕ, ◌+◌, ◌*◌, ◌≤◌, Bool, true, false, not, ◌&&◌, Option, None, Some, length, refl, ap, sym, ◌∙◌, arith}
use Rattle.std.specs.Ordering.{is_lt}
use Rattle.std.specs.FinMap as map
use Rattle.std.proofs.lemmas.Bool.{true≢false, false≢true, and_parts, and_from}
use Rattle.wjs_base.specs.declared.ids.ObjId.{ObjId}
use Rattle.wjs_base.specs.declared.ids.WorldId.{WorldId}
use Rattle.wjs_base.specs.declared.values.Slot.{Slot}
use Rattle.wjs_base.specs.Order.{obj_cmp, obj_total, obj_exact}
use Rattle.wjs_base.specs.Same.{object_Decides}
use Rattle.wjs_base.proofs.Booleans.{by_bool, and_false, not_true}
use Rattle.wjs_base.proofs.Orders.{not_self}
use Rattle.wjs_rows.specs.Order.{is_after}
use Rattle.wjs_store.specs.Naming.{plain}
use Rattle.wjs_store.specs.State.{State, KeySet, same_object}
use Rattle.wjs_overlay.specs.Check.{object_before}
use Rattle.wjs_layers.specs.Cursor.{comes_on, count_passing}
use Rattle.wjs_layers.specs.Work.{kept_from}
use Rattle.wjs_overlay.proofs.Keyed.{Found, key_of, prior_next, self_prior, fewer}
use Rattle.wjs_layers.proofs.Works.{kept_two, times_le, count_most}

-- the slots of listed objects that are still to come
abbrev pub comes_closed : KeySet obj_cmp → Option ObjId → Slot → Bool
comes_closed closed next s = map.contains_key closed s.object && not (object_before s.object next)

-- the listed objects that are still to come
abbrev pub objects_left : KeySet obj_cmp → Option ObjId → ℕ
objects_left closed next = count_passing (λ o. not (object_before o next)) (map.keys closed)

-- before the walk
pub slots_most : (closed : KeySet obj_cmp) (next : Option ObjId) (F : State plain) (w : WorldId) → kept_from (comes_closed closed next) F w ≤ kept_from (λ (s : Slot). map.contains_key closed s.object) F w
slots_most closed next F w =
    let a = kept_two (comes_closed closed next) (λ _. false) (λ (s : Slot). map.contains_key closed s.object)
    (λ s e. (and_parts (map.contains_key closed s.object) (not (object_before s.object next)) e).0)
    (λ s e. absurd (false≢true e))
    (λ s e. refl)
    F w in
    omega (arith, a)

pub objects_most : (closed : KeySet obj_cmp) (next : Option ObjId) → objects_left closed next ≤ length (map.keys closed)
objects_most closed next = count_most (λ o. not (object_before o next)) (map.keys closed)

module _ (closed : KeySet obj_cmp) (o : ObjId) (there : map.contains_key closed o ≡ true) (d : Option (ObjId × Unit {0})) (f : Found closed (is_after obj_cmp o) d) where
  -- an object less, and its slots
  pub objects_less : objects_left closed (key_of d) + 1 ≤ objects_left closed (Some o)
  objects_less = fewer obj_total obj_exact closed o d f there

  on_is : (s : Slot) → comes_on o None s ≡ true → s.object ≡ o
  on_is s e = (object_Decides s.object o).0 (and_parts (same_object s.object o) true e).0

  slots_less : (F : State plain) (w : WorldId) → kept_from (comes_on o None) F w + kept_from (comes_closed closed (key_of d)) F w ≤ kept_from (comes_closed closed (Some o)) F w
  slots_less F w = kept_two (comes_on o None) (comes_closed closed (key_of d)) (comes_closed closed (Some o))
      (λ s e. and_from (map.contains_key closed s.object) (not (object_before s.object (Some o)))
      (ap (map.contains_key closed) (on_is s e) ∙ there)
      (ap (λ v. not (is_lt (obj_cmp v o))) (on_is s e) ∙ ap not (not_self obj_total o)))
      (λ s e.
      let p = and_parts (map.contains_key closed s.object) (not (object_before s.object (key_of d))) e in
      and_from (map.contains_key closed s.object) (not (object_before s.object (Some o))) p.0
      (by_bool (object_before s.object (Some o))
      (λ l. absurd (true≢false (sym (prior_next obj_total obj_exact closed o s.object d f l) ∙ not_true (object_before s.object (key_of d)) p.1)))
      (λ l. ap not l)))
      (λ s e. ap (λ b. map.contains_key closed s.object && not b) (ap (λ v. object_before v (key_of d)) (on_is s e) ∙ self_prior obj_total obj_exact closed o d f) ∙ and_false (map.contains_key closed s.object))
      F w

  -- the work of one object
  pub closed_less : (F : State plain) (w : WorldId) (j k : ℕ) → (objects_left closed (key_of d) * j + j) + (kept_from (comes_on o None) F w * k + kept_from (comes_closed closed (key_of d)) F w * k) ≤ objects_left closed (Some o) * j + kept_from (comes_closed closed (Some o)) F w * k
  closed_less F w j k =
      let a = times_le j _ _ objects_less in
      let b = times_le k _ _ (slots_less F w) in
      omega (arith, a, b)
