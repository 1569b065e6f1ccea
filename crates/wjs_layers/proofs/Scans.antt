-- The slots of an object in a world, one after another.
use Rattle.std.proofs.Common.{◌≡◌, ◌+◌, ◌≤◌, Bool, true, false, cond, not, ◌&&◌, ◌||◌, List, [], Option, None, Some, is_some, ◌⊎◌, inl, inr, ⊎_elim, slice_get, refl, ap, sym, ◌∙◌, subst, arith}
use Rattle.std.specs.declared.cmp.Ordering.{Ordering}
use Rattle.std.specs.declared.cmp.Ordering.TheVariants.{Less, Equal, Greater}
use Rattle.std.specs.Ordering.{is_lt, eq_by_cmp, is_eq, ordering_reverse}
use Rattle.std.specs.Option.{option_map_or, option_and_then}
use Rattle.std.specs.FinMap as map
use Rattle.std.proofs.lemmas.Bool.{true≢false, false≢true, and_parts}
use Rattle.wjs_base.specs.declared.ids.ObjId.{ObjId}
use Rattle.wjs_base.specs.declared.ids.WorldId.{WorldId}
use Rattle.wjs_base.specs.declared.values.Slot.{Slot}
use Rattle.wjs_base.specs.declared.values.Value.{Value}
use Rattle.wjs_base.specs.Order.{slot_cmp, slot_total, slot_exact}
use Rattle.wjs_base.specs.Same.{object_Decides}
use Rattle.wjs_base.proofs.Booleans.{by_bool, and_false}
use Rattle.wjs_base.proofs.Options.{by_option, no_none}
use Rattle.wjs_base.proofs.Orders.{not_self, lt_trans}
use Rattle.wjs_store.specs.Naming.{plain}
use Rattle.wjs_store.specs.State.{World, State, KeySet, find_world, content_at, same_object, slots_in, slots_at}
use Rattle.wjs_store.proofs.Ascending.{same_listed}
use Rattle.wjs_store.proofs.Marks.{key_is, contains_insert}
use Rattle.wjs_layers.specs.declared.layer.Spot.{Spot}
use Rattle.wjs_layers.specs.declared.layer.Layer.{Layer}
use Rattle.wjs_layers.specs.Sparse.{full_of, IsSparse, IsAt}
use Rattle.wjs_layers.specs.Cursor.{to_come, comes_on, is_before, lesser_of, with_present, IsNextRow, IsNextSlot}
use Rattle.wjs_layers.specs.Work.{kept_from}
use Rattle.wjs_layers.proofs.Looks.{world_at, keeps_at, parent_is, content_closed, content_first, content_above}
use Rattle.wjs_layers.proofs.Works.{kept_two, kept_here, kept_up, row_counted}
use Rattle.wjs_layers.proofs.SettleLaws.{filter_id}

-- ---- the lesser of two

pub lesser_from : (a b : Option Slot) (s : Slot) → lesser_of a b ≡ Some s → (a ≡ Some s) ⊎ (b ≡ Some s)
lesser_from None b s h = inr h
lesser_from (Some a) None s h = inl h
lesser_from (Some a) (Some b) s h = by_bool (is_lt (slot_cmp a b))
    (λ e. inl (sym (ap (λ c. cond c (Some a) (Some b)) e) ∙ h))
    (λ e. inr (sym (ap (λ c. cond c (Some a) (Some b)) e) ∙ h))

not_lt : (a b s : Slot) (c : Ordering) → slot_cmp a b ≡ c → is_lt c ≡ false → is_lt (slot_cmp s b) ≡ true → is_lt (slot_cmp s a) ≡ true
not_lt a b s Less e n h = absurd (true≢false n)
not_lt a b s Equal e n h = ap (λ k. is_lt (slot_cmp s k)) (slot_exact a b e) ∙ h
not_lt a b s Greater e n h = lt_trans slot_total s b a h (ap is_lt (slot_total.antisymm b a ∙ ap ordering_reverse e))

pub before_both : (a b : Option Slot) (s : Slot) → is_before s (lesser_of a b) ≡ true → (is_before s a ≡ true) × (is_before s b ≡ true)
before_both None b s h = (refl, h)
before_both (Some a) None s h = (h, refl)
before_both (Some a) (Some b) s h = by_bool (is_lt (slot_cmp a b))
    (λ e. let g : is_lt (slot_cmp s a) ≡ true = sym (ap (λ c. is_before s (cond c (Some a) (Some b))) e) ∙ h in (g, lt_trans slot_total s a b g e))
    (λ e. let g : is_lt (slot_cmp s b) ≡ true = sym (ap (λ c. is_before s (cond c (Some a) (Some b))) e) ∙ h in (not_lt a b s (slot_cmp a b) refl e g, g))

-- ---- up the worlds

-- the least slot so far, on the way from w up to a world
pub record Scan (layers : List Layer) (w : WorldId) (o : ObjId) (passed least : Option Slot) (at : WorldId) : Type 0 where
  pub on : (s : Slot) → least ≡ Some s → s.object ≡ o
  pub later : (s : Slot) → least ≡ Some s → to_come passed s ≡ true
  pub kept : (s : Slot) → least ≡ Some s → 1 ≤ kept_from (eq_by_cmp slot_cmp s) (full_of layers) w
  pub among : (p : Slot → Bool) → kept_from p (full_of layers) at ≤ kept_from p (full_of layers) w
  pub flow : (s : Slot) → s.object ≡ o → to_come passed s ≡ true → is_before s least ≡ true → is_some (content_at (full_of layers) w s) ≡ true → is_some (content_at (full_of layers) at s) ≡ true

pub scan_start : (layers : List Layer) (w : WorldId) (o : ObjId) (passed : Option Slot) → Scan layers w o passed None w
scan_start layers w o passed = record { on = λ s h. no_none s h; later = λ s h. no_none s h; kept = λ s h. no_none s h; among = λ p. omega arith; flow = λ s e t b h. h }

module _ (layers : List Layer) (h : IsSparse layers) (w : WorldId) (o : ObjId) (passed least : Option Slot) (at : Spot) (here : IsAt layers at) (r : Layer) (s : slice_get layers at.place ≡ Some r) (n : Option Slot) (x : IsNextRow r.rows o passed n) (k : Scan layers w o passed least at.world) where
  on2 : (q : Slot) → lesser_of least n ≡ Some q → q.object ≡ o
  on2 q e = ⊎_elim (k.on q) (x.on q) (lesser_from least n q e)

  later2 : (q : Slot) → lesser_of least n ≡ Some q → to_come passed q ≡ true
  later2 q e = ⊎_elim (k.later q) (x.later q) (lesser_from least n q e)

  kept_here_too : (q : Slot) → n ≡ Some q → 1 ≤ kept_from (eq_by_cmp slot_cmp q) (full_of layers) w
  kept_here_too q z =
      let v = world_at layers h at here r s in
      let a = row_counted r v.0 (keeps_at layers h at here r s) q (x.there q z) in
      let b = kept_here (eq_by_cmp slot_cmp q) (full_of layers) at.world v.0 v.1 in
      let d = k.among (eq_by_cmp slot_cmp q) in
      omega (arith, a, b, d)

  kept2 : (q : Slot) → lesser_of least n ≡ Some q → 1 ≤ kept_from (eq_by_cmp slot_cmp q) (full_of layers) w
  kept2 q e = ⊎_elim (k.kept q) (kept_here_too q) (lesser_from least n q e)

  row_gone : (q : Slot) → q.object ≡ o → to_come passed q ≡ true → is_before q (lesser_of least n) ≡ true → map.get r.rows q ≡ None
  row_gone q e t b = x.least q e t (before_both least n q b).1

  here_flow : (q : Slot) → q.object ≡ o → to_come passed q ≡ true → is_before q (lesser_of least n) ≡ true → is_some (content_at (full_of layers) w q) ≡ true → is_some (content_at (full_of layers) at.world q) ≡ true
  here_flow q e t b z = k.flow q e t (before_both least n q b).0 z

  pub scan_up : (a : Spot) → r.above ≡ Some a → Scan layers w o passed (lesser_of least n) a.world
  scan_up a u = record {
    on = on2;
    later = later2;
    kept = kept2;
    among = λ p.
        let v = world_at layers h at here r s in
        let b = kept_up p (full_of layers) at.world a.world v.0 h.reached v.1 (parent_is layers h at here r s a u) in
        let d = k.among p in
        omega (arith, b, d);
    flow = λ q e t b z.
        let g = row_gone q e t b in
        by_bool (map.contains_key r.closed q.object)
        (λ c. absurd (false≢true (sym (ap is_some (content_closed layers h at here r s q g c)) ∙ here_flow q e t b z)))
        (λ c. sym (ap is_some (content_above layers h at here r s q a g c u)) ∙ here_flow q e t b z);
  }

  pub scan_end : r.above ≡ None → IsNextSlot (full_of layers) w o passed (lesser_of least n)
  scan_end u = record {
    on = on2;
    later = later2;
    kept = kept2;
    least = λ q e t b. by_option (content_at (full_of layers) w q) (λ z. z)
        (λ v z. absurd (false≢true (sym (ap is_some (content_first layers h at here r s q (row_gone q e t b) u)) ∙ here_flow q e t b (ap is_some z))));
  }

-- ---- fewer are left

-- what is after a later slot is after an earlier one
pub to_come_on : (passed : Option Slot) (c s : Slot) → to_come passed c ≡ true → to_come (Some c) s ≡ true → to_come passed s ≡ true
to_come_on None c s h k = refl
to_come_on (Some p) c s h k = lt_trans slot_total p c s h k

pub left_lt : (F : State plain) (w : WorldId) (o : ObjId) (passed : Option Slot) (c : Slot) → c.object ≡ o → to_come passed c ≡ true → 1 ≤ kept_from (eq_by_cmp slot_cmp c) F w → kept_from (comes_on o (Some c)) F w + 1 ≤ kept_from (comes_on o passed) F w
left_lt F w o passed c on h k =
    let here : (same_object c.object o && to_come passed c) ≡ true = ap (λ b. b && to_come passed c) ((object_Decides c.object o).1 on) ∙ h in
    let two = kept_two (eq_by_cmp slot_cmp c) (comes_on o (Some c)) (comes_on o passed)
    (λ s e. ap (comes_on o passed) (sym (key_is slot_exact c s e)) ∙ here)
    (λ s e. let p = and_parts (same_object s.object o) (to_come (Some c) s) e in ap (λ b. b && to_come passed s) p.0 ∙ to_come_on passed c s h p.1)
    (λ s e. ap (comes_on o (Some c)) (sym (key_is slot_exact c s e)) ∙ ap (λ b. same_object c.object o && b) (not_self slot_total c) ∙ and_false (same_object c.object o))
    F w in
    omega (arith, two, k)

-- ---- the present slots

-- what was found of an object, up to the slots to come
abbrev pub Found : KeySet slot_cmp → State plain → WorldId → ObjId → Option Slot → Type 0
Found found F w o passed = (s : Slot) → map.contains_key found s ≡ (same_object s.object o && (not (to_come passed s) && is_some (content_at F w s)))

pub found_none : (F : State plain) (w : WorldId) (o : ObjId) → Found map.empty F w o None
found_none F w o s = ap is_some (map.get-empty slot_cmp s) ∙ sym (and_false (same_object s.object o))

module _ (F : State plain) (w : WorldId) (o : ObjId) (passed : Option Slot) (c : Slot) (n : IsNextSlot F w o passed (Some c)) (found : KeySet slot_cmp) (f : Found found F w o passed) where
  not_yet : map.contains_key found c ≡ false
  not_yet = f c ∙ ap (λ b. same_object c.object o && (not b && is_some (content_at F w c))) (n.later c refl) ∙ and_false (same_object c.object o)

  -- another slot of the object
  other : (s : Slot) → eq_by_cmp slot_cmp s c ≡ false → s.object ≡ o → (not (to_come passed s) && is_some (content_at F w s)) ≡ (not (to_come (Some c) s) && is_some (content_at F w s))
  other s e on = by_bool (is_lt (slot_cmp c s))
      (λ l.
      ap (λ b. not b && is_some (content_at F w s)) (to_come_on passed c s (n.later c refl) l) ∙ ap (λ b. not b && is_some (content_at F w s)) (sym l))
      (λ l. by_bool (to_come passed s)
      (λ t.
      let z : content_at F w s ≡ None = n.least s on t (lower s e l) in
      ap (λ d. not (to_come passed s) && is_some d) z ∙ and_false (not (to_come passed s)) ∙ sym (and_false (not (to_come (Some c) s))) ∙ ap (λ d. not (to_come (Some c) s) && is_some d) (sym z))
      (λ t. ap (λ b. not b && is_some (content_at F w s)) (t ∙ sym l)))
    where
      lower : (s : Slot) → eq_by_cmp slot_cmp s c ≡ false → is_lt (slot_cmp c s) ≡ false → is_lt (slot_cmp s c) ≡ true
      lower s e l = by_cases (slot_cmp s c) refl
        where
          by_cases : (r : Ordering) → slot_cmp s c ≡ r → is_lt (slot_cmp s c) ≡ true
          by_cases Less q = ap is_lt q
          by_cases Equal q = absurd (true≢false (sym (ap is_eq q) ∙ e))
          by_cases Greater q = absurd (true≢false (sym (ap is_lt (slot_total.antisymm c s ∙ ap ordering_reverse q)) ∙ l))

  same_else : (s : Slot) → eq_by_cmp slot_cmp s c ≡ false → map.contains_key found s ≡ (same_object s.object o && (not (to_come (Some c) s) && is_some (content_at F w s)))
  same_else s e = f s ∙ by_bool (same_object s.object o)
      (λ y. ap (λ b. b && (not (to_come passed s) && is_some (content_at F w s))) y ∙ other s e ((object_Decides s.object o).0 y) ∙ ap (λ b. b && (not (to_come (Some c) s) && is_some (content_at F w s))) (sym y))
      (λ y. ap (λ b. b && (not (to_come passed s) && is_some (content_at F w s))) y ∙ ap (λ b. b && (not (to_come (Some c) s) && is_some (content_at F w s))) (sym y))

  self_is : (b : Bool) → is_some (content_at F w c) ≡ b → (same_object c.object o && (not (to_come (Some c) c) && is_some (content_at F w c))) ≡ b
  self_is b e = ap (λ z. z && (not (to_come (Some c) c) && is_some (content_at F w c))) ((object_Decides c.object o).1 (n.on c refl)) ∙ ap (λ z. not z && is_some (content_at F w c)) (not_self slot_total c) ∙ e

  found_present : (v : Value) → content_at F w c ≡ Some v → Found (map.insert found c tt) F w o (Some c)
  found_present v e s = contains_insert slot_total found c tt s ∙ by_bool (eq_by_cmp slot_cmp s c)
      (λ q. ap (λ b. b || map.contains_key found s) q ∙ sym (ap (λ k. same_object k.object o && (not (to_come (Some c) k) && is_some (content_at F w k))) (key_is slot_exact s c q) ∙ self_is true (ap is_some e)))
      (λ q. ap (λ b. b || map.contains_key found s) q ∙ same_else s q)

  found_absent : content_at F w c ≡ None → Found found F w o (Some c)
  found_absent e s = by_bool (eq_by_cmp slot_cmp s c)
      (λ q. let is = key_is slot_exact s c q in ap (map.contains_key found) is ∙ not_yet ∙ sym (ap (λ k. same_object k.object o && (not (to_come (Some c) k) && is_some (content_at F w k))) is ∙ self_is false (ap is_some e)))
      (λ q. same_else s q)

  pub found_step : Found (with_present found (content_at F w c) c) F w o (Some c)
  found_step = by_option (content_at F w c)
      (λ e. subst (λ d. Found (with_present found d c) F w o (Some c)) (sym e) (found_absent e))
      (λ v e. subst (λ d. Found (with_present found d c) F w o (Some c)) (sym e) (found_present v e))

-- nothing more is to come
pub found_all : (F : State plain) (w : WorldId) (o : ObjId) (passed : Option Slot) (found : KeySet slot_cmp) → IsNextSlot F w o passed None → Found found F w o passed → (s : Slot) → map.contains_key found s ≡ (same_object s.object o && is_some (content_at F w s))
found_all F w o passed found n f s = f s ∙ by_bool (same_object s.object o)
    (λ y. ap (λ b. b && (not (to_come passed s) && is_some (content_at F w s))) y
    ∙ by_bool (to_come passed s)
    (λ t. let z : content_at F w s ≡ None = n.least s ((object_Decides s.object o).0 y) t refl in
    ap (λ d. not (to_come passed s) && is_some d) z ∙ and_false (not (to_come passed s)) ∙ sym (ap is_some z))
    (λ t. ap (λ b. not b && is_some (content_at F w s)) t)
    ∙ ap (λ b. b && is_some (content_at F w s)) (sym y))
    (λ y. ap (λ b. b && (not (to_come passed s) && is_some (content_at F w s))) y ∙ ap (λ b. b && is_some (content_at F w s)) (sym y))

and_left : (a b : Bool) → (a && b) ≡ true → a ≡ true
and_left true b h = refl
and_left false b h = absurd (false≢true h)

-- what was found are the object's present slots
pub found_slots : (F : State plain) (w : WorldId) (o : ObjId) (x : World plain) (found : KeySet slot_cmp) → find_world F w ≡ Some x → ((s : Slot) → map.contains_key found s ≡ (same_object s.object o && is_some (content_at F w s))) → map.keys found ≡ slots_at F w o
found_slots F w o x found e f =
    let p : Slot → Bool = λ s. same_object s.object o in
    sym (filter_id p (map.keys found) (λ k m. and_left (p k) (is_some (content_at F w k)) (sym (f k) ∙ map.contains_key-keys found k ∙ m)))
    ∙ same_listed slot_total slot_exact p found x.copy (λ t y. f t ∙ ap (λ b. b && is_some (content_at F w t)) y ∙ ap (λ d. is_some (option_and_then (λ (x : World plain). map.get x.copy t) d)) e)
    ∙ sym (ap (λ d. option_map_or (slots_in o) d []) e)
