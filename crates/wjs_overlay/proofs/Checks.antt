-- The least slot that fails.
use Rattle.std.proofs.Common.{◌≡◌, Bool, true, false, cond, ◌&&◌, ◌||◌, List, [], ◌∷◌, ◌++◌, Option, None, Some, ◌⊎◌, inl, inr, ⊎_elim, filter, fold, refl, ap, sym, ◌∙◌}
use Rattle.std.specs.declared.cmp.Ordering.{Ordering}
use Rattle.std.specs.declared.cmp.Ordering.TheVariants.{Less, Equal, Greater}
use Rattle.std.specs.Ordering.{is_lt, eq_by_cmp, is_eq, ordering_reverse}
use Rattle.std.specs.Option.{option_map}
use Rattle.std.specs.Cmp.{tied_itself}
use Rattle.std.specs.FinMap as map
use Rattle.std.specs.List.{list_any}
use Rattle.std.proofs.lemmas.Bool.{true≢false, false≢true, and_parts, or_left, or_right}
use Rattle.std.proofs.lemmas.Option.{same_Some}
use Rattle.std.proofs.lemmas.List.Folds.{list_any-append}
use Rattle.wjs_base.specs.declared.values.Slot.{Slot}
use Rattle.wjs_base.specs.Order.{slot_cmp, slot_total, slot_exact}
use Rattle.wjs_base.proofs.Booleans.{by_bool}
use Rattle.wjs_base.proofs.Options.{by_option, no_none, some_tested}
use Rattle.wjs_base.proofs.Orders.{not_self, lt_trans}
use Rattle.wjs_store.specs.Naming.{plain}
use Rattle.wjs_store.specs.State.{World, fails, fault_in, lesser}
use Rattle.wjs_store.proofs.Marks.{key_is, or_case, any_filter}
use Rattle.wjs_store.proofs.Commits.{no_fault}
use Rattle.wjs_layers.specs.declared.maps.Row.{Row}
use Rattle.wjs_overlay.specs.Check.{IsLeast, differs, is_unseen}
use Rattle.wjs_layers.specs.Cursor.{is_before, lesser_of}
use Rattle.wjs_layers.proofs.Scans.{lesser_from, before_both}

-- the slot of an entry
abbrev pub slot_of : Option (Slot × Row) → Option Slot
slot_of d = option_map (λ e. e.0) d

-- ---- one of two tests

least_either : (p q : Slot → Bool) (a b : Option Slot) → IsLeast p a → IsLeast q b → IsLeast (λ s. p s || q s) (lesser_of a b)
least_either p q a b m n = record {
  passes = λ s h. ⊎_elim (λ (e : a ≡ Some s). ap (λ c. c || q s) (m.passes s e)) (λ (e : b ≡ Some s). or_right (p s) (q s) (n.passes s e)) (lesser_from a b s h);
  before = λ s h. let v = before_both a b s h in ap (λ c. c || q s) (m.before s v.0) ∙ n.before s v.1;
}

-- ---- there is one least

not_before : (s m : Slot) → is_lt (slot_cmp s m) ≡ false → is_lt (slot_cmp m s) ≡ false → s ≡ m
not_before s m h k = by_order (slot_cmp s m) refl
  where
    by_order : (c : Ordering) → slot_cmp s m ≡ c → s ≡ m
    by_order Less e = absurd (true≢false (sym (ap is_lt e) ∙ h))
    by_order Equal e = slot_exact s m e
    by_order Greater e = absurd (true≢false (sym (ap is_lt (slot_total.antisymm m s ∙ ap ordering_reverse e)) ∙ k))

false_lt : (p : Slot → Bool) (s m : Slot) → p s ≡ true → (is_lt (slot_cmp s m) ≡ true → p s ≡ false) → is_lt (slot_cmp s m) ≡ false
false_lt p s m h f = by_bool (is_lt (slot_cmp s m)) (λ e. absurd (true≢false (sym h ∙ f e))) (λ e. e)

least_one : (p : Slot → Bool) (a b : Option Slot) → IsLeast p a → IsLeast p b → a ≡ b
least_one p None None m n = refl
least_one p None (Some b) m n = absurd (true≢false (sym (n.passes b refl) ∙ m.before b refl))
least_one p (Some a) None m n = absurd (true≢false (sym (m.passes a refl) ∙ n.before a refl))
least_one p (Some a) (Some b) m n = ap (λ s. Some s) (not_before a b (false_lt p a b (m.passes a refl) (n.before a)) (false_lt p b a (n.passes b refl) (m.before b)))

-- ---- the machine's fault is the least that fails

lesser_at : (o : Option Slot) (s : Slot) (m : Slot) → lesser slot_cmp o s ≡ Some m → (o ≡ Some m) ⊎ (s ≡ m)
lesser_at None s m h = inr (same_Some s m h)
lesser_at (Some t) s m h = by_bool (is_lt (slot_cmp s t))
    (λ e. inr (same_Some s m (sym (ap (λ c. cond c (Some s) (Some t)) e) ∙ h)))
    (λ e. inl (sym (ap (λ c. cond c (Some s) (Some t)) e) ∙ h))

-- the least of a list is in it, or was there before
least_in : (ss : List Slot) (o : Option Slot) (m : Slot) → fold (lesser slot_cmp) o ss ≡ Some m → (o ≡ Some m) ⊎ (list_any (eq_by_cmp slot_cmp m) ss ≡ true)
least_in [] o m h = inl h
least_in (s ∷ ss) o m h = ⊎_elim (λ (e : lesser slot_cmp o s ≡ Some m). ⊎_elim (λ (f : o ≡ Some m). inl f) (λ (f : s ≡ m). inr (ap (λ c. c || list_any (eq_by_cmp slot_cmp m) ss) (ap (λ k. is_eq (slot_cmp m k)) f ∙ self m))) (lesser_at o s m e)) (λ (e : list_any (eq_by_cmp slot_cmp m) ss ≡ true). inr (or_right (eq_by_cmp slot_cmp m s) (list_any (eq_by_cmp slot_cmp m) ss) e)) (least_in ss (lesser slot_cmp o s) m h)
  where
    self : (m : Slot) → is_eq (slot_cmp m m) ≡ true
    self m = ap is_eq (tied_itself slot_total m)

-- nothing of the list is before the least
keeps_least : (ss : List Slot) (o : Option Slot) (t m : Slot) → o ≡ Some t → fold (lesser slot_cmp) o ss ≡ Some m → is_lt (slot_cmp t m) ≡ false
keeps_least [] o t m e h = let is : t ≡ m = same_Some t m (sym e ∙ h) in ap (λ k. is_lt (slot_cmp t k)) (sym is) ∙ not_self slot_total t
keeps_least (s ∷ ss) o t m e h =
    let h' : fold (lesser slot_cmp) (cond (is_lt (slot_cmp s t)) (Some s) (Some t)) ss ≡ Some m = ap (λ p. fold (lesser slot_cmp) (lesser slot_cmp p s) ss) (sym e) ∙ h in
    by_bool (is_lt (slot_cmp s t))
    (λ b.
    let k = keeps_least ss (Some s) s m refl (ap (λ c. fold (lesser slot_cmp) (cond c (Some s) (Some t)) ss) (sym b) ∙ h') in
    by_bool (is_lt (slot_cmp t m)) (λ c. absurd (true≢false (sym (lt_trans slot_total s t m b c) ∙ k))) (λ c. c))
    (λ b. keeps_least ss (Some t) t m refl (ap (λ c. fold (lesser slot_cmp) (cond c (Some s) (Some t)) ss) (sym b) ∙ h'))

none_less : (ss : List Slot) (o : Option Slot) (t m : Slot) → list_any (eq_by_cmp slot_cmp t) ss ≡ true → fold (lesser slot_cmp) o ss ≡ Some m → is_lt (slot_cmp t m) ≡ false
none_less [] o t m a h = absurd (false≢true a)
none_less (s ∷ ss) o t m a h = or_case (eq_by_cmp slot_cmp t s) (list_any (eq_by_cmp slot_cmp t) ss) a
    (λ e. ap (λ k. is_lt (slot_cmp k m)) (key_is slot_exact t s e) ∙ first_of o s h)
    (λ e. none_less ss (lesser slot_cmp o s) t m e h)
  where
    first_of : (o : Option Slot) (s : Slot) → fold (lesser slot_cmp) (lesser slot_cmp o s) ss ≡ Some m → is_lt (slot_cmp s m) ≡ false
    first_of None s h = keeps_least ss (Some s) s m refl h
    first_of (Some u) s h = by_bool (is_lt (slot_cmp s u))
        (λ b. keeps_least ss (Some s) s m refl (ap (λ c. fold (lesser slot_cmp) (cond c (Some s) (Some u)) ss) (sym b) ∙ h))
        (λ b.
        let k = keeps_least ss (Some u) u m refl (ap (λ c. fold (lesser slot_cmp) (cond c (Some s) (Some u)) ss) (sym b) ∙ h) in
        by_bool (is_lt (slot_cmp s m)) (λ c. absurd (true≢false (sym (smaller s u m b c) ∙ k))) (λ c. c))
      where
        smaller : (s u m : Slot) → is_lt (slot_cmp s u) ≡ false → is_lt (slot_cmp s m) ≡ true → is_lt (slot_cmp u m) ≡ true
        smaller s u m b c = by_order (slot_cmp u s) refl
          where
            by_order : (r : Ordering) → slot_cmp u s ≡ r → is_lt (slot_cmp u m) ≡ true
            by_order Less e = lt_trans slot_total u s m (ap is_lt e) c
            by_order Equal e = ap (λ k. is_lt (slot_cmp k m)) (slot_exact u s e) ∙ c
            by_order Greater e = absurd (true≢false (sym (ap is_lt (slot_total.antisymm s u ∙ ap ordering_reverse e)) ∙ b))

pub any_pass : (p : Slot → Bool) (xs : List Slot) (m : Slot) → list_any (eq_by_cmp slot_cmp m) (filter p xs) ≡ true → p m ≡ true
any_pass p [] m h = absurd (false≢true h)
any_pass p (x ∷ xs) m h = by_bool (p x)
    (λ b. or_case (eq_by_cmp slot_cmp m x) (list_any (eq_by_cmp slot_cmp m) (filter p xs)) (ap (λ c. list_any (eq_by_cmp slot_cmp m) (cond c (x ∷ filter p xs) (filter p xs))) (sym b) ∙ h)
    (λ e. ap p (key_is slot_exact m x e) ∙ b)
    (λ e. any_pass p xs m e))
    (λ b. any_pass p xs m (ap (λ c. list_any (eq_by_cmp slot_cmp m) (cond c (x ∷ filter p xs) (filter p xs))) (sym b) ∙ h))

module _ (x y : World plain) where
  suspect : (t : Slot) → fails x y t ≡ true → list_any (eq_by_cmp slot_cmp t) (map.keys x.first ++ map.keys y.copy) ≡ true
  suspect t h =
      list_any-append (eq_by_cmp slot_cmp t) (map.keys x.first) (map.keys y.copy)
      ∙ or_case (differs x y t) (map.contains_key x.closed t.object && is_unseen x y t) h
      (λ e. or_left (list_any (eq_by_cmp slot_cmp t) (map.keys x.first)) (list_any (eq_by_cmp slot_cmp t) (map.keys y.copy)) (sym (map.contains_key-keys x.first t) ∙ some_tested _ (map.get x.first t) e))
      (λ e. or_right (list_any (eq_by_cmp slot_cmp t) (map.keys x.first)) (list_any (eq_by_cmp slot_cmp t) (map.keys y.copy)) (sym (map.contains_key-keys y.copy t) ∙ (and_parts (map.contains_key y.copy t) _ (and_parts (map.contains_key x.closed t.object) (is_unseen x y t) e).1).0))

  fault_passes : (m : Slot) → fault_in x y ≡ Some m → fails x y m ≡ true
  fault_passes m h = any_pass (fails x y) (map.keys x.first ++ map.keys y.copy) m
      (⊎_elim (λ (e : None ≡ Some m). no_none m e) (λ (e : list_any (eq_by_cmp slot_cmp m) (filter (fails x y) (map.keys x.first ++ map.keys y.copy)) ≡ true). e) (least_in (filter (fails x y) (map.keys x.first ++ map.keys y.copy)) None m h))

  fault_before : (m t : Slot) → fault_in x y ≡ Some m → is_lt (slot_cmp t m) ≡ true → fails x y t ≡ false
  fault_before m t h l = by_bool (fails x y t)
      (λ e. absurd (true≢false (sym l ∙ none_less (filter (fails x y) (map.keys x.first ++ map.keys y.copy)) None t m (any_filter (eq_by_cmp slot_cmp t) (fails x y) (map.keys x.first ++ map.keys y.copy) (λ k p. ap (fails x y) (sym (key_is slot_exact t k p)) ∙ e) (suspect t e)) h)))
      (λ e. e)

  fault_least : IsLeast (fails x y) (fault_in x y)
  fault_least = record {
    passes = fault_passes;
    before = λ t b. by_option (fault_in x y) (λ e. no_fault x y e t) (λ m e. fault_before m t e (ap (is_before t) (sym e) ∙ b));
  }

  -- the least that fails is the machine's fault
  pub fault_is : (a b : Option Slot) → IsLeast (differs x y) a → IsLeast (λ (s : Slot). map.contains_key x.closed s.object && is_unseen x y s) b → lesser_of a b ≡ fault_in x y
  fault_is a b m n = least_one (fails x y) (lesser_of a b) (fault_in x y) (least_either (differs x y) (λ (s : Slot). map.contains_key x.closed s.object && is_unseen x y s) a b m n) fault_least
