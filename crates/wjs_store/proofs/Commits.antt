-- A commit keeps a reached state.
use Rattle.std.proofs.Common.{◌≡◌, Bool, true, false, cond, not, ◌&&◌, ◌||◌, List, [], ◌∷◌, ◌++◌, refl, ap, sym, ◌∙◌, subst, fold, map as each, Option, None, Some, is_some, unwrap_or}
use Rattle.std.specs.Bool.{Decides}
use Rattle.std.specs.Option.{option_map, option_map_or, option_and_then, is_none}
use Rattle.std.specs.declared.cmp.Ordering.{Ordering}
use Rattle.std.specs.Ordering.{eq_by_cmp, is_lt, is_eq}
use Rattle.std.specs.Cmp.{IsTotalOrder, tied_itself}
use Rattle.std.specs.List.{list_any}
use Rattle.std.specs.FinMap as map
use Rattle.std.specs.FinMap.{FinMap}
use Rattle.std.proofs.lemmas.Bool.{and_parts, true≢false, false≢true, not-false, or_right, or_left, or_parts}
use Rattle.std.proofs.lemmas.Option.{same_Some}
use Rattle.std.proofs.lemmas.List.Folds.{list_any-append}
use Rattle.wjs_base.specs.declared.ids.WorldId.{WorldId}
use Rattle.wjs_base.specs.declared.ids.ObjId.{ObjId}
use Rattle.wjs_base.specs.Order.{obj_cmp, obj_total, slot_cmp}
use Rattle.wjs_base.proofs.Options.{none_of, some_tested, with_some}
use Rattle.wjs_base.proofs.Booleans.{by_bool}
use Rattle.wjs_store.specs.Naming.{Naming}
use Rattle.wjs_store.specs.State.{World, State, same_world, find_world, has_world, content_at, count_of, put, is_below, is_touched, has_row, write_in, write_at, after_write, write_all, at_world, hand_entries, hand_objects, clear_marks, moves, reads_of, settle, fails, fault_in, least, lesser, same_content, with_parent, after_commit}
use Rattle.wjs_store.specs.Reached.{IsReached}
use Rattle.wjs_store.specs.Fixed.{begun, fresh}
use Rattle.wjs_store.proofs.States.{find_each, has_each, count_each, length_each, content_each}
use Rattle.wjs_store.proofs.Marks.{Local, local_of, MarksOf, marks_same, marks_then, marks_cond, marks_first, marks_closed, contains_insert, key_is, none_some, any_filter, or_case, closed_only}
use Rattle.wjs_store.proofs.Writes.{reached_write, world_is, same_self, not_older, found_id, has_head, has_tail, by_one, get_put, write_id, entries_id, objects_id}

pub reached_begun : (id : WorldId) → id.serial ≡ 0 → IsReached (begun id)
reached_begun id first = (
  record {
    serial = first;
    parent_older = λ p e. cc;
    alone = λ e. refl;
    inherits = λ p s e u. cc;
    kept = λ s c e w. absurd (none_some (map.get (map.empty {R = slot_cmp}) s) (ap is_some e) (map.get-empty slot_cmp s));
    absent = λ s e r. absurd (none_some (map.get (map.empty {X = Unit {0}} {R = obj_cmp}) s.object) e (map.get-empty obj_cmp s.object));
    no_first = λ e. map.len-empty slot_cmp _;
    no_written = λ e. map.len-empty slot_cmp _;
    no_closed = λ e. map.len-empty obj_cmp _;
  },
  tt,
)

pub reached_fresh : IsReached fresh
reached_fresh = reached_begun (record { owner = 0; serial = 0 }) refl

-- ---- the check

pub some_lesser : {K : Type 0} (R : K → K → Ordering) (o : Option K) (s : K) → is_some (lesser R o s) ≡ true
some_lesser R None s = refl
some_lesser R (Some t) s = by_one (is_lt (R s t)) (λ o. is_some o ≡ true) refl refl

some_fold : {K : Type 0} (R : K → K → Ordering) (ss : List K) (o : Option K) → is_some o ≡ true → is_some (fold (lesser R) o ss) ≡ true
some_fold R [] o h = h
some_fold R (s ∷ ss) o h = some_fold R ss (lesser R o s) (some_lesser R o s)

least_none : {K : Type 0} (R : K → K → Ordering) (ss : List K) → least R ss ≡ None → ss ≡ []
least_none R [] h = refl
least_none R (s ∷ ss) h = absurd (none_some (fold (lesser R) (Some s) ss) (some_fold R ss (Some s) refl) h)

same_is : {V : Type 0} (same : V → V → Bool) (d : (x y : V) → Decides (same x y) (x ≡ y)) (a b : Option V) → same_content same a b ≡ true → a ≡ b
same_is same d None None h = refl
same_is same d None (Some b) h = absurd (false≢true h)
same_is same d (Some a) None h = absurd (false≢true h)
same_is same d (Some a) (Some b) h = ap (λ x. Some x) ((d a b).0 h)

module _ {K V : Type 0} {n : Naming K V} (x y : World n) where
  suspect : (t : K) → fails x y t ≡ true → list_any (eq_by_cmp n.cmp t) (map.keys x.first ++ map.keys y.copy) ≡ true
  suspect t h =
      list_any-append (eq_by_cmp n.cmp t) (map.keys x.first) (map.keys y.copy)
      ∙ or_case (option_map_or (λ c. not (same_content n.same c (map.get y.copy t))) (map.get x.first t) false) (map.contains_key x.closed (n.object t) && (map.contains_key y.copy t && not (has_row x t))) h
      (λ e. or_left (list_any (eq_by_cmp n.cmp t) (map.keys x.first)) (list_any (eq_by_cmp n.cmp t) (map.keys y.copy)) (sym (map.contains_key-keys x.first t) ∙ some_tested (λ c. not (same_content n.same c (map.get y.copy t))) (map.get x.first t) e))
      (λ e. or_right (list_any (eq_by_cmp n.cmp t) (map.keys x.first)) (list_any (eq_by_cmp n.cmp t) (map.keys y.copy)) (sym (map.contains_key-keys y.copy t) ∙ (and_parts (map.contains_key y.copy t) (not (has_row x t)) (and_parts (map.contains_key x.closed (n.object t)) (map.contains_key y.copy t && not (has_row x t)) e).1).0))

  pub no_fault : fault_in x y ≡ None → (t : K) → fails x y t ≡ false
  no_fault h t = by_bool (fails x y t)
      (λ e. absurd (false≢true (ap (list_any (eq_by_cmp n.cmp t)) (sym (least_none n.cmp _ h)) ∙ any_filter (eq_by_cmp n.cmp t) (fails x y) (map.keys x.first ++ map.keys y.copy) (λ k p. ap (fails x y) (sym (key_is n.exact t k p)) ∙ e) (suspect t e))))
      (λ e. e)

  pub agree_read : (t : K) (c : Option V) → fails x y t ≡ false → map.get x.first t ≡ Some c → map.get y.copy t ≡ c
  agree_read t c h e =
      let v = or_parts _ _ h in
      sym (same_is n.same n.decides c (map.get y.copy t) (not-false (same_content n.same c (map.get y.copy t)) (sym (ap (λ o. option_map_or (λ c. not (same_content n.same c (map.get y.copy t))) o false) e) ∙ v.0)))

  pub agree_closed : (t : K) → fails x y t ≡ false → map.contains_key x.closed (n.object t) ≡ true → has_row x t ≡ false → map.get y.copy t ≡ None
  agree_closed t h cl r =
      let v = or_parts (option_map_or (λ c. not (same_content n.same c (map.get y.copy t))) (map.get x.first t) false) (map.contains_key x.closed (n.object t) && (map.contains_key y.copy t && not (has_row x t))) h in
      none_of (map.get y.copy t) (peel (map.contains_key x.closed (n.object t)) (map.contains_key y.copy t) (has_row x t) cl r v.1)
    where
      peel : (a b c : Bool) → a ≡ true → c ≡ false → (a && (b && not c)) ≡ false → b ≡ false
      peel true true true p q h = cc
      peel true true false p q h = cc
      peel true false c p q h = refl
      peel false b c p q h = absurd (false≢true p)

-- ---- worlds of a reached state

module _ {K V : Type 0} {n : Naming K V} where
  pub find_head : (x : World n) (older : State n) → find_world (x ∷ older) x.id ≡ Some x
  unfolding find_world
  find_head x older = ap (λ b. cond b (Some x) (find_world older x.id)) (same_self x.id)

  pub find_tail : (x : World n) (older : State n) (i : WorldId) → same_world x.id i ≡ false → find_world (x ∷ older) i ≡ find_world older i
  unfolding find_world
  find_tail x older i e = ap (λ b. cond b (Some x) (find_world older i)) e

  pub at_head : (x z : World n) (older : State n) (i : WorldId) → same_world x.id i ≡ true → find_world (x ∷ older) i ≡ Some z → x ≡ z
  unfolding find_world
  at_head x z older i e h =
      let f : Some x ≡ Some z = ap (λ b. cond b (Some x) (find_world older i)) (sym e) ∙ h in
      cc

  pub find_nil : (i : WorldId) → find_world {n = n} [] i ≡ None
  unfolding find_world
  find_nil i = refl

  pub local_find : (F : State n) (i : WorldId) (z : World n) → IsReached F → find_world F i ≡ Some z → Local z
  local_find [] i z h e = absurd (none_some (find_world {n = n} [] i) (ap is_some e) (find_nil i))
  local_find (x ∷ older) i z h e = by_bool (same_world x.id i)
      (λ b. subst Local (at_head x z older i b e) (local_of x older h.0))
      (λ b. local_find older i z h.1 (sym (find_tail x older i b) ∙ e))

  -- the parent is there, and is another world
  pub parent_there : (F : State n) (i p : WorldId) (z : World n) → IsReached F → find_world F i ≡ Some z → z.parent ≡ Some p → has_world F p ≡ true
  parent_there [] i p z h e q = absurd (none_some (find_world {n = n} [] i) (ap is_some e) (find_nil i))
  parent_there (x ∷ older) i p z h e q = by_bool (same_world x.id i)
      (λ b. has_tail x older p (h.0.parent_older p (ap (λ (v : World n). v.parent) (at_head x z older i b e) ∙ q)))
      (λ b. has_tail x older p (parent_there older i p z h.1 (sym (find_tail x older i b) ∙ e) q))

  pub parent_other : (F : State n) (i p : WorldId) (z : World n) → IsReached F → find_world F i ≡ Some z → z.parent ≡ Some p → same_world i p ≡ false
  parent_other [] i p z h e q = absurd (none_some (find_world {n = n} [] i) (ap is_some e) (find_nil i))
  parent_other (x ∷ older) i p z h e q = by_bool (same_world x.id i)
      (λ b. ap (λ j. same_world j p) (sym (world_is x.id i b)) ∙ not_older x older p h (h.0.parent_older p (ap (λ (v : World n). v.parent) (at_head x z older i b e) ∙ q)))
      (λ b. parent_other older i p z h.1 (sym (find_tail x older i b) ∙ e) q)

  older_content : (x : World n) (older : State n) (p : WorldId) (t : K) → IsReached (x ∷ older) → has_world older p ≡ true → content_at (x ∷ older) p t ≡ content_at older p t
  older_content x older p t h e = ap (option_and_then (λ (v : World n). map.get v.copy t)) (find_tail x older p (not_older x older p h e))

  -- an untouched slot has the parent's content
  pub inherits_find : (F : State n) (i p : WorldId) (z : World n) (t : K) → IsReached F → find_world F i ≡ Some z → z.parent ≡ Some p → is_touched z t ≡ false → map.get z.copy t ≡ content_at F p t
  inherits_find [] i p z t h e q u = absurd (none_some (find_world {n = n} [] i) (ap is_some e) (find_nil i))
  inherits_find (x ∷ older) i p z t h e q u = by_bool (same_world x.id i)
      (λ b.
      let is = at_head x z older i b e in
      let up : x.parent ≡ Some p = ap (λ (v : World n). v.parent) is ∙ q in
      ap (λ (v : World n). map.get v.copy t) (sym is) ∙ h.0.inherits p t up (ap (λ v. is_touched v t) is ∙ u) ∙ sym (older_content x older p t h (h.0.parent_older p up)))
      (λ b.
      let e2 = sym (find_tail x older i b) ∙ e in
      inherits_find older i p z t h.1 e2 q u ∙ sym (older_content x older p t h (parent_there older i p z h.1 e2 q)))

  -- ---- one world is changed, and its copy stays

  module _ (w : WorldId) (f : World n → World n) (ids : (x : World n) → (f x).id ≡ x.id) (parents : (x : World n) → (f x).parent ≡ x.parent) (copies : (x : World n) → (f x).copy ≡ x.copy) (F : State n) where
    at : World n → World n
    at x = cond (same_world x.id w) (f x) x

    at_id : (x : World n) → (at x).id ≡ x.id
    unfolding at
    at_id x = by_one (same_world x.id w) (λ (v : World n). v.id ≡ x.id) (ids x) refl

    at_parent : (x : World n) → (at x).parent ≡ x.parent
    unfolding at
    at_parent x = by_one (same_world x.id w) (λ (v : World n). v.parent ≡ x.parent) (parents x) refl

    at_copy : (x : World n) → (at x).copy ≡ x.copy
    unfolding at
    at_copy x = by_one (same_world x.id w) (λ (v : World n). v.copy ≡ x.copy) (copies x) refl

    Part : State n → Type 0
    Part G = (i : WorldId) → has_world G i ≡ true → find_world F i ≡ find_world G i

    part_tail : (x : World n) (older : State n) → IsReached (x ∷ older) → Part (x ∷ older) → Part older
    unfolding Part
    part_tail x older h a i e = a i (has_tail x older i e) ∙ find_tail x older i (not_older x older i h e)

    module _ (loc : (z : World n) → find_world F w ≡ Some z → Local z → Local (f z)) (inh : (z : World n) (p : WorldId) (t : K) → find_world F w ≡ Some z → z.parent ≡ Some p → is_touched (f z) t ≡ false → map.get z.copy t ≡ content_at F p t) where
      reached_part : (G : State n) → Part G → IsReached G → IsReached (each at G)
      unfolding Part at
      reached_part [] a h = tt
      reached_part (x ∷ older) a h =
          let k = h.0 in
          let tail = part_tail x older h a in
          let found = λ (b : same_world x.id w ≡ true). ap (find_world F) (sym (world_is x.id w b)) ∙ a x.id (has_head x older) ∙ find_head x older in
          let l : Local (at x) = by_bool (same_world x.id w) (λ b. subst (λ c. Local (cond c (f x) x)) (sym b) (loc x (found b) (local_of x older k))) (λ b. subst (λ c. Local (cond c (f x) x)) (sym b) (local_of x older k)) in (
            record {
              serial = ap (λ (j : WorldId). j.serial) (at_id x) ∙ k.serial ∙ ap (λ (j : WorldId). count_of j.owner older) (sym (at_id x)) ∙ sym (count_each at at_id (at x).id.owner older);
              parent_older = λ p e. has_each at at_id older p ∙ k.parent_older p (sym (at_parent x) ∙ e);
              alone = λ e. length_each at at_id older ∙ k.alone (sym (at_parent x) ∙ e);
              inherits = λ p t e u.
                  let up : x.parent ≡ Some p = sym (at_parent x) ∙ e in
                  ap (λ c. map.get c t) (at_copy x)
                  ∙ by_bool (same_world x.id w)
                  (λ b. inh x p t (found b) up (ap (λ c. is_touched (cond c (f x) x) t) (sym b) ∙ u) ∙ ap (option_and_then (λ (v : World n). map.get v.copy t)) (tail p (k.parent_older p up)))
                  (λ b. k.inherits p t up (ap (λ c. is_touched (cond c (f x) x) t) (sym b) ∙ u))
                  ∙ sym (content_each at at_id older p t (λ v. ap (λ c. map.get c t) (at_copy v)));
              kept = l.kept;
              absent = l.absent;
              no_first = l.no_first;
              no_written = l.no_written;
              no_closed = l.no_closed;
            },
            reached_part older tail h.1,
          )

      reached_at : IsReached F → IsReached (at_world w f F)
      unfolding Part at
      reached_at h = reached_part F (λ i e. refl) h

-- ---- what the parent gets

two_conds : {A : Type 0} (e a : Bool) (p q r : A) → (e ≡ true → p ≡ q) → cond a q (cond e p r) ≡ cond (e || a) q r
two_conds true true p q r f = refl
two_conds true false p q r f = f refl
two_conds false a p q r f = refl

contains_stays : {K V : Type 0} {R : K → K → Ordering} (total : IsTotalOrder R) (b : Bool) (m : FinMap R V) (k : K) (v : V) (q : K) → map.contains_key m q ≡ true → map.contains_key (cond b (map.insert m k v) m) q ≡ true
contains_stays {R = R} total true m k v q h = contains_insert total m k v q ∙ or_right (eq_by_cmp R q k) (map.contains_key m q) h
contains_stays total false m k v q h = h

abbrev pub pairs : {K V : Type 0} → (K → Option V) → List K → List (K × Option V)
pairs v ks = each (λ s. (s, v s)) ks

module _ {K V : Type 0} {n : Naming K V} where
  -- ---- writes

  abbrev pub writes_on : List (K × Option V) → World n → World n
  writes_on es y = fold (λ z e. write_in e.0 e.1 z) y es

  copy_on : (v : K → Option V) (ks : List K) (y : World n) (t : K) → map.get (writes_on (pairs v ks) y).copy t ≡ cond (list_any (eq_by_cmp n.cmp t) ks) (v t) (map.get y.copy t)
  copy_on v [] y t = refl
  copy_on v (s ∷ ks) y t =
      copy_on v ks (write_in s (v s) y) t
      ∙ ap (cond (list_any (eq_by_cmp n.cmp t) ks) (v t)) (get_put n.total y.copy s (v s) t)
      ∙ two_conds (eq_by_cmp n.cmp t s) (list_any (eq_by_cmp n.cmp t) ks) (v s) (v t) (map.get y.copy t) (λ e. ap v (sym (key_is n.exact t s e)))

  pub parent_on : (es : List (K × Option V)) (y : World n) → (writes_on es y).parent ≡ y.parent
  parent_on [] y = refl
  parent_on (e ∷ es) y = parent_on es (write_in e.0 e.1 y)

  row_stays : (s : K) (c : Option V) (y : World n) (t : K) → has_row y t ≡ true → has_row (write_in s c y) t ≡ true
  row_stays s c y t h = or_case (map.contains_key y.first t) (map.contains_key y.written t) h
      (λ e. or_left (map.contains_key (write_in s c y).first t) (map.contains_key (write_in s c y).written t) (contains_stays n.total (is_some y.parent && (not (has_row y s) && (map.contains_key y.closed (n.object s) || y.strict))) y.first s (map.get y.copy s) t e))
      (λ e. or_right (map.contains_key (write_in s c y).first t) (map.contains_key (write_in s c y).written t) (contains_stays n.total (is_some y.parent) y.written s tt t e))

  pub row_new : (s : K) (c : Option V) (y : World n) (t : K) → is_some y.parent ≡ true → eq_by_cmp n.cmp t s ≡ true → has_row (write_in s c y) t ≡ true
  row_new s c y t p e = or_right (map.contains_key (write_in s c y).first t) (map.contains_key (write_in s c y).written t)
      (ap (λ b. map.contains_key (cond b (map.insert y.written s tt) y.written) t) p ∙ contains_insert n.total y.written s tt t ∙ ap (λ b. b || map.contains_key y.written t) e)

  row_on : (es : List (K × Option V)) (y : World n) (t : K) → has_row y t ≡ true → has_row (writes_on es y) t ≡ true
  row_on [] y t h = h
  row_on (e ∷ es) y t h = row_on es (write_in e.0 e.1 y) t (row_stays e.0 e.1 y t h)

  row_written : (v : K → Option V) (ks : List K) (y : World n) (t : K) → is_some y.parent ≡ true → list_any (eq_by_cmp n.cmp t) ks ≡ true → has_row (writes_on (pairs v ks) y) t ≡ true
  row_written v [] y t p h = absurd (false≢true h)
  row_written v (s ∷ ks) y t p h = or_case (eq_by_cmp n.cmp t s) (list_any (eq_by_cmp n.cmp t) ks) h
      (λ e. row_on (pairs v ks) (write_in s (v s) y) t (row_new s (v s) y t p e))
      (λ e. row_written v ks (write_in s (v s) y) t p e)

  -- ---- recorded reads that are handed up

  abbrev pub hand_one : World n → K × Option V → World n
  hand_one z e = cond (is_touched z e.0) z (record z { first = map.insert z.first e.0 e.1 })

  abbrev pub hand_on : List (K × Option V) → World n → World n
  hand_on es y = fold hand_one y es

  marks_hand_one : (b : Bool) (y : World n) (s : K) (c : Option V) → is_some y.parent ≡ true → c ≡ map.get y.copy s → MarksOf y (cond b y (record y { first = map.insert y.first s c }))
  marks_hand_one true y s c p e = marks_same y
  marks_hand_one false y s c p e = subst (λ d. MarksOf y (record y { first = map.insert y.first s d })) (sym e) (marks_first y s p)

  marks_hand : (v : K → Option V) (ks : List K) (y : World n) → is_some y.parent ≡ true → ((s : K) → list_any (eq_by_cmp n.cmp s) ks ≡ true → v s ≡ map.get y.copy s) → MarksOf y (hand_on (pairs v ks) y)
  marks_hand v [] y p f = marks_same y
  marks_hand v (s ∷ ks) y p f =
      let m = marks_hand_one (is_touched y s) y s (v s) p (f s (or_left (eq_by_cmp n.cmp s s) (list_any (eq_by_cmp n.cmp s) ks) (ap is_eq (tied_itself n.total s)))) in
      marks_then y (hand_one y (s, v s)) (hand_on (pairs v ks) (hand_one y (s, v s))) m
      (marks_hand v ks (hand_one y (s, v s)) (ap is_some m.parent ∙ p) (λ t h. f t (or_right (eq_by_cmp n.cmp t s) (list_any (eq_by_cmp n.cmp t) ks) h) ∙ ap (λ c. map.get c t) (sym m.copy)))

  hand_row : (y : World n) (e : K × Option V) (t : K) → has_row y t ≡ true → has_row (hand_one y e) t ≡ true
  hand_row y e t h = hand_row_by (is_touched y e.0) y e.0 e.1 t h
    where
      hand_row_by : (b : Bool) (y : World n) (s : K) (c : Option V) (t : K) → has_row y t ≡ true → has_row (cond b y (record y { first = map.insert y.first s c })) t ≡ true
      hand_row_by true y s c t h = h
      hand_row_by false y s c t h = or_case (map.contains_key y.first t) (map.contains_key y.written t) h
          (λ q. or_left (map.contains_key (map.insert y.first s c) t) (map.contains_key y.written t) (contains_stays n.total true y.first s c t q))
          (λ q. or_right (map.contains_key (map.insert y.first s c) t) (map.contains_key y.written t) q)

  hand_rows : (es : List (K × Option V)) (y : World n) (t : K) → has_row y t ≡ true → has_row (hand_on es y) t ≡ true
  hand_rows [] y t h = h
  hand_rows (e ∷ es) y t h = hand_rows es (hand_one y e) t (hand_row y e t h)

  hand_closed_same : (b : Bool) (y : World n) (s : K) (c : Option V) (o : ObjId) → map.contains_key (cond b y (record y { first = map.insert y.first s c })).closed o ≡ map.contains_key y.closed o
  hand_closed_same true y s c o = refl
  hand_closed_same false y s c o = refl

  hand_here : (y : World n) (s : K) (c : Option V) (t : K) → eq_by_cmp n.cmp t s ≡ true → is_touched y t ≡ false → has_row (hand_one y (s, c)) t ≡ true
  hand_here y s c t e u = ap (λ b. has_row (cond b y (record y { first = map.insert y.first s c })) t) (ap (is_touched y) (sym (key_is n.exact t s e)) ∙ u)
      ∙ or_left (map.contains_key (map.insert y.first s c) t) (map.contains_key y.written t) (contains_insert n.total y.first s c t ∙ ap (λ b. b || map.contains_key y.first t) e)

  hand_new : (v : K → Option V) (ks : List K) (y : World n) (t : K) → is_touched y t ≡ false → list_any (eq_by_cmp n.cmp t) ks ≡ true → has_row (hand_on (pairs v ks) y) t ≡ true
  hand_new v [] y t u h = absurd (false≢true h)
  hand_new v (s ∷ ks) y t u h = or_case (eq_by_cmp n.cmp t s) (list_any (eq_by_cmp n.cmp t) ks) h
      (λ e. hand_rows (pairs v ks) (hand_one y (s, v s)) t (hand_here y s (v s) t e u))
      (λ e. by_bool (has_row (hand_one y (s, v s)) t)
      (λ r. hand_rows (pairs v ks) (hand_one y (s, v s)) t r)
      (λ r. hand_new v ks (hand_one y (s, v s)) t (ap (λ b. b || map.contains_key (hand_one y (s, v s)).closed (n.object t)) r ∙ hand_closed_same (is_touched y s) y s (v s) (n.object t) ∙ (or_parts (has_row y t) (map.contains_key y.closed (n.object t)) u).1) e))

  -- ---- listed objects that are handed up

  abbrev pub close_on : List ObjId → World n → World n
  close_on os y = fold (λ (z : World n) o. record z { closed = map.insert z.closed o tt }) y os

  marks_close_on : (os : List ObjId) (y : World n) → is_some y.parent ≡ true → ((t : K) → list_any (eq_by_cmp obj_cmp (n.object t)) os ≡ true → has_row y t ≡ false → map.get y.copy t ≡ None) → MarksOf y (close_on os y)
  marks_close_on [] y p f = marks_same y
  marks_close_on (o ∷ os) y p f =
      let z = record y { closed = map.insert y.closed o tt } in
      let m = marks_closed o y p (λ l t e r. f t (or_left (eq_by_cmp obj_cmp (n.object t) o) (list_any (eq_by_cmp obj_cmp (n.object t)) os) (ap (λ k. is_eq (obj_cmp k o)) e ∙ ap is_eq (tied_itself obj_total o))) r) in
      marks_then y z (close_on os z) m (marks_close_on os z p (λ t h r. f t (or_right (eq_by_cmp obj_cmp (n.object t) o) (list_any (eq_by_cmp obj_cmp (n.object t)) os) h) r))

  -- ---- what stays of a world that is handed something

  pub kept_hand : (es : List (K × Option V)) (y : World n) → ((hand_on es y).parent ≡ y.parent) × ((hand_on es y).copy ≡ y.copy)
  kept_hand [] y = (refl, refl)
  kept_hand (e ∷ es) y =
      let k = kept_hand es (hand_one y e) in
      let one = kept_one (is_touched y e.0) y e.0 e.1 in
      (k.0 ∙ one.0, k.1 ∙ one.1)
    where
      kept_one : (b : Bool) (y : World n) (s : K) (c : Option V) → ((cond b y (record y { first = map.insert y.first s c })).parent ≡ y.parent) × ((cond b y (record y { first = map.insert y.first s c })).copy ≡ y.copy)
      kept_one true y s c = (refl, refl)
      kept_one false y s c = (refl, refl)

  kept_close : (os : List ObjId) (y : World n) → ((close_on os y).parent ≡ y.parent) × ((close_on os y).copy ≡ y.copy)
  kept_close [] y = (refl, refl)
  kept_close (o ∷ os) y = kept_close os (record y { closed = map.insert y.closed o tt })

  pub entries_ids : (es : List (K × Option V)) (z : World n) → (hand_entries es z).id ≡ z.id
  entries_ids es z = by_one (is_some z.parent) (λ (v : World n). v.id ≡ z.id) (entries_id es z z refl) refl

  pub entries_parents : (es : List (K × Option V)) (z : World n) → (hand_entries es z).parent ≡ z.parent
  entries_parents es z = by_one (is_some z.parent) (λ (v : World n). v.parent ≡ z.parent) (kept_hand es z).0 refl

  pub entries_copies : (es : List (K × Option V)) (z : World n) → (hand_entries es z).copy ≡ z.copy
  entries_copies es z = by_one (is_some z.parent) (λ (v : World n). v.copy ≡ z.copy) (kept_hand es z).1 refl

  pub objects_ids : (os : List ObjId) (z : World n) → (hand_objects os z).id ≡ z.id
  objects_ids os z = by_one (is_some z.parent) (λ (v : World n). v.id ≡ z.id) (objects_id os z z refl) refl

  pub objects_parents : (os : List ObjId) (z : World n) → (hand_objects os z).parent ≡ z.parent
  objects_parents os z = by_one (is_some z.parent) (λ (v : World n). v.parent ≡ z.parent) (kept_close os z).0 refl

  pub objects_copies : (os : List ObjId) (z : World n) → (hand_objects os z).copy ≡ z.copy
  objects_copies os z = by_one (is_some z.parent) (λ (v : World n). v.copy ≡ z.copy) (kept_close os z).1 refl

  -- ---- which worlds are found on the way

  pub find_at_here : (i : WorldId) (f : World n → World n) (ids : (x : World n) → (f x).id ≡ x.id) (F : State n) (y : World n) → find_world F i ≡ Some y → find_world (at_world i f F) i ≡ Some (f y)
  find_at_here i f ids F y h =
      find_each (λ x. cond (same_world x.id i) (f x) x) (λ x. by_one (same_world x.id i) (λ (v : World n). v.id ≡ x.id) (ids x) refl) F i
      ∙ ap (option_map (λ (x : World n). cond (same_world x.id i) (f x) x)) h
      ∙ ap (λ b. Some (cond b (f y) y)) (ap (λ j. same_world j i) (found_id F i y h) ∙ same_self i)

  pub find_at_other : (i : WorldId) (f : World n → World n) (ids : (x : World n) → (f x).id ≡ x.id) (F : State n) (j : WorldId) (y : World n) → same_world j i ≡ false → find_world F j ≡ Some y → find_world (at_world i f F) j ≡ Some y
  find_at_other i f ids F j y e h =
      find_each (λ x. cond (same_world x.id i) (f x) x) (λ x. by_one (same_world x.id i) (λ (v : World n). v.id ≡ x.id) (ids x) refl) F j
      ∙ ap (option_map (λ (x : World n). cond (same_world x.id i) (f x) x)) h
      ∙ ap (λ b. Some (cond b (f y) y)) (ap (λ k. same_world k i) (found_id F j y h) ∙ e)

  pub below_stops : (p : WorldId) (s : K) (G : State n) (i : WorldId) (z : World n) → find_world G i ≡ Some z → is_touched z s ≡ true → is_below p s G i ≡ false
  unfolding is_below
  below_stops p s [] i z e u = refl
  below_stops p s (x ∷ older) i z e u = by_bool (same_world x.id i)
      (λ b. ap (λ c. cond c (not (is_touched x s) && option_map_or (λ q. same_world q p || is_below p s older q) x.parent false) (is_below p s older i)) b
      ∙ ap (λ c. not c && option_map_or (λ q. same_world q p || is_below p s older q) x.parent false) (ap (λ v. is_touched v s) (at_head x z older i b e) ∙ u))
      (λ b. ap (λ c. cond c (not (is_touched x s) && option_map_or (λ q. same_world q p || is_below p s older q) x.parent false) (is_below p s older i)) b
      ∙ below_stops p s older i z (sym (find_tail x older i b) ∙ e) u)

  pub find_write_here : (G : State n) (p : WorldId) (s : K) (c : Option V) (y : World n) → find_world G p ≡ Some y → find_world (after_write G p s c) p ≡ Some (write_in s c y)
  unfolding after_write
  find_write_here G p s c y h =
      find_each (write_at G p s c) (write_id G p s c) G p
      ∙ ap (option_map (write_at G p s c)) h
      ∙ ap (λ b. Some (cond b (write_in s c y) (cond (is_below p s G y.id) (record y { copy = put y.copy s c }) y))) (ap (λ j. same_world j p) (found_id G p y h) ∙ same_self p)

  find_write_other : (G : State n) (p : WorldId) (s : K) (c : Option V) (w : WorldId) (x : World n) → same_world w p ≡ false → find_world G w ≡ Some x → is_touched x s ≡ true → find_world (after_write G p s c) w ≡ Some x
  unfolding after_write
  find_write_other G p s c w x e h u =
      let is = found_id G w x h in
      find_each (write_at G p s c) (write_id G p s c) G w
      ∙ ap (option_map (write_at G p s c)) h
      ∙ ap (λ b. Some (cond b (write_in s c x) (cond (is_below p s G x.id) (record x { copy = put x.copy s c }) x))) (ap (λ j. same_world j p) is ∙ e)
      ∙ ap (λ b. Some (cond b (record x { copy = put x.copy s c }) x)) (ap (is_below p s G) is ∙ below_stops p s G w x h u)

  find_all_here : (p : WorldId) (es : List (K × Option V)) (G : State n) (y : World n) → find_world G p ≡ Some y → find_world (write_all p es G) p ≡ Some (writes_on es y)
  find_all_here p [] G y h = h
  find_all_here p (e ∷ es) G y h = find_all_here p es (after_write G p e.0 e.1) (write_in e.0 e.1 y) (find_write_here G p e.0 e.1 y h)

  find_all_other : (p : WorldId) (v : K → Option V) (ks : List K) (G : State n) (w : WorldId) (x : World n) → same_world w p ≡ false → find_world G w ≡ Some x → ((s : K) → list_any (eq_by_cmp n.cmp s) ks ≡ true → is_touched x s ≡ true) → find_world (write_all p (pairs v ks) G) w ≡ Some x
  find_all_other p v [] G w x e h f = h
  find_all_other p v (s ∷ ks) G w x e h f =
      find_all_other p v ks (after_write G p s (v s)) w x e
      (find_write_other G p s (v s) w x e h (f s (or_left (eq_by_cmp n.cmp s s) (list_any (eq_by_cmp n.cmp s) ks) (ap is_eq (tied_itself n.total s)))))
      (λ t q. f t (or_right (eq_by_cmp n.cmp t s) (list_any (eq_by_cmp n.cmp t) ks) q))

  reached_all : (p : WorldId) (es : List (K × Option V)) (G : State n) → IsReached G → IsReached (write_all p es G)
  reached_all p [] G h = h
  reached_all p (e ∷ es) G h = reached_all p es (after_write G p e.0 e.1) (reached_write G p e.0 e.1 h)

unwrap_is : {A : Type 0} (o : Option (Option A)) (z : Option A) → is_some o ≡ true → ((c : Option A) → o ≡ Some c → z ≡ c) → unwrap_or o None ≡ z
unwrap_is None z h f = absurd (false≢true h)
unwrap_is (Some c) z h f = sym (f c refl)

pub none_is : {A : Type 0} (o : Option A) → is_none o ≡ true → o ≡ None
none_is None h = refl
none_is (Some a) h = absurd (false≢true h)

-- ---- a commit that passes

module _ {K V : Type 0} {n : Naming K V} (F : State n) (x y : World n) (h : IsReached F) (fx : find_world F x.id ≡ Some x) (up : x.parent ≡ Some y.id) (fy : find_world F y.id ≡ Some y) (ok : (t : K) → fails x y t ≡ false) where
  pub apart : same_world x.id y.id ≡ false
  apart = parent_other F x.id y.id x h fx up

  recorded : K → Option V
  recorded s = unwrap_or (map.get x.first s) None

  pub recorded_is : (s : K) → list_any (eq_by_cmp n.cmp s) (map.keys x.first) ≡ true → unwrap_or (map.get x.first s) None ≡ map.get y.copy s
  recorded_is s q = unwrap_is (map.get x.first s) (map.get y.copy s) (map.contains_key-keys x.first s ∙ q) (λ c e. agree_read x y s c (ok s) e)

  abbrev pub y1 : World n
  y1 = hand_entries (reads_of x) y

  pub marks1 : MarksOf y (hand_entries (reads_of x) y)
  marks1 = marks_cond (is_some y.parent) y (hand_on (reads_of x) y) (λ p. marks_hand (λ s. unwrap_or (map.get x.first s) None) (map.keys x.first) y p recorded_is)

  pub reached1 : IsReached (at_world y.id (hand_entries (reads_of x)) F)
  reached1 = reached_at y.id (hand_entries (reads_of x)) (entries_ids (reads_of x)) (entries_parents (reads_of x)) (entries_copies (reads_of x)) F
      (λ z e l. subst (λ v. Local v → Local (hand_entries (reads_of x) v)) (same_Some y z (sym fy ∙ e)) marks1.local l)
      (λ z q t e pe u. inherits_find F y.id q z t h e pe (subst (λ v. is_touched (hand_entries (reads_of x) v) t ≡ false → is_touched v t ≡ false) (same_Some y z (sym fy ∙ e)) (marks1.touched t) u))
      h

  fy1 : find_world (at_world y.id (hand_entries (reads_of x)) F) y.id ≡ Some (hand_entries (reads_of x) y)
  fy1 = find_at_here y.id (hand_entries (reads_of x)) (entries_ids (reads_of x)) F y fy

  fx1 : find_world (at_world y.id (hand_entries (reads_of x)) F) x.id ≡ Some x
  fx1 = find_at_other y.id (hand_entries (reads_of x)) (entries_ids (reads_of x)) F x.id x apart fx

  -- ---- the writes

  abbrev pub state2 : State n
  state2 = write_all y.id (moves x) (at_world y.id (hand_entries (reads_of x)) F)

  abbrev pub y2 : World n
  y2 = writes_on (moves x) (hand_entries (reads_of x) y)

  pub reached2 : IsReached state2
  reached2 = reached_all y.id (moves x) (at_world y.id (hand_entries (reads_of x)) F) reached1

  pub fy2 : find_world state2 y.id ≡ Some y2
  fy2 = find_all_here y.id (moves x) (at_world y.id (hand_entries (reads_of x)) F) (hand_entries (reads_of x) y) fy1

  fx2 : find_world state2 x.id ≡ Some x
  fx2 = find_all_other y.id (map.get x.copy) (map.keys x.written) (at_world y.id (hand_entries (reads_of x)) F) x.id x apart fx1
      (λ s q. or_left (has_row x s) (map.contains_key x.closed (n.object s)) (or_right (map.contains_key x.first s) (map.contains_key x.written s) (map.contains_key-keys x.written s ∙ q)))

  pub copy2 : (t : K) → map.get y2.copy t ≡ cond (list_any (eq_by_cmp n.cmp t) (map.keys x.written)) (map.get x.copy t) (map.get y.copy t)
  copy2 t = copy_on (map.get x.copy) (map.keys x.written) (hand_entries (reads_of x) y) t ∙ ap (λ c. cond (list_any (eq_by_cmp n.cmp t) (map.keys x.written)) (map.get x.copy t) (map.get c t)) marks1.copy

  row1 : (t : K) → has_row y t ≡ true → has_row (hand_entries (reads_of x) y) t ≡ true
  row1 t r = by_one (is_some y.parent) (λ (v : World n). has_row v t ≡ true) (hand_rows (reads_of x) y t r) r

  pub new1 : (t : K) → is_some y.parent ≡ true → is_touched y t ≡ false → map.contains_key x.first t ≡ true → has_row (hand_entries (reads_of x) y) t ≡ true
  new1 t p u q = ap (λ b. has_row (cond b (hand_on (reads_of x) y) y) t) p ∙ hand_new (λ s. unwrap_or (map.get x.first s) None) (map.keys x.first) y t u (sym (map.contains_key-keys x.first t) ∙ q)

  listed2 : is_some y2.parent ≡ true → (t : K) → list_any (eq_by_cmp obj_cmp (n.object t)) (map.keys x.closed) ≡ true → has_row y2 t ≡ false → map.get y2.copy t ≡ None
  listed2 p2 t cl r =
      let parent1 = parent_on (moves x) (hand_entries (reads_of x) y) in
      let py1 : is_some (hand_entries (reads_of x) y).parent ≡ true = ap is_some (sym parent1) ∙ p2 in
      let py : is_some y.parent ≡ true = ap is_some (sym marks1.parent) ∙ py1 in
      let closed_x = map.contains_key-keys x.closed (n.object t) ∙ cl in
      let unwritten : list_any (eq_by_cmp n.cmp t) (map.keys x.written) ≡ false = by_bool (list_any (eq_by_cmp n.cmp t) (map.keys x.written)) (λ e. absurd (true≢false (sym (row_written (map.get x.copy) (map.keys x.written) (hand_entries (reads_of x) y) t py1 e) ∙ r))) (λ e. e) in
      copy2 t ∙ ap (λ b. cond b (map.get x.copy t) (map.get y.copy t)) unwritten
      ∙ by_bool (has_row x t)
      (λ e. or_case (map.contains_key x.first t) (map.contains_key x.written t) e
      (λ f. by_bool (is_touched y t)
      (λ u. by_bool (has_row y t)
      (λ ry. absurd (true≢false (sym (row_on (moves x) (hand_entries (reads_of x) y) t (row1 t ry)) ∙ r)))
      (λ ry. (local_find F y.id y h fy).absent t (closed_only (has_row y t) (map.contains_key y.closed (n.object t)) u ry) ry))
      (λ u. absurd (true≢false (sym (row_on (moves x) (hand_entries (reads_of x) y) t (new1 t py u f)) ∙ r))))
      (λ f. absurd (true≢false (sym (sym (map.contains_key-keys x.written t) ∙ f) ∙ unwritten))))
      (λ e. agree_closed x y t (ok t) closed_x e)

  -- ---- the listed objects

  abbrev pub state3 : State n
  state3 = at_world y.id (hand_objects (map.keys x.closed)) state2

  pub marks3 : MarksOf y2 (hand_objects (map.keys x.closed) y2)
  marks3 = marks_cond (is_some y2.parent) y2 (close_on (map.keys x.closed) y2) (λ p. marks_close_on (map.keys x.closed) y2 p (listed2 p))

  reached3 : IsReached state3
  reached3 = reached_at y.id (hand_objects (map.keys x.closed)) (objects_ids (map.keys x.closed)) (objects_parents (map.keys x.closed)) (objects_copies (map.keys x.closed)) state2
      (λ z e l. subst (λ v. Local v → Local (hand_objects (map.keys x.closed) v)) (same_Some y2 z (sym fy2 ∙ e)) marks3.local l)
      (λ z q t e pe u. inherits_find state2 y.id q z t reached2 e pe (subst (λ v. is_touched (hand_objects (map.keys x.closed) v) t ≡ false → is_touched v t ≡ false) (same_Some y2 z (sym fy2 ∙ e)) (marks3.touched t) u))
      reached2

  pub fy3 : find_world state3 y.id ≡ Some (hand_objects (map.keys x.closed) y2)
  fy3 = find_at_here y.id (hand_objects (map.keys x.closed)) (objects_ids (map.keys x.closed)) state2 y2 fy2

  pub fx3 : find_world state3 x.id ≡ Some x
  fx3 = find_at_other y.id (hand_objects (map.keys x.closed)) (objects_ids (map.keys x.closed)) state2 x.id x apart fx2

  -- ---- the child's marks are cleared

  same_now : (t : K) → map.get x.copy t ≡ map.get y2.copy t
  same_now t = by_bool (list_any (eq_by_cmp n.cmp t) (map.keys x.written))
      (λ e. sym (copy2 t ∙ ap (λ b. cond b (map.get x.copy t) (map.get y.copy t)) e))
      (λ e. unwritten_same (map.contains_key-keys x.written t ∙ e) ∙ sym (copy2 t ∙ ap (λ b. cond b (map.get x.copy t) (map.get y.copy t)) e))
    where
      unwritten_same : map.contains_key x.written t ≡ false → map.get x.copy t ≡ map.get y.copy t
      unwritten_same w = by_bool (map.contains_key x.first t)
          (λ f. with_some (map.get x.first t) f (λ c e. (local_find F x.id x h fx).kept t c e w ∙ sym (agree_read x y t c (ok t) e)))
          (λ f.
          let r : has_row x t ≡ false = ap (λ b. b || map.contains_key x.written t) f ∙ w in
          by_bool (map.contains_key x.closed (n.object t))
          (λ c. (local_find F x.id x h fx).absent t c r ∙ sym (agree_closed x y t (ok t) c r))
          (λ c. inherits_find F x.id y.id x t h fx up (ap (λ b. b || map.contains_key x.closed (n.object t)) r ∙ c) ∙ ap (option_and_then (λ (v : World n). map.get v.copy t)) fy))

  pub reached_settle : IsReached (settle x y.id F)
  reached_settle = reached_at x.id clear_marks (λ z. refl) (λ z. refl) (λ z. refl) state3
      (λ z e l. record {
        kept = λ s c q u. absurd (none_some (map.get (map.empty {X = Option V} {R = n.cmp}) s) (ap is_some q) (map.get-empty n.cmp s));
        absent = λ s q u. absurd (none_some (map.get (map.empty {X = Unit {0}} {R = obj_cmp}) (n.object s)) q (map.get-empty obj_cmp (n.object s)));
        no_first = λ q. map.len-empty n.cmp (Option V);
        no_written = λ q. map.len-empty n.cmp (Unit {0});
        no_closed = λ q. map.len-empty obj_cmp (Unit {0});
      })
      (λ z q t e pe u.
      let is : x ≡ z = same_Some x z (sym fx3 ∙ e) in
      let to : y.id ≡ q = same_Some y.id q (sym up ∙ ap (λ (v : World n). v.parent) is ∙ pe) in
      ap (λ (v : World n). map.get v.copy t) (sym is) ∙ same_now t ∙ ap (λ c. map.get c t) (sym marks3.copy) ∙ sym (ap (option_and_then (λ (v : World n). map.get v.copy t)) (ap (find_world state3) (sym to) ∙ fy3)))
      reached3

module _ {K V : Type 0} {n : Naming K V} where
  pair_parent : (F : State n) (w : WorldId) (z : World n) (o : Option WorldId) (e : World n × World n) → find_world F w ≡ Some z → z.parent ≡ o → option_map (λ p. (z, p)) (option_and_then (find_world F) o) ≡ Some e → (find_world F w ≡ Some e.0) × (q : WorldId) × (e.0.parent ≡ Some q) × (find_world F q ≡ Some e.1)
  pair_parent F w z None e f g h = absurd (false≢true (ap is_some h))
  pair_parent F w z (Some q) e f g h = pair_last F w z q e f g (find_world F q) refl h
    where
      pair_last : (F : State n) (w : WorldId) (z : World n) (q : WorldId) (e : World n × World n) → find_world F w ≡ Some z → z.parent ≡ Some q → (r : Option (World n)) → find_world F q ≡ r → option_map (λ p. (z, p)) r ≡ Some e → (find_world F w ≡ Some e.0) × (q : WorldId) × (e.0.parent ≡ Some q) × (find_world F q ≡ Some e.1)
      pair_last F w z q e f g None k h = absurd (false≢true (ap is_some h))
      pair_last F w z q e f g (Some v) k h =
          let is = same_Some (z, v) e h in
          (f ∙ ap (λ (d : World n × World n). Some d.0) is, q, ap (λ (d : World n × World n). d.0.parent) (sym is) ∙ g, k ∙ ap (λ (d : World n × World n). Some d.1) is)

  pair_world : (F : State n) (w : WorldId) (o : Option (World n)) (e : World n × World n) → find_world F w ≡ o → option_and_then (λ (x : World n). option_map (λ p. (x, p)) (option_and_then (find_world F) x.parent)) o ≡ Some e → (find_world F w ≡ Some e.0) × (q : WorldId) × (e.0.parent ≡ Some q) × (find_world F q ≡ Some e.1)
  pair_world F w None e f h = absurd (false≢true (ap is_some h))
  pair_world F w (Some z) e f h = pair_parent F w z z.parent e f refl h

  pub pair_parts : (F : State n) (w : WorldId) (e : World n × World n) → with_parent F w ≡ Some e → (find_world F w ≡ Some e.0) × (q : WorldId) × (e.0.parent ≡ Some q) × (find_world F q ≡ Some e.1)
  unfolding with_parent
  pair_parts F w e h = pair_world F w (find_world F w) e refl h

  commit_by : (F : State n) (w : WorldId) (o : Option (World n × World n)) → with_parent F w ≡ o → IsReached F → IsReached (option_map_or (λ (e : World n × World n). cond (is_none (fault_in e.0 e.1)) (settle e.0 e.1.id F) F) o F)
  commit_by F w None e h = h
  commit_by F w (Some d) e h =
      let parts = pair_parts F w d e in
      let xid = found_id F w d.0 parts.0 in
      let yid = found_id F parts.1 d.1 parts.3 in
      by_bool (is_none (fault_in d.0 d.1))
      (λ b. subst (λ c. IsReached (cond c (settle d.0 d.1.id F) F)) (sym b) (reached_settle F d.0 d.1 h (ap (find_world F) xid ∙ parts.0) (parts.2 ∙ ap (λ q. Some q) (sym yid)) (ap (find_world F) yid ∙ parts.3) (no_fault d.0 d.1 (none_is (fault_in d.0 d.1) b))))
      (λ b. subst (λ c. IsReached (cond c (settle d.0 d.1.id F) F)) (sym b) h)

  pub reached_commit : (F : State n) (w : WorldId) → IsReached F → IsReached (after_commit F w)
  unfolding after_commit
  reached_commit F w h = commit_by F w (with_parent F w) refl h
