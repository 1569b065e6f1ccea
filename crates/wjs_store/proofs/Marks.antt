-- Changes of marks alone keep a reached state.
use Rattle.std.proofs.Common.{◌≡◌, Bool, true, false, cond, not, ◌&&◌, ◌||◌, List, [], ◌∷◌, refl, ap, sym, ◌∙◌, map as each, filter, Option, None, Some, is_some}
use Rattle.std.specs.declared.cmp.Ordering.{Ordering}
use Rattle.std.specs.Ordering.{eq_by_cmp, is_eq}
use Rattle.std.specs.Cmp.{IsTotalOrder, Equal-is, tied_itself}
use Rattle.std.specs.List.{list_any}
use Rattle.std.specs.FinMap as map
use Rattle.std.specs.FinMap.{FinMap, IsAntisymmetric}
use Rattle.std.proofs.lemmas.Bool.{and_parts, true≢false, false≢true, true_from_ne_false, or_right}
use Rattle.wjs_base.specs.declared.ids.ObjId.{ObjId}
use Rattle.wjs_base.specs.declared.ids.WorldId.{WorldId}
use Rattle.wjs_base.specs.Order.{obj_cmp, obj_total, obj_exact}
use Rattle.wjs_base.specs.Same.{object_Decides}
use Rattle.wjs_base.proofs.Options.{some_cond}
use Rattle.wjs_store.specs.Naming.{Naming}
use Rattle.wjs_store.specs.State.{World, State, has_row, is_touched, read_in, read_all, close_in, list_in, slots_in, same_object, same_world, count_of}
use Rattle.wjs_store.specs.Reached.{Fits, IsReached}
use Rattle.wjs_store.proofs.States.{has_each, count_each, length_each, content_each}

-- ---- maps

pub contains_insert : {K V : Type 0} {R : K → K → Ordering} (total : IsTotalOrder R) (m : FinMap R V) (k : K) (v : V) (q : K) → map.contains_key (map.insert m k v) q ≡ (eq_by_cmp R q k || map.contains_key m q)
contains_insert {R = R} total m k v q = ap is_some (map.get-insert total m k v q) ∙ some_cond (eq_by_cmp R q k) v (map.get m q)

pub key_is : {K : Type 0} {R : K → K → Ordering} (exact : IsAntisymmetric R) (q k : K) → eq_by_cmp R q k ≡ true → q ≡ k
key_is {R = R} exact q k e = exact q k ((Equal-is (R q k)).0 e)

-- ---- tests

forget_or : (e a b : Bool) → ((e || a) || b) ≡ false → (a || b) ≡ false
forget_or true a b h = cc
forget_or false a b h = h

forget_first : (e a b c : Bool) → (((e || a) || b) || c) ≡ false → ((a || b) || c) ≡ false
forget_first true a b c h = cc
forget_first false a b c h = h

forget_last : (r e c : Bool) → (r || (e || c)) ≡ false → (r || c) ≡ false
forget_last true e c h = h
forget_last false true c h = cc
forget_last false false c h = h

pub none_some : {A : Type 0} (o : Option A) → is_some o ≡ true → o ≡ None → ⊥
none_some None h e = false≢true h
none_some (Some x) h e = cc

pub or_case : {P : Type 0} (a b : Bool) → (a || b) ≡ true → (a ≡ true → P) → (b ≡ true → P) → P
or_case true b h f g = f refl
or_case false b h f g = g h

any_cond : {K : Type 0} (b : Bool) (p : K → Bool) (x : K) (ys : List K) → list_any p ys ≡ true → list_any p (cond b (x ∷ ys) ys) ≡ true
any_cond true p x ys h = or_right (p x) (list_any p ys) h
any_cond false p x ys h = h

pub any_filter : {K : Type 0} (p q : K → Bool) (xs : List K) → ((k : K) → p k ≡ true → q k ≡ true) → list_any p xs ≡ true → list_any p (filter q xs) ≡ true
any_filter p q [] f h = h
any_filter p q (x ∷ xs) f h = or_case (p x) (list_any p xs) h
    (λ e. ap (λ b. list_any p (cond b (x ∷ filter q xs) (filter q xs))) (f x e) ∙ ap (λ b. b || list_any p (filter q xs)) e)
    (λ e. any_cond (q x) p x (filter q xs) (any_filter p q xs f e))

pub none_or_some : {P : Type 0} {A : Type 0} (o : Option A) → (o ≡ None → P) → (is_some o ≡ true → P) → P
none_or_some None f g = f refl
none_or_some (Some a) f g = g refl

pub closed_only : (r c : Bool) → (r || c) ≡ true → r ≡ false → c ≡ true
closed_only true c h e = cc
closed_only false c h e = h

-- ---- worlds

pub record Local {K V : Type 0} {n : Naming K V} (x : World n) : Type 0 where
  pub kept : (s : K) (c : Option V) → map.get x.first s ≡ Some c → map.contains_key x.written s ≡ false → map.get x.copy s ≡ c
  pub absent : (s : K) → map.contains_key x.closed (n.object s) ≡ true → has_row x s ≡ false → map.get x.copy s ≡ None
  pub no_first : x.parent ≡ None → map.len x.first ≡ 0
  pub no_written : x.parent ≡ None → map.len x.written ≡ 0
  pub no_closed : x.parent ≡ None → map.len x.closed ≡ 0

-- y is x with more marks
pub record MarksOf {K V : Type 0} {n : Naming K V} (x y : World n) : Type 0 where
  pub id : y.id ≡ x.id
  pub parent : y.parent ≡ x.parent
  pub copy : y.copy ≡ x.copy
  pub touched : (s : K) → is_touched y s ≡ false → is_touched x s ≡ false
  pub local : Local x → Local y

module _ {K V : Type 0} {n : Naming K V} where
  pub local_of : (x : World n) (older : State n) → Fits x older → Local x
  local_of x older f = record { kept = f.kept; absent = f.absent; no_first = f.no_first; no_written = f.no_written; no_closed = f.no_closed }

  pub marks_same : (x : World n) → MarksOf x x
  marks_same x = record { id = refl; parent = refl; copy = refl; touched = λ s h. h; local = λ l. l }

  pub marks_then : (x y z : World n) → MarksOf x y → MarksOf y z → MarksOf x z
  marks_then x y z a b = record {
    id = b.id ∙ a.id;
    parent = b.parent ∙ a.parent;
    copy = b.copy ∙ a.copy;
    touched = λ s h. a.touched s (b.touched s h);
    local = λ l. b.local (a.local l);
  }

  pub marks_cond : (b : Bool) (x y : World n) → (b ≡ true → MarksOf x y) → MarksOf x (cond b y x)
  marks_cond true x y f = f refl
  marks_cond false x y f = marks_same x

  pub reached_each : (g : World n → World n) → ((x : World n) → MarksOf x (g x)) → (F : State n) → IsReached F → IsReached (each g F)
  reached_each g m [] h = tt
  reached_each g m (x ∷ F) h =
      let f = h.0 in
      let k = m x in
      let l = k.local (local_of x F f) in
      let ids = λ (y : World n). (m y).id in (
        record {
          serial = ap (λ (j : WorldId). j.serial) k.id ∙ f.serial ∙ ap (λ (j : WorldId). count_of j.owner F) (sym k.id) ∙ sym (count_each g ids (g x).id.owner F);
          parent_older = λ p e. has_each g ids F p ∙ f.parent_older p (sym k.parent ∙ e);
          alone = λ e. length_each g ids F ∙ f.alone (sym k.parent ∙ e);
          inherits = λ p s e u. ap (λ c. map.get c s) k.copy ∙ f.inherits p s (sym k.parent ∙ e) (k.touched s u) ∙ sym (content_each g ids F p s (λ y. ap (λ c. map.get c s) (m y).copy));
          kept = l.kept;
          absent = l.absent;
          no_first = l.no_first;
          no_written = l.no_written;
          no_closed = l.no_closed;
        },
        reached_each g m F h.1,
      )

  -- ---- read

  module _ (x : World n) (s : K) (p : is_some x.parent ≡ true) where
    kept_now : (b : Bool) (t : K) (c : Option V) → eq_by_cmp n.cmp t s ≡ b → cond b (Some (map.get x.copy s)) (map.get x.first t) ≡ Some c → (map.get x.first t ≡ Some c → map.get x.copy t ≡ c) → map.get x.copy t ≡ c
    kept_now true t c e h f =
        let here : map.get x.copy s ≡ c = cc in
        ap (map.get x.copy) (key_is n.exact t s e) ∙ here
    kept_now false t c e h f = f h

    pub marks_first : MarksOf x (record x { first = map.insert x.first s (map.get x.copy s) })
    marks_first = record {
      id = refl;
      parent = refl;
      copy = refl;
      touched = λ t h. forget_first (eq_by_cmp n.cmp t s) (map.contains_key x.first t) (map.contains_key x.written t) (map.contains_key x.closed (n.object t)) (ap (λ b. (b || map.contains_key x.written t) || map.contains_key x.closed (n.object t)) (sym (contains_insert n.total x.first s (map.get x.copy s) t)) ∙ h);
      local = λ l. record {
        kept = λ t c e w. kept_now (eq_by_cmp n.cmp t s) t c refl (sym (map.get-insert n.total x.first s (map.get x.copy s) t) ∙ e) (λ f. l.kept t c f w);
        absent = λ t cl r. l.absent t cl (forget_or (eq_by_cmp n.cmp t s) (map.contains_key x.first t) (map.contains_key x.written t) (ap (λ b. b || map.contains_key x.written t) (sym (contains_insert n.total x.first s (map.get x.copy s) t)) ∙ r));
        no_first = λ e. absurd (none_some x.parent p e);
        no_written = l.no_written;
        no_closed = l.no_closed;
      };
    }

  pub marks_read : (s : K) (x : World n) → MarksOf x (read_in s x)
  marks_read s x = marks_cond (is_some x.parent && not (is_touched x s)) x (record x { first = map.insert x.first s (map.get x.copy s) }) (λ b. marks_first x s (and_parts (is_some x.parent) (not (is_touched x s)) b).0)

  -- ---- list

  pub marks_read_all : (ss : List K) (x : World n) → MarksOf x (read_all ss x)
  marks_read_all [] x = marks_same x
  marks_read_all (s ∷ ss) x = marks_then x (read_in s x) (read_all ss (read_in s x)) (marks_read s x) (marks_read_all ss (read_in s x))

  -- what is touched stays so
  pub stays_touched : (x y : World n) (s : K) → MarksOf x y → is_touched x s ≡ true → is_touched y s ≡ true
  stays_touched x y s m h = true_from_ne_false (is_touched y s) (λ e. true≢false (sym h ∙ m.touched s e))

  read_here : (b : Bool) (x : World n) (s : K) → is_touched x s ≡ b → is_some x.parent ≡ true → is_touched (cond (is_some x.parent && not b) (record x { first = map.insert x.first s (map.get x.copy s) }) x) s ≡ true
  read_here true x s e p = ap (λ a. is_touched (cond (a && false) (record x { first = map.insert x.first s (map.get x.copy s) }) x) s) p ∙ e
  read_here false x s e p =
      ap (λ a. is_touched (cond (a && true) (record x { first = map.insert x.first s (map.get x.copy s) }) x) s) p
      ∙ ap (λ b. (b || map.contains_key x.written s) || map.contains_key x.closed (n.object s)) (contains_insert n.total x.first s (map.get x.copy s) s ∙ ap (λ o. is_eq o || map.contains_key x.first s) (tied_itself n.total s))

  pub touched_read : (x : World n) (s : K) → is_some x.parent ≡ true → is_touched (read_in s x) s ≡ true
  touched_read x s p = read_here (is_touched x s) x s refl p

  pub touched_all : (ss : List K) (x : World n) (t : K) → is_some x.parent ≡ true → list_any (eq_by_cmp n.cmp t) ss ≡ true → is_touched (read_all ss x) t ≡ true
  touched_all [] x t p h = absurd (false≢true h)
  touched_all (s ∷ ss) x t p h = or_case (eq_by_cmp n.cmp t s) (list_any (eq_by_cmp n.cmp t) ss) h
      (λ e. stays_touched (read_in s x) (read_all ss (read_in s x)) t (marks_read_all ss (read_in s x)) (ap (is_touched (read_in s x)) (key_is n.exact t s e) ∙ touched_read x s p))
      (λ e. touched_all ss (read_in s x) t (ap is_some (marks_read s x).parent ∙ p) e)

  -- a present slot of the object is among those that are listed
  listed_slot : (x : World n) (o : ObjId) (t : K) → n.object t ≡ o → map.contains_key x.copy t ≡ true → list_any (eq_by_cmp n.cmp t) (slots_in o x) ≡ true
  listed_slot x o t e h = any_filter (eq_by_cmp n.cmp t) (λ s. same_object (n.object s) o) (map.keys x.copy)
      (λ k p. (object_Decides (n.object k) o).1 (ap n.object (sym (key_is n.exact t k p)) ∙ e))
      (sym (map.contains_key-keys x.copy t) ∙ h)

  pub marks_closed : (o : ObjId) (x : World n) → is_some x.parent ≡ true → (Local x → (t : K) → n.object t ≡ o → has_row x t ≡ false → map.get x.copy t ≡ None) → MarksOf x (record x { closed = map.insert x.closed o tt })
  marks_closed o x p all = record {
    id = refl;
    parent = refl;
    copy = refl;
    touched = λ t h. forget_last (has_row x t) (eq_by_cmp obj_cmp (n.object t) o) (map.contains_key x.closed (n.object t)) (ap (λ b. has_row x t || b) (sym (contains_insert obj_total x.closed o tt (n.object t))) ∙ h);
    local = λ l. record {
      kept = l.kept;
      absent = λ t cl r. or_case (eq_by_cmp obj_cmp (n.object t) o) (map.contains_key x.closed (n.object t)) (sym (contains_insert obj_total x.closed o tt (n.object t)) ∙ cl)
          (λ e. all l t (key_is obj_exact (n.object t) o e) r)
          (λ e. l.absent t e r);
      no_first = l.no_first;
      no_written = l.no_written;
      no_closed = λ e. absurd (none_some x.parent p e);
    };
  }

  marks_close : (o : ObjId) (x : World n) → (Local x → is_some x.parent ≡ true → (t : K) → n.object t ≡ o → has_row x t ≡ false → map.get x.copy t ≡ None) → MarksOf x (close_in o x)
  marks_close o x all = marks_cond (is_some x.parent) x (record x { closed = map.insert x.closed o tt }) (λ p. marks_closed o x p (λ l. all l p))

  pub marks_list : (o : ObjId) (x : World n) → MarksOf x (list_in o x)
  marks_list o x =
      let ss = slots_in o x in
      let m = marks_read_all ss x in
      marks_then x (read_all ss x) (close_in o (read_all ss x)) m (marks_close o (read_all ss x) (λ l p t e r.
      none_or_some (map.get (read_all ss x).copy t) (λ z. z) (λ h.
      let here : map.contains_key x.copy t ≡ true = ap (λ c. is_some (map.get c t)) (sym m.copy) ∙ h in
      l.absent t (closed_only (has_row (read_all ss x) t) (map.contains_key (read_all ss x).closed (n.object t)) (touched_all ss x t (ap is_some (sym m.parent) ∙ p) (listed_slot x o t e here)) r) r)))

  pub marks_at : (w : WorldId) (f : World n → World n) → ((x : World n) → MarksOf x (f x)) → (x : World n) → MarksOf x (cond (same_world x.id w) (f x) x)
  marks_at w f m x = marks_cond (same_world x.id w) x (f x) (λ b. m x)
