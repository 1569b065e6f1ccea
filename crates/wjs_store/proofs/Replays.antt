-- What a world's history says of it: replayed on any map that meets the world's check, it answers as recorded, and ends in that map with the world's own contents at its written slots.
use Rattle.std.proofs.Common.{◌≡◌, Bool, true, false, cond, not, ◌&&◌, ◌||◌, List, [], ◌∷◌, ◌++◌, refl, ap, sym, ◌∙◌, Option, None, Some, is_some}
use Rattle.std.specs.Option.{option_map}
use Rattle.std.specs.Ordering.{eq_by_cmp, is_eq}
use Rattle.std.specs.Cmp.{tied_itself}
use Rattle.std.specs.FinMap as map
use Rattle.std.specs.FinMap.{FinMap}
use Rattle.std.proofs.lemmas.Bool.{true≢false, false≢true, or_right, or_left, or_parts}
use Rattle.wjs_base.specs.declared.ids.WorldId.{WorldId}
use Rattle.wjs_base.specs.declared.ids.ObjId.{ObjId}
use Rattle.wjs_base.specs.Order.{obj_cmp, obj_total}
use Rattle.wjs_base.specs.Same.{object_Decides}
use Rattle.wjs_base.proofs.Booleans.{by_bool}
use Rattle.wjs_base.proofs.Options.{with_some}
use Rattle.wjs_store.specs.Naming.{Naming}
use Rattle.wjs_store.specs.State.{World, Act, Reply, read, write, list, found, wrote, listed, put, same_object, is_touched, has_row, read_in, write_in, read_all, close_in, list_in, slots_in}
use Rattle.wjs_store.specs.Replay.{plain_reply, plain_after}
use Rattle.wjs_store.proofs.Marks.{Local, MarksOf, contains_insert, key_is, none_some, closed_only, marks_read, marks_list, touched_read}
use Rattle.wjs_store.proofs.Writes.{by_one, get_put}
use Rattle.wjs_store.proofs.Ascending.{same_listed}

module _ {K V A : Type 0} (n : Naming K V) (shown : Reply K V → A) where
  -- an action with its recorded answer
  abbrev pub Entry : Type 0
  Entry = Act K V × A

  -- the map at the end
  abbrev pub ends : List Entry → FinMap n.cmp V → FinMap n.cmp V
  ends [] m = m
  ends (e ∷ l) m = ends l (plain_after n m e.0)

  -- each action is answered as recorded
  abbrev pub Answered : List Entry → FinMap n.cmp V → Type 0
  Answered [] m = Unit {0}
  Answered (e ∷ l) m = (option_map shown (plain_reply n m e.0) ≡ Some e.1) × Answered l (plain_after n m e.0)

  pub ends-append : (l k : List Entry) (m : FinMap n.cmp V) → ends (l ++ k) m ≡ ends k (ends l m)
  ends-append [] k m = refl
  ends-append (e ∷ l) k m = ends-append l k (plain_after n m e.0)

  pub Answered-append : (l k : List Entry) (m : FinMap n.cmp V) → Answered l m → Answered k (ends l m) → Answered (l ++ k) m
  Answered-append [] k m h g = g
  Answered-append (e ∷ l) k m h g = (h.0, Answered-append l k (plain_after n m e.0) h.1 g)

  -- a map meets the world's check
  pub record Meets (x : World n) (m : FinMap n.cmp V) : Type 0 where
    pub read : (s : K) (c : Option V) → map.get x.first s ≡ Some c → map.get m s ≡ c
    pub listed : (s : K) → map.contains_key x.closed (n.object s) ≡ true → has_row x s ≡ false → map.get m s ≡ None

  -- the history of a world
  pub record Holds (x : World n) (l : List Entry) : Type 0 where
    pub root : x.parent ≡ None → Answered l map.empty × (ends l map.empty ≡ x.copy)
    pub child : is_some x.parent ≡ true → (m : FinMap n.cmp V) → Meets x m → Answered l m × ((t : K) → map.get (ends l m) t ≡ cond (map.contains_key x.written t) (map.get x.copy t) (map.get m t))

  -- what is touched is seen alike
  pub seen : (x : World n) (m : FinMap n.cmp V) (s : K) → Local x → Meets x m → is_touched x s ≡ true → cond (map.contains_key x.written s) (map.get x.copy s) (map.get m s) ≡ map.get x.copy s
  seen x m s l h u = by_bool (map.contains_key x.written s)
      (λ e. ap (λ b. cond b (map.get x.copy s) (map.get m s)) e)
      (λ e. ap (λ b. cond b (map.get x.copy s) (map.get m s)) e ∙ by_bool (map.contains_key x.first s)
      (λ f. with_some (map.get x.first s) f (λ c q. h.read s c q ∙ sym (l.kept s c q e)))
      (λ f.
      let r : has_row x s ≡ false = ap (λ b. b || map.contains_key x.written s) f ∙ e in
      let cl = closed_only (has_row x s) (map.contains_key x.closed (n.object s)) u r in
      h.listed s cl r ∙ sym (l.absent s cl r)))

  -- ---- a world with more marks asks more

  meets_first : (x : World n) (s : K) (c : Option V) (m : FinMap n.cmp V) → is_touched x s ≡ false → Meets (record x { first = map.insert x.first s c }) m → Meets x m
  meets_first x s c m u h =
      let v = or_parts (has_row x s) (map.contains_key x.closed (n.object s)) u in
      let w = or_parts (map.contains_key x.first s) (map.contains_key x.written s) v.0 in
      record {
        read = λ t d e. by_bool (eq_by_cmp n.cmp t s)
            (λ q. absurd (true≢false (sym (ap is_some (ap (map.get x.first) (sym (key_is n.exact t s q)) ∙ e)) ∙ w.0)))
            (λ q. h.read t d (map.get-insert n.total x.first s c t ∙ ap (λ b. cond b (Some c) (map.get x.first t)) q ∙ e));
        listed = λ t cl r. by_bool (eq_by_cmp n.cmp t s)
            (λ q. absurd (true≢false (sym (ap (λ k. map.contains_key x.closed (n.object k)) (sym (key_is n.exact t s q)) ∙ cl) ∙ v.1)))
            (λ q. h.listed t cl (ap (λ b. b || map.contains_key x.written t) (contains_insert n.total x.first s c t ∙ ap (λ b. b || map.contains_key x.first t) q) ∙ r));
      }

  pub meets_one : (b : Bool) (x : World n) (s : K) (c : Option V) (m : FinMap n.cmp V) → is_touched x s ≡ b → Meets (cond b x (record x { first = map.insert x.first s c })) m → Meets x m
  meets_one true x s c m u h = h
  meets_one false x s c m u h = meets_first x s c m u h

  meets_read_by : (p b : Bool) (x : World n) (s : K) (m : FinMap n.cmp V) → is_touched x s ≡ b → Meets (cond (p && not b) (record x { first = map.insert x.first s (map.get x.copy s) }) x) m → Meets x m
  meets_read_by true true x s m u h = h
  meets_read_by true false x s m u h = meets_first x s (map.get x.copy s) m u h
  meets_read_by false b x s m u h = h

  meets_read : (x : World n) (s : K) (m : FinMap n.cmp V) → Meets (read_in s x) m → Meets x m
  meets_read x s m h = meets_read_by (is_some x.parent) (is_touched x s) x s m refl h

  meets_read_all : (ss : List K) (x : World n) (m : FinMap n.cmp V) → Meets (read_all ss x) m → Meets x m
  meets_read_all [] x m h = h
  meets_read_all (s ∷ ss) x m h = meets_read x s m (meets_read_all ss (read_in s x) m h)

  pub meets_closed : (x : World n) (o : ObjId) (m : FinMap n.cmp V) → Meets (record x { closed = map.insert x.closed o tt }) m → Meets x m
  meets_closed x o m h = record {
    read = h.read;
    listed = λ t cl r. h.listed t (contains_insert obj_total x.closed o tt (n.object t) ∙ or_right (eq_by_cmp obj_cmp (n.object t) o) (map.contains_key x.closed (n.object t)) cl) r;
  }

  meets_close : (x : World n) (o : ObjId) (m : FinMap n.cmp V) → Meets (close_in o x) m → Meets x m
  meets_close x o m h = by (is_some x.parent) h
    where
      by : (b : Bool) → Meets (cond b (record x { closed = map.insert x.closed o tt }) x) m → Meets x m
      by true h = meets_closed x o m h
      by false h = h

  -- what was written had been read where its object was listed
  meets_write_by : (q : Bool) (x : World n) (s : K) (c : Option V) (m : FinMap n.cmp V) → (not (has_row x s) && (map.contains_key x.closed (n.object s) || x.strict)) ≡ q → Local x → Meets (record x { copy = put x.copy s c; first = cond q (map.insert x.first s (map.get x.copy s)) x.first; written = map.insert x.written s tt }) m → Meets x m
  meets_write_by true x s c m q l h =
      let fresh_row : has_row x s ≡ false = no_row (has_row x s) (map.contains_key x.closed (n.object s) || x.strict) q in
      let w = or_parts (map.contains_key x.first s) (map.contains_key x.written s) fresh_row in
      record {
        read = λ t d e. by_bool (eq_by_cmp n.cmp t s)
            (λ k. absurd (true≢false (sym (ap is_some (ap (map.get x.first) (sym (key_is n.exact t s k)) ∙ e)) ∙ w.0)))
            (λ k. h.read t d (map.get-insert n.total x.first s (map.get x.copy s) t ∙ ap (λ b. cond b (Some (map.get x.copy s)) (map.get x.first t)) k ∙ e));
        listed = λ t cl r. by_bool (eq_by_cmp n.cmp t s)
            (λ k. h.read t (map.get x.copy s) (map.get-insert n.total x.first s (map.get x.copy s) t ∙ ap (λ b. cond b (Some (map.get x.copy s)) (map.get x.first t)) k) ∙ ap (map.get x.copy) (sym (key_is n.exact t s k)) ∙ l.absent t cl r)
            (λ k. h.listed t cl (ap (λ b. b || map.contains_key (map.insert x.written s tt) t) (contains_insert n.total x.first s (map.get x.copy s) t ∙ ap (λ b. b || map.contains_key x.first t) k) ∙ ap (λ b. map.contains_key x.first t || b) (contains_insert n.total x.written s tt t ∙ ap (λ b. b || map.contains_key x.written t) k) ∙ r));
      }
    where
      no_row : (a b : Bool) → (not a && b) ≡ true → a ≡ false
      no_row true b q = absurd (false≢true q)
      no_row false b q = refl
  meets_write_by false x s c m q l h = record {
    read = h.read;
    listed = λ t cl r. by_bool (eq_by_cmp n.cmp t s)
        (λ k.
        let is = key_is n.exact t s k in
        absurd (true≢false (sym (recorded (has_row x s) (map.contains_key x.closed (n.object s)) x.strict (ap (has_row x) (sym is) ∙ r) (ap (λ v. map.contains_key x.closed (n.object v)) (sym is) ∙ cl)) ∙ q)))
        (λ k. h.listed t cl (ap (λ b. map.contains_key x.first t || b) (contains_insert n.total x.written s tt t ∙ ap (λ b. b || map.contains_key x.written t) k) ∙ r));
  }
    where
      recorded : (a b c : Bool) → a ≡ false → b ≡ true → (not a && (b || c)) ≡ true
      recorded true b c e f = absurd (true≢false e)
      recorded false true c e f = refl
      recorded false false c e f = absurd (false≢true f)

  pub meets_write : (x : World n) (s : K) (c : Option V) (m : FinMap n.cmp V) → is_some x.parent ≡ true → Local x → Meets (write_in s c x) m → Meets x m
  meets_write x s c m p l h = by (is_some x.parent) p h
    where
      by : (b : Bool) → b ≡ true → Meets (record x { copy = put x.copy s c; first = cond (b && (not (has_row x s) && (map.contains_key x.closed (n.object s) || x.strict))) (map.insert x.first s (map.get x.copy s)) x.first; written = cond b (map.insert x.written s tt) x.written }) m → Meets x m
      by true e h = meets_write_by (not (has_row x s) && (map.contains_key x.closed (n.object s) || x.strict)) x s c m refl l h
      by false e h = absurd (false≢true e)

  -- ---- a history that stays

  -- y asks more than x, and holds the same where x has written
  pub record Further (x y : World n) : Type 0 where
    pub parent : y.parent ≡ x.parent
    pub written : y.written ≡ x.written
    pub asks : (m : FinMap n.cmp V) → Meets y m → Meets x m
    pub own : (t : K) → map.contains_key x.written t ≡ true → map.get y.copy t ≡ map.get x.copy t
    pub root : x.parent ≡ None → y.copy ≡ x.copy

  pub further_same : (x : World n) → Further x x
  further_same x = record { parent = refl; written = refl; asks = λ m h. h; own = λ t e. refl; root = λ e. refl }

  pub further_then : (x y z : World n) → Further x y → Further y z → Further x z
  further_then x y z f g = record {
    parent = g.parent ∙ f.parent;
    written = g.written ∙ f.written;
    asks = λ m h. f.asks m (g.asks m h);
    own = λ t e. g.own t (ap (λ w. map.contains_key w t) f.written ∙ e) ∙ f.own t e;
    root = λ e. g.root (f.parent ∙ e) ∙ f.root e;
  }

  pub holds_further : (x y : World n) (l : List Entry) → Further x y → Holds x l → Holds y l
  holds_further x y l f h = record {
    root = λ e. let r = h.root (sym f.parent ∙ e) in (r.0, r.1 ∙ sym (f.root (sym f.parent ∙ e)));
    child = λ p m q.
        let r = h.child (ap is_some (sym f.parent) ∙ p) m (f.asks m q) in (
          r.0,
          λ t. r.1 t ∙ by_bool (map.contains_key x.written t)
              (λ e. ap (λ b. cond b (map.get x.copy t) (map.get m t)) e ∙ sym (f.own t e) ∙ sym (ap (λ w. cond (map.contains_key w t) (map.get y.copy t) (map.get m t)) f.written ∙ ap (λ b. cond b (map.get y.copy t) (map.get m t)) e))
              (λ e. ap (λ b. cond b (map.get x.copy t) (map.get m t)) e ∙ sym (ap (λ w. cond (map.contains_key w t) (map.get y.copy t) (map.get m t)) f.written ∙ ap (λ b. cond b (map.get y.copy t) (map.get m t)) e)),
        );
  }

  -- more marks and the same contents
  further_marks : (x y : World n) → MarksOf x y → y.written ≡ x.written → ((m : FinMap n.cmp V) → Meets y m → Meets x m) → Further x y
  further_marks x y m w asks = record { parent = m.parent; written = w; asks = asks; own = λ t e. ap (λ c. map.get c t) m.copy; root = λ e. m.copy }

  read_written : (s : K) (x : World n) → (read_in s x).written ≡ x.written
  read_written s x = by_one (is_some x.parent && not (is_touched x s)) (λ (v : World n). v.written ≡ x.written) refl refl

  read_all_written : (ss : List K) (x : World n) → (read_all ss x).written ≡ x.written
  read_all_written [] x = refl
  read_all_written (s ∷ ss) x = read_all_written ss (read_in s x) ∙ read_written s x

  further_read : (s : K) (x : World n) → Further x (read_in s x)
  further_read s x = further_marks x (read_in s x) (marks_read s x) (read_written s x) (λ m h. meets_read x s m h)

  further_list : (o : ObjId) (x : World n) → Further x (list_in o x)
  further_list o x =
      let y = read_all (slots_in o x) x in
      further_marks x (list_in o x) (marks_list o x) (by_one (is_some y.parent) (λ (v : World n). v.written ≡ y.written) refl refl ∙ read_all_written (slots_in o x) x) (λ m h. meets_read_all (slots_in o x) x m (meets_close y o m h))

  -- ---- an action that looks

  -- x becomes y, which has touched each slot of Q, and the answer is that of every map that has x's contents there
  holds_look : (x y : World n) (l : List Entry) (a : Act K V) (r : A) (Q : K → Type 0) → MarksOf x y → Further x y → Local x → ((m : FinMap n.cmp V) → plain_after n m a ≡ m) → ((t : K) → Q t → is_some x.parent ≡ true → is_touched y t ≡ true) → ((m : FinMap n.cmp V) → ((t : K) → Q t → map.get m t ≡ map.get x.copy t) → option_map shown (plain_reply n m a) ≡ Some r) → Holds x l → Holds y (l ++ (a, r) ∷ [])
  holds_look x y l a r Q k f local same touched answer h = record {
    root = λ e.
        let b = h.root (sym f.parent ∙ e) in (
          Answered-append l ((a, r) ∷ []) map.empty b.0 (answer (ends l map.empty) (λ t q. ap (λ c. map.get c t) b.1), tt),
          ends-append l ((a, r) ∷ []) map.empty ∙ same (ends l map.empty) ∙ b.1 ∙ sym k.copy,
        );
    child = λ p m q.
        let up = ap is_some (sym f.parent) ∙ p in
        let b = (holds_further x y l f h).child p m q in (
          Answered-append l ((a, r) ∷ []) m b.0 (answer (ends l m) (λ t z. b.1 t ∙ seen y m t (k.local local) q (touched t z up) ∙ ap (λ c. map.get c t) k.copy), tt),
          λ t. ap (λ c. map.get c t) (ends-append l ((a, r) ∷ []) m ∙ same (ends l m)) ∙ b.1 t,
        );
  }

  pub holds_read : (x : World n) (l : List Entry) (w : WorldId) (s : K) → Local x → Holds x l → Holds (read_in s x) (l ++ (read w s, shown (found (map.get x.copy s))) ∷ [])
  holds_read x l w s local h = holds_look x (read_in s x) l (read w s) (shown (found (map.get x.copy s))) (λ t. t ≡ s) (marks_read s x) (further_read s x) local (λ m. refl)
      (λ t e p. ap (is_touched (read_in s x)) e ∙ touched_read x s p)
      (λ m f. ap (λ c. Some (shown (found c))) (f s refl))
      h

  read_all_parent : (ss : List K) (x : World n) → (read_all ss x).parent ≡ x.parent
  read_all_parent [] x = refl
  read_all_parent (s ∷ ss) x = read_all_parent ss (read_in s x) ∙ (marks_read s x).parent

  touched_close : (o : ObjId) (y : World n) (t : K) → same_object (n.object t) o ≡ true → is_some y.parent ≡ true → is_touched (close_in o y) t ≡ true
  touched_close o y t e p = by (is_some y.parent) p
    where
      by : (b : Bool) → b ≡ true → is_touched (cond b (record y { closed = map.insert y.closed o tt }) y) t ≡ true
      by true q = or_right (has_row y t) (map.contains_key (map.insert y.closed o tt) (n.object t))
          (contains_insert obj_total y.closed o tt (n.object t)
          ∙ or_left (eq_by_cmp obj_cmp (n.object t) o) (map.contains_key y.closed (n.object t)) (ap (λ z. is_eq (obj_cmp z o)) ((object_Decides (n.object t) o).0 e) ∙ ap is_eq (tied_itself obj_total o)))
      by false q = absurd (false≢true q)

  -- an object that was listed is touched at each of its slots
  touched_list : (o : ObjId) (x : World n) (t : K) → same_object (n.object t) o ≡ true → is_some x.parent ≡ true → is_touched (list_in o x) t ≡ true
  touched_list o x t e p = touched_close o (read_all (slots_in o x) x) t e (ap is_some (read_all_parent (slots_in o x) x) ∙ p)

  pub holds_list : (x : World n) (l : List Entry) (w : WorldId) (o : ObjId) → Local x → Holds x l → Holds (list_in o x) (l ++ (list w o, shown (listed (slots_in o x))) ∷ [])
  holds_list x l w o local h = holds_look x (list_in o x) l (list w o) (shown (listed (slots_in o x))) (λ t. same_object (n.object t) o ≡ true) (marks_list o x) (further_list o x) local (λ m. refl)
      (λ t e p. touched_list o x t e p)
      (λ m f. ap (λ ss. Some (shown (listed ss))) (same_listed n.total n.exact (λ s. same_object (n.object s) o) m x.copy (λ t e. ap is_some (f t e))))
      h

  -- ---- a write

  pub holds_write : (x : World n) (l : List Entry) (w : WorldId) (s : K) (c : Option V) → Local x → Holds x l → Holds (write_in s c x) (l ++ (write w s c, shown wrote) ∷ [])
  holds_write x l w s c local h = record {
    root = λ e.
        let b = h.root e in (
          Answered-append l ((write w s c, shown wrote) ∷ []) map.empty b.0 (refl, tt),
          ends-append l ((write w s c, shown wrote) ∷ []) map.empty ∙ ap (λ m. put m s c) b.1,
        );
    child = λ p m q.
        let b = h.child p m (meets_write x s c m p local q) in (
          Answered-append l ((write w s c, shown wrote) ∷ []) m b.0 (refl, tt),
          λ t.
              ap (λ k. map.get k t) (ends-append l ((write w s c, shown wrote) ∷ []) m)
              ∙ get_put n.total (ends l m) s c t
              ∙ ap (cond (eq_by_cmp n.cmp t s) c) (b.1 t)
              ∙ by (eq_by_cmp n.cmp t s) (map.contains_key x.written t) (map.get x.copy t) (map.get m t)
              ∙ sym (ap (λ k. cond k (map.get (put x.copy s c) t) (map.get m t)) (ap (λ a. map.contains_key (cond a (map.insert x.written s tt) x.written) t) p ∙ contains_insert n.total x.written s tt t) ∙ ap (λ k. cond (eq_by_cmp n.cmp t s || map.contains_key x.written t) k (map.get m t)) (get_put n.total x.copy s c t)),
        );
  }
    where
      by : (e b : Bool) (u v : Option V) → cond e c (cond b u v) ≡ cond (e || b) (cond e c u) v
      by true b u v = refl
      by false b u v = refl

  -- a write above at a slot that is untouched here
  pub further_below : (x : World n) (s : K) (c : Option V) → is_some x.parent ≡ true → is_touched x s ≡ false → Further x (record x { copy = put x.copy s c })
  further_below x s c p u = record {
    parent = refl;
    written = refl;
    asks = λ m h. record { read = h.read; listed = h.listed };
    own = λ t e. get_put n.total x.copy s c t ∙ by_bool (eq_by_cmp n.cmp t s)
        (λ q. absurd (true≢false (sym (ap (map.contains_key x.written) (sym (key_is n.exact t s q)) ∙ e) ∙ (or_parts (map.contains_key x.first s) (map.contains_key x.written s) (or_parts (has_row x s) (map.contains_key x.closed (n.object s)) u).0).1)))
        (λ q. ap (λ b. cond b c (map.get x.copy t)) q);
    root = λ e. absurd (none_some x.parent p e);
  }

  -- ---- a world without marks

  pub holds_nothing : (x : World n) → is_some x.parent ≡ true → ((t : K) → map.contains_key x.written t ≡ false) → Holds x []
  holds_nothing x p h = record {
    root = λ e. absurd (none_some x.parent p e);
    child = λ q m k. (tt, λ t. sym (ap (λ b. cond b (map.get x.copy t) (map.get m t)) (h t)));
  }
