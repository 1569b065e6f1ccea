-- A write keeps a reached state.
use Rattle.std.proofs.Common.{◌≡◌, ℕ, Bool, true, false, cond, not, ◌&&◌, ◌||◌, ◌==◌, ◌+◌, ◌<◌, List, [], ◌∷◌, refl, ap, sym, ◌∙◌, subst, fold, map as each, Option, None, Some, is_some, arith}
use Rattle.std.specs.Option.{option_map, option_map_or, option_and_then, is_none}
use Rattle.std.specs.Ordering.{eq_by_cmp}
use Rattle.std.specs.declared.cmp.Ordering.{Ordering}
use Rattle.std.specs.Cmp.{IsTotalOrder}
use Rattle.std.specs.FinMap as map
use Rattle.std.specs.FinMap.{FinMap}
use Rattle.std.proofs.lemmas.Bool.{and_parts, true≢false, false≢true, eqb-true, eq-eqb, and_from, not-true, or_parts, false_from_ne_true}
use Rattle.wjs_base.specs.declared.ids.WorldId.{WorldId}
use Rattle.wjs_base.specs.declared.ids.ObjId.{ObjId}
use Rattle.wjs_base.specs.Order.{obj_cmp}
use Rattle.wjs_base.proofs.Options.{none_of}
use Rattle.wjs_base.proofs.Booleans.{by_bool}
use Rattle.wjs_store.specs.Naming.{Naming}
use Rattle.wjs_store.specs.State.{World, State, same_world, find_world, has_world, content_at, count_of, put, is_below, is_touched, has_row, write_in, write_at, after_write, child_of, next_id, after_sprout, write_all, at_world, hand_entries, hand_objects, clear_marks, moves, reads_of, settle, fault_in, with_parent, after_commit}
use Rattle.wjs_store.specs.Reached.{IsReached}
use Rattle.wjs_store.proofs.States.{find_each, has_each, count_each, length_each}
use Rattle.wjs_store.proofs.Marks.{Local, local_of, contains_insert, key_is, none_some}

-- ---- numbers of worlds

pub world_is : (a b : WorldId) → same_world a b ≡ true → a ≡ b
world_is a b h =
    let p = and_parts (a.owner == b.owner) (a.serial == b.serial) h in
    let e = eqb-true a.owner b.owner p.0 in
    let f = eqb-true a.serial b.serial p.1 in
    λ i. record { owner = e i; serial = f i }

some_if : {A : Type 0} (b : Bool) (x : A) (o : Option A) → is_some (cond b (Some x) o) ≡ cond b true (is_some o)
some_if true x o = refl
some_if false x o = refl

pub get_put : {K V : Type 0} {R : K → K → Ordering} (total : IsTotalOrder R) (m : FinMap R V) (s : K) (c : Option V) (t : K) → map.get (put m s c) t ≡ cond (eq_by_cmp R t s) c (map.get m t)
get_put total m s None t = map.get-remove total m s t
get_put total m s (Some v) t = map.get-insert total m s v t

-- a map of length 0 has nothing
pub get_none : {K V : Type 0} {R : K → K → Ordering} (m : FinMap R V) (t : K) → map.len m ≡ 0 → map.get m t ≡ None
get_none {R = R} m t e = ap (λ k. map.get k t) (map.empty_of_len m e) ∙ map.get-empty R t

pub same_self : (i : WorldId) → same_world i i ≡ true
same_self i = and_from (i.owner == i.owner) (i.serial == i.serial) (eq-eqb i.owner i.owner refl) (eq-eqb i.serial i.serial refl)

true_if : (b c : Bool) → c ≡ true → cond b true c ≡ true
true_if true c h = refl
true_if false c h = h

no_hit : {A : Type 0} (a b e : Bool) (c x y : A) → e ≡ false → x ≡ y → cond (a && e) c x ≡ cond (b && e) c y
no_hit a b e c x y q h = ap (λ k. cond (a && k) c x) q ∙ left a c x ∙ h ∙ sym (left b c y) ∙ ap (λ k. cond (b && k) c y) (sym q)
  where
    left : {A : Type 0} (a : Bool) (c x : A) → cond (a && false) c x ≡ x
    left true c x = refl
    left false c x = refl

pub by_one : {A : Type 0} (a : Bool) (P : A → Type 0) {x y : A} → P x → P y → P (cond a x y)
by_one true P p q = p
by_one false P p q = q

pub by_two : {A : Type 0} (a b : Bool) (P : A → Type 0) {x y z : A} → P x → P y → P z → P (cond a x (cond b y z))
by_two true b P p q r = p
by_two false true P p q r = q
by_two false false P p q r = r

module _ {K V : Type 0} {n : Naming K V} where
  -- the world that is found has that number
  found_if : (b : Bool) (x : World n) (o : Option (World n)) (i : WorldId) (y : World n) → same_world x.id i ≡ b → cond b (Some x) o ≡ Some y → (o ≡ Some y → y.id ≡ i) → y.id ≡ i
  found_if true x o i y e h f = let same : x ≡ y = cc in ap (λ (z : World n). z.id) (sym same) ∙ world_is x.id i e
  found_if false x o i y e h f = f h

  pub found_id : (F : State n) (i : WorldId) (y : World n) → find_world F i ≡ Some y → y.id ≡ i
  unfolding find_world
  found_id [] i y h = cc
  found_id (x ∷ older) i y h = found_if (same_world x.id i) x (find_world older i) i y refl h (found_id older i y)

  found_step : (b : Bool) (x : World n) (older : State n) (i : WorldId) → same_world x.id i ≡ b → cond b true (has_world older i) ≡ true → x.id.serial ≡ count_of x.id.owner older → (has_world older i ≡ true → i.serial < count_of i.owner older) → i.serial < cond (x.id.owner == i.owner) 1 0 + count_of i.owner older
  found_step true x older i e h s f =
      let p = world_is x.id i e in
      let q : i.serial ≡ count_of i.owner older = subst (λ (j : WorldId). j.serial ≡ count_of j.owner older) p s in
      let r : (x.id.owner == i.owner) ≡ true = eq-eqb x.id.owner i.owner (ap (λ (j : WorldId). j.owner) p) in
      let t : cond {A = ℕ} (x.id.owner == i.owner) 1 0 ≡ 1 = ap (λ (b : Bool). cond {A = ℕ} b 1 0) r in
      omega arith
  found_step false x older i e h s f =
      let l : i.serial < count_of i.owner older = f h in
      omega arith

  -- serials are below the count of their owner's worlds
  pub serial_below : (F : State n) (i : WorldId) → IsReached F → has_world F i ≡ true → i.serial < count_of i.owner F
  unfolding find_world
  serial_below [] i h e = absurd (false≢true e)
  serial_below (x ∷ older) i h e = found_step (same_world x.id i) x older i refl (sym (some_if (same_world x.id i) x (find_world older i)) ∙ e) h.0.serial (serial_below older i h.1)

  -- the newest world is none of the older ones
  pub not_older : (x : World n) (older : State n) (i : WorldId) → IsReached (x ∷ older) → has_world older i ≡ true → same_world x.id i ≡ false
  not_older x older i h e = false_from_ne_true (same_world x.id i) (λ t.
      let p = world_is x.id i t in
      let l : i.serial < count_of i.owner older = serial_below older i h.1 e in
      let q : i.serial ≡ count_of i.owner older = subst (λ (j : WorldId). j.serial ≡ count_of j.owner older) p h.0.serial in
      omega arith)

  -- ---- contents

  module _ (F : State n) (w : WorldId) (s : K) (c : Option V) where
    -- the write reaches this world
    abbrev pub is_hit : WorldId → Bool
    is_hit i = same_world i w || is_below w s F i

    pub write_id : (x : World n) → (write_at F w s c x).id ≡ x.id
    write_id x = by_two (same_world x.id w) (is_below w s F x.id) (λ (y : World n). y.id ≡ x.id) refl refl refl

    pub write_parent : (x : World n) → (write_at F w s c x).parent ≡ x.parent
    write_parent x = by_two (same_world x.id w) (is_below w s F x.id) (λ (y : World n). y.parent ≡ x.parent) refl refl refl

    copy_cases : (a b : Bool) (x : World n) (t : K) → map.get (cond a (write_in s c x) (cond b (record x { copy = put x.copy s c }) x)).copy t ≡ cond ((a || b) && eq_by_cmp n.cmp t s) c (map.get x.copy t)
    copy_cases true b x t = get_put n.total x.copy s c t
    copy_cases false true x t = get_put n.total x.copy s c t
    copy_cases false false x t = refl

    pub write_copy : (x : World n) (t : K) → map.get (write_at F w s c x).copy t ≡ cond (is_hit x.id && eq_by_cmp n.cmp t s) c (map.get x.copy t)
    write_copy x t = copy_cases (same_world x.id w) (is_below w s F x.id) x t

    content_cases : (G : State n) (i : WorldId) (t : K) (o : Option (World n)) → find_world G i ≡ o → is_some o ≡ true → option_and_then (λ (y : World n). map.get y.copy t) (option_map (write_at F w s c) o) ≡ cond (is_hit i && eq_by_cmp n.cmp t s) c (option_and_then (λ (y : World n). map.get y.copy t) o)
    content_cases G i t None e h = absurd (false≢true h)
    content_cases G i t (Some y) e h = write_copy y t ∙ ap (λ j. cond (is_hit j && eq_by_cmp n.cmp t s) c (map.get y.copy t)) (found_id G i y e)

    pub write_content : (G : State n) (i : WorldId) (t : K) → has_world G i ≡ true → content_at (each (write_at F w s c) G) i t ≡ cond (is_hit i && eq_by_cmp n.cmp t s) c (content_at G i t)
    write_content G i t h = ap (option_and_then (λ (y : World n). map.get y.copy t)) (find_each (write_at F w s c) write_id G i) ∙ content_cases G i t (find_world G i) refl h

  -- ---- the world itself

  module _ (s : K) (c : Option V) (x : World n) where
    -- what is untouched after a write in a world with a parent
    after_touch : (q : Bool) (t : K) → ((map.contains_key (cond q (map.insert x.first s (map.get x.copy s)) x.first) t || map.contains_key (map.insert x.written s tt) t) || map.contains_key x.closed (n.object t)) ≡ false → (has_row x t ≡ false) × (eq_by_cmp n.cmp t s ≡ false) × (map.contains_key x.closed (n.object t) ≡ false)
    after_touch q t h =
        let a = or_parts _ _ h in
        let b = or_parts _ _ a.0 in
        let d = or_parts (eq_by_cmp n.cmp t s) (map.contains_key x.written t) (sym (contains_insert n.total x.written s tt t) ∙ b.1) in
        let f : map.contains_key x.first t ≡ false = first_part q t b.0 in
        (ap (λ k. k || map.contains_key x.written t) f ∙ d.1, d.0, a.1)
      where
        first_part : (q : Bool) (t : K) → map.contains_key (cond q (map.insert x.first s (map.get x.copy s)) x.first) t ≡ false → map.contains_key x.first t ≡ false
        first_part true t h = (or_parts (eq_by_cmp n.cmp t s) (map.contains_key x.first t) (sym (contains_insert n.total x.first s (map.get x.copy s) t) ∙ h)).1
        first_part false t h = h

    other_first : (q : Bool) (t : K) → eq_by_cmp n.cmp t s ≡ false → map.get (cond q (map.insert x.first s (map.get x.copy s)) x.first) t ≡ map.get x.first t
    other_first true t e = map.get-insert n.total x.first s (map.get x.copy s) t ∙ ap (λ b. cond b (Some (map.get x.copy s)) (map.get x.first t)) e
    other_first false t e = refl

    other_copy : (t : K) → eq_by_cmp n.cmp t s ≡ false → map.get (put x.copy s c) t ≡ map.get x.copy t
    other_copy t e = get_put n.total x.copy s c t ∙ ap (λ b. cond b c (map.get x.copy t)) e

    -- by whether it has a parent
    write_by : Bool → World n
    write_by p = record x {
      copy = put x.copy s c;
      first = cond (p && (not (has_row x s) && (map.contains_key x.closed (n.object s) || x.strict))) (map.insert x.first s (map.get x.copy s)) x.first;
      written = cond p (map.insert x.written s tt) x.written;
    }

    local_by : (p : Bool) → is_some x.parent ≡ p → Local x → Local (write_by p)
    unfolding write_by
    local_by true e l =
        let q = not (has_row x s) && (map.contains_key x.closed (n.object s) || x.strict) in
        record {
          kept = λ t d h w.
              let v = or_parts (eq_by_cmp n.cmp t s) (map.contains_key x.written t) (sym (contains_insert n.total x.written s tt t) ∙ w) in
              other_copy t v.0 ∙ l.kept t d (sym (other_first q t v.0) ∙ h) v.1;
          absent = λ t cl r.
              let v = after_row q t r in
              other_copy t v.1 ∙ l.absent t cl v.0;
          no_first = λ z. absurd (none_some x.parent e z);
          no_written = λ z. absurd (none_some x.parent e z);
          no_closed = λ z. absurd (none_some x.parent e z);
        }
      where
        after_row : (q : Bool) (t : K) → (map.contains_key (cond q (map.insert x.first s (map.get x.copy s)) x.first) t || map.contains_key (map.insert x.written s tt) t) ≡ false → (has_row x t ≡ false) × (eq_by_cmp n.cmp t s ≡ false)
        after_row q t h =
            let b = or_parts _ _ h in
            let d = or_parts (eq_by_cmp n.cmp t s) (map.contains_key x.written t) (sym (contains_insert n.total x.written s tt t) ∙ b.1) in
            (ap (λ k. k || map.contains_key x.written t) (part q t d.0 b.0) ∙ d.1, d.0)
          where
            part : (q : Bool) (t : K) → eq_by_cmp n.cmp t s ≡ false → map.contains_key (cond q (map.insert x.first s (map.get x.copy s)) x.first) t ≡ false → map.contains_key x.first t ≡ false
            part q t e h = ap is_some (sym (other_first q t e)) ∙ h
    local_by false e l =
        let none = none_of x.parent e in
        record {
          kept = λ t d h w. absurd (none_some (map.get x.first t) (ap is_some h) (get_none x.first t (l.no_first none)));
          absent = λ t cl r. absurd (none_some (map.get x.closed (n.object t)) cl (get_none x.closed (n.object t) (l.no_closed none)));
          no_first = l.no_first;
          no_written = l.no_written;
          no_closed = l.no_closed;
        }

    pub local_write : Local x → Local (write_in s c x)
    unfolding write_by
    local_write l = local_by (is_some x.parent) refl l

    local_below : is_touched x s ≡ false → Local x → Local (record x { copy = put x.copy s c })
    local_below u l =
        let v = or_parts (has_row x s) (map.contains_key x.closed (n.object s)) u in
        let r = or_parts (map.contains_key x.first s) (map.contains_key x.written s) v.0 in
        record {
          kept = λ t d h w. by_bool (eq_by_cmp n.cmp t s)
              (λ e. absurd (true≢false (sym (ap is_some (ap (map.get x.first) (sym (key_is n.exact t s e)) ∙ h)) ∙ r.0)))
              (λ e. other_copy t e ∙ l.kept t d h w);
          absent = λ t cl q. by_bool (eq_by_cmp n.cmp t s)
              (λ e. absurd (true≢false (sym (ap (λ k. map.contains_key x.closed (n.object k)) (sym (key_is n.exact t s e)) ∙ cl) ∙ v.1)))
              (λ e. other_copy t e ∙ l.absent t cl q);
          no_first = l.no_first;
          no_written = l.no_written;
          no_closed = l.no_closed;
        }

    local_at : (a b : Bool) → (b ≡ true → is_touched x s ≡ false) → Local x → Local (cond a (write_in s c x) (cond b (record x { copy = put x.copy s c }) x))
    unfolding write_by
    local_at true b f l = local_by (is_some x.parent) refl l
    local_at false true f l = local_below (f refl) l
    local_at false false f l = l

    touch_by : (p : Bool) (t : K) → p ≡ true → is_touched (write_by p) t ≡ false → (is_touched x t ≡ false) × (eq_by_cmp n.cmp t s ≡ false)
    unfolding write_by
    touch_by true t p u =
        let v = after_touch (not (has_row x s) && (map.contains_key x.closed (n.object s) || x.strict)) t u in
        (ap (λ b. b || map.contains_key x.closed (n.object t)) v.0 ∙ v.2, v.1)
    touch_by false t p u = absurd (false≢true p)

    touch_at : (a b : Bool) (t : K) → is_some x.parent ≡ true → is_touched (cond a (write_in s c x) (cond b (record x { copy = put x.copy s c }) x)) t ≡ false → (is_touched x t ≡ false) × (a ≡ true → eq_by_cmp n.cmp t s ≡ false)
    unfolding write_by
    touch_at true b t p u = let v = touch_by (is_some x.parent) t p u in (v.0, λ e. v.1)
    touch_at false true t p u = (u, λ e. absurd (false≢true e))
    touch_at false false t p u = (u, λ e. absurd (false≢true e))

  -- ---- every world

  pub has_head : (x : World n) (older : State n) → has_world (x ∷ older) x.id ≡ true
  unfolding find_world
  has_head x older = ap (λ b. is_some (cond b (Some x) (find_world older x.id))) (same_self x.id)

  pub has_tail : (x : World n) (older : State n) (i : WorldId) → has_world older i ≡ true → has_world (x ∷ older) i ≡ true
  unfolding find_world
  has_tail x older i h = some_if (same_world x.id i) x (find_world older i) ∙ true_if (same_world x.id i) (has_world older i) h

  module _ (w : WorldId) (s : K) where
    pub below_newest : (x : World n) (older : State n) → is_below w s (x ∷ older) x.id ≡ (not (is_touched x s) && option_map_or (λ p. same_world p w || is_below w s older p) x.parent false)
    unfolding is_below
    below_newest x older = ap (λ b. cond b (not (is_touched x s) && option_map_or (λ p. same_world p w || is_below w s older p) x.parent false) (is_below w s older x.id)) (same_self x.id)

    pub below_older : (x : World n) (older : State n) (d : WorldId) → same_world x.id d ≡ false → is_below w s (x ∷ older) d ≡ is_below w s older d
    unfolding is_below
    below_older x older d e = ap (λ b. cond b (not (is_touched x s) && option_map_or (λ p. same_world p w || is_below w s older p) x.parent false) (is_below w s older d)) e

  module _ (F : State n) (w : WorldId) (s : K) (c : Option V) where
    Agrees : State n → Type 0
    Agrees G = (d : WorldId) → has_world G d ≡ true → is_below w s F d ≡ is_below w s G d

    agree_tail : (x : World n) (older : State n) → IsReached (x ∷ older) → Agrees (x ∷ older) → Agrees older
    unfolding Agrees
    agree_tail x older h a d e = a d (has_tail x older d e) ∙ below_older w s x older d (not_older x older d h e)

    reached_write_on : (G : State n) → Agrees G → IsReached G → IsReached (each (write_at F w s c) G)
    unfolding Agrees
    reached_write_on [] a h = tt
    reached_write_on (x ∷ older) a h =
        let f = h.0 in
        let tail = agree_tail x older h a in
        let below = a x.id (has_head x older) ∙ below_newest w s x older in
        let free = λ (e : is_below w s F x.id ≡ true). not-true (is_touched x s) (and_parts (not (is_touched x s)) (option_map_or (λ p. same_world p w || is_below w s older p) x.parent false) (sym below ∙ e)).0 in
        let l : Local (write_at F w s c x) = local_at s c x (same_world x.id w) (is_below w s F x.id) free (local_of x older f) in (
          record {
            serial = ap (λ (j : WorldId). j.serial) (write_id F w s c x) ∙ f.serial ∙ ap (λ (j : WorldId). count_of j.owner older) (sym (write_id F w s c x)) ∙ sym (count_each (write_at F w s c) (write_id F w s c) (write_at F w s c x).id.owner older);
            parent_older = λ p e. has_each (write_at F w s c) (write_id F w s c) older p ∙ f.parent_older p (sym (write_parent F w s c x) ∙ e);
            alone = λ e. length_each (write_at F w s c) (write_id F w s c) older ∙ f.alone (sym (write_parent F w s c x) ∙ e);
            inherits = λ p t e u.
                let up : x.parent ≡ Some p = sym (write_parent F w s c x) ∙ e in
                let there = f.parent_older p up in
                let v = touch_at s c x (same_world x.id w) (is_below w s F x.id) t (ap is_some up) u in
                write_copy F w s c x t
                ∙ by_bool (eq_by_cmp n.cmp t s)
                (λ q.
                let apart : same_world x.id w ≡ false = by_bool (same_world x.id w) (λ z. absurd (true≢false (sym q ∙ v.1 z))) (λ z. z) in
                let open_s : is_touched x s ≡ false = ap (is_touched x) (sym (key_is n.exact t s q)) ∙ v.0 in
                let hits : is_hit F w s c x.id ≡ is_hit F w s c p =
                ap (λ b. b || is_below w s F x.id) apart ∙ below ∙ ap (λ b. not b && option_map_or (λ p. same_world p w || is_below w s older p) x.parent false) open_s ∙ ap (λ o. option_map_or (λ p. same_world p w || is_below w s older p) o false) up ∙ ap (λ b. same_world p w || b) (sym (tail p there)) in
                ap (λ b. cond (b && eq_by_cmp n.cmp t s) c (map.get x.copy t)) hits ∙ ap (cond (is_hit F w s c p && eq_by_cmp n.cmp t s) c) (f.inherits p t up v.0))
                (λ q. no_hit (is_hit F w s c x.id) (is_hit F w s c p) (eq_by_cmp n.cmp t s) c (map.get x.copy t) (content_at older p t) q (f.inherits p t up v.0))
                ∙ sym (write_content F w s c older p t there);
            kept = l.kept;
            absent = l.absent;
            no_first = l.no_first;
            no_written = l.no_written;
            no_closed = l.no_closed;
          },
          reached_write_on older tail h.1,
        )

  pub reached_write : (F : State n) (w : WorldId) (s : K) (c : Option V) → IsReached F → IsReached (after_write F w s c)
  unfolding after_write Agrees
  reached_write F w s c h = reached_write_on F w s c F (λ d e. refl) h

  -- ---- sprout

  sprout_by : (F : State n) (w : WorldId) (owner : ℕ) (strict : Bool) (o : Option (World n)) → find_world F w ≡ o → IsReached F → IsReached (option_map_or (λ (x : World n). child_of x (next_id F owner) strict ∷ F) o F)
  sprout_by F w owner strict None e h = h
  sprout_by F w owner strict (Some x) e h =
      let at : find_world F x.id ≡ Some x = ap (find_world F) (found_id F w x e) ∙ e in (
        record {
          serial = refl;
          parent_older = λ p q. let same : x.id ≡ p = cc in ap is_some (ap (find_world F) (sym same) ∙ at);
          alone = λ q. cc;
          inherits = λ p s q u. let same : x.id ≡ p = cc in sym (ap (option_and_then (λ (y : World n). map.get y.copy s)) (ap (find_world F) (sym same) ∙ at));
          kept = λ s c q u. absurd (none_some (map.get (map.empty {X = Option V} {R = n.cmp}) s) (ap is_some q) (map.get-empty n.cmp s));
          absent = λ s q u. absurd (none_some (map.get (map.empty {X = Unit {0}} {R = obj_cmp}) (n.object s)) q (map.get-empty obj_cmp (n.object s)));
          no_first = λ q. cc;
          no_written = λ q. cc;
          no_closed = λ q. cc;
        },
        h,
      )

  pub reached_sprout : (F : State n) (w : WorldId) (owner : ℕ) (strict : Bool) → IsReached F → IsReached (after_sprout F w owner strict)
  unfolding after_sprout
  reached_sprout F w owner strict h = sprout_by F w owner strict (find_world F w) refl h

  has_sprout : (F : State n) (w : WorldId) (owner : ℕ) (strict : Bool) (o : Option (World n)) (i : WorldId) → has_world F i ≡ true → has_world (option_map_or (λ (x : World n). child_of x (next_id F owner) strict ∷ F) o F) i ≡ true
  has_sprout F w owner strict None i h = h
  has_sprout F w owner strict (Some x) i h = has_tail (child_of x (next_id F owner) strict) F i h

  pub has_after_sprout : (F : State n) (w : WorldId) (owner : ℕ) (strict : Bool) (i : WorldId) → has_world F i ≡ true → has_world (after_sprout F w owner strict) i ≡ true
  unfolding after_sprout
  has_after_sprout F w owner strict i h = has_sprout F w owner strict (find_world F w) i h

  -- ---- worlds stay

  pub has_after_write : (F : State n) (w : WorldId) (s : K) (c : Option V) (i : WorldId) → has_world (after_write F w s c) i ≡ has_world F i
  unfolding after_write
  has_after_write F w s c i = has_each (write_at F w s c) (write_id F w s c) F i

  has_write_all : (p : WorldId) (es : List (K × Option V)) (F : State n) (i : WorldId) → has_world (write_all p es F) i ≡ has_world F i
  has_write_all p [] F i = refl
  has_write_all p (e ∷ es) F i = has_write_all p es (after_write F p e.0 e.1) i ∙ has_after_write F p e.0 e.1 i

  pub has_at : (j : WorldId) (f : World n → World n) → ((x : World n) → (f x).id ≡ x.id) → (F : State n) (i : WorldId) → has_world (at_world j f F) i ≡ has_world F i
  has_at j f ids F i = has_each (λ x. cond (same_world x.id j) (f x) x) (λ x. by_one (same_world x.id j) (λ (y : World n). y.id ≡ x.id) (ids x) refl) F i

  pub entries_id : (es : List (K × Option V)) (y x : World n) → y.id ≡ x.id → (fold (λ (z : World n) (e : K × Option V). cond (is_touched z e.0) z (record z { first = map.insert z.first e.0 e.1 })) y es).id ≡ x.id
  entries_id [] y x h = h
  entries_id (e ∷ es) y x h = entries_id es _ x (by_one (is_touched y e.0) (λ (z : World n). z.id ≡ x.id) h h)

  pub objects_id : (os : List ObjId) (y x : World n) → y.id ≡ x.id → (fold (λ (z : World n) o. record z { closed = map.insert z.closed o tt }) y os).id ≡ x.id
  objects_id [] y x h = h
  objects_id (o ∷ os) y x h = objects_id os (record y { closed = map.insert y.closed o tt }) x h

  pub has_settle : (x : World n) (p : WorldId) (F : State n) (i : WorldId) → has_world (settle x p F) i ≡ has_world F i
  has_settle x p F i =
      let reads = hand_entries (reads_of x) in
      let objects = hand_objects (map.keys x.closed) in
      has_at x.id clear_marks (λ y. refl) _ i
      ∙ has_at p objects (λ y. by_one (is_some y.parent) (λ (z : World n). z.id ≡ y.id) (objects_id (map.keys x.closed) y y refl) refl) _ i
      ∙ has_write_all p (moves x) _ i
      ∙ has_at p reads (λ y. by_one (is_some y.parent) (λ (z : World n). z.id ≡ y.id) (entries_id (reads_of x) y y refl) refl) F i

  has_commit : (F : State n) (o : Option (World n × World n)) (i : WorldId) → has_world F i ≡ true → has_world (option_map_or (λ (e : World n × World n). cond (is_none (fault_in e.0 e.1)) (settle e.0 e.1.id F) F) o F) i ≡ true
  has_commit F None i h = h
  has_commit F (Some e) i h = by_one (is_none (fault_in e.0 e.1)) (λ (G : State n). has_world G i ≡ true) (has_settle e.0 e.1.id F i ∙ h) h

  pub has_after_commit : (F : State n) (w : WorldId) (i : WorldId) → has_world F i ≡ true → has_world (after_commit F w) i ≡ true
  unfolding after_commit
  has_after_commit F w i h = has_commit F (with_parent F w) i h
