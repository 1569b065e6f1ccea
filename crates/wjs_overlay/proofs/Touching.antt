-- What worlds touch, and that bounds go on covering it.
use Rattle.std.proofs.Common.{◌≡◌, ℕ, ◌<◌, ◌≤◌, ◌+◌, Bool, true, false, cond, not, ◌&&◌, ◌||◌, List, [], ◌∷◌, length, map as each, Option, None, Some, is_some, refl, ap, sym, ◌∙◌, subst, arith}
use Rattle.std.specs.Option.{option_map_or, option_and_then}
use Rattle.std.specs.Ordering.{eq_by_cmp}
use Rattle.std.specs.List.{list_any}
use Rattle.std.specs.FinMap as map
use Rattle.std.specs.FinMap.{FinMap}
use Rattle.std.proofs.lemmas.Bool.{true≢false, false≢true, or_left, or_right}
use Rattle.std.proofs.lemmas.Option.{same_Some}
use Rattle.wjs_base.specs.declared.ids.ObjId.{ObjId}
use Rattle.wjs_base.specs.declared.ids.WorldId.{WorldId}
use Rattle.wjs_base.specs.declared.values.Slot.{Slot}
use Rattle.wjs_base.specs.declared.values.Value.{Value}
use Rattle.wjs_base.specs.Order.{obj_cmp, obj_total, obj_exact, slot_cmp, slot_total, slot_exact}
use Rattle.wjs_base.specs.Same.{object_Decides}
use Rattle.wjs_base.proofs.Booleans.{by_bool}
use Rattle.wjs_base.proofs.Options.{with_some, no_none}
use Rattle.wjs_store.specs.Naming.{plain}
use Rattle.wjs_store.specs.State.{World, State, find_world, same_world, same_object, content_at, has_row, is_touched, is_below, put, read_in, read_all, write_in, write_at, list_in, slots_in, child_of, next_id, after_read, after_write, after_list, after_sprout}
use Rattle.wjs_store.specs.Reached.{IsReached}
use Rattle.wjs_store.proofs.Commits.{find_nil}
use Rattle.wjs_store.proofs.Marks.{contains_insert, key_is, marks_read, marks_list, marks_at}
use Rattle.wjs_store.proofs.States.{find_each}
use Rattle.wjs_store.proofs.Writes.{by_one, found_id, world_is, write_id}
use Rattle.wjs_overlay.specs.declared.bounds.Bound.{Bound}
use Rattle.wjs_overlay.specs.Covers.{covers, Grows}
use Rattle.wjs_layers.specs.Sparse.{place_of, depth_of}
use Rattle.wjs_overlay.specs.Touched.{Covered}
use Rattle.wjs_layers.proofs.Changes.{mapped}
use Rattle.wjs_overlay.proofs.Covering.{covers_later, by_le}
use Rattle.wjs_layers.proofs.Looks.{depth_top, depth_rest, found_at}
use Rattle.wjs_layers.proofs.Places.{place_none, place_head, place_tail, place_older, place_below, place_one, place_each, place_find, find_top, find_rest, find_older}
use Rattle.wjs_layers.proofs.SproutLaws.{sprout_is}
use Rattle.wjs_overlay.proofs.Checks.{any_pass}

-- ---- marks at other slots and of other objects

other_key : {V : Type 0} (q : Bool) (m : FinMap slot_cmp V) (s t : Slot) (v : V) → eq_by_cmp slot_cmp t s ≡ false → map.contains_key (cond q (map.insert m s v) m) t ≡ map.contains_key m t
other_key true m s t v n = contains_insert slot_total m s v t ∙ ap (λ b. b || map.contains_key m t) n
other_key false m s t v n = refl

other_object : (a o : ObjId) → same_object a o ≡ false → eq_by_cmp obj_cmp a o ≡ false
other_object a o n = by_bool (eq_by_cmp obj_cmp a o)
    (λ e. absurd (true≢false (sym ((object_Decides a o).1 (key_is obj_exact a o e)) ∙ n)))
    (λ e. e)

read_other : (b : Bool) (x : World plain) (s t : Slot) → eq_by_cmp slot_cmp t s ≡ false → is_touched (cond b (record x { first = map.insert x.first s (map.get x.copy s) }) x) t ≡ is_touched x t
read_other true x s t n = ap (λ a. (a || map.contains_key x.written t) || map.contains_key x.closed t.object) (contains_insert slot_total x.first s (map.get x.copy s) t ∙ ap (λ b. b || map.contains_key x.first t) n)
read_other false x s t n = refl

write_other : (x : World plain) (s t : Slot) (c : Option Value) → eq_by_cmp slot_cmp t s ≡ false → is_touched (write_in s c x) t ≡ is_touched x t
write_other x s t c n =
    ap (λ a. (a || map.contains_key (write_in s c x).written t) || map.contains_key x.closed t.object) (other_key (is_some x.parent && (not (has_row x s) && (map.contains_key x.closed s.object || x.strict))) x.first s t (map.get x.copy s) n)
    ∙ ap (λ a. (map.contains_key x.first t || a) || map.contains_key x.closed t.object) (other_key (is_some x.parent) x.written s t tt n)

close_other : (b : Bool) (x : World plain) (o : ObjId) (t : Slot) → same_object t.object o ≡ false → is_touched (cond b (record x { closed = map.insert x.closed o tt }) x) t ≡ is_touched x t
close_other true x o t n = ap (λ a. has_row x t || a) (contains_insert obj_total x.closed o tt t.object ∙ ap (λ a. a || map.contains_key x.closed t.object) (other_object t.object o n))
close_other false x o t n = refl

reads_other : (ss : List Slot) (x : World plain) (o : ObjId) (t : Slot) → same_object t.object o ≡ false → ((k : Slot) → list_any (eq_by_cmp slot_cmp k) ss ≡ true → same_object k.object o ≡ true) → is_touched (read_all ss x) t ≡ is_touched x t
reads_other [] x o t n on = refl
reads_other (s ∷ ss) x o t n on =
    reads_other ss (read_in s x) o t n (λ k h. on k (or_right (eq_by_cmp slot_cmp k s) (list_any (eq_by_cmp slot_cmp k) ss) h))
    ∙ read_other (is_some x.parent && not (is_touched x s)) x s t (by_bool (eq_by_cmp slot_cmp t s)
    (λ e. absurd (true≢false (sym (on t (or_left (eq_by_cmp slot_cmp t s) (list_any (eq_by_cmp slot_cmp t) ss) e)) ∙ n)))
    (λ e. e))

-- ---- what is touched newly

touched_read : (s t : Slot) (x : World plain) → is_touched (read_in s x) t ≡ true → is_touched x t ≡ false → t ≡ s
touched_read s t x h k = by_bool (eq_by_cmp slot_cmp t s)
    (λ e. key_is slot_exact t s e)
    (λ n. absurd (true≢false (sym h ∙ read_other (is_some x.parent && not (is_touched x s)) x s t n ∙ k)))

touched_write : (s t : Slot) (c : Option Value) (x : World plain) → is_touched (write_in s c x) t ≡ true → is_touched x t ≡ false → t ≡ s
touched_write s t c x h k = by_bool (eq_by_cmp slot_cmp t s)
    (λ e. key_is slot_exact t s e)
    (λ n. absurd (true≢false (sym h ∙ write_other x s t c n ∙ k)))

touched_list : (o : ObjId) (t : Slot) (x : World plain) → is_touched (list_in o x) t ≡ true → is_touched x t ≡ false → t.object ≡ o
touched_list o t x h k = by_bool (same_object t.object o)
    (λ e. (object_Decides t.object o).0 e)
    (λ n. absurd (true≢false (sym h
    ∙ close_other (is_some (read_all (slots_in o x) x).parent) (read_all (slots_in o x) x) o t n
    ∙ reads_other (slots_in o x) x o t n (λ q g. any_pass (λ (s : Slot). same_object s.object o) (map.keys x.copy) q g)
    ∙ k)))

-- ---- bounds that cover a state

pub covered_more : (old new : List Bound) (F : State plain) → Grows old new → Covered old F → Covered new F
covered_more old new F grows h = λ w i x s p f l t. grows i s.object.serial (h w i x s p f l t)

module _ (old new : List Bound) (grows : Grows old new) (F : State plain) where
  -- each world may touch more, where that is covered
  pub covered_each : (g : World plain → World plain) → ((x : World plain) → (g x).id ≡ x.id) → ((v : WorldId) (i : ℕ) (x : World plain) (s : Slot) → place_of F v ≡ Some i → find_world F v ≡ Some x → 0 < i → is_touched (g x) s ≡ true → is_touched x s ≡ false → covers new i s.object.serial ≡ true) → Covered old F → Covered new (each g F)
  covered_each g ids more h = λ v i y s p f l t.
      let place : place_of F v ≡ Some i = sym (place_each g ids F v) ∙ p in
      let m = mapped g (find_world F v) y (sym (find_each g ids F v) ∙ f) in
      let now : is_touched (g m.0) s ≡ true = ap (λ (z : World plain). is_touched z s) m.2 ∙ t in
      by_bool (is_touched m.0 s)
      (λ e. grows i s.object.serial (h v i m.0 s place m.1 l e))
      (λ e. more v i m.0 s place m.1 l now e)

  module _ (w : WorldId) (n : ℕ) (here : place_of F w ≡ Some n) where
    -- the world at the place
    at_here : (v : WorldId) (i : ℕ) (x : World plain) → place_of F v ≡ Some i → find_world F v ≡ Some x → same_world x.id w ≡ true → n ≡ i
    at_here v i x p f e = same_Some n i (sym here ∙ ap (place_of F) (sym (world_is x.id w e)) ∙ ap (place_of F) (found_id F v x f) ∙ p)

    one_world : (f : World plain → World plain) → (serial : ℕ) → (0 < n → covers new n serial ≡ true) → ((x : World plain) (s : Slot) → is_touched (f x) s ≡ true → is_touched x s ≡ false → s.object.serial ≡ serial)
        → (v : WorldId) (i : ℕ) (x : World plain) (s : Slot) → place_of F v ≡ Some i → find_world F v ≡ Some x → 0 < i → is_touched (cond (same_world x.id w) (f x) x) s ≡ true → is_touched x s ≡ false → covers new i s.object.serial ≡ true
    one_world f serial reached new_is v i x s p fx l t k = by_bool (same_world x.id w)
        (λ e.
        let same : n ≡ i = at_here v i x p fx e in
        let up : 0 < n = omega arith in
        let is : s.object.serial ≡ serial = new_is x s (sym (ap (λ b. is_touched (cond b (f x) x) s) e) ∙ t) k in
        ap (λ m. covers new m s.object.serial) (sym same) ∙ ap (covers new n) is ∙ reached up)
        (λ e. absurd (true≢false (sym t ∙ ap (λ b. is_touched (cond b (f x) x) s) e ∙ k)))

    pub covered_read : (s : Slot) → (0 < n → covers new n s.object.serial ≡ true) → Covered old F → Covered new (after_read F w s)
    unfolding after_read
    covered_read s reached h = covered_each (λ x. cond (same_world x.id w) (read_in s x) x) (λ x. (marks_at w (read_in s) (marks_read s) x).id)
        (one_world (read_in s) s.object.serial reached (λ x t a b. ap (λ (q : Slot). q.object.serial) (touched_read s t x a b))) h

    pub covered_list : (o : ObjId) → (0 < n → covers new n o.serial ≡ true) → Covered old F → Covered new (after_list F w o)
    unfolding after_list
    covered_list o reached h = covered_each (λ x. cond (same_world x.id w) (list_in o x) x) (λ x. (marks_at w (list_in o) (marks_list o) x).id)
        (one_world (list_in o) o.serial reached (λ x t a b. ap (λ (q : ObjId). q.serial) (touched_list o t x a b))) h

    pub covered_write : (s : Slot) (c : Option Value) → (0 < n → covers new n s.object.serial ≡ true) → Covered old F → Covered new (after_write F w s c)
    unfolding after_write
    covered_write s c reached h = covered_each (write_at F w s c) (write_id F w s c)
        (λ v i x t p fx l now k. one_world (write_in s c) s.object.serial reached (λ z q a b. ap (λ (r : Slot). r.object.serial) (touched_write s q c z a b)) v i x t p fx l
        (by_bool {P = is_touched (cond (same_world x.id w) (write_in s c x) x) t ≡ true} (same_world x.id w)
        (λ e. ap (λ b. is_touched (cond b (write_in s c x) x) t) e ∙ sym (ap (λ b. is_touched (cond b (write_in s c x) (cond (is_below w s F x.id) (record x { copy = put x.copy s c }) x)) t) e) ∙ now)
        (λ e. absurd (true≢false (sym now ∙ ap (λ b. is_touched (cond b (write_in s c x) (cond (is_below w s F x.id) (record x { copy = put x.copy s c }) x)) t) e
        ∙ by_one (is_below w s F x.id) (λ (z : World plain). is_touched z t ≡ is_touched x t) refl refl ∙ k))))
        k) h

    -- a new world has touched nothing
    pub covered_sprout : (owner : ℕ) (strict : Bool) → Covered old F → Covered new (after_sprout F w owner strict)
    covered_sprout owner strict h =
        let x = found_at F w n here in
        let child = child_of x.0 (next_id F owner) strict in
        subst (Covered new) (sym (sprout_is F w owner strict x.0 x.1)) (λ v i y s p f l t. by_bool (same_world child.id v)
        (λ e.
        let is : child ≡ y = same_Some child y (sym (find_top child F v e) ∙ f) in
        absurd (true≢false (sym t ∙ ap (λ (z : World plain). is_touched z s) (sym is) ∙ bare (next_id F owner) x.0 strict s)))
        (λ e. grows i s.object.serial (h v i y s (sym (place_tail child F v e) ∙ p) (sym (find_rest child F v e) ∙ f) l t)))
      where
        bare : (id : WorldId) (x : World plain) (strict : Bool) (s : Slot) → is_touched (child_of x id strict) s ≡ false
        bare id x strict s =
            ap (λ o. (is_some o || map.contains_key (child_of x id strict).written s) || map.contains_key (child_of x id strict).closed s.object) (map.get-empty slot_cmp s)
            ∙ ap (λ o. is_some o || map.contains_key (child_of x id strict).closed s.object) (map.get-empty slot_cmp s)
            ∙ ap is_some (map.get-empty obj_cmp s.object)

-- ---- what is not covered is untouched up to the first world

-- what worlds before the newest have touched
older_covered : (bs : List Bound) (y : World plain) (older : State plain) → IsReached (y ∷ older) → Covered bs (y ∷ older) → Covered bs older
older_covered bs y older h k = λ w i x s p f l t. k w i x s (place_older y older w i h p) (find_older y older w i h p ∙ f) l t

first_older : (y : World plain) (older : State plain) (v : WorldId) → 0 < length older → place_of (y ∷ older) v ≡ Some 0 → same_world y.id v ≡ false
first_older y older v l p = by_bool (same_world y.id v)
    (λ e. let z : length older ≡ 0 = same_Some (length older) 0 (sym (place_head y older v e) ∙ p) in absurd (omega arith))
    (λ e. e)

-- the newest world, where the older ones hold what the first of them does
newest_past : (bs : List Bound) (y : World plain) (older : State plain) (v : WorldId) (q : Slot) (o : Option WorldId) → IsReached (y ∷ older) → y.parent ≡ o → 0 < length older → covers bs (length older) q.object.serial ≡ false → place_of older v ≡ Some 0 → is_touched y q ≡ false
    → ((a : WorldId) (j : ℕ) (z : World plain) → place_of older a ≡ Some j → find_world older a ≡ Some z → covers bs j q.object.serial ≡ false → map.get z.copy q ≡ content_at older v q)
    → map.get y.copy q ≡ content_at older v q
newest_past bs y older v q None h u l past pv bare rest = let none : length older ≡ 0 = h.0.alone u in absurd (omega arith)
newest_past bs y older v q (Some a) h u l past pv bare rest = with_some (place_of older a) (place_find older a ∙ h.0.parent_older a u) (λ j pj.
    let z = found_at older a j pj in
    let below : j ≤ length older = let b : j < length older = place_below older a j pj in omega arith in
    let past_a : covers bs j q.object.serial ≡ false = by_bool (covers bs j q.object.serial) (λ t. absurd (true≢false (sym (covers_later bs j (length older) q.object.serial below t) ∙ past))) (λ t. t) in
    h.0.inherits a q u bare ∙ ap (option_and_then (λ (m : World plain). map.get m.copy q)) z.1 ∙ rest a j z.0 pj z.1 past_a)

-- of an object past what is covered a world holds what the first does
pub past_content : (bs : List Bound) (F : State plain) → IsReached F → Covered bs F → (w v : WorldId) (i : ℕ) (x : World plain) (q : Slot) → place_of F w ≡ Some i → find_world F w ≡ Some x → covers bs i q.object.serial ≡ false → place_of F v ≡ Some 0 → map.get x.copy q ≡ content_at F v q
past_content bs [] h k w v i x q p f past pv = no_none i (sym (place_none w) ∙ p)
past_content bs (y ∷ older) h k w v i x q p f past pv = by_bool (same_world y.id w)
    (λ e.
    let is : y ≡ x = same_Some y x (sym (find_top y older w e) ∙ f) in
    let place : length older ≡ i = same_Some (length older) i (sym (place_head y older w e) ∙ p) in
    by_le (length older) 0
    (λ l.
    let zero_is : i ≡ 0 = omega arith in
    let same : w ≡ v = place_one (y ∷ older) w v 0 (p ∙ ap (λ m. Some m) zero_is) pv in
    sym (ap (option_and_then (λ (z : World plain). map.get z.copy q)) (ap (find_world (y ∷ older)) (sym same) ∙ f)))
    (λ l.
    let up : 0 < i = omega arith in
    let other = first_older y older v l pv in
    let bare : is_touched y q ≡ false = by_bool (is_touched y q) (λ t. absurd (true≢false (sym (k w i x q p f up (ap (λ (z : World plain). is_touched z q) (sym is) ∙ t)) ∙ past))) (λ t. t) in
    ap (λ (z : World plain). map.get z.copy q) (sym is)
    ∙ newest_past bs y older v q y.parent h refl l (ap (λ m. covers bs m q.object.serial) place ∙ past) (sym (place_tail y older v other) ∙ pv) bare
    (λ a j z pj fz past_a. past_content bs older h.1 (older_covered bs y older h k) a v j z q pj fz past_a (sym (place_tail y older v other) ∙ pv))
    ∙ sym (ap (option_and_then (λ (z : World plain). map.get z.copy q)) (find_rest y older v other))))
    (λ e.
    let older_place : place_of older w ≡ Some i = sym (place_tail y older w e) ∙ p in
    let l : 0 < length older = let b : i < length older = place_below older w i older_place in omega arith in
    let other = first_older y older v l pv in
    past_content bs older h.1 (older_covered bs y older h k) w v i x q older_place (sym (find_rest y older w e) ∙ f) past (sym (place_tail y older v other) ∙ pv)
    ∙ sym (ap (option_and_then (λ (z : World plain). map.get z.copy q)) (find_rest y older v other)))

-- the first world has no world above it
alone_depth : (y : World plain) (older : State plain) (o : Option WorldId) → IsReached (y ∷ older) → y.parent ≡ o → length older ≡ 0 → option_map_or (λ a. depth_of older a + 1) o 0 ≡ 0
alone_depth y older None h u l = refl
alone_depth y [] (Some a) h u l = absurd (false≢true (sym (ap is_some (find_nil {n = plain} a)) ∙ h.0.parent_older a u))
alone_depth y (z ∷ older) (Some a) h u l = absurd (omega arith)

pub depth_first : (F : State plain) (v : WorldId) → IsReached F → place_of F v ≡ Some 0 → depth_of F v ≡ 0
depth_first [] v h p = no_none 0 (sym (place_none v) ∙ p)
depth_first (y ∷ older) v h p = by_bool (same_world y.id v)
    (λ e. depth_top y older v e ∙ alone_depth y older y.parent h refl (same_Some (length older) 0 (sym (place_head y older v e) ∙ p)))
    (λ e. depth_rest y older v e ∙ depth_first older v h.1 (sym (place_tail y older v e) ∙ p))
