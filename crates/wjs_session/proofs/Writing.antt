-- A write in a session's own world, and what is brought inside.
use Rattle.std.proofs.Common.{◌≡◌, Bool, true, false, cond, not, ◌&&◌, ◌||◌, List, [], ◌∷◌, refl, ap, sym, ◌∙◌, subst, map as each, Option, None, Some, is_some}
use Rattle.std.specs.Option.{option_map, option_map_or, option_and_then}
use Rattle.std.specs.Ordering.{eq_by_cmp, is_eq}
use Rattle.std.specs.Cmp.{tied_itself}
use Rattle.std.specs.List.{AllByRecursion}
use Rattle.std.specs.FinMap as map
use Rattle.std.proofs.lemmas.Bool.{true≢false, false≢true, and_from, or_right}
use Rattle.wjs_base.specs.declared.ids.WorldId.{WorldId}
use Rattle.wjs_base.specs.declared.values.Slot.{Slot}
use Rattle.wjs_base.specs.declared.values.Value.{Value}
use Rattle.wjs_base.specs.Order.{slot_cmp, slot_total, slot_exact, obj_cmp}
use Rattle.wjs_base.specs.Same.{same_value}
use Rattle.wjs_base.proofs.Booleans.{by_bool}
use Rattle.wjs_store.specs.Naming.{plain}
use Rattle.wjs_store.specs.Reached.{IsReached}
use Rattle.wjs_store.specs.Shown.{first_of}
use Rattle.wjs_store.specs.Meaning.{View, Worlds}
use Rattle.wjs_store.specs.State.{World, same_world, has_world, content_at, has_row, is_touched, same_content, is_below, put, write_in, write_at, after_write, write, wrote}
use Rattle.wjs_store.proofs.Contents.{content_after_write}
use Rattle.wjs_store.proofs.Marks.{key_is}
use Rattle.wjs_store.proofs.Writes.{same_self, world_is, get_put, get_none, write_id, has_after_write, reached_write}
use Rattle.wjs_session.specs.Filled.{filled}
use Rattle.wjs_session.specs.Session.{world_at, first_copy, settled, outer, full_of, passes, session}
use Rattle.wjs_session.specs.Kept.{IsShut, IsSession, IsAlone}
use Rattle.wjs_session.specs.Grown.{Grows}
use Rattle.wjs_session.specs.Calls.{Answered, Brought}
use Rattle.wjs_session.proofs.Worlds.{all_weaker, all_each, first_each, first_content, first_alone, parent_some}
use Rattle.wjs_session.proofs.Filling.{filled_write}
use Rattle.wjs_session.proofs.Shutting.{shut_after_write}
use Rattle.wjs_session.proofs.Below.{Free, write_everywhere}
use Rattle.wjs_session.proofs.Growing.{write_touched, write_copy, write_outer, grows_write, grows_same}
use Rattle.wjs_session.proofs.Looking.{inner_there, own_content, settled_touched, settled_same}
use Rattle.wjs_session.proofs.Acting.{fill_alike}
use Rattle.wjs_session.specs.Maps.{get_filled, get_outer, same_view, same_content_self}
use Rattle.wjs_session.specs.Fills.{each_twice, fill, has_fill}
use Rattle.wjs_session.specs.Sound.{reached_fill}

tied : (s : Slot) → eq_by_cmp slot_cmp s s ≡ true
tied s = ap is_eq (tied_itself slot_total s)

-- ---- a write in the inner first world

module _ (G : Worlds) (i : WorldId) (there : has_world G i ≡ true) (first : first_of G ≡ Some i) (s : Slot) (c : Option Value) where
  first_after : first_of (after_write G i s c) ≡ Some i
  unfolding after_write
  first_after = first_each (write_at G i s c) (write_id G i s c) G ∙ first

  first_written : (t : Slot) → map.get (first_copy (after_write G i s c)) t ≡ cond (eq_by_cmp slot_cmp t s) c (map.get (first_copy G) t)
  first_written t =
      first_content (after_write G i s c) i t first_after
      ∙ content_after_write G i s c i t there
      ∙ ap (λ b. cond ((b || is_below i s G i) && eq_by_cmp slot_cmp t s) c (content_at G i t)) (same_self i)
      ∙ ap (cond (eq_by_cmp slot_cmp t s) c) (sym (first_content G i t first))

-- the content is put in both maps: what is settled then
both_written : (x y : World plain) (G H : Worlds) (s : Slot) (c : Option Value) → ((t : Slot) → is_touched y t ≡ (eq_by_cmp slot_cmp t s || is_touched x t)) → ((t : Slot) → map.get y.copy t ≡ cond (eq_by_cmp slot_cmp t s) c (map.get x.copy t)) → ((t : Slot) → map.get (first_copy H) t ≡ cond (eq_by_cmp slot_cmp t s) c (map.get (first_copy G) t)) → (t : Slot) → settled y H t ≡ (eq_by_cmp slot_cmp t s || settled x G t)
both_written x y G H s c touched copy first t =
    (λ k. touched t k && same_content same_value (first t k) (copy t k)) ∙ by (eq_by_cmp slot_cmp t s)
  where
    by : (b : Bool) → ((b || is_touched x t) && same_content same_value (cond b c (map.get (first_copy G) t)) (cond b c (map.get x.copy t))) ≡ (b || settled x G t)
    by true = same_content_self c
    by false = refl

-- the content is put in every filled world
put_filled_all : (w u : Slot → Bool) (o p : View) (s : Slot) (c : Option Value) → ((t : Slot) → u t ≡ (eq_by_cmp slot_cmp t s || w t)) → ((t : Slot) → eq_by_cmp slot_cmp t s ≡ false → w t ≡ false → map.get p t ≡ map.get o t) → (y : World plain) → fill u p (record y { copy = put y.copy s c }) ≡ record (fill w o y) { copy = put (fill w o y).copy s c }
put_filled_all w u o p s c e f y = ap (λ m. record y { copy = m }) (same_view (filled u (put y.copy s c) p) (put (filled w y.copy o) s c) (λ t.
    get_filled u (put y.copy s c) p t
    ∙ (λ k. cond (e t k) (get_put slot_total y.copy s c t k) (map.get p t))
    ∙ by t (eq_by_cmp slot_cmp t s) (w t) (λ q h. f t q h)
    ∙ ap (cond (eq_by_cmp slot_cmp t s) c) (sym (get_filled w y.copy o t))
    ∙ sym (get_put slot_total (filled w y.copy o) s c t)))
  where
    by : (t : Slot) (a b : Bool) → (a ≡ false → b ≡ false → map.get p t ≡ map.get o t) → cond (a || b) (cond a c (map.get y.copy t)) (map.get p t) ≡ cond a c (cond b (map.get y.copy t) (map.get o t))
    by t true b h = refl
    by t false true h = refl
    by t false false h = h refl refl

module _ (F : Worlds) (i : WorldId) (G : Worlds) (k : IsSession F i G) (s : Slot) where
  -- what is not settled no inner world has touched
  free_inner : settled (world_at F i) G s ≡ false → AllByRecursion (Free i s) G
  free_inner e = all_weaker (IsShut (settled (world_at F i) G)) (Free i s) (λ y h. h.untouched s e) G k.shut

  -- ---- bringing

  -- what the shared world holds is written inside, where it is touched and not settled
  module _ (t0 : is_touched (world_at F i) s ≡ true) (e0 : settled (world_at F i) G s ≡ false) where
    abbrev held : Option Value
    held = map.get (world_at F i).copy s

    brought_settled : (t : Slot) → settled (world_at F i) (after_write G i s held) t ≡ (eq_by_cmp slot_cmp t s || settled (world_at F i) G t)
    brought_settled = both_written (world_at F i) (world_at F i) G (after_write G i s held) s held touched copy (first_written G i (inner_there F i G k) k.first s held)
      where
        touched : (t : Slot) → is_touched (world_at F i) t ≡ (eq_by_cmp slot_cmp t s || is_touched (world_at F i) t)
        touched t = by_bool (eq_by_cmp slot_cmp t s)
            (λ q. ap (is_touched (world_at F i)) (key_is slot_exact t s q) ∙ t0 ∙ sym (ap (λ b. b || is_touched (world_at F i) t) q))
            (λ q. sym (ap (λ b. b || is_touched (world_at F i) t) q))

        copy : (t : Slot) → map.get (world_at F i).copy t ≡ cond (eq_by_cmp slot_cmp t s) (map.get (world_at F i).copy s) (map.get (world_at F i).copy t)
        copy t = by_bool (eq_by_cmp slot_cmp t s)
            (λ q. ap (map.get (world_at F i).copy) (key_is slot_exact t s q) ∙ sym (ap (λ b. cond b (map.get (world_at F i).copy s) (map.get (world_at F i).copy t)) q))
            (λ q. sym (ap (λ b. cond b (map.get (world_at F i).copy s) (map.get (world_at F i).copy t)) q))

    -- putting it where it stands already changes nothing
    put_again : (v : View) (y : World plain) → record (fill (settled (world_at F i) G) (outer (world_at F i) v) y) { copy = put (filled (settled (world_at F i) G) y.copy (outer (world_at F i) v)) s held } ≡ fill (settled (world_at F i) G) (outer (world_at F i) v) y
    put_again v y =
        let x = world_at F i in
        let w = settled x G in
        let m = filled w y.copy (outer x v) in
        ap (λ n. record y { copy = n }) (same_view (put m s held) m (λ t.
        get_put slot_total m s held t ∙ by_bool (eq_by_cmp slot_cmp t s)
        (λ q.
        ap (λ b. cond b held (map.get m t)) q
        ∙ sym (ap (map.get m) (key_is slot_exact t s q) ∙ get_filled w y.copy (outer x v) s ∙ ap (λ b. cond b (map.get y.copy s) (map.get (outer x v) s)) e0 ∙ get_outer x v s ∙ ap (λ b. cond b (map.get x.copy s) (map.get v s)) t0))
        (λ q. ap (λ b. cond b held (map.get m t)) q)))

    pub brought_write : Brought F i G F (after_write G i s (map.get (world_at F i).copy s))
    brought_write =
        let x = world_at F i in
        let w = settled x G in
        let there = inner_there F i G k in
        let H = after_write G i s held in
        let more : (t : Slot) → w t ≡ true → settled x H t ≡ true = λ t h. brought_settled t ∙ or_right (eq_by_cmp slot_cmp t s) (w t) h in
        record {
          kept = record {
            shared = k.shared;
            child = k.child;
            inner = reached_write G i s held k.inner;
            first = first_after G i there k.first s held;
            shut = shut_after_write (settled x H) G i s held here (all_weaker (IsShut w) (IsShut (settled x H)) (λ y h. record { absent = λ t e. h.absent t (back t e); untouched = λ t e. h.untouched t (back t e) }) G k.shut);
          };
          grows = grows_same F i k.shared k.child;
          same = λ v p.
              ap (each (fill (settled x H) (outer x v))) (write_everywhere i s held G k.inner k.first (free_inner e0))
              ∙ each_twice (fill (settled x H) (outer x v)) (λ (y : World plain). record y { copy = put y.copy s held }) G
              ∙ (λ j. each (λ (y : World plain). put_filled_all w (settled x H) (outer x v) (outer x v) s held brought_settled (λ t q h. refl) y j) G)
              ∙ (λ j. each (λ (y : World plain). put_again v y j) G);
          holds = refl;
          there = λ d h. has_after_write G i s held d ∙ h;
          settles = more;
        }
      where
        here : settled (world_at F i) (after_write G i s (map.get (world_at F i).copy s)) s ≡ true
        here = brought_settled s ∙ ap (λ b. b || settled (world_at F i) G s) (tied s)

        back : (t : Slot) → settled (world_at F i) (after_write G i s (map.get (world_at F i).copy s)) t ≡ false → settled (world_at F i) G t ≡ false
        back t e = by_bool (settled (world_at F i) G t) (λ h. absurd (true≢false (sym (brought_settled t ∙ or_right (eq_by_cmp slot_cmp t s) (settled (world_at F i) G t) h) ∙ e))) (λ h. h)

    pub settled_write : settled (world_at F i) (after_write G i s (map.get (world_at F i).copy s)) s ≡ true
    settled_write = brought_settled s ∙ ap (λ b. b || settled (world_at F i) G s) (tied s)

  -- ---- a write in the own world

  module _ (c : Option Value) where
    pub now_outer : (v : View) (t : Slot) → map.get (outer (world_at (after_write F i s c) i) v) t ≡ cond (eq_by_cmp slot_cmp t s) c (map.get (outer (world_at F i) v) t)
    now_outer v t = write_outer F i k.shared k.child s c v t

    -- with worlds below it
    inner_settled : (t : Slot) → settled (world_at (after_write F i s c) i) (after_write G i s c) t ≡ (eq_by_cmp slot_cmp t s || settled (world_at F i) G t)
    inner_settled = both_written (world_at F i) (world_at (after_write F i s c) i) G (after_write G i s c) s c (write_touched F i k.shared k.child s c) (write_copy F i k.shared k.child s c) (first_written G i (inner_there F i G k) k.first s c)

    pub write_own : Answered F i G (write i s c) wrote (after_write F i s c) (after_write G i s c)
    write_own =
        let x = world_at F i in
        let w = settled x G in
        let there = inner_there F i G k in
        let g = grows_write F i k.shared k.child s c in
        let y = world_at (after_write F i s c) i in
        let H = after_write G i s c in
        record {
          kept = record {
            shared = g.reached;
            child = g.child;
            inner = reached_write G i s c k.inner;
            first = first_after G i there k.first s c;
            shut = shut_after_write (settled y H) G i s c here (all_weaker (IsShut w) (IsShut (settled y H)) (λ z h. record { absent = λ t e. h.absent t (back t e); untouched = λ t e. h.untouched t (back t e) }) G k.shut);
          };
          does = record {
            narrows = g.narrows;
            answers = λ v p. refl;
            worlds = λ v p. by_bool (w s) (settled_before v) (free_before v);
            still_there = λ j h.
                let old = session F i G [] false in
                let new = session (after_write F i s c) i H ((write i s c, wrote) ∷ []) false in
                has_fill (settled y H) (outer y new.own) H j ∙ has_after_write G i s c j ∙ sym (has_fill w (outer x old.own) G j) ∙ h;
            own = g.own;
            told = refl;
            around = g.around;
            spent = refl;
          };
        }
      where
        here : settled (world_at (after_write F i s c) i) (after_write G i s c) s ≡ true
        here = inner_settled s ∙ ap (λ b. b || settled (world_at F i) G s) (tied s)

        back : (t : Slot) → settled (world_at (after_write F i s c) i) (after_write G i s c) t ≡ false → settled (world_at F i) G t ≡ false
        back t e = by_bool (settled (world_at F i) G t) (λ h. absurd (true≢false (sym (inner_settled t ∙ or_right (eq_by_cmp slot_cmp t s) (settled (world_at F i) G t) h) ∙ e))) (λ h. h)

        -- where it was settled, nothing else changes
        same_settled : settled (world_at F i) G s ≡ true → (t : Slot) → settled (world_at (after_write F i s c) i) (after_write G i s c) t ≡ settled (world_at F i) G t
        same_settled h t = inner_settled t ∙ by_bool (eq_by_cmp slot_cmp t s)
            (λ q. ap (λ b. b || settled (world_at F i) G t) q ∙ sym (ap (settled (world_at F i) G) (key_is slot_exact t s q) ∙ h))
            (λ q. ap (λ b. b || settled (world_at F i) G t) q)

        same_outer : settled (world_at F i) G s ≡ true → (v : View) (t : Slot) → settled (world_at F i) G t ≡ false → map.get (outer (world_at (after_write F i s c) i) v) t ≡ map.get (outer (world_at F i) v) t
        same_outer h v t e = now_outer v t ∙ by_bool (eq_by_cmp slot_cmp t s)
            (λ q. absurd (true≢false (sym (ap (settled (world_at F i) G) (key_is slot_exact t s q) ∙ h) ∙ e)))
            (λ q. ap (λ b. cond b c (map.get (outer (world_at F i) v) t)) q)

        settled_before : (v : View) → settled (world_at F i) G s ≡ true → full_of (world_at (after_write F i s c) i) (after_write G i s c) v ≡ after_write (full_of (world_at F i) G v) i s c
        settled_before v h =
            let x = world_at F i in
            let y = world_at (after_write F i s c) i in
            (λ j. each (λ (z : World plain). fill_alike (settled x G) (settled y (after_write G i s c)) (outer x v) (outer y v) (same_settled h) (same_outer h v) z j) (after_write G i s c))
            ∙ sym (filled_write (settled x G) (outer x v) G i s c h)

        free_before : (v : View) → settled (world_at F i) G s ≡ false → full_of (world_at (after_write F i s c) i) (after_write G i s c) v ≡ after_write (full_of (world_at F i) G v) i s c
        free_before v e =
            let x = world_at F i in
            let w = settled x G in
            let y = world_at (after_write F i s c) i in
            let u = settled y (after_write G i s c) in
            ap (each (fill u (outer y v))) (write_everywhere i s c G k.inner k.first (free_inner e))
            ∙ each_twice (fill u (outer y v)) (λ (z : World plain). record z { copy = put z.copy s c }) G
            ∙ (λ j. each (λ (z : World plain). put_filled_all w u (outer x v) (outer y v) s c inner_settled (λ t q h. now_outer v t ∙ ap (λ b. cond b c (map.get (outer x v) t)) q) z j) G)
            ∙ sym (each_twice (λ (z : World plain). record z { copy = put z.copy s c }) (fill w (outer x v)) G)
            ∙ sym (write_everywhere i s c (full_of x G v) (reached_fill w (outer x v) G k.inner k.shut) (first_each (fill w (outer x v)) (λ z. refl) G ∙ k.first) (all_each (Free i s) (Free i s) (fill w (outer x v)) (λ z h. h) G (free_inner e)))
