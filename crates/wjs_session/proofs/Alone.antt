-- A session without worlds below its own.
use Rattle.std.proofs.Common.{◌≡◌, Bool, true, false, cond, not, ◌&&◌, ◌||◌, List, [], ◌∷◌, refl, ap, sym, ◌∙◌, map as each, Option, None, Some, is_some}
use Rattle.std.specs.Option.{option_and_then}
use Rattle.std.specs.Ordering.{eq_by_cmp}
use Rattle.std.specs.List.{AllByRecursion}
use Rattle.std.specs.FinMap as map
use Rattle.std.proofs.lemmas.Bool.{true≢false, false≢true}
use Rattle.wjs_base.specs.declared.ids.WorldId.{WorldId}
use Rattle.wjs_base.specs.declared.values.Slot.{Slot}
use Rattle.wjs_base.specs.declared.values.Value.{Value}
use Rattle.wjs_base.specs.Order.{slot_cmp, slot_total, obj_cmp}
use Rattle.wjs_base.proofs.Options.{none_of}
use Rattle.wjs_base.proofs.Booleans.{by_bool}
use Rattle.wjs_store.specs.Naming.{plain}
use Rattle.wjs_store.specs.Reached.{IsReached}
use Rattle.wjs_store.specs.Shown.{first_of}
use Rattle.wjs_store.specs.Meaning.{View, Worlds}
use Rattle.wjs_store.specs.State.{World, same_world, find_world, has_world, content_at, has_row, is_touched, is_below, put, write_in, write_at, after_write, write, wrote}
use Rattle.wjs_store.proofs.Writes.{same_self, world_is, get_put, get_none}
use Rattle.wjs_store.proofs.Commits.{find_head, find_nil, find_tail}
use Rattle.wjs_session.specs.Filled.{filled}
use Rattle.wjs_session.specs.Session.{world_at, settled, outer, full_of, session}
use Rattle.wjs_session.specs.Kept.{IsShut, IsSession, IsAlone}
use Rattle.wjs_session.specs.Calls.{Answered}
use Rattle.wjs_session.proofs.Worlds.{first_alone}
use Rattle.wjs_session.proofs.Growing.{grows_write}
use Rattle.wjs_session.proofs.Looking.{own_content}
use Rattle.wjs_session.proofs.Writing.{now_outer}
use Rattle.wjs_session.specs.Maps.{same_view}
use Rattle.wjs_session.specs.Fills.{fill, has_fill}

-- the one world of a list is its first
pub alone_first : (G : Worlds) (i d : WorldId) → IsAlone G → first_of G ≡ Some i → has_world G d ≡ true → same_world d i ≡ true
alone_first [] i d a f h = absurd a
alone_first (y ∷ []) i d a f h = by_bool (same_world y.id d)
    (λ e.
    let is : y.id ≡ i = cc in
    ap (λ j. same_world j i) (sym (world_is y.id d e)) ∙ ap (same_world y.id) (sym is) ∙ same_self y.id)
    (λ e. absurd (false≢true (sym (ap is_some (find_tail y [] d e ∙ find_nil {n = plain} d)) ∙ h)))
alone_first (y ∷ z ∷ older) i d a f h = absurd a

-- a world without parent has touched nothing
untouched_alone : (y : World plain) → IsReached (y ∷ []) → is_some y.parent ≡ false → (t : Slot) → is_touched y t ≡ false
untouched_alone y r e t =
    let n = none_of y.parent e in
    λ k. (is_some (get_none y.first t (r.0.no_first n) k) || is_some (get_none y.written t (r.0.no_written n) k)) || is_some (get_none y.closed t.object (r.0.no_closed n) k)

-- a write in its own world stays outside
module _ (F : Worlds) (i : WorldId) (y : World plain) (k : IsSession F i (y ∷ [])) (bare : map.len y.copy ≡ 0) (s : Slot) (c : Option Value) where
  is_first : y.id ≡ i
  is_first = let e = k.first in cc

  parentless : is_some y.parent ≡ false
  parentless = (first_alone (y ∷ []) i k.inner k.first).0 (ap (λ j. same_world j i) is_first ∙ same_self i)

  kept_alone : IsSession (after_write F i s c) i (y ∷ [])
  kept_alone =
      let g = grows_write F i k.shared k.child s c in
      record {
        shared = g.reached;
        child = g.child;
        inner = k.inner;
        first = k.first;
        shut = (record { absent = λ t e. get_none y.copy t bare; untouched = λ t e. untouched_alone y k.inner parentless t }, tt);
      }

  -- what the one world holds under a view
  held_alone : (H : Worlds) → IsSession H i (y ∷ []) → (v : View) (t : Slot) → map.get (fill (settled (world_at H i) (y ∷ [])) (outer (world_at H i) v) y).copy t ≡ map.get (outer (world_at H i) v) t
  held_alone H h v t =
      let z = fill (settled (world_at H i) (y ∷ [])) (outer (world_at H i) v) y in
      sym (ap (option_and_then (λ (x : World plain). map.get x.copy t)) (ap (find_world (z ∷ [])) (sym is_first) ∙ find_head z []))
      ∙ own_content H i (y ∷ []) h v t

  abbrev was : View → World plain → World plain
  was v z = fill (settled (world_at F i) (y ∷ [])) (outer (world_at F i) v) z

  abbrev now : View → World plain → World plain
  now v z = fill (settled (world_at (after_write F i s c) i) (y ∷ [])) (outer (world_at (after_write F i s c) i) v) z

  same_alone : (v : View) → full_of (world_at (after_write F i s c) i) (y ∷ []) v ≡ after_write (full_of (world_at F i) (y ∷ []) v) i s c
  unfolding after_write
  same_alone v = ap (λ z. z ∷ []) (
      ap (λ m. record y { copy = m }) (same_view (now v y).copy (put (was v y).copy s c) (λ t.
      held_alone (after_write F i s c) kept_alone v t
      ∙ now_outer F i (y ∷ []) k s c v t
      ∙ ap (cond (eq_by_cmp slot_cmp t s) c) (sym (held_alone F k v t))
      ∙ sym (get_put slot_total (was v y).copy s c t)))
      ∙ (λ j. record (was v y) {
        copy = put (was v y).copy s c;
        first = cond (sym parentless j && (not (has_row y s) && (map.contains_key y.closed s.object || y.strict))) (map.insert y.first s (map.get (was v y).copy s)) y.first;
        written = cond (sym parentless j) (map.insert y.written s tt) y.written;
      })
      ∙ ap (λ b. cond b (write_in s c (was v y)) (cond (is_below i s (was v y ∷ []) y.id) (record (was v y) { copy = put (was v y).copy s c }) (was v y))) (sym (ap (λ j. same_world j i) is_first ∙ same_self i))
      )

  write_one : Answered F i (y ∷ []) (write i s c) wrote (after_write F i s c) (y ∷ [])
  write_one =
      let g = grows_write F i k.shared k.child s c in
      record {
        kept = kept_alone;
        does = record {
          narrows = g.narrows;
          answers = λ v p. refl;
          worlds = λ v p. same_alone v;
          still_there = λ j h.
              let old = session F i (y ∷ []) [] false in
              let new = session (after_write F i s c) i (y ∷ []) ((write i s c, wrote) ∷ []) false in
              has_fill (settled (world_at (after_write F i s c) i) (y ∷ [])) (outer (world_at (after_write F i s c) i) new.own) (y ∷ []) j ∙ sym (has_fill (settled (world_at F i) (y ∷ [])) (outer (world_at F i) old.own) (y ∷ []) j) ∙ h;
          own = g.own;
          told = refl;
          around = g.around;
          spent = refl;
        };
      }

pub write_alone : (F : Worlds) (i : WorldId) (G : Worlds) → IsSession F i G → IsAlone G → (s : Slot) (c : Option Value) → Answered F i G (write i s c) wrote (after_write F i s c) G
write_alone F i [] k a s c = absurd a
write_alone F i (y ∷ []) k a s c = write_one F i y k a s c
write_alone F i (y ∷ z ∷ older) k a s c = absurd a
