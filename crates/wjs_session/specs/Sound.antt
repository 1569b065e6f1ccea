-- A session's worlds are a reached state under each view that it admits.
use Rattle.std.proofs.Common.{◌≡◌, Bool, true, false, cond, not, List, [], ◌∷◌, refl, ap, sym, ◌∙◌, map as each, Option, None, Some, is_some, IsTrue}
use Rattle.std.specs.Option.{option_map, option_and_then}
use Rattle.std.specs.List.{AllByRecursion}
use Rattle.std.specs.FinMap as map
use Rattle.std.proofs.lemmas.Bool.{true≢false, false≢true, or_left, or_right, true_from_ne_false}
use Rattle.wjs_base.specs.declared.ids.WorldId.{WorldId}
use Rattle.wjs_base.specs.declared.values.Slot.{Slot}
use Rattle.wjs_base.proofs.Booleans.{by_bool}
use Rattle.wjs_store.specs.Naming.{plain}
use Rattle.wjs_store.specs.Reached.{IsReached}
use Rattle.wjs_store.specs.Meaning.{View, Worlds, PlainAct, PlainReply, IsSound, unseen}
use Rattle.wjs_store.specs.State.{World, find_world, has_world, content_at, has_row, is_touched}
use Rattle.wjs_store.proofs.States.{count_each, length_each}
use Rattle.wjs_session.specs.Session.{world_at, first_copy, settled, outer, full_of, session}
use Rattle.wjs_session.specs.Kept.{IsShut, IsSession}
use Rattle.wjs_session.specs.Fills.{each_twice, fill, get_fill, get_outside, find_fill, has_fill, content_fill}
use Rattle.wjs_session.specs.Owned.{own_passes}

module _ (w : Slot → Bool) where
  -- what a shut world has touched passes
  pub touched_passes : (y : World plain) (s : Slot) → IsShut w y → is_touched y s ≡ true → w s ≡ true
  touched_passes y s h t = true_from_ne_false (w s) (λ e. true≢false (sym t ∙ h.untouched s e))

module _ (w : Slot → Bool) (o : View) where
  outside_at : (G : Worlds) (d : WorldId) (s : Slot) → has_world G d ≡ true → w s ≡ false → content_at (each (fill w o) G) d s ≡ map.get o s
  outside_at G d s h e = ap (option_and_then (λ (y : World plain). map.get y.copy s)) (find_fill w o G d) ∙ by (find_world G d) h
    where
      by : (r : Option (World plain)) → is_some r ≡ true → option_and_then (λ (y : World plain). map.get y.copy s) (option_map (fill w o) r) ≡ map.get o s
      by None q = absurd (false≢true q)
      by (Some y) q = get_outside w o y s e

  pub reached_fill : (G : Worlds) → IsReached G → AllByRecursion (IsShut w) G → IsReached (each (fill w o) G)
  reached_fill [] r p = tt
  reached_fill (y ∷ older) r p =
      let f = r.0 in (
        record {
          serial = f.serial ∙ sym (count_each (fill w o) (λ z. refl) y.id.owner older);
          parent_older = λ q e. has_fill w o older q ∙ f.parent_older q e;
          alone = λ e. length_each (fill w o) (λ z. refl) older ∙ f.alone e;
          inherits = λ q s e u. by_bool (w s)
              (λ h. get_fill w o y s h ∙ f.inherits q s e u ∙ sym (content_fill w o older q s h))
              (λ h. get_outside w o y s h ∙ sym (outside_at older q s (f.parent_older q e) h));
          kept = λ s c e n. get_fill w o y s (touched_passes w y s p.0 (or_left (has_row y s) (map.contains_key y.closed s.object) (or_left (map.contains_key y.first s) (map.contains_key y.written s) (ap is_some e)))) ∙ f.kept s c e n;
          absent = λ s cl n. get_fill w o y s (touched_passes w y s p.0 (or_right (has_row y s) (map.contains_key y.closed s.object) cl)) ∙ f.absent s cl n;
          no_first = f.no_first;
          no_written = f.no_written;
          no_closed = f.no_closed;
        },
        reached_fill older r.1 p.1,
      )

  pub unseen_fill : (G : Worlds) → each unseen (each (fill w o) G) ≡ each unseen G
  unseen_fill G = each_twice unseen (fill w o) G

pub sound_session : (F : Worlds) (i : WorldId) (G : Worlds) (told : List (PlainAct × PlainReply)) (spent : Bool) → (spent ≡ false → IsSession F i G) → IsTrue (not spent) → IsSound (session F i G told spent)
sound_session F i G told true kept h = cc
sound_session F i G told false kept h =
    let k = kept refl in
    let x = world_at F i in
    let own = (session F i G told false).own in
    record {
      admits_own = own_passes (first_copy F) x;
      reached = λ v a. reached_fill (settled x G) (outer x v) G k.inner k.shut;
      same_marks = λ v a. unseen_fill (settled x G) (outer x v) G ∙ sym (unseen_fill (settled x G) (outer x own) G);
    }
