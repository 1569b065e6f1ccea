-- The end of a session: its check, and its commit.
use Rattle.std.proofs.Common.{◌≡◌, Bool, true, false, cond, not, ◌&&◌, ◌||◌, refl, ap, sym, ◌∙◌, Option, None, Some, is_some}
use Rattle.std.specs.Option.{option_map_or, option_and_then, is_none}
use Rattle.std.specs.FinMap as map
use Rattle.std.proofs.lemmas.Bool.{true≢false, false≢true, or_left, or_right}
use Rattle.wjs_base.specs.declared.ids.WorldId.{WorldId}
use Rattle.wjs_base.specs.declared.values.Slot.{Slot}
use Rattle.wjs_base.specs.declared.values.Value.{Value}
use Rattle.wjs_base.proofs.Booleans.{by_bool}
use Rattle.wjs_base.proofs.Options.{with_some}
use Rattle.wjs_store.specs.Naming.{plain}
use Rattle.wjs_store.specs.Marked.{is_written}
use Rattle.wjs_store.specs.Reached.{IsReached}
use Rattle.wjs_store.specs.Shown.{first_of, verdict_of, shown_verdict}
use Rattle.wjs_store.specs.declared.store.Verdict.{Verdict}
use Rattle.wjs_store.specs.declared.store.Verdict.TheVariants.{Moved}
use Rattle.wjs_store.specs.Meaning.{View, Worlds}
use Rattle.wjs_store.specs.State.{World, same_world, find_world, parent_of, content_at, has_row, is_touched, is_below, fault_in, with_parent, verdict_in, verdict_at, after_commit, moved, differs, no_parent}
use Rattle.wjs_store.proofs.Marks.{none_or_some}
use Rattle.wjs_store.proofs.Moved.{content_after_commit}
use Rattle.wjs_store.proofs.RunLaws.{verdict_again}
use Rattle.wjs_store.proofs.Writes.{same_self}
use Rattle.wjs_store.proofs.Commits.{none_is}
use Rattle.wjs_overlay.specs.Store.{check_of}
use Rattle.wjs_session.specs.Session.{holding, world_at, first_copy, outer, full_of, passes, owned}
use Rattle.wjs_session.specs.Kept.{IsChild, IsSession}
use Rattle.wjs_session.specs.Settled.{Agrees, Settles}
use Rattle.wjs_session.proofs.Worlds.{found_at, first_there, first_content, Above, above}
use Rattle.wjs_session.proofs.Marking.{view_touched, own_fresh}
use Rattle.wjs_session.proofs.Growing.{stands_at}
use Rattle.wjs_session.proofs.Looking.{own_content}
use Rattle.wjs_session.proofs.Committing.{pair_some, first_commit}
use Rattle.wjs_session.specs.Maps.{own_by, get_owned, get_outer, same_view, view_read, view_closed}

-- as std says that nothing is there
pub none_from : {A : Type 0} (o : Option A) (b : Bool) → is_some o ≡ not b → b ≡ is_none o
none_from None true e = refl
none_from None false e = absurd (false≢true e)
none_from (Some a) true e = absurd (true≢false e)
none_from (Some a) false e = refl

-- a view that is admitted is the world's own over a first world that holds it
pub owned_same : (x : World plain) (base : View) → passes x base ≡ true → owned x base ≡ base
owned_same x base p = same_view (owned x base) base (λ t. get_owned x base t ∙ none_or_some (map.get x.first t)
    (λ e. ap (λ o. own_by o (map.contains_key x.closed t.object) (has_row x t) (map.get base t)) e ∙ bare t (map.contains_key x.closed t.object) (has_row x t) refl refl)
    (λ h. with_some (map.get x.first t) h (λ c e. ap (λ o. own_by o (map.contains_key x.closed t.object) (has_row x t) (map.get base t)) e ∙ sym (view_read x base t c p e))))
  where
    bare : (t : Slot) (c r : Bool) → map.contains_key x.closed t.object ≡ c → has_row x t ≡ r → own_by None c r (map.get base t) ≡ map.get base t
    bare t true true e f = refl
    bare t true false e f = sym (view_closed x base t p e f)
    bare t false r e f = refl

module _ (F : Worlds) (i : WorldId) (r : IsReached F) (c : IsChild F i) where
  both : with_parent F i ≡ Some (world_at F i, world_at F (above F i r c).id)
  both = let a = above F i r c in pair_some F i a.id (world_at F i) (world_at F a.id) (found_at F i c.there) a.up (found_at F a.id (first_there F a.id r a.first))

  -- the check of the session's world
  check_is : check_of F i ≡ fault_in (world_at F i) (holding (world_at F i).id (first_copy F))
  check_is =
      let a = above F i r c in
      ap (option_and_then (λ (e : World plain × World plain). fault_in e.0 e.1)) both
      ∙ sym (ap (λ o. fault_in (world_at F i) (holding (world_at F i).id (option_map_or (λ j. (world_at F j).copy) o map.empty))) a.first)

  check_passes : is_none (check_of F i) ≡ passes (world_at F i) (first_copy F)
  unfolding passes
  check_passes = ap is_none check_is

  pub agrees_is : (answer : Bool) → answer ≡ is_none (check_of F i) → Agrees F i answer
  agrees_is answer e = record {
    answers = e ∙ check_passes;
    view = λ h. owned_same (world_at F i) (first_copy F) (sym (e ∙ check_passes) ∙ h);
  }

  verdict_is : verdict_at F i ≡ option_map_or differs (check_of F i) moved
  unfolding verdict_at
  verdict_is =
      ap (λ o. option_map_or (λ (e : World plain × World plain). verdict_in e.0 e.1) o no_parent) both
      ∙ sym (ap (λ o. option_map_or differs (option_and_then (λ (e : World plain × World plain). fault_in e.0 e.1) o) moved) both)

  moved_passes : verdict_at F i ≡ moved → passes (world_at F i) (first_copy F) ≡ true
  moved_passes h = sym check_passes ∙ by (check_of F i) (sym verdict_is ∙ h)
    where
      by : (o : Option Slot) → option_map_or differs o moved ≡ moved → is_none o ≡ true
      by None e = refl
      by (Some s) e = cc

  passes_moved : passes (world_at F i) (first_copy F) ≡ true → verdict_at F i ≡ moved
  passes_moved h = verdict_is ∙ ap (λ o. option_map_or differs o moved) (none_is (check_of F i) (check_passes ∙ h))

module _ (F : Worlds) (i : WorldId) (G : Worlds) (k : IsSession F i G) where
  settled_holds : verdict_at F i ≡ moved → (s : Slot) → map.get (first_copy (after_commit F i)) s ≡ content_at (full_of (world_at F i) G (owned (world_at F i) (first_copy F))) i s
  settled_holds h s =
      let a = above F i k.shared k.child in
      let x = world_at F i in
      let base = first_copy F in
      let p = moved_passes F i k.shared k.child h in
      let found = found_at F i k.child.there in
      let up : parent_of F i ≡ Some a.id = ap (option_and_then (λ (y : World plain). y.parent)) found ∙ a.up in
      let written : is_written F i s ≡ map.contains_key x.written s = ap (λ o. option_map_or (λ (y : World plain). map.contains_key y.written s) o false) found in
      let held : content_at F i s ≡ map.get x.copy s = ap (option_and_then (λ (y : World plain). map.get y.copy s)) found in
      first_content (after_commit F i) a.id s (first_commit F i ∙ a.first)
      ∙ content_after_commit F i h a.id up a.id s
      ∙ ap (λ b. cond (is_written F i s && (b || is_below a.id s F a.id)) (content_at F i s) (content_at F a.id s)) (same_self a.id)
      ∙ (λ j. cond (written j && true) (held j) (sym (first_content F a.id s a.first) j))
      ∙ by (map.contains_key x.written s) refl p
      ∙ sym (get_outer x base s)
      ∙ ap (λ v. map.get (outer x v) s) (sym (owned_same x base p))
      ∙ sym (own_content F i G k (owned x base) s)
    where
      by : (b : Bool) → map.contains_key (world_at F i).written s ≡ b → passes (world_at F i) (first_copy F) ≡ true → cond (b && true) (map.get (world_at F i).copy s) (map.get (first_copy F) s) ≡ cond (is_touched (world_at F i) s) (map.get (world_at F i).copy s) (map.get (first_copy F) s)
      by true e p = sym (ap (λ b. cond b (map.get (world_at F i).copy s) (map.get (first_copy F) s)) (or_left (has_row (world_at F i) s) (map.contains_key (world_at F i).closed s.object) (or_right (map.contains_key (world_at F i).first s) (map.contains_key (world_at F i).written s) e)))
      by false e p = by_bool (is_touched (world_at F i) s)
          (λ t. view_touched (world_at F i) (stands_at F i k.shared k.child).local (first_copy F) s p t e ∙ sym (ap (λ b. cond b (map.get (world_at F i).copy s) (map.get (first_copy F) s)) t))
          (λ t. sym (ap (λ b. cond b (map.get (world_at F i).copy s) (map.get (first_copy F) s)) t))

  pub settles_is : (F' : Worlds) (verdict : Verdict) → F' ≡ after_commit F i → verdict_of verdict ≡ verdict_at F i → Settles F i G F' verdict
  settles_is F' verdict e h =
      let to : verdict ≡ Moved → verdict_at F i ≡ moved = λ m. sym h ∙ ap verdict_of m in
      record {
        worlds = e;
        answers = h;
        moves = (
          λ m. moved_passes F i k.shared k.child (to m),
          λ p. sym (verdict_again verdict) ∙ ap shown_verdict (h ∙ passes_moved F i k.shared k.child p),
        );
        holds = λ m s. ap (λ H. map.get (first_copy H) s) e ∙ settled_holds (to m) s;
      }
