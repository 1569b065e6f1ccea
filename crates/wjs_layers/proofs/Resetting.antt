-- A world is given up: what is left is a reached state, of which the layers with an empty one in its place are the rows.
use Rattle.std.proofs.Common.{◌≡◌, true, false, cond, List, [], ◌∷◌, map as each, Option, None, Some, is_some, slice_get, set, refl, ap, sym, ◌∙◌, subst}
use Rattle.std.specs.Option.{option_map, option_map_or, option_and_then}
use Rattle.std.specs.FinMap as map
use Rattle.std.proofs.lemmas.Bool.{false≢true, or_parts}
use Rattle.std.proofs.lemmas.Option.{same_Some}
use Rattle.wjs_base.specs.declared.ids.WorldId.{WorldId}
use Rattle.wjs_base.specs.declared.values.Slot.{Slot}
use Rattle.wjs_base.specs.Order.{slot_cmp, obj_cmp}
use Rattle.wjs_base.proofs.Booleans.{by_bool}
use Rattle.wjs_base.proofs.Options.{with_some, by_option, no_none}
use Rattle.wjs_store.specs.Naming.{plain}
use Rattle.wjs_store.specs.State.{World, State, find_world, has_world, same_world, content_at, at_world, with_parent}
use Rattle.wjs_store.specs.Reached.{Fits, IsReached}
use Rattle.wjs_store.proofs.Commits.{pair_parts}
use Rattle.wjs_store.proofs.Invariant.{same_turned}
use Rattle.wjs_store.proofs.MovedMarks.{past_at}
use Rattle.wjs_store.proofs.Parents.{pair_found}
use Rattle.wjs_store.proofs.States.{has_each, count_each, length_each}
use Rattle.wjs_store.proofs.Writes.{not_older, world_is}
use Rattle.wjs_layers.specs.declared.layer.Layer.{Layer}
use Rattle.wjs_layers.specs.declared.layer.Spot.{Spot}
use Rattle.wjs_layers.specs.Moves.{cleared}
use Rattle.wjs_layers.specs.Reset.{has_child, renewed, after_reset}
use Rattle.wjs_layers.specs.Sparse.{read_of, mark_of, full_of, Keeps, IsSparse, IsAt, StandFor}
use Rattle.wjs_layers.proofs.ListLaws.{at_id, kept_at}
use Rattle.wjs_layers.proofs.Looks.{found_at, world_at, keeps_at, above_at}
use Rattle.wjs_layers.proofs.Places.{find_top, find_rest}
use Rattle.wjs_layers.proofs.Puts.{stand_by}

-- ---- a reached state stays one: x is the world w, which has no child, and p its parent, of number q

module _ (w q : WorldId) (x p : World plain) (up : x.parent ≡ Some q) where
  abbrev one : World plain → World plain
  one y = cond (same_world y.id w) (renewed p y) y

  one_id : (y : World plain) → (one y).id ≡ y.id
  one_id y = at_id w (renewed p) (λ z. refl) y

  content_other : (G : State plain) (d : WorldId) (s : Slot) → same_world d w ≡ false → content_at (each one G) d s ≡ content_at G d s
  content_other G d s e = ap (option_and_then (λ (z : World plain). map.get z.copy s)) (past_at w (renewed p) (λ z. refl) G d e)

  fits_here : (y : World plain) (older : State plain) → IsReached (y ∷ older) → y ≡ x → same_world y.id w ≡ true
      → ((z : World plain) → find_world older q ≡ Some z → z ≡ p) → Fits (renewed p y) (each one older)
  fits_here y older h same e top =
      let f = h.0 in
      let parent : y.parent ≡ Some q = ap (λ (z : World plain). z.parent) same ∙ up in
      let above : has_world older q ≡ true = f.parent_older q parent in
      let other : same_world q w ≡ false = ap (same_world q) (sym (world_is y.id w e)) ∙ same_turned y.id q (not_older y older q h above) in
      let found : find_world older q ≡ Some p = with_some (find_world older q) above (λ z g. g ∙ ap (λ m. Some m) (top z g)) in
      record {
        serial = f.serial ∙ sym (count_each one one_id y.id.owner older);
        parent_older = λ d g. has_each one one_id older d ∙ f.parent_older d g;
        alone = λ g. no_none q (sym g ∙ parent);
        inherits = λ d s g u. sym (
            ap (λ c. content_at (each one older) c s) (same_Some d q (sym g ∙ parent))
            ∙ content_other older q s other
            ∙ ap (option_and_then (λ (z : World plain). map.get z.copy s)) found);
        kept = λ s c g n. no_none c (sym (map.get-empty slot_cmp s) ∙ g);
        absent = λ s g n. absurd (false≢true (sym (ap is_some (map.get-empty obj_cmp s.object)) ∙ g));
        no_first = λ g. no_none q (sym g ∙ parent);
        no_written = λ g. no_none q (sym g ∙ parent);
        no_closed = λ g. no_none q (sym g ∙ parent);
      }

  fits_other : (y : World plain) (older : State plain) → Fits y older → option_map_or (λ d. same_world d w) y.parent false ≡ false → Fits y (each one older)
  fits_other y older f v = record {
    serial = f.serial ∙ sym (count_each one one_id y.id.owner older);
    parent_older = λ d g. has_each one one_id older d ∙ f.parent_older d g;
    alone = λ g. length_each one one_id older ∙ f.alone g;
    inherits = λ d s g u. f.inherits d s g u ∙ sym (content_other older d s (sym (ap (λ o. option_map_or (λ c. same_world c w) o false) g) ∙ v));
    kept = f.kept;
    absent = f.absent;
    no_first = f.no_first;
    no_written = f.no_written;
    no_closed = f.no_closed;
  }

  reached_one : (G : State plain) → IsReached G → has_child G w ≡ false → ((y : World plain) → find_world G w ≡ Some y → y ≡ x)
      → ((z : World plain) → find_world G q ≡ Some z → z ≡ p) → IsReached (each one G)
  reached_one [] h leaf here top = tt
  reached_one (y ∷ older) h leaf here top =
      let v = or_parts (option_map_or (λ d. same_world d w) y.parent false) (has_child older w) leaf in
      let later : (z : World plain) → find_world older q ≡ Some z → z ≡ p = λ z g. top z (find_rest y older q (not_older y older q h (ap is_some g)) ∙ g) in (
        by_bool (same_world y.id w)
            (λ e. subst (λ b. Fits (cond b (renewed p y) y) (each one older)) (sym e)
            (fits_here y older h (here y (find_top y older w e)) e later))
            (λ e. subst (λ b. Fits (cond b (renewed p y) y) (each one older)) (sym e) (fits_other y older h.0 v.0)),
        reached_one older h.1 v.1 (λ z g. here z (find_rest y older w (not_older y older w h (ap is_some g)) ∙ g)) later,
      )

reached_by : (F : State plain) (w : WorldId) → IsReached F → has_child F w ≡ false → (o : Option (World plain × World plain)) → with_parent F w ≡ o
    → IsReached (option_map_or (λ (e : World plain × World plain). at_world w (renewed e.1) F) o F)
reached_by F w h leaf None e = h
reached_by F w h leaf (Some pair) e =
    let parts = pair_parts F w pair e in
    reached_one w parts.1 pair.0 pair.1 parts.2 F h leaf (λ y g. same_Some y pair.0 (sym g ∙ parts.0)) (λ z g. same_Some z pair.1 (sym g ∙ parts.3))

pub reached_reset : (F : State plain) (w : WorldId) → IsReached F → has_child F w ≡ false → IsReached (after_reset F w)
unfolding after_reset
reached_reset F w h leaf = reached_by F w h leaf (with_parent F w) refl

-- ---- the layers

reset_is : (F : State plain) (w : WorldId) (x p : World plain) → with_parent F w ≡ Some (x, p) → after_reset F w ≡ at_world w (renewed p) F
unfolding after_reset
reset_is F w x p e = ap (λ o. option_map_or (λ (e : World plain × World plain). at_world w (renewed e.1) F) o F) e

-- an empty layer keeps a renewed world
keeps_renewed : (r : Layer) (x p : World plain) (a : Spot) → Keeps r x → r.above ≡ Some a → Keeps (cleared r) (renewed p x)
keeps_renewed r x p a k u = record {
  id = k.id;
  parent = k.parent;
  strict = k.strict;
  closed = refl;
  first = λ s. map.get-empty slot_cmp s ∙ sym (ap (option_and_then read_of) (map.get-empty slot_cmp s));
  written = λ s. map.get-empty slot_cmp s ∙ sym (ap (option_and_then mark_of) (map.get-empty slot_cmp s));
  now = λ s row h. no_none row (sym (map.get-empty slot_cmp s) ∙ h);
  marked = λ s row h. no_none row (sym (map.get-empty slot_cmp s) ∙ h);
  present = λ s row none h. no_none row (sym (map.get-empty slot_cmp s) ∙ h);
  bare = λ s none h. no_none a (sym none ∙ u);
}

module _ (layers : List Layer) (h : IsSparse layers) (at : Spot) (here : IsAt layers at) (leaf : has_child (full_of layers) at.world ≡ false) (r : Layer)
    (s : slice_get layers at.place ≡ Some r) where
  reset_under : (a : Spot) → r.above ≡ Some a → StandFor (set layers at.place (cleared r)) (after_reset (full_of layers) at.world)
  reset_under a u =
      let F = full_of layers in
      let x = world_at layers h at here r s in
      let up : x.0.parent ≡ Some a.world = (keeps_at layers h at here r s).parent ∙ ap (option_map (λ (b : Spot). b.world)) u in
      let p = found_at F a.world a.place (above_at layers h at here r s a u).0 in
      let is : after_reset F at.world ≡ at_world at.world (renewed p.0) F = reset_is F at.world x.0 p.0 (pair_found F at.world x.0 x.1 a.world p.0 up p.1) in
      let kept = kept_at layers F h.kept at here r (cleared r) s refl (renewed p.0) (λ y. refl) (λ y e q. keeps_renewed r y p.0 a q u) in
      subst (StandFor (set layers at.place (cleared r))) (sym is)
      (stand_by (set layers at.place (cleared r)) (at_world at.world (renewed p.0) F) (subst IsReached is (reached_reset F at.world h.reached leaf)) kept)

  pub reset_by : is_some r.above ≡ true → StandFor (set layers at.place (cleared r)) (after_reset (full_of layers) at.world)
  reset_by child = by_option r.above (λ e. absurd (false≢true (sym (ap is_some e) ∙ child))) (λ a e. reset_under a e)
