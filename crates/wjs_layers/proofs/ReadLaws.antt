-- A read of a slot.
use Rattle.std.proofs.Common.{◌≡◌, Bool, true, false, cond, not, ◌&&◌, ◌||◌, List, refl, ap, sym, ◌∙◌, subst, None, Some, is_some, slice_get, set, map as each}
use Rattle.std.specs.Option.{option_map, option_and_then}
use Rattle.std.specs.Ordering.{is_eq}
use Rattle.std.specs.Cmp.{tied_itself}
use Rattle.std.specs.FinMap as map
use Rattle.std.proofs.lemmas.Bool.{true≢false, false≢true}
use Rattle.wjs_base.specs.declared.values.Slot.{Slot}
use Rattle.wjs_base.specs.declared.values.Content.{Content}
use Rattle.wjs_base.specs.Order.{slot_total}
use Rattle.wjs_base.proofs.Options.{with_some, by_option}
use Rattle.wjs_store.specs.Naming.{plain}
use Rattle.wjs_store.specs.Shown.{content_of}
use Rattle.wjs_store.specs.State.{World, State, same_world, is_touched, read_in, after_read, put, content_at}
use Rattle.wjs_store.proofs.Keeps.{reached_read}
use Rattle.wjs_store.proofs.Marks.{marks_read, marks_at}
use Rattle.wjs_layers.specs.declared.maps.Row.{Row}
use Rattle.wjs_layers.specs.declared.layer.Spot.{Spot}
use Rattle.wjs_layers.specs.declared.layer.Layer.{Layer}
use Rattle.wjs_layers.specs.declared.layer.Look.TheVariants.{Closed, Untouched}
use Rattle.wjs_layers.specs.Look.{IsUntouched, Looked}
use Rattle.wjs_layers.specs.Sparse.{mark_of, full_of, Keeps, IsSparse, IsAt, StandFor}
use Rattle.wjs_layers.proofs.Full.{untouched, row_some, row_none, closed_same}
use Rattle.wjs_layers.proofs.Changes.{kept_set}
use Rattle.wjs_layers.proofs.Looks.{world_at, keeps_at, holds, parent_is, content_above, now_row}
use Rattle.wjs_layers.specs.Look.{Puts}
use Rattle.wjs_layers.proofs.Puts.{keeps_put, stand_by, at_one, at_other, set_same}

and_false : (b c : Bool) → c ≡ true → (b && not c) ≡ false
and_false true true e = refl
and_false true false e = absurd (false≢true e)
and_false false c e = refl

module _ (layers : List Layer) (h : IsSparse layers) (at : Spot) (here : IsAt layers at) (r : Layer) (s : slice_get layers at.place ≡ Some r) (q : Slot) where
  abbrev state : State plain
  state = full_of layers

  abbrev after : World plain → World plain
  after x = cond (same_world x.id at.world) (read_in q x) x

  after_id : (x : World plain) → (cond (same_world x.id at.world) (read_in q x) x).id ≡ x.id
  after_id x = (marks_at at.world (read_in q) (marks_read q) x).id

  -- the row of the world was set, or is as it was
  read_by : (r' : Layer) → r'.above ≡ r.above → (Keeps r (world_at layers h at here r s).0 → Keeps r' (read_in q (world_at layers h at here r s).0)) → StandFor (set layers at.place r') (after_read (full_of layers) at.world q)
  unfolding after_read
  read_by r' up one = stand_by (set layers at.place r') (each after state) (reached_read state at.world q h.reached)
      (kept_set layers state h.kept at.world at.place r r' after after_id here s up
      (λ x f k. let w = world_at layers h at here r s in
      let e : w.0 ≡ x = cc in
      subst (Keeps r') (ap (read_in q) e ∙ sym (at_one state at.world (read_in q) x f)) (one (subst (Keeps r) (sym e) k)))
      (λ v x l b f k. subst (Keeps l) (sym (at_other state at.world (read_in q) v x b f)) k))

  read_stays : (is_some (world_at layers h at here r s).0.parent && not (is_touched (world_at layers h at here r s).0 q)) ≡ false → StandFor layers (after_read (full_of layers) at.world q)
  read_stays e =
      let x = (world_at layers h at here r s).0 in
      subst (λ ls. StandFor ls (after_read (full_of layers) at.world q)) (set_same layers at.place r s)
      (read_by r refl (λ k. subst (Keeps r) (sym (ap (λ b. cond b (record x { first = map.insert x.first q (map.get x.copy q) }) x) e)) k))

  no_parent : r.above ≡ None → is_some (world_at layers h at here r s).0.parent ≡ false
  no_parent e = ap is_some ((keeps_at layers h at here r s).parent ∙ ap (option_map (λ (a : Spot). a.world)) e)

  has_parent : (a : Spot) → r.above ≡ Some a → is_some (world_at layers h at here r s).0.parent ≡ true
  has_parent a e = ap is_some (parent_is layers h at here r s a e)

  -- a slot with a row is recorded already, or the world has no parent
  read_kept : (row : Row) → map.get r.rows q ≡ Some row → StandFor layers (after_read (full_of layers) at.world q)
  read_kept row e =
      let x = (world_at layers h at here r s).0 in
      read_stays (by_option r.above
      (λ u. ap (λ b. b && not (is_touched x q)) (no_parent u))
      (λ a u. and_false (is_some x.parent) (is_touched x q) (ap (λ b. b || map.contains_key x.closed q.object) (row_some r x (keeps_at layers h at here r s) q row (ap is_some u) e))))

  pub read_now : (c : Content) → Some c ≡ option_map (λ (row : Row). row.now) (map.get r.rows q) → StandFor layers (after_read (full_of layers) at.world q)
  read_now c e = let w = now_row (map.get r.rows q) c e in read_kept w.0 w.1

  pub read_closed : Looked r q Closed → StandFor layers (after_read (full_of layers) at.world q)
  read_closed e =
      let x = (world_at layers h at here r s).0 in
      let k = keeps_at layers h at here r s in
      read_stays (and_false (is_some x.parent) (is_touched x q) (ap (λ b. b || map.contains_key x.closed q.object) (row_none r x k q e.0) ∙ closed_same r x k q ∙ e.1))

  pub read_first : r.above ≡ None → StandFor layers (after_read (full_of layers) at.world q)
  read_first u =
      let x = (world_at layers h at here r s).0 in
      read_stays (ap (λ b. b && not (is_touched x q)) (no_parent u))

  -- what an untouched slot holds is recorded
  module _ (a : Spot) (found : Content) (e : Looked r q (Untouched a)) (c : content_of found ≡ content_at (full_of layers) a.world q) where
    abbrev row : Row
    row = record { read = Some found; now = found; written = false }

    found_here : map.get (world_at layers h at here r s).0.copy q ≡ content_of found
    found_here = sym (holds layers h at here r s q) ∙ content_above layers h at here r s q a e.0 e.1 e.2 ∙ sym c

    recorded : Puts r q (Some row) (world_at layers h at here r s).0 (record (world_at layers h at here r s).0 { first = map.insert (world_at layers h at here r s).0.first q (map.get (world_at layers h at here r s).0.copy q) })
    recorded =
        let x = (world_at layers h at here r s).0 in
        let k = keeps_at layers h at here r s in
        record {
          id = refl;
          parent = refl;
          strict = refl;
          closed = refl;
          first_here = map.get-insert slot_total x.first q (map.get x.copy q) q ∙ ap (λ o. cond (is_eq o) (Some (map.get x.copy q)) (map.get x.first q)) (tied_itself slot_total q) ∙ ap (λ o. Some o) found_here;
          written_here = k.written q ∙ ap (option_and_then mark_of) e.0;
          copy_here = found_here;
          first_other = λ t b. map.get-insert slot_total x.first q (map.get x.copy q) t ∙ ap (λ z. cond z (Some (map.get x.copy q)) (map.get x.first t)) b;
          written_other = λ t b. refl;
          copy_other = λ t b. refl;
          marked = λ w p. let z : row ≡ w = cc in ap (λ (w : Row). is_some w.read || w.written) (sym z) ∙ sym (ap is_some e.2);
          present = λ w u p. absurd (true≢false (ap is_some (sym e.2 ∙ u)));
        }

    pub read_recorded : StandFor (set layers at.place (record r { rows = put r.rows q (Some row) })) (after_read (full_of layers) at.world q)
    read_recorded =
        let x = (world_at layers h at here r s).0 in
        let k = keeps_at layers h at here r s in
        let open_q : (is_some x.parent && not (is_touched x q)) ≡ true = ap (λ b. b && not (is_touched x q)) (has_parent a e.2) ∙ ap not (untouched r x k q e.0 e.1) in
        read_by (record r { rows = put r.rows q (Some row) }) refl
        (λ k. subst (Keeps (record r { rows = put r.rows q (Some row) })) (sym (ap (λ b. cond b (record x { first = map.insert x.first q (map.get x.copy q) }) x) open_q))
        (keeps_put r q (Some row) x (record x { first = map.insert x.first q (map.get x.copy q) }) k recorded))

  -- also where the parent is not named
  pub read_unseen : (found : Content) → IsUntouched r q → content_of found ≡ content_at (full_of layers) at.world q → StandFor (set layers at.place (record r { rows = put r.rows q (Some (record { read = Some found; now = found; written = false })) })) (after_read (full_of layers) at.world q)
  read_unseen found e c = with_some r.above e.2 (λ a u. read_recorded a found (e.0, e.1, u) (c ∙ content_above layers h at here r s q a e.0 e.1 u))
