-- A move into the parent, part by part.
use Rattle.std.proofs.Common.{◌≡◌, ◌≤◌, true, List, length, get_or, IfSome, Some, None, is_some, slice_get, ap, sym, ◌∙◌, subst}
use Rattle.std.specs.FinMap as map
use Rattle.wjs_base.specs.declared.ids.ObjId.{ObjId}
use Rattle.wjs_base.specs.declared.ids.WorldId.{WorldId}
use Rattle.wjs_base.specs.declared.values.Slot.{Slot}
use Rattle.wjs_store.specs.Naming.{plain}
use Rattle.wjs_store.specs.State.{World, State, find_world, at_world, clear_marks, fault_in, after_commit}
use Rattle.wjs_store.proofs.Parents.{slice_get_at}
use Rattle.wjs_layers.specs.declared.maps.Row.{Row}
use Rattle.wjs_layers.specs.declared.layer.Spot.{Spot}
use Rattle.wjs_layers.specs.declared.layer.Layer.{Layer}
use Rattle.wjs_layers.specs.Moves.{handed_rows, ReadsAgree, written_rows, closed_all}
use Rattle.wjs_layers.specs.Sparse.{AreKept, IsSparse, IsAt, StandFor, full_of, place_of, depth_of}
use Rattle.wjs_layers.specs.Work.{row_slots}
use Rattle.wjs_layers.proofs.Depths.{depth_handed}
use Rattle.wjs_layers.proofs.HandLaws.{rows_id, closes_id}
use Rattle.wjs_layers.proofs.Looks.{above_at, below_at, found_at}
use Rattle.wjs_layers.proofs.Works.{rows_under, closed_many}
use Rattle.wjs_layers.proofs.SettleLaws.{reads_agree, handed_stand, handed_state, parent_still, settled_stand, at_places, written_places}

module _ (layers : List Layer) (h : IsSparse layers) (at : Spot) (here : IsAt layers at) (d : Layer) (a : Spot) (up : IfSome (slice_get layers at.place) (λ (q : Layer). q.above ≡ Some a)) where
  abbrev r : Layer
  r = get_or layers at.place d

  s : slice_get layers at.place ≡ Some r
  s = slice_get_at layers at.place d (below_at layers at h here)

  u : r.above ≡ Some a
  u = subst (λ o. IfSome o (λ (q : Layer). q.above ≡ Some a)) s up

  pub parent_at : IsAt layers a
  parent_at = (above_at layers h at here r s a u).0

  -- its rows and listed objects are no more than the world's
  pub rows_fit : (x : World plain) → find_world (full_of layers) at.world ≡ Some x → length (map.entries r.rows) ≤ length (row_slots x)
  rows_fit x f = rows_under layers h at here r s x f a u

  pub closed_fit : (x : World plain) → find_world (full_of layers) at.world ≡ Some x → length (map.keys r.closed) ≡ map.len x.closed
  closed_fit x f = closed_many layers h at here r s x f

  module _ (agrees : (x y : World plain) → find_world (full_of layers) at.world ≡ Some x → find_world (full_of layers) a.world ≡ Some y → fault_in x y ≡ None) where
    x : (x : World plain) × (find_world (full_of layers) at.world ≡ Some x)
    x = found_at (full_of layers) at.world at.place here

    y : (y : World plain) × (find_world (full_of layers) a.world ≡ Some y)
    y = found_at (full_of layers) a.world a.place parent_at

    ok : fault_in x.0 y.0 ≡ None
    ok = agrees x.0 y.0 x.1 y.1

    -- the reads were handed up
    module _ (rows : List (Slot × Row)) (is : rows ≡ map.entries r.rows) (l1 : List Layer) (handed : (F : State plain) → AreKept layers F → place_of F a.world ≡ Some a.place → ((z : World plain) → find_world F a.world ≡ Some z → ReadsAgree rows z) → AreKept l1 (at_world a.world (handed_rows rows) F)) where
      kept1 : AreKept l1 (at_world a.world (handed_rows (map.entries r.rows)) (full_of layers))
      kept1 = subst (λ (rs : List (Slot × Row)). AreKept l1 (at_world a.world (handed_rows rs) (full_of layers))) is
          (handed (full_of layers) h.kept parent_at (λ z e. subst (λ (rs : List (Slot × Row)). ReadsAgree rs z) (sym is) (reads_agree layers h at here r s a u x.0 z x.1 e (agrees x.0 z x.1 e))))

      pub handed_sparse : IsSparse l1
      handed_sparse = (handed_stand layers h at here r s a u x.0 y.0 x.1 y.1 ok l1 kept1).sparse

      handed_places : (v : WorldId) → place_of (full_of l1) v ≡ place_of (full_of layers) v
      handed_places v =
          ap (λ G. place_of G v) ((handed_stand layers h at here r s a u x.0 y.0 x.1 y.1 ok l1 kept1).full ∙ sym (handed_state layers h at here r s a u x.0 y.0 x.1 y.1 ok))
          ∙ at_places a.world (handed_rows (map.entries r.rows)) (rows_id (map.entries r.rows)) (full_of layers) v

      pub handed_there : IsAt l1 a
      handed_there = handed_places a.world ∙ parent_at

      pub handed_depth : depth_of (full_of l1) a.world ≡ depth_of (full_of layers) a.world
      handed_depth = depth_handed layers h at here r s a u x.0 y.0 x.1 y.1 ok l1 kept1 a.world

      -- what was written was written there, the listed objects were marked there, and the marks were emptied
      pub settled : (rows2 : List (Slot × Row)) → rows2 ≡ map.entries r.rows → (l2 : List Layer) → StandFor l2 (written_rows a.world rows2 (full_of l1)) → (objects : List ObjId) → objects ≡ map.keys r.closed → (l3 : List Layer) → ((F : State plain) → AreKept l2 F → place_of F a.world ≡ Some a.place → AreKept l3 (at_world a.world (closed_all objects) F)) → (l4 : List Layer) → ((F : State plain) → AreKept l3 F → place_of F at.world ≡ Some at.place → ((z : World plain) → find_world F at.world ≡ Some z → is_some z.parent ≡ true) → AreKept l4 (at_world at.world clear_marks F)) → StandFor l4 (after_commit (full_of layers) at.world)
      settled rows2 is2 l2 st2 objects is3 l3 closed l4 emptied =
          let st1 = handed_stand layers h at here r s a u x.0 y.0 x.1 y.1 ok l1 kept1 in
          let e2 = st2.full ∙ ap (λ (rs : List (Slot × Row)). written_rows a.world rs (full_of l1)) is2 ∙ ap (written_rows a.world (map.entries r.rows)) st1.full in
          let written_there : (v : WorldId) → place_of (full_of l2) v ≡ place_of (full_of layers) v = λ v. ap (λ G. place_of G v) st2.full ∙ written_places a.world rows2 (full_of l1) v ∙ handed_places v in
          let kept3 = subst (λ (os : List ObjId). AreKept l3 (at_world a.world (closed_all os) (full_of l2))) is3 (closed (full_of l2) st2.sparse.kept (written_there a.world ∙ parent_at)) in
          let F3 = at_world a.world (closed_all (map.keys r.closed)) (full_of l2) in
          let here3 : place_of F3 at.world ≡ Some at.place = at_places a.world (closed_all (map.keys r.closed)) (closes_id (map.keys r.closed)) (full_of l2) at.world ∙ written_there at.world ∙ here in
          settled_stand layers h at here r s a u x.0 y.0 x.1 y.1 ok l2 e2 l4
          (emptied F3 kept3 here3 (parent_still layers h at here r s a u x.0 y.0 x.1 y.1 ok l2 e2))
