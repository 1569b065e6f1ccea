-- A commit, by its verdict.
use Rattle.std.proofs.Common.{◌≡◌, ℕ, ◌+◌, ◌*◌, ◌≤◌, true, List, [], map as each, length, Option, None, Some, is_some, slice_get, ap, sym, ◌∙◌, arith}
use Rattle.std.specs.Option.{option_map, option_map_or, option_and_then}
use Rattle.std.specs.FinMap as map
use Rattle.wjs_base.specs.declared.ids.ObjId.{ObjId}
use Rattle.wjs_base.specs.declared.ids.WorldId.{WorldId}
use Rattle.wjs_store.specs.Shown.{slots_of}
use Rattle.wjs_store.proofs.Named.{named}
use Rattle.wjs_base.specs.declared.values.Slot.{Slot}
use Rattle.wjs_base.proofs.Options.{by_option}
use Rattle.wjs_store.specs.Naming.{plain}
use Rattle.wjs_store.specs.State.{World, State, find_world, with_parent, fault_in, verdict_at, after_commit, no_parent, moved, differs, slots_at, slots_in}
use Rattle.wjs_store.proofs.Parents.{pair_root, pair_found, commit_alone, commit_fault, commit_moves}
use Rattle.wjs_layers.specs.declared.layer.Spot.{Spot}
use Rattle.wjs_layers.specs.declared.layer.Layer.{Layer}
use Rattle.wjs_layers.specs.Sparse.{full_of, depth_of, IsSparse, IsAt, StandFor}
use Rattle.wjs_layers.specs.Work.{row_slots, kept_from, rows_of, closed_of, rows_above}
use Rattle.wjs_overlay.specs.Store.{check_of}
use Rattle.wjs_layers.proofs.Looks.{world_at, keeps_at, parent_is, depth_above, found_at, above_at}

module _ (layers : List Layer) (h : IsSparse layers) (at : Spot) (here : IsAt layers at) (r : Layer) (s : slice_get layers at.place ≡ Some r) where
  pub no_above : r.above ≡ None → (no_parent ≡ verdict_at (full_of layers) at.world) × StandFor layers (after_commit (full_of layers) at.world)
  no_above e =
      let x = world_at layers h at here r s in
      let k = keeps_at layers h at here r s in
      let c = commit_alone (full_of layers) at.world (pair_root (full_of layers) at.world x.0 x.1 (k.parent ∙ ap (option_map (λ (a : Spot). a.world)) e)) in
      (c.0, record { full = c.1; sparse = h })

  module _ (a : Spot) (up : r.above ≡ Some a) where
    above_here : IsAt layers a
    above_here = (above_at layers h at here r s a up).0

    pub parent_there : (x : World plain) → find_world (full_of layers) at.world ≡ Some x → is_some x.parent ≡ true
    parent_there x f = ap is_some ((h.kept.at at.world at.place x r here f s).parent ∙ ap (option_map (λ (b : Spot). b.world)) up)

    pair : (y : World plain) → find_world (full_of layers) a.world ≡ Some y → with_parent (full_of layers) at.world ≡ Some ((world_at layers h at here r s).0, y)
    pair y fy =
        let x = world_at layers h at here r s in
        pair_found (full_of layers) at.world x.0 x.1 a.world y (parent_is layers h at here r s a up) fy

    pub faulty : (q : Slot) → ((x y : World plain) → find_world (full_of layers) at.world ≡ Some x → find_world (full_of layers) a.world ≡ Some y → Some q ≡ fault_in x y) → (differs q ≡ verdict_at (full_of layers) at.world) × StandFor layers (after_commit (full_of layers) at.world)
    faulty q f =
        let x = world_at layers h at here r s in
        let y = found_at (full_of layers) a.world a.place above_here in
        let c = commit_fault (full_of layers) at.world x.0 y.0 q (pair y.0 y.1) (f x.0 y.0 x.1 y.1) in
        (c.0, record { full = c.1; sparse = h })

    pub passes : ((x y : World plain) → find_world (full_of layers) at.world ≡ Some x → find_world (full_of layers) a.world ≡ Some y → None ≡ fault_in x y) → moved ≡ verdict_at (full_of layers) at.world
    passes f =
        let x = world_at layers h at here r s in
        let y = found_at (full_of layers) a.world a.place above_here in
        (commit_moves (full_of layers) at.world x.0 y.0 (pair y.0 y.1) (f x.0 y.0 x.1 y.1)).0

module _ (layers : List Layer) (h : IsSparse layers) (at : Spot) (here : IsAt layers at) (r : Layer) (s : slice_get layers at.place ≡ Some r) where
  pub check_alone : r.above ≡ None → None ≡ check_of (full_of layers) at.world
  check_alone e =
      let x = world_at layers h at here r s in
      let k = keeps_at layers h at here r s in
      sym (ap (option_and_then (λ (e : World plain × World plain). fault_in e.0 e.1)) (pair_root (full_of layers) at.world x.0 x.1 (k.parent ∙ ap (option_map (λ (a : Spot). a.world)) e)))

  pub check_under : (a : Spot) → r.above ≡ Some a → (o : Option Slot) → ((x y : World plain) → find_world (full_of layers) at.world ≡ Some x → find_world (full_of layers) a.world ≡ Some y → o ≡ fault_in x y) → o ≡ check_of (full_of layers) at.world
  check_under a up o f =
      let x = world_at layers h at here r s in
      let y = found_at (full_of layers) a.world a.place (above_at layers h at here r s a up).0 in
      f x.0 y.0 x.1 y.1 ∙ sym (ap (option_and_then (λ (e : World plain × World plain). fault_in e.0 e.1)) (pair layers h at here r s a up y.0 y.1))

-- the slots of listed names
pub named_at : (F : State plain) (w : WorldId) (o : ObjId) → slots_of o (each (λ (s : Slot). s.name) (slots_at F w o)) ≡ slots_at F w o
named_at F w o = by_option (find_world F w)
    (λ e. ap (λ d. slots_of o (each (λ (s : Slot). s.name) (option_map_or (slots_in o) d []))) e ∙ sym (ap (λ d. option_map_or (slots_in o) d []) e))
    (λ x e. ap (λ d. slots_of o (each (λ (s : Slot). s.name) (option_map_or (slots_in o) d []))) e ∙ named o (map.keys x.copy) ∙ sym (ap (λ d. option_map_or (slots_in o) d []) e))

-- ---- the bound of a commit

module _ (layers : List Layer) (h : IsSparse layers) (at : Spot) (here : IsAt layers at) (r : Layer) (s : slice_get layers at.place ≡ Some r) (a : Spot) (up : r.above ≡ Some a) where
  abbrev bound : ℕ
  bound = (rows_of (full_of layers) at.world + closed_of (full_of layers) at.world + rows_above (full_of layers) at.world + 1) * (4 * depth_of (full_of layers) at.world + 20)

  bound_is : (x : World plain) → find_world (full_of layers) at.world ≡ Some x → x.parent ≡ Some a.world → (length (row_slots x) + map.len x.closed + kept_from (λ (t : Slot). map.contains_key x.closed t.object) (full_of layers) a.world + 1) * (4 * (depth_of (full_of layers) a.world + 1) + 20) ≡ bound
  bound_is x f u =
      ap (λ n. (length (row_slots x) + map.len x.closed + option_map_or (kept_from (λ (t : Slot). map.contains_key x.closed t.object) (full_of layers)) n 0 + 1) * (4 * (depth_of (full_of layers) a.world + 1) + 20)) (sym u)
      ∙ ap (λ n. (option_map_or (λ (x : World plain). length (row_slots x)) n 0 + option_map_or (λ (x : World plain). map.len x.closed) n 0 + option_map_or (λ (x : World plain). option_map_or (kept_from (λ (t : Slot). map.contains_key x.closed t.object) (full_of layers)) x.parent 0) n 0 + 1) * (4 * (depth_of (full_of layers) a.world + 1) + 20)) (sym f)
      ∙ ap (λ d. (rows_of (full_of layers) at.world + closed_of (full_of layers) at.world + rows_above (full_of layers) at.world + 1) * (4 * d + 20)) (sym (depth_above layers h at here r s a up))

  -- a check that failed
  pub checked_within : (b e : ℕ) → ((x : World plain) → find_world (full_of layers) at.world ≡ Some x → e ≤ b + (length (row_slots x) * (2 * depth_of (full_of layers) a.world + 3) + map.len x.closed * (depth_of (full_of layers) a.world + 2) + kept_from (λ (t : Slot). map.contains_key x.closed t.object) (full_of layers) a.world * (3 * depth_of (full_of layers) a.world + 4) + 2)) → e ≤ b + bound
  checked_within b e f =
      let v = world_at layers h at here r s in
      let is = bound_is v.0 v.1 (parent_is layers h at here r s a up) in
      omega (arith, f v.0 v.1, is)

  -- a check that passed, and the move
  pub moved_within : (b e n : ℕ) → ((x : World plain) → find_world (full_of layers) at.world ≡ Some x → e ≤ b + (length (row_slots x) * (2 * depth_of (full_of layers) a.world + 3) + map.len x.closed * (depth_of (full_of layers) a.world + 2) + kept_from (λ (t : Slot). map.contains_key x.closed t.object) (full_of layers) a.world * (3 * depth_of (full_of layers) a.world + 4) + 2)) → ((x : World plain) → find_world (full_of layers) at.world ≡ Some x → n ≤ e + (length (row_slots x) * (2 * depth_of (full_of layers) a.world + 7) + map.len x.closed * 2 + 2)) → n ≤ b + bound
  moved_within b e n f m =
      let v = world_at layers h at here r s in
      let is = bound_is v.0 v.1 (parent_is layers h at here r s a up) in
      omega (arith, f v.0 v.1, m v.0 v.1, is)
