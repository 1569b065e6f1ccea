-- No call but a sprout changes which worlds are above a world.
use Rattle.std.proofs.Common.{◌≡◌, ℕ, ◌+◌, Bool, cond, List, [], ◌∷◌, map as each, Option, None, Some, is_some, slice_get, refl, ap, sym, ◌∙◌}
use Rattle.std.specs.Option.{option_map_or}
use Rattle.std.specs.FinMap as map
use Rattle.wjs_base.specs.declared.ids.WorldId.{WorldId}
use Rattle.wjs_base.specs.declared.values.Slot.{Slot}
use Rattle.wjs_base.specs.declared.values.Value.{Value}
use Rattle.wjs_store.specs.Naming.{plain}
use Rattle.wjs_store.specs.State.{World, State, find_world, same_world, is_below, after_write, write_at, at_world, fault_in}
use Rattle.wjs_store.proofs.Writes.{by_one, by_two, write_id}
use Rattle.wjs_layers.specs.declared.maps.Row.{Row}
use Rattle.wjs_layers.specs.declared.layer.Spot.{Spot}
use Rattle.wjs_layers.specs.declared.layer.Layer.{Layer}
use Rattle.wjs_layers.specs.Moves.{handed_rows}
use Rattle.wjs_layers.specs.Sparse.{full_of, depth_of, AreKept, IsSparse, IsAt}
use Rattle.wjs_layers.proofs.HandLaws.{all_parent, rows_id}
use Rattle.wjs_layers.proofs.ListLaws.{at_id}
use Rattle.wjs_layers.proofs.SettleLaws.{handed_stand, handed_state}

map_same : (a b : WorldId → ℕ) → ((p : WorldId) → a p ≡ b p) → (o : Option WorldId) → option_map_or (λ p. a p + 1) o 0 ≡ option_map_or (λ p. b p + 1) o 0
map_same a b h None = refl
map_same a b h (Some p) = ap (λ m. m + 1) (h p)

depth_each : (g : World plain → World plain) → ((x : World plain) → (g x).id ≡ x.id) → ((x : World plain) → (g x).parent ≡ x.parent) → (F : State plain) (w : WorldId) → depth_of (each g F) w ≡ depth_of F w
unfolding depth_of
depth_each g ids ups [] w = refl
depth_each g ids ups (x ∷ older) w =
    ap (λ j. cond (same_world j w) (option_map_or (λ p. depth_of (each g older) p + 1) (g x).parent 0) (depth_of (each g older) w)) (ids x)
    ∙ ap (λ o. cond (same_world x.id w) (option_map_or (λ p. depth_of (each g older) p + 1) o 0) (depth_of (each g older) w)) (ups x)
    ∙ ap (λ m. cond (same_world x.id w) m (depth_of (each g older) w)) (map_same (λ p. depth_of (each g older) p) (λ p. depth_of older p) (λ p. depth_each g ids ups older p) x.parent)
    ∙ ap (λ m. cond (same_world x.id w) (option_map_or (λ p. depth_of older p + 1) x.parent 0) m) (depth_each g ids ups older w)

depth_write : (F : State plain) (w : WorldId) (s : Slot) (c : Option Value) (v : WorldId) → depth_of (after_write F w s c) v ≡ depth_of F v
unfolding after_write
depth_write F w s c v = depth_each (write_at F w s c) (write_id F w s c) (λ x. by_two (same_world x.id w) (is_below w s F x.id) (λ (y : World plain). y.parent ≡ x.parent) refl refl refl) F v

pub depth_row : (b : Bool) (F : State plain) (w : WorldId) (s : Slot) (c : Option Value) (v : WorldId) → depth_of (cond b (after_write F w s c) F) v ≡ depth_of F v
depth_row b F w s c v = by_one b (λ (G : State plain). depth_of G v ≡ depth_of F v) (depth_write F w s c v) refl

depth_at : (w : WorldId) (f : World plain → World plain) → ((x : World plain) → (f x).id ≡ x.id) → ((x : World plain) → (f x).parent ≡ x.parent) → (F : State plain) (v : WorldId) → depth_of (at_world w f F) v ≡ depth_of F v
depth_at w f ids ups F v = depth_each (λ x. cond (same_world x.id w) (f x) x) (at_id w f ids) (λ x. by_one (same_world x.id w) (λ (y : World plain). y.parent ≡ x.parent) (ups x) refl) F v

rows_up : (es : List (Slot × Row)) (y : World plain) → (handed_rows es y).parent ≡ y.parent
rows_up es y = by_one (is_some y.parent) (λ (z : World plain). z.parent ≡ y.parent) (all_parent es y) refl

module _ (layers : List Layer) (h : IsSparse layers) (at : Spot) (here : IsAt layers at) (r : Layer) (s : slice_get layers at.place ≡ Some r) (a : Spot) (up : r.above ≡ Some a) where
  -- after the reads were handed up
  pub depth_handed : (x y : World plain) → find_world (full_of layers) at.world ≡ Some x → find_world (full_of layers) a.world ≡ Some y → fault_in x y ≡ None → (l1 : List Layer) → AreKept l1 (at_world a.world (handed_rows (map.entries r.rows)) (full_of layers)) → (v : WorldId) → depth_of (full_of l1) v ≡ depth_of (full_of layers) v
  depth_handed x y fx fy ok l1 k v =
      ap (λ G. depth_of G v) ((handed_stand layers h at here r s a up x y fx fy ok l1 k).full ∙ sym (handed_state layers h at here r s a up x y fx fy ok))
      ∙ depth_at a.world (handed_rows (map.entries r.rows)) (rows_id (map.entries r.rows)) (rows_up (map.entries r.rows)) (full_of layers) v
