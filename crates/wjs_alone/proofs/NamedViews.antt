-- What a world takes the first world to hold, by content.
use Rattle.std.proofs.Common.{◌≡◌, Bool, true, false, cond, not, ◌&&◌, ◌||◌, refl, ap, sym, ◌∙◌, Option, None, Some, is_some}
use Rattle.std.specs.Option.{option_map}
use Rattle.std.specs.FinMap as map
use Rattle.std.proofs.lemmas.Bool.{true≢false, false≢true}
use Rattle.wjs_base.specs.declared.values.Slot.{Slot as NumberedSlot}
use Rattle.wjs_base.specs.Text.{Table}
use Rattle.wjs_base.proofs.Options.{some_map, with_some}
use Rattle.wjs_base.proofs.Booleans.{by_bool}
use Rattle.wjs_store.specs.Naming.{plain}
use Rattle.wjs_store.specs.Meaning.{View}
use Rattle.wjs_store.specs.State.{World, has_row}
use Rattle.wjs_session.specs.Session.{owned}
use Rattle.wjs_session.specs.Maps.{own_by, get_own, get_owned}
use Rattle.wjs_by_content.specs.Renamed.{Knows}
use Rattle.wjs_by_content.specs.Tables.{slot_in, value_in, knows_slot}
use Rattle.wjs_by_content.specs.Telling.{names_of}
use Rattle.wjs_alone.specs.Marks.{own_view}
use Rattle.wjs_alone.specs.Views.{held_in, KnowsView}
use Rattle.wjs_alone.specs.Named.{world_in, OwnViewsByContent}
use Rattle.wjs_alone.proofs.NamedMaps.{KnownKeys, get_named, is_named, same_named}

-- ---- what is owned of a slot, by cases

-- where nothing is recorded it is what the first world holds
pub from_base : {V : Type 0} (o : Option (Option V)) (c r : Bool) (b : Option V) (w : V) → own_by o c r b ≡ Some w → is_some o ≡ false → b ≡ Some w
from_base (Some d) c r b w e h = absurd (true≢false h)
from_base None c r b w e h = by (not (c && not r)) e
  where
    by : (q : Bool) → cond q b None ≡ Some w → b ≡ Some w
    by true e = e
    by false e = cc

some_base : {V : Type 0} (o : Option (Option V)) (c r : Bool) (b : Option V) → is_some (own_by o c r b) ≡ true → is_some o ≡ false → is_some b ≡ true
some_base (Some d) c r b e h = absurd (true≢false h)
some_base None c r b e h = by (not (c && not r)) e
  where
    by : (q : Bool) → is_some (cond q b None) ≡ true → is_some b ≡ true
    by true e = e
    by false e = absurd (false≢true e)

own_map : {V W : Type 0} (g : V → W) (o : Option (Option V)) (c r : Bool) (b : Option V) → own_by (option_map (option_map g) o) c r (option_map g b) ≡ option_map g (own_by o c r b)
own_map g (Some d) c r b = refl
own_map g None c r b = by (not (c && not r))
  where
    by : (q : Bool) → cond q (option_map g b) None ≡ option_map g (cond q b None)
    by true = refl
    by false = refl

-- ---- by a table

module _ (t : Table) (x : World plain) (v : View) (kx : Knows (names_of t) x) (kv : KnowsView t v) where
  first_known : KnownKeys (names_of t) x.first
  first_known s c e = (kx.first s c e).0

  written_known : KnownKeys (names_of t) x.written
  written_known s u e = kx.written s u e

  view_known : KnownKeys (names_of t) v
  view_known s w e = (kv s w e).0

  owned_known : KnownKeys (names_of t) (owned x v)
  owned_known s w e = by_bool (is_some (map.get x.first s))
      (λ f. with_some (map.get x.first s) f (λ c q. first_known s c q))
      (λ f. view_known s w (from_base (map.get x.first s) (map.contains_key x.closed s.object) (has_row x s) (map.get v s) w (sym (get_owned x v s) ∙ e) f))

  row_named : (k : NumberedSlot) → knows_slot t k ≡ true → has_row (world_in t x) (slot_in t k) ≡ has_row x k
  row_named k h =
      let f = ap is_some (get_named (names_of t) (option_map (value_in t)) x.first first_known k h) ∙ some_map (option_map (value_in t)) (map.get x.first k) in
      let w = ap is_some (get_named (names_of t) (λ (u : Unit {0}). u) x.written written_known k h) ∙ some_map (λ (u : Unit {0}). u) (map.get x.written k) in
      λ j. f j || w j

  at_name : (k : NumberedSlot) → knows_slot t k ≡ true → map.get (own_view (world_in t x) (held_in t v)) (slot_in t k) ≡ map.get (held_in t (owned x v)) (slot_in t k)
  at_name k h =
      get_own (world_in t x) (held_in t v) (slot_in t k)
      ∙ (λ j. own_by (get_named (names_of t) (option_map (value_in t)) x.first first_known k h j) (map.contains_key x.closed k.object) (row_named k h j) (get_named (names_of t) (value_in t) v view_known k h j))
      ∙ own_map (value_in t) (map.get x.first k) (map.contains_key x.closed k.object) (has_row x k) (map.get v k)
      ∙ ap (option_map (value_in t)) (sym (get_owned x v k))
      ∙ sym (get_named (names_of t) (value_in t) (owned x v) owned_known k h)

  own_named : own_view (world_in t x) (held_in t v) ≡ held_in t (owned x v)
  own_named = same_named (names_of t) (own_view (world_in t x) (held_in t v)) (held_in t (owned x v))
      (λ q h. by_bool (is_some (map.get (world_in t x).first q))
      (λ f. is_named (names_of t) (option_map (value_in t)) x.first first_known q f)
      (λ f. is_named (names_of t) (value_in t) v view_known q (some_base (map.get (world_in t x).first q) (map.contains_key x.closed q.object) (has_row (world_in t x) q) (map.get (held_in t v) q) (sym (ap is_some (get_own (world_in t x) (held_in t v) q)) ∙ h) f)))
      (λ q h. is_named (names_of t) (value_in t) (owned x v) owned_known q h)
      at_name

pub views_lem : OwnViewsByContent
views_lem t x v kx kv = own_named t x v kx kv
