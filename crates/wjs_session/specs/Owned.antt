-- A session's own view is admitted.
use Rattle.std.proofs.Common.{◌≡◌, true, false, refl, ap, ◌∙◌, Option, None, Some, is_some}
use Rattle.std.specs.FinMap as map
use Rattle.std.proofs.lemmas.Bool.{true≢false, or_parts}
use Rattle.wjs_base.specs.declared.values.Slot.{Slot}
use Rattle.wjs_base.specs.declared.values.Value.{Value}
use Rattle.wjs_store.specs.Naming.{plain}
use Rattle.wjs_store.specs.Meaning.{View}
use Rattle.wjs_store.specs.State.{World, has_row}
use Rattle.wjs_session.specs.Session.{passes, owned}
use Rattle.wjs_session.specs.Maps.{own_by, get_owned, passes_by}

-- what is owned of a slot, case by case
pub own_recorded : (base : View) (x : World plain) (t : Slot) (c : Option Value) → map.get x.first t ≡ Some c → map.get (owned x base) t ≡ c
own_recorded base x t c e = get_owned x base t ∙ ap (λ o. own_by o (map.contains_key x.closed t.object) (has_row x t) (map.get base t)) e

pub own_hidden : (base : View) (x : World plain) (t : Slot) → map.contains_key x.closed t.object ≡ true → has_row x t ≡ false → map.get (owned x base) t ≡ None
own_hidden base x t c r =
    get_owned x base t
    ∙ ap (λ o. own_by o (map.contains_key x.closed t.object) (has_row x t) (map.get base t)) (no_read x t r)
    ∙ (λ k. own_by None (c k) (r k) (map.get base t))
  where
    none_of : {A : Type 0} (o : Option A) → is_some o ≡ false → o ≡ None
    none_of None e = refl
    none_of (Some a) e = absurd (true≢false e)

    no_read : (x : World plain) (t : Slot) → has_row x t ≡ false → map.get x.first t ≡ None
    no_read x t r = none_of (map.get x.first t) (or_parts (map.contains_key x.first t) (map.contains_key x.written t) r).0

-- a session's own view is admitted
pub own_passes : (base : View) (x : World plain) → passes x (owned x base) ≡ true
own_passes base x = passes_by x (owned x base) (λ s c e. own_recorded base x s c e) (λ s c r. own_hidden base x s c r)
