-- One map over another.
use Rattle.std.specs.Prelude.{Bool, not, ◌++◌}
use Rattle.std.specs.FinMap as map
use Rattle.wjs_base.specs.declared.values.Slot.{Slot}
use Rattle.wjs_store.specs.Meaning.{View}

-- the first map where the test holds, and the second elsewhere
unfoldable pub filled : (Slot → Bool) → View → View → View
filled within m outside = map.from_entries (map.entries (map.retain_keys m within) ++ map.entries (map.retain_keys outside (λ s. not (within s))))
