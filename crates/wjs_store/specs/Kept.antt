-- That a state was reached is one fact: it has at most one proof.
use Rattle.std.specs.Prelude.{◌≡◌, Bool, false, [], ◌∷◌, Option}
use Rattle.std.specs.Coded.{Coded-set, coded_option, ×_prop, Unit-prop}
use Rattle.std.proofs.Props.{props}
use Rattle.wjs_base.specs.contracts.values.Value as value
use Rattle.wjs_base.specs.declared.values.Value.{Value}
use Rattle.wjs_store.specs.Naming.{plain}
use Rattle.wjs_store.specs.State.{World, State}
use Rattle.wjs_store.specs.Reached.{Fits, IsReached}

content_set : IsSet (Option Value)
content_set = Coded-set (coded_option (value.the_row).coded)

Fits-prop : (x : World plain) (older : State plain) → IsProp (Fits x older)
Fits-prop x older = hlevel (props, content_set)

pub IsReached-prop : (F : State plain) → IsProp (IsReached F)
IsReached-prop [] = Unit-prop
IsReached-prop (x ∷ older) = ×_prop (Fits-prop x older) (IsReached-prop older)

pub kept_prop : (spent : Bool) (F : State plain) → IsProp (spent ≡ false → IsReached F)
kept_prop spent F = hlevel (props, IsReached-prop F)
