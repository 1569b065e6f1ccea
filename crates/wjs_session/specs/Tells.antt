-- What a session has told makes its worlds, and the marks of its world in the shared store.
use Rattle.std.specs.Prelude.{◌≡◌, Bool, true, false, List, [], ◌∷◌, map as each, Option, refl}
use Rattle.std.specs.Coded.{Coded, Coded-set, code_by, coded×, coded_bool, coded_list, coded_option}
use Rattle.std.specs.FinMap as map
use Rattle.std.specs.FinMap.{FinMap}
use Rattle.std.proofs.Props.{props}
use base.Stored.{coded_unit}
use Rattle.wjs_base.specs.contracts.values.Value as value
use Rattle.wjs_base.specs.declared.ids.WorldId.{WorldId}
use Rattle.wjs_base.specs.declared.values.Value.{Value}
use Rattle.wjs_base.specs.Order.{slot_cmp, obj_cmp}
use Rattle.wjs_store.specs.Naming.{plain}
use Rattle.wjs_store.specs.State.{World, KeySet}
use Rattle.wjs_store.specs.Meaning.{View, Worlds, PlainAct, PlainReply}
use Rattle.wjs_base.specs.Codes.{coded_slot, coded_object, coded_world}
use Rattle.wjs_session.specs.Session.{holding, outer, full_of, passes}
use Rattle.wjs_session.specs.Along.{along}

-- each action that was told, without its answer
abbrev pub actions_of : List (PlainAct × PlainReply) → List PlainAct
actions_of told = each (λ e. e.0) told

-- the world x with what it holds under a view
abbrev pub under : World plain → View → World plain
under x v = record x { copy = outer x v }

-- and as it began over a first world that holds this
abbrev pub unmarked : World plain → View → World plain
unmarked x v = record x { copy = v; first = map.empty; written = map.empty; closed = map.empty }

-- under each view that is admitted, what was told makes the session's worlds of one that holds the view, and the marks of x of none
abbrev pub TellsMarks : World plain → Worlds → List (PlainAct × PlainReply) → Type 0
TellsMarks x G told = (v : View) → passes x v ≡ true → along (actions_of told) (holding x.id v ∷ []) (unmarked x v) ≡ (full_of x G v, under x v)

-- ---- it is one fact

abbrev coded_value : Coded Value
coded_value = (value.the_row).coded

abbrev coded_full : Coded (World plain)
coded_full =
    code_by (WorldId × (Option WorldId × (Bool × (View × (FinMap slot_cmp (Option Value) × (KeySet slot_cmp × KeySet obj_cmp))))))
    (coded× coded_world (coded× (coded_option coded_world) (coded× coded_bool (coded× (map.code coded_slot coded_value) (coded× (map.code coded_slot (coded_option coded_value)) (coded× (map.code coded_slot coded_unit) (map.code coded_object coded_unit)))))))
    (λ x. (x.id, (x.parent, (x.strict, (x.copy, (x.first, (x.written, x.closed)))))))
    (λ p. record { id = p.0; parent = p.1.0; strict = p.1.1.0; copy = p.1.1.1.0; first = p.1.1.1.1.0; written = p.1.1.1.1.1.0; closed = p.1.1.1.1.1.1 })
    (λ _. refl)

pub worlds_set : IsSet (Worlds × World plain)
worlds_set = Coded-set (coded× (coded_list coded_full) coded_full)

pub tells_prop : (spent : Bool) (x : World plain) (G : Worlds) (told : List (PlainAct × PlainReply)) → IsProp (spent ≡ false → TellsMarks x G told)
tells_prop spent x G told = hlevel (props, worlds_set)
