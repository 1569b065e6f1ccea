-- What was done in a world is given up.
use Rattle.std.specs.Prelude.{Bool, false}
use Rattle.std.specs.Option.{option_map_or}
use Rattle.std.specs.List.{list_any}
use Rattle.wjs_base.specs.declared.ids.WorldId.{WorldId}
use Rattle.wjs_store.specs.Naming.{plain}
use Rattle.wjs_store.specs.State.{World, State, same_world, at_world, clear_marks, with_parent}

-- whether a world has a child
abbrev pub has_child : State plain → WorldId → Bool
has_child F w = list_any (λ (y : World plain). option_map_or (λ p. same_world p w) y.parent false) F

-- as its parent p would sprout it now: it holds what that holds, and has no marks
abbrev pub renewed : World plain → World plain → World plain
renewed p x = record (clear_marks x) { copy = p.copy }

-- the world w, which has a parent, is renewed, and the others stay
unfoldable pub after_reset : State plain → WorldId → State plain
after_reset F w = option_map_or (λ (e : World plain × World plain). at_world w (renewed e.1) F) (with_parent F w) F
