-- The marks of a world under another first world, by the actions of a run that takes it for its first one. No world is below it there, so what is done in it changes it alone.
use Rattle.std.specs.Prelude.{cond, not, ◌&&◌, List, [], ◌∷◌, fold, Option, is_none}
use Rattle.std.specs.Option.{option_map_or}
use Rattle.std.specs.declared.cmp.Ordering.{Ordering}
use Rattle.std.specs.FinMap as map
use Rattle.std.specs.FinMap.{FinMap}
use Rattle.wjs_base.specs.declared.ids.WorldId.{WorldId}
use Rattle.wjs_store.specs.Naming.{Naming}
use Rattle.wjs_store.specs.State.{World, State, Act, read, write, list, sprout, commit, same_world, put, has_row, fault_in, reads_of, moves, with_parent, read_in, write_in, list_in, after}

-- one content after another is put
abbrev pub put_all : {K V : Type 0} {R : K → K → Ordering} → List (K × Option V) → FinMap R V → FinMap R V
put_all es m = fold (λ k e. put k e.0 e.1) m es

module _ {K V : Type 0} {n : Naming K V} where
  -- the slots that a commit moves into the world w, with what it moves
  abbrev pub moved_into : WorldId → State n → WorldId → List (K × Option V)
  moved_into w G d = option_map_or (λ (e : World n × World n). cond (same_world e.1.id w && is_none (fault_in e.0 e.1)) (moves e.0) []) (with_parent G d) []

  -- one write after another in a world
  abbrev pub write_each : List (K × Option V) → World n → World n
  write_each es x = fold (λ y e. write_in e.0 e.1 y) x es

  -- what an action on the run's own worlds G does in the world x: a read or a listing anywhere is one in x; so is a write in x itself, and elsewhere it reads; a commit into x writes there
  abbrev pub marked_by : State n → World n → Act K V → World n
  marked_by G x (read d s) = read_in s x
  marked_by G x (write d s c) = cond (same_world d x.id) (write_in s c x) (read_in s x)
  marked_by G x (list d o) = list_in o x
  marked_by G x (sprout d owner strict) = x
  marked_by G x (commit d) = write_each (moved_into x.id G d) x

  -- one action after another, in both
  abbrev pub along : List (Act K V) → State n → World n → State n × World n
  along [] G x = (G, x)
  along (a ∷ actions) G x = along actions (after G a) (marked_by G x a)

  -- what the world x takes a first world to hold, where that holds this: its recorded reads as they were read, and no slot of a listed object that it has neither read nor written
  abbrev pub own_of : World n → FinMap n.cmp V → FinMap n.cmp V
  own_of x base = put_all (reads_of x) (map.retain_keys base (λ s. not (map.contains_key x.closed (n.object s) && not (has_row x s))))
