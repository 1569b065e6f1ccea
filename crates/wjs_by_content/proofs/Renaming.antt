-- Other names for all slots and values, by which the laws for known ones are proved.
use Rattle.std.specs.Prelude.{◌≡◌, map as each, IsPermutation}
use Rattle.std.specs.Option.{option_map}
use Rattle.wjs_store.specs.Naming.{Naming}
use Rattle.wjs_store.specs.State.{World, State, Act, read, write, list, sprout, commit, Reply, found, wrote, listed, sprouted, committed}
use Rattle.wjs_by_content.specs.Rename.{renamed, shape}

-- slots and values get other names, different ones where they differ; a slot keeps its object
pub record Renaming {K V J W : Type 0} (n : Naming K V) (m : Naming J W) : Type 0 where
  pub slot : K → J
  pub value : V → W
  pub slots_tell : (a b : K) → slot a ≡ slot b → a ≡ b
  pub values_tell : (a b : V) → value a ≡ value b → a ≡ b
  pub object : (a : K) → m.object (slot a) ≡ n.object a

module _ {K V J W : Type 0} {n : Naming K V} {m : Naming J W} (r : Renaming n m) where
  abbrev pub renamed_world : World n → World m
  renamed_world x = record {
    id = x.id;
    parent = x.parent;
    strict = x.strict;
    copy = renamed r.slot r.value x.copy;
    first = renamed r.slot (option_map r.value) x.first;
    written = renamed r.slot (λ u. u) x.written;
    closed = x.closed;
  }

  abbrev pub renamed_state : State n → State m
  renamed_state = each renamed_world

  abbrev pub renamed_act : Act K V → Act J W
  renamed_act (read w s) = read w (r.slot s)
  renamed_act (write w s c) = write w (r.slot s) (option_map r.value c)
  renamed_act (list w o) = list w o
  renamed_act (sprout w owner strict) = sprout w owner strict
  renamed_act (commit w) = commit w

  -- the same answer under other names: of a listing in another order, of a refused commit at some slot
  abbrev pub Alike : Reply K V → Reply J W → Type 0
  Alike (found c) (found d) = d ≡ option_map r.value c
  Alike wrote wrote = Unit {0}
  Alike (listed ss) (listed ts) = IsPermutation (each r.slot ss) ts
  Alike (sprouted i) (sprouted j) = j ≡ i
  Alike (committed v) (committed u) = shape u ≡ shape v
  Alike a b = ⊥
