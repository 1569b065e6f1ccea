-- Names that are given for the known slots and values only, as the texts of a table.
use Rattle.std.specs.Prelude.{◌≡◌, Bool, true, List, [], ◌∷◌, map as each, Option, None, Some, IsPermutation}
use Rattle.std.specs.Option.{option_map}
use Rattle.std.specs.FinMap as map
use Rattle.wjs_store.specs.Naming.{Naming}
use Rattle.wjs_store.specs.State.{World, State, Act, read, write, list, sprout, commit, Reply, found, wrote, listed, sprouted, committed}
use Rattle.wjs_by_content.specs.Rename.{renamed, shape}

-- names for the known slots and values, different ones where they differ; a slot keeps its object
pub record Names {K V J W : Type 0} (n : Naming K V) (m : Naming J W) : Type 0 where
  pub slot : K → J
  pub value : V → W
  pub knows : K → Bool
  pub knows_value : V → Bool
  pub slots_tell : (a b : K) → knows a ≡ true → knows b ≡ true → slot a ≡ slot b → a ≡ b
  pub values_tell : (a b : V) → knows_value a ≡ true → knows_value b ≡ true → value a ≡ value b → a ≡ b
  pub object : (a : K) → knows a ≡ true → m.object (slot a) ≡ n.object a

-- what r knows, t knows by the same name
pub record Grows {K V J W : Type 0} {n : Naming K V} {m : Naming J W} (r t : Names n m) : Type 0 where
  pub slot : (s : K) → r.knows s ≡ true → (t.knows s ≡ true) × (t.slot s ≡ r.slot s)
  pub value : (v : V) → r.knows_value v ≡ true → (t.knows_value v ≡ true) × (t.value v ≡ r.value v)

-- each element has the property
abbrev pub Holds : {A : Type 0} → (A → Type 0) → List A → Type 0
Holds P [] = Unit {0}
Holds P (x ∷ xs) = P x × Holds P xs

module _ {K V J W : Type 0} {n : Naming K V} {m : Naming J W} (r : Names n m) where
  abbrev pub named_world : World n → World m
  named_world x = record {
    id = x.id;
    parent = x.parent;
    strict = x.strict;
    copy = renamed r.slot r.value x.copy;
    first = renamed r.slot (option_map r.value) x.first;
    written = renamed r.slot (λ u. u) x.written;
    closed = x.closed;
  }

  abbrev pub named_state : State n → State m
  named_state = each named_world

  abbrev pub KnowsContent : Option V → Type 0
  KnowsContent None = Unit {0}
  KnowsContent (Some v) = r.knows_value v ≡ true

  -- all slots and values of a world are known
  pub record Knows (x : World n) : Type 0 where
    pub copy : (s : K) (v : V) → map.get x.copy s ≡ Some v → (r.knows s ≡ true) × (r.knows_value v ≡ true)
    pub first : (s : K) (c : Option V) → map.get x.first s ≡ Some c → (r.knows s ≡ true) × KnowsContent c
    pub written : (s : K) (u : Unit {0}) → map.get x.written s ≡ Some u → r.knows s ≡ true

  abbrev pub Known : State n → Type 0
  Known F = Holds Knows F

  abbrev pub KnownAct : Act K V → Type 0
  KnownAct (read w s) = r.knows s ≡ true
  KnownAct (write w s c) = (r.knows s ≡ true) × KnowsContent c
  KnownAct (list w o) = Unit {0}
  KnownAct (sprout w owner strict) = Unit {0}
  KnownAct (commit w) = Unit {0}

  abbrev pub named_act : Act K V → Act J W
  named_act (read w s) = read w (r.slot s)
  named_act (write w s c) = write w (r.slot s) (option_map r.value c)
  named_act (list w o) = list w o
  named_act (sprout w owner strict) = sprout w owner strict
  named_act (commit w) = commit w

  -- the same answer under the names: of a listing in another order, of a refused commit at some slot
  abbrev pub NamedReply : Reply K V → Reply J W → Type 0
  NamedReply (found c) (found d) = d ≡ option_map r.value c
  NamedReply wrote wrote = Unit {0}
  NamedReply (listed ss) (listed ts) = IsPermutation (each r.slot ss) ts
  NamedReply (sprouted i) (sprouted j) = j ≡ i
  NamedReply (committed v) (committed u) = shape u ≡ shape v
  NamedReply a b = ⊥
