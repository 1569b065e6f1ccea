-- The full-copy machine: each world holds all slots, and a change is copied at once to all who see it.
-- The rules are this language's profile of "Worlds: Controlling the Scope of Side Effects" (Warth, Ohshima, Kaehler, Kay; ECOOP 2011).
use Rattle.std.specs.Prelude.{ℕ, ◌+◌, Bool, true, false, not, cond, ◌&&◌, ◌||◌, ◌==◌, List, [], ◌∷◌, ◌++◌, map as each, filter, fold, Option, None, Some, is_some, is_none, unwrap_or}
use Rattle.std.specs.Option.{option_map, option_map_or, option_and_then}
use Rattle.std.specs.declared.cmp.Ordering.{Ordering}
use Rattle.std.specs.Ordering.{is_lt}
use Rattle.std.specs.FinMap as map
use Rattle.std.specs.FinMap.{FinMap}
use Rattle.wjs_base.specs.declared.ids.ObjId.{ObjId}
use Rattle.wjs_base.specs.declared.ids.WorldId.{WorldId}
use Rattle.wjs_base.specs.Order.{obj_cmp}
use Rattle.wjs_store.specs.Naming.{Naming}

-- a set of keys: a map with nothing at each
abbrev pub KeySet : {K : Type 0} → (K → K → Ordering) → Type 0
KeySet R = FinMap R (Unit {0})

-- a world: what it holds, and its marks, of which a world without parent has none
pub record World {K V : Type 0} (n : Naming K V) : Type 0 where
  pub id : WorldId
  pub parent : Option WorldId
  -- whether a slot's first write also records what was there
  pub strict : Bool
  -- its present slots
  pub copy : FinMap n.cmp V
  -- its recorded reads: each slot with the content that was read, an absent one too
  pub first : FinMap n.cmp (Option V)
  -- its written slots
  pub written : KeySet n.cmp
  -- its listed objects
  pub closed : KeySet obj_cmp

-- the worlds, the newest first
abbrev pub State : {K V : Type 0} → Naming K V → Type 0
State n = List (World n)

-- the world of a new store
abbrev pub first_world : WorldId
first_world = record { owner = 0; serial = 0 }

abbrev pub same_world : WorldId → WorldId → Bool
same_world a b = (a.owner == b.owner) && (a.serial == b.serial)

abbrev pub same_object : ObjId → ObjId → Bool
same_object a b = (a.owner == b.owner) && (a.serial == b.serial)

-- the map with this content at the key
abbrev pub put : {K V : Type 0} {R : K → K → Ordering} → FinMap R V → K → Option V → FinMap R V
put m s None = map.remove m s
put m s (Some v) = map.insert m s v

-- both absent, or one value
abbrev pub same_content : {V : Type 0} → (V → V → Bool) → Option V → Option V → Bool
same_content same None None = true
same_content same None (Some b) = false
same_content same (Some a) None = false
same_content same (Some a) (Some b) = same a b

-- the lesser of a key and the least so far
abbrev pub lesser : {K : Type 0} → (K → K → Ordering) → Option K → K → Option K
lesser R None s = Some s
lesser R (Some t) s = cond (is_lt (R s t)) (Some s) (Some t)

-- the least key of a list
abbrev pub least : {K : Type 0} → (K → K → Ordering) → List K → Option K
least R ss = fold (lesser R) None ss

module _ {K V : Type 0} {n : Naming K V} where
  -- ---- touched

  -- read or written in the world
  abbrev pub has_row : World n → K → Bool
  has_row x s = map.contains_key x.first s || map.contains_key x.written s

  -- read or written in the world, or a slot of an object that is listed there
  abbrev pub is_touched : World n → K → Bool
  is_touched x s = has_row x s || map.contains_key x.closed (n.object s)

  -- ---- worlds by number

  unfoldable pub find_world : State n → WorldId → Option (World n)
  find_world [] i = None
  find_world (x ∷ older) i = cond (same_world x.id i) (Some x) (find_world older i)

  -- whether a world has this number
  abbrev pub has_world : State n → WorldId → Bool
  has_world F i = is_some (find_world F i)

  -- the number of a world's parent
  abbrev pub parent_of : State n → WorldId → Option WorldId
  parent_of F i = option_and_then (λ (x : World n). x.parent) (find_world F i)

  -- what a slot holds in a world: none where it is absent
  abbrev pub content_at : State n → WorldId → K → Option V
  content_at F i s = option_and_then (λ (x : World n). map.get x.copy s) (find_world F i)

  -- ---- below

  -- a path of parents leads from d up to w, on which every world, d included and w left out, is untouched at s
  unfoldable pub is_below : WorldId → K → State n → WorldId → Bool
  is_below w s [] d = false
  is_below w s (x ∷ older) d = cond (same_world x.id d)
      (not (is_touched x s) && option_map_or (λ p. same_world p w || is_below w s older p) x.parent false)
      (is_below w s older d)

  -- ---- read

  -- in a world with a parent, the content of an untouched slot is recorded
  abbrev pub read_in : K → World n → World n
  read_in s x = cond (is_some x.parent && not (is_touched x s)) (record x { first = map.insert x.first s (map.get x.copy s) }) x

  -- a read records in its world, and changes nothing else
  unfoldable pub after_read : State n → WorldId → K → State n
  after_read F w s = each (λ x. cond (same_world x.id w) (read_in s x) x) F

  -- ---- write

  -- in the world itself: the slot gets the content, and is marked written where there is a parent; where it was neither read nor written, and its object is listed or the world is strict, what it held is first recorded
  abbrev pub write_in : K → Option V → World n → World n
  write_in s c x = record x {
    copy = put x.copy s c;
    first = cond (is_some x.parent && (not (has_row x s) && (map.contains_key x.closed (n.object s) || x.strict))) (map.insert x.first s (map.get x.copy s)) x.first;
    written = cond (is_some x.parent) (map.insert x.written s tt) x.written;
  }

  -- in any world of F: in one below the slot gets the content, the others stay ("no surprises")
  abbrev pub write_at : State n → WorldId → K → Option V → World n → World n
  write_at F w s c x = cond (same_world x.id w) (write_in s c x) (cond (is_below w s F x.id) (record x { copy = put x.copy s c }) x)

  -- a write in a world, copied at once to the worlds below
  unfoldable pub after_write : State n → WorldId → K → Option V → State n
  after_write F w s c = each (write_at F w s c) F

  -- ---- list

  -- the present slots of an object, in order
  abbrev pub slots_in : ObjId → World n → List K
  slots_in o x = filter (λ s. same_object (n.object s) o) (map.keys x.copy)

  -- what a listing answers
  abbrev pub slots_at : State n → WorldId → ObjId → List K
  slots_at F w o = option_map_or (slots_in o) (find_world F w) []

  -- each of the slots that is untouched is recorded
  abbrev pub read_all : List K → World n → World n
  read_all ss x = fold (λ y s. read_in s y) x ss

  -- in a world with a parent, the object is marked listed
  abbrev pub close_in : ObjId → World n → World n
  close_in o x = cond (is_some x.parent) (record x { closed = map.insert x.closed o tt }) x

  -- a listing reads all slots of the object: each present one is recorded, and the object is marked for the absent ones
  abbrev pub list_in : ObjId → World n → World n
  list_in o x = close_in o (read_all (slots_in o x) x)

  -- a listing marks its world, and changes nothing else
  unfoldable pub after_list : State n → WorldId → ObjId → State n
  after_list F w o = each (λ x. cond (same_world x.id w) (list_in o x) x) F

  -- ---- sprout

  -- how many worlds an owner has
  abbrev pub count_of : ℕ → State n → ℕ
  count_of owner [] = 0
  count_of owner (x ∷ older) = cond (x.id.owner == owner) 1 0 + count_of owner older

  -- the number of an owner's next world
  abbrev pub next_id : State n → ℕ → WorldId
  next_id F owner = record { owner = owner; serial = count_of owner F }

  -- a child with equal contents and no marks; whether it is strict is its own
  abbrev pub child_of : World n → WorldId → Bool → World n
  child_of x i strict = record { id = i; parent = Some x.id; strict = strict; copy = x.copy; first = map.empty; written = map.empty; closed = map.empty }

  -- the child is the newest world
  unfoldable pub after_sprout : State n → WorldId → ℕ → Bool → State n
  after_sprout F w owner strict = option_map_or (λ x. child_of x (next_id F owner) strict ∷ F) (find_world F w) F

  -- ---- commit

  -- the slot fails the check of the world x under its parent p: its recorded read is not what p holds, or it is present in p, and neither read nor written in x, where its object is listed
  abbrev pub fails : World n → World n → K → Bool
  fails x p s = option_map_or (λ c. not (same_content n.same c (map.get p.copy s))) (map.get x.first s) false
      || (map.contains_key x.closed (n.object s) && (map.contains_key p.copy s && not (has_row x s)))

  -- the least slot that fails
  abbrev pub fault_in : World n → World n → Option K
  fault_in x p = least n.cmp (filter (fails x p) (map.keys x.first ++ map.keys p.copy))

  -- the recorded reads
  abbrev pub reads_of : World n → List (K × Option V)
  reads_of x = each (λ s. (s, unwrap_or (map.get x.first s) None)) (map.keys x.first)

  -- reads are recorded in the world y above, where it has not touched their slots
  abbrev pub hand_entries : List (K × Option V) → World n → World n
  hand_entries es y = cond (is_some y.parent) (fold (λ z e. cond (is_touched z e.0) z (record z { first = map.insert z.first e.0 e.1 })) y es) y

  -- objects are marked listed in the world y above
  abbrev pub hand_objects : List ObjId → World n → World n
  hand_objects os y = cond (is_some y.parent) (fold (λ z o. record z { closed = map.insert z.closed o tt }) y os) y

  -- the marks become empty
  abbrev pub clear_marks : World n → World n
  clear_marks x = record x { first = map.empty; written = map.empty; closed = map.empty }

  -- what a commit of x writes, the least slot first
  abbrev pub moves : World n → List (K × Option V)
  moves x = each (λ s. (s, map.get x.copy s)) (map.keys x.written)

  -- one write after another
  abbrev pub write_all : WorldId → List (K × Option V) → State n → State n
  write_all p es F = fold (λ G e. after_write G p e.0 e.1) F es

  -- one world is changed
  abbrev pub at_world : WorldId → (World n → World n) → State n → State n
  at_world i f F = each (λ x. cond (same_world x.id i) (f x) x) F

  -- a commit that passes, in this order: the recorded reads are handed to the parent, the written slots are written there, the listed objects are marked there, and the world's marks become empty
  abbrev pub settle : World n → WorldId → State n → State n
  settle x p F = at_world x.id clear_marks (at_world p (hand_objects (map.keys x.closed)) (write_all p (moves x) (at_world p (hand_entries (reads_of x)) F)))

-- the verdict of a commit: what was written is in the parent, or a slot disagrees, or there is no parent
pub data Verdict (K : Type 0) : Type 0 where
  moved : Verdict K
  differs : K → Verdict K
  no_parent : Verdict K

module _ {K V : Type 0} {n : Naming K V} where
  -- a world with its parent, where it has one
  unfoldable pub with_parent : State n → WorldId → Option (World n × World n)
  with_parent F w = option_and_then (λ (x : World n). option_map (λ p. (x, p)) (option_and_then (find_world F) x.parent)) (find_world F w)

  -- what the check of the world x under its parent p gives
  abbrev pub verdict_in : World n → World n → Verdict K
  verdict_in x p = option_map_or differs (fault_in x p) moved

  -- what a commit answers
  unfoldable pub verdict_at : State n → WorldId → Verdict K
  verdict_at F w = option_map_or (λ (e : World n × World n). verdict_in e.0 e.1) (with_parent F w) no_parent

  -- a commit that does not pass changes nothing
  unfoldable pub after_commit : State n → WorldId → State n
  after_commit F w = option_map_or (λ (e : World n × World n). cond (is_none (fault_in e.0 e.1)) (settle e.0 e.1.id F) F) (with_parent F w) F

-- ---- actions and answers

-- what is done in a world: a read or a write of a slot, a listing of an object, a sprout for an owner, strict or not, a commit
pub data Act (K V : Type 0) : Type 0 where
  read : WorldId → K → Act K V
  write : WorldId → K → Option V → Act K V
  list : WorldId → ObjId → Act K V
  sprout : WorldId → ℕ → Bool → Act K V
  commit : WorldId → Act K V

-- the answer to each, in the same order
pub data Reply (K V : Type 0) : Type 0 where
  found : Option V → Reply K V
  wrote : Reply K V
  listed : List K → Reply K V
  sprouted : WorldId → Reply K V
  committed : Verdict K → Reply K V

-- the world that an action is done in
abbrev pub world_of : {K V : Type 0} → Act K V → WorldId
world_of (read w s) = w
world_of (write w s c) = w
world_of (list w o) = w
world_of (sprout w owner strict) = w
world_of (commit w) = w

module _ {K V : Type 0} {n : Naming K V} where
  -- the machine's answer
  abbrev pub answer_to : State n → Act K V → Reply K V
  answer_to F (read w s) = found (content_at F w s)
  answer_to F (write w s c) = wrote
  answer_to F (list w o) = listed (slots_at F w o)
  answer_to F (sprout w owner strict) = sprouted (next_id F owner)
  answer_to F (commit w) = committed (verdict_at F w)

  -- the state that an action leaves
  abbrev pub after : State n → Act K V → State n
  after F (read w s) = after_read F w s
  after F (write w s c) = after_write F w s c
  after F (list w o) = after_list F w o
  after F (sprout w owner strict) = after_sprout F w owner strict
  after F (commit w) = after_commit F w
