-- What turns of the definition keep; and a round is a turn for each number, since an activity that isn't there takes none.
use Rattle.std.proofs.Common.{◌≡◌, ℕ, zero, suc, ◌+◌, ◌≤◌, ◌<◌, ◌==◌, ◌⊎◌, inl, inr, Bool, true, false, cond, not, List, [], ◌∷◌, ◌++◌, length, Option, None, Some, refl, sym, ap, ◌∙◌, arith, append_assoc}
use Rattle.std.specs.Prelude.{min, max, fold, map as each, filter}
use Rattle.std.specs.Option.{option_map_or}
use Rattle.std.proofs.lemmas.Bool.{eqb-true, ne_eqb}
use Rattle.wjs_store.specs.State.{World}
use Rattle.wjs_by_content.specs.Names.{content}
use Rattle.wjs_meaning.specs.Trees.{Tree}
use Rattle.wjs_meaning.specs.Deeds.{St}
use Rattle.wjs_meaning.specs.Programs.{Ending}
use Rattle.wjs_alone.specs.Alone.{alone, printed}
use Rattle.wjs_alone.specs.Opening.{trees_of, tree_number}
use Rattle.wjs_alone.specs.Marks.{marked, own_view, agrees}
use Rattle.wjs_alone.specs.Playing.{Try, Activity, Play, PlayTurn, activity_in, goes_on, ends_with, rests_with, drops, is_resting, after_turn, try_of, turn_of_try, next_try, turn_for, turn, round, rounds}
use Rattle.wjs_alone.specs.Fronts.{Fronts}
use Rattle.wjs_alone.proofs.Order.{left_lem}

-- ---- a number that is none's

none_head : (x : Activity) (acts : List Activity) (j : ℕ) → activity_in (x ∷ acts) j ≡ None → ((x.number == j) ≡ false) × (activity_in acts j ≡ None)
none_head x acts j e = by (x.number == j) refl e
  where
    by : (c : Bool) → (x.number == j) ≡ c → cond c (Some x) (activity_in acts j) ≡ None → ((x.number == j) ≡ false) × (activity_in acts j ≡ None)
    by true q e = let none : Some x ≡ None = e in absurd (cc)
    by false q e = (q, e)

-- an activity stands where one of its number stood
abbrev replaced : Activity → List Activity → List Activity
replaced a acts = each (λ (b : Activity). cond (b.number == a.number) a b) acts

replaced_none : (acts : List Activity) (a : Activity) (j : ℕ) → activity_in acts j ≡ None → activity_in (replaced a acts) j ≡ None
replaced_none [] a j e = refl
replaced_none (x ∷ acts) a j e = let h = none_head x acts j e in by (x.number == a.number) refl h.0 (replaced_none acts a j h.1)
  where
    by : (c : Bool) → (x.number == a.number) ≡ c → (x.number == j) ≡ false → activity_in (replaced a acts) j ≡ None → activity_in (cond c a x ∷ replaced a acts) j ≡ None
    by true q away rest = ap (λ b. cond b (Some a) (activity_in (replaced a acts) j)) (ap (λ k. k == j) (sym (eqb-true x.number a.number q)) ∙ away) ∙ rest
    by false q away rest = ap (λ b. cond b (Some x) (activity_in (replaced a acts) j)) away ∙ rest

filtered_none : (acts : List Activity) (p : Activity → Bool) (j : ℕ) → activity_in acts j ≡ None → activity_in (filter p acts) j ≡ None
filtered_none [] p j e = refl
filtered_none (x ∷ acts) p j e = let h = none_head x acts j e in by (p x) h.0 (filtered_none acts p j h.1)
  where
    by : (c : Bool) → (x.number == j) ≡ false → activity_in (filter p acts) j ≡ None → activity_in (cond c (x ∷ filter p acts) (filter p acts)) j ≡ None
    by true away rest = ap (λ b. cond b (Some x) (activity_in (filter p acts) j)) away ∙ rest
    by false away rest = rest

-- ---- what turns keep

-- what stays where an activity goes on or ends, and where an owner was drawn
module _ (library : Option Tree) (parts : List Tree) (budget : ℕ) (P : Play → Type 0) (goes : (a : Activity) (s : Play) → P s → P (goes_on a s)) (ends : (a : Activity) (owner : ℕ) (r : Ending × St) (s : Play) → P s → P (ends_with a owner r s)) (runs : (s : Play) (owners : ℕ) → P s → P (record s { owners = owners })) where
  abbrev Keeps : (Activity → Play → Play) → Type 0
  Keeps go = (a : Activity) (s : Play) → P s → P (go a s)

  after_keeps : (go : Activity → Play → Play) → Keeps go → (a : Activity) (owner taken : ℕ) (r : Ending × St) (outer : World content) (s : Play) → P s → P (after_turn library parts budget go a owner taken r outer s)
  after_keeps go keeps a owner taken r outer s h = by (is_resting library parts budget taken r.0) (agrees outer s.copy)
    where
      by : (e g : Bool) → P (elim e [
        | true ↦ goes_on (rests_with a owner taken outer) s
        | false ↦ elim g [ true ↦ ends_with a owner r s | false ↦ go (drops a) s ]
      ])
      by true g = goes (rests_with a owner taken outer) s h
      by false true = ends a owner r s h
      by false false = keeps (drops a) s h

  try_keeps : (go : Activity → Play → Play) → Keeps go → (steps : ℕ) (a : Activity) (t : Try) (s : Play) → P s → P (turn_of_try library parts budget go steps a t s)
  try_keeps go keeps steps a t s h =
      let n = min budget (t.taken + steps) in
      let own = own_view t.outer s.copy in
      let r = alone (trees_of library parts) (tree_number library a.number) t.owner own s.objects n in
      after_keeps go keeps a t.owner n r (marked t.owner own (r.1).done) (record s { owners = max s.owners t.owner }) (runs s (max s.owners t.owner) h)

  next_keeps : Keeps (next_try library parts budget)
  next_keeps a s h = by (a.dropped == 3)
    where
      by : (e : Bool) → P (elim e [ true ↦ turn_of_try library parts budget goes_on budget a (try_of a s) s | false ↦ goes_on a s ])
      by true = try_keeps goes_on goes budget a (try_of a s) s h
      by false = goes a s h

  turn_keeps : (s : Play) (t : PlayTurn) → P s → P (turn library parts budget s t)
  turn_keeps s t h = by (activity_in s.activities t.activity)
    where
      by : (o : Option Activity) → P (option_map_or (λ (a : Activity). turn_of_try library parts budget (next_try library parts budget) t.steps a (try_of a s) s) o s)
      by None = h
      by (Some a) = try_keeps (next_try library parts budget) next_keeps t.steps a (try_of a s) s h

  turns_keep : (ts : List PlayTurn) (s : Play) → P s → P (fold (turn library parts budget) s ts)
  turns_keep [] s h = h
  turns_keep (t ∷ ts) s h = turns_keep ts (turn library parts budget s t) (turn_keeps s t h)

  rounds_keep : (n steps : ℕ) (s : Play) → P s → P (rounds library parts budget n steps s)
  rounds_keep zero steps s h = h
  rounds_keep (suc n) steps s h = by (length s.activities == 0) (rounds_keep n steps (round library parts budget steps s) (turns_keep (each (turn_for steps) s.activities) s h))
    where
      by : (e : Bool) → P (rounds library parts budget n steps (round library parts budget steps s)) → P (elim e [ true ↦ s | false ↦ rounds library parts budget n steps (round library parts budget steps s) ])
      by true k = h
      by false k = k

-- a number that is none's stays so
turn_none : (library : Option Tree) (parts : List Tree) (budget j : ℕ) (s : Play) (t : PlayTurn) → activity_in s.activities j ≡ None → activity_in (turn library parts budget s t).activities j ≡ None
turn_none library parts budget j = turn_keeps library parts budget (λ s. activity_in s.activities j ≡ None) (λ a s h. replaced_none s.activities a j h)
    (λ a owner r s h. filtered_none s.activities (λ (b : Activity). not (b.number == a.number)) j h) (λ s owners h. h)

-- what was printed stays in front of what is
ends_front : (front : List ℕ) (a : Activity) (owner : ℕ) (r : Ending × St) (s : Play) → Fronts front s → Fronts front (ends_with a owner r s)
ends_front front a owner r s h = (h.0 ++ printed r, ap (λ (l : List ℕ). l ++ printed r) h.1 ∙ append_assoc front h.0 (printed r))

goes_front : (front : List ℕ) (a : Activity) (s : Play) → Fronts front s → Fronts front (goes_on a s)
goes_front front a s h = h

pub next_front : (library : Option Tree) (parts : List Tree) (budget : ℕ) (front : List ℕ) (a : Activity) (s : Play) → Fronts front s → Fronts front (next_try library parts budget a s)
next_front library parts budget front = next_keeps library parts budget (Fronts front) (goes_front front) (ends_front front) (λ s owners h. h)

pub try_front : (library : Option Tree) (parts : List Tree) (budget : ℕ) (front : List ℕ) (go : Activity → Play → Play) → ((a : Activity) (s : Play) → Fronts front s → Fronts front (go a s))
    → (steps : ℕ) (a : Activity) (t : Try) (s : Play) → Fronts front s → Fronts front (turn_of_try library parts budget go steps a t s)
try_front library parts budget front = try_keeps library parts budget (Fronts front) (goes_front front) (ends_front front) (λ s owners h. h)

pub turns_front : (library : Option Tree) (parts : List Tree) (budget : ℕ) (front : List ℕ) (ts : List PlayTurn) (s : Play) → Fronts front s → Fronts front (fold (turn library parts budget) s ts)
turns_front library parts budget front = turns_keep library parts budget (Fronts front) (goes_front front) (ends_front front) (λ s owners h. h)

pub rounds_front : (library : Option Tree) (parts : List Tree) (budget : ℕ) (front : List ℕ) (n steps : ℕ) (s : Play) → Fronts front s → Fronts front (rounds library parts budget n steps s)
rounds_front library parts budget front = rounds_keep library parts budget (Fronts front) (goes_front front) (ends_front front) (λ s owners h. h)

-- ---- a round

-- a turn for each of so many numbers from a first one on
abbrev pub turns_from : ℕ → ℕ → ℕ → List PlayTurn
turns_from steps k zero = []
turns_from steps k (suc n) = record { activity = k; steps = steps } ∷ turns_from steps (k + 1) n

-- the numbers of activities ascend, and are among these
abbrev pub Ascends : ℕ → ℕ → List Activity → Type 0
Ascends k zero acts = acts ≡ []
Ascends k (suc n) acts = Ascends (k + 1) n acts ⊎ ((a : Activity) × (more : List Activity) × (acts ≡ a ∷ more) × (a.number ≡ k) × Ascends (k + 1) n more)

none_below : (n k : ℕ) (acts : List Activity) → Ascends k n acts → (j : ℕ) → j < k → activity_in acts j ≡ None
none_below zero k acts e j lt = ap (λ (l : List Activity). activity_in l j) e
none_below (suc n) k acts (inl h) j lt = none_below n (k + 1) acts h j (omega (arith, lt))
none_below (suc n) k acts (inr h) j lt =
    let number = h.3 in
    ap (λ (l : List Activity). activity_in l j) h.2
    ∙ ap (λ b. cond b (Some h.0) (activity_in h.1 j)) (ne_eqb (h.0).number j (λ e. absurd (omega (arith, number, e, lt))))
    ∙ none_below n (k + 1) h.1 h.4 j (omega (arith, lt))

module _ (library : Option Tree) (parts : List Tree) (budget steps : ℕ) where
  -- who isn't among the activities isn't there
  abbrev Others : ℕ → List Activity → Play → Type 0
  Others k acts s = (j : ℕ) → k ≤ j → activity_in acts j ≡ None → activity_in s.activities j ≡ None

  turns_same : (n k : ℕ) (acts : List Activity) → Ascends k n acts → (s : Play) → Others k acts s → fold (turn library parts budget) s (each (turn_for steps) acts) ≡ fold (turn library parts budget) s (turns_from steps k n)
  turns_same zero k acts e s o = ap (λ (l : List Activity). fold (turn library parts budget) s (each (turn_for steps) l)) e
  turns_same (suc n) k acts (inl h) s o =
      let none = o k (omega arith) (none_below n (k + 1) acts h k (omega arith)) in
      turns_same n (k + 1) acts h s (λ j le e. o j (omega (arith, le)) e)
      ∙ ap (λ (m : Play). fold (turn library parts budget) m (turns_from steps (k + 1) n)) (sym (left_lem library parts budget s (record { activity = k; steps = steps }) none))
  turns_same (suc n) k acts (inr h) s o =
      let number = h.3 in
      let now = turn library parts budget s (record { activity = k; steps = steps }) in
      let far : (j : ℕ) → k + 1 ≤ j → activity_in h.1 j ≡ None → activity_in acts j ≡ None = λ j le e.
      ap (λ (l : List Activity). activity_in l j) h.2
      ∙ ap (λ b. cond b (Some h.0) (activity_in h.1 j)) (ne_eqb (h.0).number j (λ q. absurd (omega (arith, number, q, le))))
      ∙ e in
      ap (λ (l : List Activity). fold (turn library parts budget) s (each (turn_for steps) l)) h.2
      ∙ ap (λ m. fold (turn library parts budget) (turn library parts budget s (record { activity = m; steps = steps })) (each (turn_for steps) h.1)) number
      ∙ turns_same n (k + 1) h.1 h.4 now (λ j le e. turn_none library parts budget j s (record { activity = k; steps = steps }) (o j (omega (arith, le)) (far j le e)))

  pub round_lem : (n : ℕ) (s : Play) → Ascends 1 n s.activities → round library parts budget steps s ≡ fold (turn library parts budget) s (turns_from steps 1 n)
  round_lem n s h = turns_same n 1 s.activities h s (λ j le e. e)
