-- The ends so far, behind a turn.
use Rattle.std.proofs.Common.{◌≡◌, ℕ, ◌+◌, ◌≤◌, ◌==◌, Bool, true, false, cond, List, [], ◌∷◌, ◌++◌, length, Option, None, Some, refl, sym, ap, ◌∙◌, subst}
use Rattle.std.proofs.Common.{arith}
use Rattle.std.specs.Prelude.{count_by}
use Rattle.std.specs.Option.{option_map}
use Rattle.std.specs.FinMap as map
use Rattle.std.proofs.lemmas.Bool.{eqb-true, ne_eqb}
use Rattle.std.proofs.lemmas.List.Elements.{All-push}
use Rattle.std.proofs.lemmas.List.Sums.{sum_by_push}
use Rattle.std.proofs.lemmas.Option.{same_Some}
use Rattle.wjs_base.specs.declared.ids.ObjId.{ObjId}
use Rattle.wjs_base.specs.declared.ids.WorldId.{WorldId}
use Rattle.wjs_base.specs.Text.{Table, Grows}
use Rattle.wjs_arena.specs.Entries.{Objects, Entry as Placed, Keeps}
use Rattle.wjs_by_content.specs.Objects.{Arena, Entry}
use Rattle.wjs_by_content.specs.Tables.{arena_in, entry_in, KnowsArena}
use Rattle.wjs_by_content.proofs.ArenaGrowth.{arena_grows}
use Rattle.wjs_by_content.proofs.ArenaMaps.{object_found}
use Rattle.wjs_meaning.specs.Trees.{Tree}
use Rattle.wjs_alone.specs.Alone.{Copy, Outcome, outcome_of, copy_after, objects_after, printed}
use Rattle.wjs_alone.specs.Opening.{trees_of, tree_number}
use Rattle.wjs_alone.specs.Serial.{Run, End, runs_of, Holds, WorldsOwn, run_at, outcomes_by, printed_by, copy_by, ObjectsGrow}
use Rattle.wjs_tries.specs.declared.common.Common.{Common}
use Rattle.wjs_tries.specs.declared.outcome.Outcome.{Outcome as Told}
use Rattle.wjs_tries.specs.Meant.{session_meaning}
use Rattle.wjs_activity.specs.SoFar.{left_by, SoFar, times_ended, times_owned}
use Rattle.wjs_tries.specs.Turning.{EndsAlone, first_in}
use Rattle.wjs_activity.proofs.Appended.{runs_then, told_then, holds_same, copy_then, outcomes_then, printed_then, left_then, grow_then}

-- ---- objects

holds_then : (a b c : Arena) → Holds a b → Holds b c → Holds a c
holds_then a b c h k = λ o e at. k o e (h o e at)

-- objects that stay do so by content, under a later table
pub holds_later : (t u : Table) (old new : Objects) → Grows t u → KnowsArena t old → Keeps old new → Holds (arena_in t old) (arena_in u new)
holds_later t u old new g known keeps o e at = by (map.get old o) refl
  where
    same : arena_in u old ≡ arena_in t old
    same = (arena_grows t u g old known).1

    found : map.get (arena_in u old) o ≡ Some e
    found = ap (λ (m : Arena). map.get m o) same ∙ at

    by : (r : Option Placed) → map.get old o ≡ r → map.get (arena_in u new) o ≡ Some e
    by None h = let none : None ≡ Some e = sym (object_found u old o ∙ ap (option_map (entry_in u)) h) ∙ found in absurd (cc)
    by (Some x) h = object_found u new o ∙ ap (option_map (entry_in u)) (keeps o x h) ∙ sym (object_found u old o ∙ ap (option_map (entry_in u)) h) ∙ found

-- the worlds that objects stand for are their owners', by content too
pub worlds_own_in : (t : Table) (objects : Objects) → ((o : ObjId) (e : Placed) (w : WorldId) → map.get objects o ≡ Some e → e.object.world ≡ Some w
    → w.owner ≡ o.owner) → WorldsOwn (arena_in t objects)
worlds_own_in t objects h o e w at is = by (map.get objects o) refl
  where
    by : (r : Option Placed) → map.get objects o ≡ r → w.owner ≡ o.owner
    by None k = let none : None ≡ Some e = sym (object_found t objects o ∙ ap (option_map (entry_in t)) k) ∙ at in absurd (cc)
    by (Some x) k =
        let same : e ≡ entry_in t x = same_Some e (entry_in t x) (sym at ∙ object_found t objects o ∙ ap (option_map (entry_in t)) k) in
        h o x w k (sym (ap (λ (y : Entry). y.object.world) same) ∙ is)

-- ---- counts

pub count_push : {A : Type 0} (p : A → Bool) (xs : List A) (x : A) → count_by p (xs ++ x ∷ []) ≡ count_by p xs + cond (p x) 1 0
count_push p xs x = sum_by_push (λ y. cond (p y) 1 0) xs x

-- a number that none had, one more has it
pub one_more : (number : End → ℕ) (ends : List End) (e : End) → count_by (λ (x : End). number x == number e) ends ≡ 0 → (k : ℕ)
    → count_by (λ (x : End). number x == k) ends ≤ 1 → count_by (λ (x : End). number x == k) (ends ++ e ∷ []) ≤ 1
one_more number ends e unused k few = by (number e == k) refl
  where
    count : count_by (λ (x : End). number x == k) (ends ++ e ∷ []) ≡ count_by (λ (x : End). number x == k) ends + cond (number e == k) 1 0
    count = count_push (λ (x : End). number x == k) ends e

    by : (b : Bool) → (number e == k) ≡ b → count_by (λ (x : End). number x == k) (ends ++ e ∷ []) ≤ 1
    by true h =
        let is : number e ≡ k = eqb-true (number e) k h in
        let none : count_by (λ (x : End). number x == k) ends ≡ 0 = subst (λ j. count_by (λ (x : End). number x == j) ends ≡ 0) is unused in
        let all : count_by (λ (x : End). number x == k) (ends ++ e ∷ []) ≡ count_by (λ (x : End). number x == k) ends + 1 = count
        ∙ ap (λ b. count_by (λ (x : End). number x == k) ends + cond b 1 0) h in
        omega (arith, all, none)
    by false h =
        let all : count_by (λ (x : End). number x == k) (ends ++ e ∷ []) ≡ count_by (λ (x : End). number x == k) ends + 0 = count
        ∙ ap (λ b. count_by (λ (x : End). number x == k) ends + cond b 1 0) h in
        omega (arith, all, few)

-- ---- a turn without an end

module _ (library : Option Tree) (parts : List Tree) (budget : ℕ) (copy : Copy) (arena : Arena) (ends : List End) where
  pub so_far_stays : (now now' : Copy) (objects objects' : Arena) → SoFar library parts budget copy arena now objects ends → now ≡ now'
      → Holds objects objects' → SoFar library parts budget copy arena now' objects' ends
  so_far_stays now now' objects objects' s same more = record {
    grow = s.grow;
    left = holds_then (left_by library parts budget copy arena (runs_of ends)) objects objects' s.left more;
    outcomes = s.outcomes;
    holds = s.holds ∙ same;
    tries = s.tries;
    once = s.once;
    owners = s.owners;
    none_first = s.none_first;
    numbers = s.numbers;
  }

  -- ---- an end

  module _ (now : Copy) (objects : Arena) (s : SoFar library parts budget copy arena now objects ends) (activity owner tries drawn : ℕ) (before : Copy)
      (common : Common) (told : Told) (output : List ℕ)
      (e : EndsAlone session_meaning (trees_of library parts) (tree_number library activity) budget drawn owner before common told output)
      (same : before ≡ now) (more : Holds objects (arena_in common.texts common.arena)) (own : WorldsOwn (arena_in common.texts common.arena))
      (few : (1 ≤ tries) × (tries ≤ 4)) (number : (1 ≤ activity) × (activity ≤ length parts)) (some : 1 ≤ owner) (unused : times_owned owner ends ≡ 0)
      (fresh : times_ended activity ends ≡ 0) where
    abbrev run : Run
    run = record { activity = activity; owner = owner; objects = arena_in common.texts common.arena }

    abbrev end : End
    end = record { run = run; outcome = outcome_of owner (run_at library parts budget now run); tries = tries }

    -- the run from what the ends so far left is the part's run alone
    run_same : run_at library parts budget (copy_by library parts budget copy (runs_of ends)) run ≡ run_at library parts budget now run
    run_same = ap (λ m. run_at library parts budget m run) s.holds

    left_is : objects_after (arena_in common.texts common.arena) (run_at library parts budget now run) ≡ arena_in common.texts common.arena
    left_is = ap (λ m. objects_after (arena_in common.texts common.arena) (run_at library parts budget m run)) (sym same) ∙ e.objects

    pub prints_more : printed_by library parts budget copy (runs_of (ends ++ end ∷ [])) ≡ printed_by library parts budget copy (runs_of ends) ++ output
    prints_more =
        ap (printed_by library parts budget copy) (runs_then ends end)
        ∙ printed_then library parts budget copy (runs_of ends) run
        ∙ ap (λ r. printed_by library parts budget copy (runs_of ends) ++ printed r) (run_same ∙ ap (λ m. run_at library parts budget m run) (sym same))
        ∙ ap (λ (l : List ℕ). printed_by library parts budget copy (runs_of ends) ++ l) (sym e.prints)

    owner_once : (q : ℕ) → times_owned q (ends ++ end ∷ []) ≤ 1
    owner_once q = one_more (λ (x : End). x.run.owner) ends end unused q (s.owners q)

    ended_once : (k : ℕ) → times_ended k (ends ++ end ∷ []) ≤ 1
    ended_once k = one_more (λ (x : End). x.run.activity) ends end fresh k (s.once k)

    not_first : (owner == 0) ≡ false
    not_first = ne_eqb owner 0 (λ is. omega (arith, is, some))

    pub so_far_then : SoFar library parts budget copy arena (first_in common) (arena_in common.texts common.arena) (ends ++ end ∷ [])
    so_far_then = record {
      grow = subst (ObjectsGrow library parts budget copy arena) (sym (runs_then ends end))
          (grow_then library parts budget copy arena (runs_of ends) run s.grow
          (holds_then (left_by library parts budget copy arena (runs_of ends)) objects (arena_in common.texts common.arena) s.left more)
          (λ o x w none at is. own o x w at is));
      left = holds_same (left_by library parts budget copy arena (runs_of (ends ++ end ∷ []))) (arena_in common.texts common.arena)
          (ap (left_by library parts budget copy arena) (runs_then ends end) ∙ left_then library parts budget copy arena (runs_of ends) run
          ∙ ap (objects_after run.objects) run_same ∙ left_is);
      outcomes =
          told_then ends end
          ∙ ap (λ (l : List Outcome). l ++ end.outcome ∷ []) s.outcomes
          ∙ ap (λ r. outcomes_by library parts budget copy (runs_of ends) ++ outcome_of owner r ∷ []) (sym run_same)
          ∙ sym (ap (outcomes_by library parts budget copy) (runs_then ends end) ∙ outcomes_then library parts budget copy (runs_of ends) run);
      holds =
          ap (copy_by library parts budget copy) (runs_then ends end)
          ∙ copy_then library parts budget copy (runs_of ends) run
          ∙ (λ i. copy_after owner (s.holds i) (run_same i))
          ∙ (λ i. copy_after owner (sym same i) (run_at library parts budget (sym same i) run))
          ∙ sym e.leaves;
      tries = All-push (λ (x : End). (1 ≤ x.tries) × (x.tries ≤ 4)) ends end s.tries few;
      once = ended_once;
      owners = owner_once;
      none_first =
          let none : times_owned 0 ends ≡ 0 = s.none_first in
          let all : times_owned 0 (ends ++ end ∷ []) ≡ times_owned 0 ends + 0 = count_push (λ (x : End). x.run.owner == 0) ends end
          ∙ ap (λ b. times_owned 0 ends + cond b 1 0) not_first in
          omega (arith, all, none);
      numbers = All-push (λ (x : End). (1 ≤ x.run.activity) × (x.run.activity ≤ length parts)) ends end s.numbers number;
    }
