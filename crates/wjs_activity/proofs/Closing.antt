-- The begin of a play, and its end.
use Rattle.std.proofs.Common.{◌≡◌, ℕ, zero, suc, ◌+◌, ◌≤◌, ◌<◌, inl, inr, true, false, List, [], ◌∷◌, ◌++◌, length, Option, None, Some, refl, sym, ap, ◌∙◌}
use Rattle.std.proofs.Common.{subst, arith, append_assoc, append-nil}
use Rattle.std.specs.Prelude.{All, slice_get, map as each, Result, Ok, Err}
use Rattle.std.proofs.lemmas.List.Elements.{All-nil}
use Rattle.std.proofs.lemmas.Option.{slice_get_within, get_or_from_slice_get}
use Rattle.wjs_base.specs.Text.{IsTable}
use Rattle.wjs_base.proofs.Lists.{get_there}
use Rattle.wjs_io.specs.Streams.{Stream, stream, Got, Stops}
use Rattle.wjs_io.proofs.Written.{Appends-nil, Appends-then}
use Rattle.wjs_by_content.specs.Objects.{Arena}
use Rattle.wjs_by_content.specs.Tables.{arena_in}
use Rattle.wjs_heap.specs.declared.heap.Heap.{Heap}
use Rattle.wjs_model.specs.declared.halt.Halt.{Halt}
use Rattle.wjs_model.specs.declared.halt.Halt.TheVariants as halts
use Rattle.wjs_meaning.specs.Deeds.{St}
use Rattle.wjs_meaning.specs.Programs.{Ending, Done, Threw, StepsSpent}
use Rattle.wjs_meaning.specs.Trees.{Tree}
use Rattle.wjs_model.specs.declared.config.Config.{Config}
use Rattle.wjs_model.specs.declared.config.State.TheVariants as states
use Rattle.wjs_model.specs.Units.{unit_in}
use Rattle.wjs_overlay.specs.declared.overlay.Overlay.{Overlay}
use Rattle.wjs_session.specs.Session.{first_copy}
use Rattle.wjs_session.specs.Stores.{worlds_in}
use Rattle.wjs_alone.specs.Alone.{Copy}
use Rattle.wjs_alone.specs.Opening.{opening}
use Rattle.wjs_alone.specs.Serial.{End, runs_of, copy_by, lines_from, Holds, IsSerial, first_held, first_objects, Serial, due}
use Rattle.wjs_activity.specs.Unnamed.{NamesNone}
use Rattle.wjs_alone.specs.Playing as defined
use Rattle.wjs_alone.specs.Playing.{activities_from, play_behind, bytes_of}
use Rattle.wjs_tries.specs.declared.common.Common.{Common}
use Rattle.wjs_activity.specs.declared.activities.Activity.{Activity}
use Rattle.wjs_activity.specs.declared.activities.Play.{Play}
use Rattle.wjs_activity.specs.declared.activities.Rules.{Rules}
use Rattle.wjs_tries.specs.declared.common.Rested.{Rested}
use Rattle.wjs_activity.specs.declared.whole.PlayEnd.{PlayEnd}
use Rattle.wjs_activity.specs.declared.whole.PlayEnd.TheVariants as endings
use Rattle.wjs_tries.specs.Views.{held_in, KnowsView}
use Rattle.wjs_tries.specs.Common.{IsCommon}
use Rattle.wjs_tries.specs.Hiding.{no_owner}
use Rattle.wjs_activity.specs.Listing.{entry_of}
use Rattle.wjs_activity.specs.Noting.{AllNew}
use Rattle.wjs_activity.specs.SoFar.{TellsEnds, times_ended, StandsBy, IsPlay, left_by}
use Rattle.wjs_tries.specs.Turning.{first_in}
use Rattle.wjs_activity.specs.Exactly.{IsActivity, Stands, Shows, none, on, IsExactly}
use Rattle.wjs_activity.specs.Rounds.{first_number, Settled, IsGoing, ComesTo, TurnsTo, HaltsIn, Becomes, Is, WroteBy, by_all}
use Rattle.wjs_activity.specs.Plays.{PlaysOut, WroteOf, BeginsAs, IsOpened, CanBegin, BegunFrom, ClosesAs, WritesLast}
use Rattle.wjs_activity.proofs.Appended.{holds_same}
use Rattle.wjs_activity.proofs.Completing.{serial_all, front_of, completed}
use Rattle.wjs_activity.proofs.Composed.{wrote_then}
use Rattle.wjs_tries.proofs.Soundly.{view_known}

-- ---- the begin

abbrev new_activity : Activity
new_activity = record { dropped = 0; running = None; ended = false }

is_new : (list : List Activity) → AllNew list → (i : ℕ) (a : Activity) → slice_get list i ≡ Some a → a ≡ new_activity
is_new list all i a at = sym (get_or_from_slice_get list i a a at) ∙ all i a (slice_get_within list i a at)

pub settled_new : (list : List Activity) → AllNew list → Settled list
settled_new list all i a at alive = subst (λ (x : Activity). x.dropped < 3) (sym (is_new list all i a at)) (omega arith)

module _ (library : Option Tree) (parts : List Tree) (budget count : ℕ) (c : Config Overlay) (is : IsOpened library parts budget c) (p : Play)
    (b : BegunFrom c count p) (same : count ≡ length parts) (few : length parts ≤ 1000) where
  common_begun : IsCommon p.common.texts p.common.arena p.common.units.items (worlds_in p.common.shared) p.drawn
  common_begun =
      subst (λ d. IsCommon p.common.texts p.common.arena p.common.units.items (worlds_in p.common.shared) d) (sym b.drawn) (
      subst (λ (s : Overlay). IsCommon p.common.texts p.common.arena p.common.units.items (worlds_in s) 0) (sym b.shared) (
      subst (λ us. IsCommon p.common.texts p.common.arena us.items (worlds_in c.heap.store) 0) (sym b.units) (
      subst (λ m. IsCommon p.common.texts m c.units.items (worlds_in c.heap.store) 0) (sym b.arena_is) (
      subst (λ t. IsCommon t c.heap.arena c.units.items (worlds_in c.heap.store) 0) (sym b.texts) is.common))))

  stands : (i : ℕ) (a : Activity) → slice_get p.activities.items i ≡ Some a
      → StandsBy library parts budget (first_held library parts budget) (first_objects library parts budget) a.ended p [] (i + 1) a
  stands i a at = subst (λ (x : Activity). StandsBy library parts budget (first_held library parts budget) (first_objects library parts budget) x.ended p []
      (i + 1) x) (sym (is_new p.activities.items b.activities i a at)) (record { none = refl; few = omega arith; rests = tt })

  no_run : (i : ℕ) (a : Activity) (r : Rested) → slice_get p.activities.items i ≡ Some a → a.running ≡ Some r → ⊥
  no_run i a r at running =
      let h : None ≡ Some r = sym (ap (λ (x : Activity). x.running) (is_new p.activities.items b.activities i a at)) ∙ running in
      cc

  list_begun : (i : ℕ) (a : Activity) → slice_get p.activities.items i ≡ Some a → slice_get p.common.apart.items i ≡ Some (entry_of a.running)
  list_begun i a at =
      let lt : i < length p.activities.items = slice_get_within p.activities.items i a at in
      let long : length p.common.apart.items ≡ length p.activities.items = b.apart.0 ∙ sym b.count_is in
      let inside : i < length p.common.apart.items = omega (arith, lt, long) in
      let entry = get_there p.common.apart.items i inside in
      let is_none : entry.0 ≡ no_owner = sym (get_or_from_slice_get p.common.apart.items i entry.0 entry.0 entry.1) ∙ b.apart.1 i entry.0 inside in
      entry.1 ∙ ap Some is_none ∙ ap (λ (x : Activity). Some (entry_of x.running)) (sym (is_new p.activities.items b.activities i a at))

  held_begun : first_held library parts budget ≡ first_in p.common
  held_begun = sym ((λ i. held_in (b.texts i) (first_copy (worlds_in (b.shared i)))) ∙ is.holds)

  arena_begun : first_objects library parts budget ≡ arena_in p.common.texts p.common.arena
  arena_begun = sym ((λ i. arena_in (b.texts i) (b.arena_is i)) ∙ is.objects)

  begun_is : IsPlay library parts budget (first_held library parts budget) (first_objects library parts budget) p []
  begun_is = record {
    common = common_begun;
    works = ap (λ (s : Overlay). s.spent) b.shared ∙ is.works;
    trees_are = (λ i. each (unit_in (b.texts i)) (b.units i).items) ∙ is.trees_are;
    count = b.count_is ∙ same;
    few = few;
    activities = stands;
    differ = λ i j x y r s fx fy rx sy e. absurd (no_run i x r fx rx);
    told = subst (λ l. TellsEnds l []) (sym b.ends) tt;
    drawn = All-nil (λ (e : End). e.run.owner ≤ p.drawn);
    so_far = record {
      grow = tt;
      left = holds_same (first_objects library parts budget) (arena_in p.common.texts p.common.arena) arena_begun;
      outcomes = refl;
      holds = held_begun;
      tries = All-nil (λ (e : End). (1 ≤ e.tries) × (e.tries ≤ 4));
      once = λ k. omega arith;
      owners = λ q. omega arith;
      none_first = refl;
      numbers = All-nil (λ (e : End). (1 ≤ e.run.activity) × (e.run.activity ≤ length parts));
    };
    apart = record {
      few = let none : p.drawn ≡ 0 = b.drawn in omega (arith, none);
      long = b.apart.0 ∙ sym b.count_is;
      lists = list_begun;
      hidden = λ i x r found running. absurd (no_run i x r found running);
      unaware = λ i j x y r s differ fx fy rx ry. absurd (no_run i x r fx rx);
    };
    named = tt;
  }

-- a play that has begun goes on
pub going_begun : (rules : Rules) (count : ℕ) (c : Config Overlay) (k : CanBegin rules count c) (p : Play) → BegunFrom c count p → IsGoing rules p
going_begun rules count c k p b = record {
  library = k.library;
  parts = k.parts;
  copy = first_held k.library k.parts rules.budget;
  arena = first_objects k.library k.parts rules.budget;
  ends = [];
  some = k.some;
  first = k.first;
  is = begun_is k.library k.parts rules.budget count c k.is p b k.count_is k.few;
}

-- ---- where the definition's play begins

-- the activities of parts, none of which has begun; these stand behind some others
module _ (budget : ℕ) (common : Common) (whole : List Activity) where
  shows_new : (i : ℕ) (items : List Activity) (parts : List Tree) → length items ≡ length parts → ((j : ℕ) → slice_get whole (i + j) ≡ slice_get items j)
      → ((j : ℕ) (a : Activity) → slice_get items j ≡ Some a → a ≡ new_activity)
      → Shows (Stands budget common whole) (i + 1) items (activities_from (i + 1) parts)
  shows_new i [] [] long there new = none (i + 1)
  shows_new i [] (part ∷ parts) long there new = absurd (omega (arith, long))
  shows_new i (a ∷ items) [] long there new = absurd (omega (arith, long))
  shows_new i (a ∷ items) (part ∷ parts) long there new =
      let b : defined.Activity = record { number = i + 1; dropped = 0; running = None } in
      let is : a ≡ new_activity = new 0 a refl in
      let zero_is : i + 0 ≡ i = omega arith in
      let at : slice_get whole i ≡ Some a = ap (slice_get whole) (sym zero_is) ∙ there 0 in
      on (i + 1) a items b (activities_from ((i + 1) + 1) parts) (ap (λ (x : Activity). x.ended) is)
      (subst (λ (x : Activity). IsActivity budget common (i + 1) x b) (sym is) (record { number = refl; dropped = refl; running = tt }), (i, refl, at))
      (shows_new (i + 1) items parts (omega (arith, long)) (λ j. let next : (i + 1) + j ≡ i + suc j = omega arith in ap (slice_get whole) next
      ∙ there (suc j)) (λ j x at. new (suc j) x at))

module _ (library : Option Tree) (parts : List Tree) (budget : ℕ) (schedule : List defined.PlayTurn) (turn : ℕ) where
  -- the library didn't spend the budget
  behind : (e : Ending) (st : St) → ¬ (e ≡ StepsSpent) → play_behind library parts budget schedule turn e st
      ≡ Some (defined.played library parts budget schedule turn st)
  behind Done st unspent = refl
  behind (Threw v) st unspent = refl
  behind StepsSpent st unspent = absurd (unspent refl)

  spent : (e : Ending) (st : St) → e ≡ StepsSpent → play_behind library parts budget schedule turn e st ≡ None
  spent e st is = ap (λ k. play_behind library parts budget schedule turn k st) is

  pub begins_as : (count : ℕ) (c : Config Overlay) (is : IsOpened library parts budget c) (p : Play) (b : BegunFrom c count p) (same : count ≡ length parts)
      (few : length parts ≤ 1000) → ¬ (c.state ≡ states.StepsSpent) → BeginsAs library parts budget schedule turn p
  begins_as count c is p b same few unspent =
      let st = (opening library parts budget).1 in
      let zero_is : 0 + 1 ≡ 1 = omega arith in
      record {
        is = begun_is library parts budget count c is p b same few;
        there = defined.opened library parts budget st;
        exactly = record {
          copy = held_begun library parts budget count c is p b same few;
          objects = arena_begun library parts budget count c is p b same few;
          owners = sym b.drawn;
          ends_are = refl;
          activities = subst (λ k. Shows (Stands budget p.common p.activities.items) k p.activities.items (activities_from k parts)) zero_is
              (shows_new budget p.common p.activities.items 0 p.activities.items parts (b.count_is ∙ same)
              (λ j. let plain : 0 + j ≡ j = omega arith in ap (slice_get p.activities.items) plain) (is_new p.activities.items b.activities));
        };
        out = refl;
        plays = behind (opening library parts budget).0 st (is.opens unspent);
      }

  -- the library spent the budget
  pub spent_so : (c : Config Overlay) (b : Option (List ℕ)) (f : ℕ) → IsOpened library parts budget c → c.state ≡ states.StepsSpent
      → PlaysOut library parts budget schedule turn (stream b b f f) (Ok endings.StepsSpent)
  spent_so c b f is e = (spent (opening library parts budget).0 (opening library parts budget).1 (is.spends e), Appends-nil b)

  -- memory ran out before the first turn
  pub none_begun_so : (b : Option (List ℕ)) (f : ℕ) → PlaysOut library parts budget schedule turn (stream b b f f) (Err halts.OutOfMemory)
  none_begun_so b f = inl (Appends-nil b)

-- ---- the end

-- all activities have ended
all_ended : (library : Option Tree) (parts : List Tree) (budget : ℕ) (copy : Copy) (arena : Arena) (q : Play) (ends : List End)
    → IsPlay library parts budget copy arena q ends → All (λ (a : Activity). a.ended ≡ true) q.activities.items → (k : ℕ) → 1 ≤ k → k ≤ length parts
    → times_ended k ends ≡ 1
all_ended library parts budget copy arena q ends is all zero from upto = absurd (omega (arith, from))
all_ended library parts budget copy arena q ends is all (suc i) from upto =
    let inside : i < length q.activities.items = let count = is.count in omega (arith, upto, count) in
    let w = get_there q.activities.items i inside in
    let over : (w.0).ended ≡ true = subst (λ (x : Activity). x.ended ≡ true) (get_or_from_slice_get q.activities.items i w.0 w.0 w.1) (all i w.0 inside) in
    let stands = subst (λ e. StandsBy library parts budget copy arena e q ends (i + 1) w.0) over (is.activities i w.0 w.1) in
    let next : i + 1 ≡ suc i = omega arith in
    subst (λ j. times_ended j ends ≡ 1) next stands.0

module _ (rules : Rules) (library : Option Tree) (parts : List Tree) (first : rules.first ≡ first_number library) (schedule : List defined.PlayTurn)
    (turn : ℕ) (p : Play) (begins : BeginsAs library parts rules.budget schedule turn p) where
  abbrev copy : Copy
  copy = first_held library parts rules.budget

  abbrev arena : Arena
  arena = first_objects library parts rules.budget

  -- the definition's play at its end
  abbrev last : defined.Play
  last = by_all rules.budget schedule turn library parts begins.there

  module _ (b0 b1 b2 : Option (List ℕ)) (f0 f1 f2 : ℕ) (le : f0 ≤ f1) (q : Play)
      (turns : TurnsTo rules (stream b0 b1 f0 f1) (Is (by_all rules.budget schedule turn)) p q)
      (all : All (λ (a : Activity). a.ended ≡ true) q.activities.items) where
    to : ComesTo library parts rules.budget copy arena (Becomes (Is (by_all rules.budget schedule turn)) library parts rules.budget q)
        (stream b0 b1 f0 f1) p [] q
    to = turns library parts copy arena [] first begins.is

    become : Becomes (Is (by_all rules.budget schedule turn)) library parts rules.budget q begins.there to.more to.gone
    become = to.exact begins.there begins.exactly

    exactly : IsExactly rules.budget q to.more last
    exactly = subst (IsExactly rules.budget q to.more) (sym become.by) become.is

    serial : IsSerial library parts rules.budget copy arena to.more
    serial = serial_all library parts rules.budget copy arena to.more (first_in q.common) (arena_in q.common.texts q.common.arena) to.is.so_far
        (all_ended library parts rules.budget copy arena q to.more to.is all)

    abbrev lines : List ℕ
    lines = lines_from (length parts) 1 to.more

    lines_same : lines_from (length q.activities.items) 1 to.more ≡ lines
    lines_same = ap (λ n. lines_from n 1 to.more) to.is.count

    -- what was printed, and the lines
    due_is : due library parts rules.budget to.more ≡ to.gone ++ lines
    due_is = ap (λ (l : List ℕ). l ++ lines) to.further.is

    printed_is : last.out ≡ to.gone
    printed_is = ap (λ (d : defined.Play). d.out) become.by ∙ become.out ∙ ap (λ (l : List ℕ). l ++ to.gone) begins.out

    bytes_are : bytes_of library parts rules.budget last ≡ to.gone ++ lines
    bytes_are = λ i. printed_is i ++ lines_from (length parts) 1 (exactly.ends_are i)

    left_copy : copy_by library parts rules.budget copy (runs_of to.more) ≡ last.copy
    left_copy = to.is.so_far.holds ∙ sym exactly.copy

    left_objects : Holds (left_by library parts rules.budget copy arena (runs_of to.more)) last.objects
    left_objects = subst (Holds (left_by library parts rules.budget copy arena (runs_of to.more))) (sym exactly.objects) to.is.so_far.left

    heap_is : (heap : Heap Overlay) → heap ≡ record { texts = q.common.texts; arena = q.common.arena; store = q.common.shared }
        → (held_in heap.texts (first_copy (worlds_in heap.store)) ≡ last.copy) × (arena_in heap.texts heap.arena ≡ last.objects) × (heap.store.spent ≡ false)
    heap_is heap h = (
      ap (λ (x : Heap Overlay). held_in x.texts (first_copy (worlds_in x.store))) h ∙ sym exactly.copy,
      ap (λ (x : Heap Overlay). arena_in x.texts x.arena) h ∙ sym exactly.objects,
      ap (λ (x : Heap Overlay). x.store.spent) h ∙ to.is.works,
    )

    -- its table knows what the first world holds
    names_are : (heap : Heap Overlay) → heap ≡ record { texts = q.common.texts; arena = q.common.arena; store = q.common.shared }
        → IsTable heap.texts × KnowsView heap.texts (first_copy (worlds_in heap.store))
    names_are heap h = subst (λ (x : Heap Overlay). IsTable x.texts × KnowsView x.texts (first_copy (worlds_in x.store))) (sym h) (
      to.is.common.table,
      view_known q.common.texts q.common.arena (first_copy (worlds_in q.common.shared)) to.is.common.table to.is.common.slots,
    )

    pub closes : (r : Result PlayEnd Halt) → ClosesAs (stream b1 b2 f1 f2) q r → PlaysOut library parts rules.budget schedule turn (stream b0 b2 f0 f2) r
    closes (Ok (endings.Done told heap)) h =
        let left = heap_is heap h.1 in
        let named = names_are heap h.1 in
        let are : to.more ≡ last.ends = sym exactly.ends_are in
        let all_got = Appends-then b0 b1 b2 to.gone lines to.got (subst (Got (stream b1 b2 f1 f2)) lines_same (h.2 to.more to.is.told)) in
        record {
          played = last;
          is = begins.plays;
          tells = subst (TellsEnds told) are (subst (λ l. TellsEnds l to.more) (sym h.0) to.is.told);
          got = subst (Got (stream b0 b2 f0 f2)) (sym bytes_are) all_got;
          holds = left.0;
          objects = left.1;
          serial = subst (Serial library parts rules.budget) are serial;
          named = subst (λ es. NamesNone library parts rules.budget copy (runs_of es)) are to.is.named;
          prints = subst (λ es. due library parts rules.budget es ≡ bytes_of library parts rules.budget last) are (due_is ∙ sym bytes_are);
          leaves = subst (λ es. copy_by library parts rules.budget copy (runs_of es) ≡ last.copy) are left_copy;
          further = subst (λ es. Holds (left_by library parts rules.budget copy arena (runs_of es)) last.objects) are left_objects;
          works = left.2;
          table = named.0;
          knows = named.1;
        }
    closes (Ok endings.StepsSpent) h = absurd h
    closes (Ok endings.SinkFailed) h = absurd h
    closes (Ok endings.OutOfMemory) h = absurd h
    closes (Err halts.SinkFailed) h =
        let some = wrote_then b0 b1 b2 f0 f1 f2 halts.SinkFailed to.gone lines le to.got
        (subst (Stops (stream b1 b2 f1 f2)) lines_same (h to.more to.is.told)) in
        record {
          played = last;
          is = begins.plays;
          wrote = subst (Stops (stream b0 b2 f0 f2)) (sym bytes_are) some;
          ends = to.more;
          serial = serial;
          alone = subst (Stops (stream b0 b2 f0 f2)) (sym due_is) some;
        }
    closes (Err halts.OutOfMemory) h =
        let got = Appends-then b0 b1 b2 to.gone [] to.got h in
        let front = ap (λ (l : List ℕ). l ++ lines) (sym (append-nil to.gone)) in
        inr (record {
          played = last;
          is = begins.plays;
          wrote = record { front = to.gone ++ []; rest = lines; whole = bytes_are ∙ front; got = got };
          ends = to.more;
          serial = serial;
          alone = record { front = to.gone ++ []; rest = lines; whole = due_is ∙ front; got = got };
        })

  -- a halt among the turns
  module _ (s : Stream) (halt : Halt) (halts_in : HaltsIn rules s (by_all rules.budget schedule turn) p halt) where
    wrote_of : WroteOf library parts rules.budget schedule turn (WroteBy s halt)
    wrote_of =
        let to = halts_in library parts copy arena [] first begins.is in
        let f = to.exact begins.there begins.exactly in
        let lines = lines_from (length parts) 1 last.ends in
        let whole : last.out ≡ to.gone ++ f.0 = f.1 ∙ ap (λ (l : List ℕ). (l ++ to.gone) ++ f.0) begins.out in
        let c = completed library parts rules.budget copy arena s halt to.more to.gone to.now to.objects to.further to.wrote to.so_far in
        record {
          played = last;
          is = begins.plays;
          wrote = front_of library parts rules.budget copy arena s halt to.gone (bytes_of library parts rules.budget last) (f.0 ++ lines)
              (ap (λ (l : List ℕ). l ++ lines) whole ∙ append_assoc to.gone f.0 lines) to.wrote;
          ends = c.0;
          serial = c.1;
          alone = c.2;
        }

  pub halts_among : (s : Stream) (halt : Halt) → HaltsIn rules s (by_all rules.budget schedule turn) p halt
      → PlaysOut library parts rules.budget schedule turn s (Err halt)
  halts_among s halts.SinkFailed h = wrote_of s halts.SinkFailed h
  halts_among s halts.OutOfMemory h = inr (wrote_of s halts.OutOfMemory h)

-- ---- the lines

pub closes_with : (s : Stream) (p : Play) (bytes : List ℕ) (r : Result PlayEnd Halt)
    → ((es : List End) → TellsEnds p.ends es → bytes ≡ lines_from (length p.activities.items) 1 es) → WritesLast s p bytes r → ClosesAs s p r
closes_with s p bytes (Ok (endings.Done told heap)) are h = (h.0, h.1, λ es tells. subst (Got s) (are es tells) h.2)
closes_with s p bytes (Ok endings.StepsSpent) are h = absurd h
closes_with s p bytes (Ok endings.SinkFailed) are h = absurd h
closes_with s p bytes (Ok endings.OutOfMemory) are h = absurd h
closes_with s p bytes (Err halts.SinkFailed) are h = λ es tells. subst (Stops s) (are es tells) h
closes_with s p bytes (Err halts.OutOfMemory) are h = absurd h
