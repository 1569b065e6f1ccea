-- A listing goes along the prototypes.
use Rattle.std.proofs.Common.{◌≡◌, Bool, true, false, cond, not, ◌||◌, List, [], ◌∷◌, ◌++◌, Option, None, Some, Result, Ok, Err, refl, sym, ap, ◌∙◌, subst, filter, map as each, IsTrue, append_assoc, append-nil, IsPermutation}
use Rattle.std.specs.Prelude.{IfSome, OnOk}
use Rattle.std.specs.BTreeSet.{BTreeSet, IsEmpty}
use Rattle.std.specs.List.{list_any}
use Rattle.std.specs.List.Sorted.{IsSorted}
use Rattle.std.specs.Ordering.{eq_by_cmp}
use Rattle.std.specs.FinMap as map
use Rattle.std.proofs.lemmas.List.{map-append}
use Rattle.std.proofs.lemmas.List.Folds.{list_any-append}
use Rattle.wjs_base.specs.declared.ids.ObjId.{ObjId}
use Rattle.wjs_base.specs.declared.ids.WorldId.{WorldId}
use Rattle.wjs_base.specs.declared.values.Name.{Name}
use Rattle.wjs_base.specs.Order as numbered_order
use Rattle.wjs_base.specs.Order.{name_cmp}
use Rattle.wjs_base.specs.Spelling.{IsName, spelling_cmp}
use Rattle.wjs_base.specs.Text.{Table, Grows}
use Rattle.wjs_base.proofs.TextLaws.{Grows-IsName, Grows-trans}
use Rattle.wjs_store.specs.State.{has_world}
use Rattle.wjs_store.specs.Meaning.{worlds}
use Rattle.wjs_store.specs.Shown.{slots_of}
use Rattle.wjs_by_content.specs.Ascends.{Ascends}
use Rattle.wjs_by_content.specs.Renamed.{Holds}
use Rattle.wjs_by_content.proofs.Found.{holds_append}
use Rattle.wjs_arena.specs.declared.object.Object.{Object}
use Rattle.wjs_arena.specs.Chains as numbered
use Rattle.wjs_arena.specs.Chains.{chain_from, flags_in}
use Rattle.wjs_arena.specs.Entries.{Objects, Entry as NumberedEntry, prototype_of, depth_of}
use Rattle.wjs_arena.specs.Entries as entries
use Rattle.wjs_arena.proofs.Walks.{chain_step, there_next}
use Rattle.wjs_by_content.proofs.ArenaMaps.{chain_same}
use Rattle.wjs_by_content.specs.Values.{Text, same_text}
use Rattle.wjs_by_content.specs.Names.{Slot, slot}
use Rattle.wjs_by_content.specs.Objects.{object_at, is_hidden}
use Rattle.wjs_by_content.specs.Plans.{Plan, Gives, Lists, then_plan}
use Rattle.wjs_by_content.specs.Tables.{name_in, arena_in}
use Rattle.wjs_by_content.specs.Worlds.{listing}
use Rattle.wjs_props.specs.declared.visits.Visit.{Visit}
use Rattle.wjs_heap.specs.Heap.{Parts, IsHeap, Performs}
use Rattle.wjs_props.specs.Listing.{is_in, is_among, names_under, visit_of, visits_of, Adds}
use Rattle.wjs_by_content.specs.Properties as plan
use Rattle.wjs_props.specs.Visits.{visits_in, HasVisit}
use Rattle.wjs_props.proofs.Cutting.{names_stay}
use Rattle.wjs_props.proofs.Getting.{next_of}
use Rattle.wjs_props.proofs.InOrder.{listing_is}
use Rattle.wjs_props.proofs.NameSets.{empty_in}
use Rattle.wjs_props.proofs.SpelledNames.{holds_moved}
use Rattle.wjs_heap.proofs.Turns.{performs_nothing, performs_then, performs_same}
use Rattle.wjs_props.proofs.Visiting.{visited_are, fixed_names, fixed_are_names}

-- ---- what was seen

-- the names of an object that was listed, and those of its fixed properties
pub seen_then : {E : Type 0} (r : Result (Unit {0}) E) (old mid new : BTreeSet Name) (names fixed held : List Name) → fixed ≡ held → Adds old mid names → OnOk r (Adds mid new fixed)
    → OnOk r ((n : Name) → is_in new n ≡ (is_among held n || (is_among names n || is_in old n)))
seen_then (Ok u) old mid new names fixed held e first second = λ n. second n ∙ (λ i. is_among (e i) n || first n i)
seen_then (Err u) old mid new names fixed held e first second = tt

or_turns : (a b c : Bool) → ((a || b) || c) ≡ (c || (b || a))
or_turns true true true = refl
or_turns true true false = refl
or_turns true false true = refl
or_turns true false false = refl
or_turns false true true = refl
or_turns false true false = refl
or_turns false false true = refl
or_turns false false false = refl

seen_among : (old new : BTreeSet Name) (passed order fixed : List Name) → ((n : Name) → is_in old n ≡ is_among passed n) → ((n : Name) → is_in new n ≡ (is_among fixed n || (is_among order n || is_in old n)))
    → (n : Name) → is_in new n ≡ is_among ((passed ++ order) ++ fixed) n
seen_among old new passed order fixed are more n =
    more n
    ∙ ap (λ b. is_among fixed n || (is_among order n || b)) (are n)
    ∙ sym (or_turns (is_among passed n) (is_among order n) (is_among fixed n))
    ∙ ap (λ b. b || is_among fixed n) (sym (list_any-append (eq_by_cmp name_cmp n) passed order))
    ∙ sym (list_any-append (eq_by_cmp name_cmp n) (passed ++ order) fixed)

-- ---- lists

visits_stay : (old new : Table) → Grows old new → (a b : Objects) → b ≡ a → (vs : List Visit) → Holds (HasVisit old a) vs → Holds (HasVisit new b) vs
visits_stay old new g a b e [] h = tt
visits_stay old new g a b e (v ∷ vs) h =
    (record { object = subst (λ (z : Objects). IsTrue (entries.has z v.object)) (sym e) (h.0).object; name = Grows-IsName old new v.name g (h.0).name }, visits_stay old new g a b e vs h.1)

visits_there : (texts : Table) (m : Objects) (o : ObjId) (p : Name → Bool) → IsTrue (entries.has m o) → (names : List Name) → Holds (IsName texts) names → Holds (HasVisit texts m) (each (visit_of o) (filter p names))
visits_there texts m o p there [] h = tt
visits_there texts m o p there (n ∷ ns) h = by (p n) (visits_there texts m o p there ns h.1)
  where
    by : (b : Bool) → Holds (HasVisit texts m) (each (visit_of o) (filter p ns)) → Holds (HasVisit texts m) (each (visit_of o) (cond b (n ∷ filter p ns) (filter p ns)))
    by true later = (record { object = there; name = h.0 }, later)
    by false later = later

-- ---- the walk

-- a walk has come to an object: what does the rest does the whole
pub record IsListing (w : WorldId) (o : ObjId) (old now : Parts) (at : ObjId) (seen : BTreeSet Name) (visits : List Visit) : Type 0 where
  pub heap : IsHeap now
  pub world : IsTrue (has_world (worlds now.store) w)
  pub there : IsTrue (entries.has now.arena at)
  pub arena : now.arena ≡ old.arena
  -- the names of the objects before it, and that these were seen
  pub passed : List Name
  pub named : Holds (IsName now.texts) passed
  pub are : (n : Name) → is_in seen n ≡ is_among passed n
  pub shown : Holds (HasVisit now.texts now.arena) visits
  pub rest : (b : Table → List Slot) (new : Parts) → Performs w (λ t. plan.visits_along (numbered.chain old.arena at) (arena_in t old.arena) (each (name_in t) passed)) b now new
      → Performs w (λ t. plan.visits (arena_in t old.arena) o) (λ t. visits_in t visits ++ b t) old new

pub begins : (w : WorldId) (o : ObjId) (h : Parts) (seen : BTreeSet Name) (visits : List Visit) → IsHeap h → IsTrue (has_world (worlds h.store) w) → IsTrue (entries.has h.arena o) → IsEmpty seen → visits ≡ [] → IsListing w o h h o seen visits
begins w o h seen visits heap world there none bare = record {
  heap = heap;
  world = world;
  there = there;
  arena = refl;
  passed = [];
  named = tt;
  are = λ n. empty_in seen none n;
  shown = subst (Holds (HasVisit h.texts h.arena)) (sym bare) tt;
  rest = λ b new f. performs_same w _ _ b (λ t. visits_in t visits ++ b t) h new (λ t g. ap (λ os. plan.visits_along os (arena_in t h.arena) []) (sym (chain_same t h.arena o))) (λ t g. ap (λ vs. visits_in t vs ++ b t) (sym bare)) f;
}

-- what was listed at an object, in order
pub record IsListed (w : WorldId) (at : ObjId) (now mid : Parts) (x : Object) (order : List Name) : Type 0 where
  pub names : List Name
  pub did : Performs w (λ t. Lists at Gives) (λ t. listing t at names) now mid
  pub there : Holds (IsName mid.texts) names
  pub ascends : Ascends numbered_order.slot_cmp (slots_of at names)
  pub moved : IsPermutation names order
  pub sorted : IsSorted (spelling_cmp mid.texts) order
  pub object : IfSome (map.get mid.arena at) (λ (e : NumberedEntry). x ≡ e.object)

module _ (w : WorldId) (o : ObjId) (old now mid : Parts) (at : ObjId) (seen : BTreeSet Name) (visits : List Visit) (so : IsListing w o old now at seen visits) (x : Object) (order : List Name) (listed : IsListed w at now mid x order) where
  -- the visits of the object
  abbrev pub visited : List Visit
  visited = visits_of at (λ n. (flags_in x n).hidden) (is_in seen) order

  -- the names of the object too
  passed' : List Name
  passed' = (so.passed ++ order) ++ names_under x.fixed

  same_arena : mid.arena ≡ old.arena
  same_arena = listed.did.arena ∙ so.arena

  still : IsTrue (entries.has mid.arena at)
  still = subst (λ (z : Objects). IsTrue (entries.has z at)) (sym listed.did.arena) so.there

  order_there : Holds (IsName mid.texts) order
  order_there = holds_moved (IsName mid.texts) listed.names order listed.moved listed.there

  passed_there : Holds (IsName mid.texts) so.passed
  passed_there = names_stay now.texts mid.texts listed.did.texts so.passed so.named

  passed_named : Holds (IsName mid.texts) passed'
  unfolding passed'
  passed_named = holds_append (IsName mid.texts) (so.passed ++ order) (names_under x.fixed) (holds_append (IsName mid.texts) so.passed order passed_there order_there) (fixed_are_names mid listed.did.heap at x still listed.object)

  shown_there : Holds (HasVisit mid.texts mid.arena) (visits ++ visited)
  shown_there = holds_append (HasVisit mid.texts mid.arena) visits visited (visits_stay now.texts mid.texts listed.did.texts now.arena mid.arena listed.did.arena visits so.shown)
      (visits_there mid.texts mid.arena at (λ n. not ((flags_in x n).hidden || is_in seen n)) still order order_there)

  -- the names that count as seen afterwards, and what is visited, by content
  seen_in : Table → List Text → List Text
  seen_in t names = (each (name_in t) so.passed ++ names) ++ each (λ e. e.0) (object_at (arena_in t old.arena) at).fixed

  own_in : Table → List Text → List Slot
  own_in t names = each (slot at) (filter (λ n. not (is_hidden (arena_in t old.arena) at n || list_any (same_text n) (each (name_in t) so.passed))) names)

  module _ (t : Table) (g : Grows mid.texts t) where
    listed_as : listing t at listed.names ≡ each (name_in t) order
    listed_as = listing_is mid.texts t listed.did.heap.table g at listed.names order listed.there listed.ascends listed.moved order_there listed.sorted

    seen_as : each (name_in t) passed' ≡ seen_in t (listing t at listed.names)
    unfolding passed' seen_in
    seen_as =
        map-append (name_in t) (so.passed ++ order) (names_under x.fixed)
        ∙ (λ i. map-append (name_in t) so.passed order i ++ sym (fixed_names mid listed.did.heap at x still listed.object t) i)
        ∙ (λ i. (each (name_in t) so.passed ++ sym listed_as i) ++ each (λ e. e.0) (object_at (arena_in t (same_arena i)) at).fixed)

    own_as : visits_in t visited ≡ own_in t (listing t at listed.names)
    unfolding own_in
    own_as =
        visited_are mid listed.did.heap at x still listed.object t g so.passed seen passed_there so.are order order_there
        ∙ (λ i. each (slot at) (filter (λ n. not (is_hidden (arena_in t (same_arena i)) at n || list_any (same_text n) (each (name_in t) so.passed))) (sym listed_as i)))

  -- what follows the listing
  goes : List ObjId → Table → List Text → Plan (List Slot)
  goes os t names = then_plan (plan.visits_along os (arena_in t old.arena) (seen_in t names)) (λ vs. Gives (own_in t names ++ vs))

  along : (p : Option ObjId) → prototype_of now.arena at ≡ p → numbered.chain old.arena at ≡ at ∷ chain_from (depth_of old.arena p) old.arena p
  along p is = subst (λ (z : Objects). numbered.chain z at ≡ at ∷ chain_from (depth_of z p) z p) so.arena (chain_step now.arena so.heap.arena at p so.there is)

  later : (os : List ObjId) (b : Table → List Slot) (new : Parts) → Performs w (λ t. plan.visits_along os (arena_in t old.arena) (each (name_in t) passed')) b mid new
      → Performs w (λ t. goes os t (listing t at listed.names)) (λ t. visits_in t visited ++ b t) mid new
  unfolding goes
  later os b new f = performs_same w _ _ (λ t. visits_in t visited ++ b t) (λ t. visits_in t visited ++ b t) mid new
      (λ t g. let g' = Grows-trans mid.texts new.texts t f.texts g in
      λ i. then_plan (plan.visits_along os (arena_in t old.arena) (seen_as t g' i)) (λ vs. Gives (own_as t g' i ++ vs)))
      (λ t g. refl)
      (performs_then w (λ t. plan.visits_along os (arena_in t old.arena) (each (name_in t) passed')) (λ t vs. Gives (visits_in t visited ++ vs)) b (λ t. visits_in t visited ++ b t) mid new new f (performs_nothing w (λ t. visits_in t visited ++ b t) new f.heap))

  on : (p : Option ObjId) → prototype_of now.arena at ≡ p → (b : Table → List Slot) (new : Parts)
      → Performs w (λ t. plan.visits_along (chain_from (depth_of old.arena p) old.arena p) (arena_in t old.arena) (each (name_in t) passed')) b mid new
      → Performs w (λ t. plan.visits (arena_in t old.arena) o) (λ t. visits_in t (visits ++ visited) ++ b t) old new
  unfolding goes seen_in own_in
  on p is b new f =
      let os = chain_from (depth_of old.arena p) old.arena p in
      performs_same w _ _ (λ t. visits_in t visits ++ (visits_in t visited ++ b t)) (λ t. visits_in t (visits ++ visited) ++ b t) old new
      (λ t g. refl)
      (λ t g. sym (append_assoc (visits_in t visits) (visits_in t visited) (b t)) ∙ ap (λ vs. vs ++ b t) (sym (map-append (λ v. slot v.object (name_in t v.name)) visits visited)))
      (so.rest (λ t. visits_in t visited ++ b t) new
      (performs_same w _ _ (λ t. visits_in t visited ++ b t) (λ t. visits_in t visited ++ b t) now new
      (λ t g. sym (ap (λ xs. plan.visits_along xs (arena_in t old.arena) (each (name_in t) so.passed)) (along p is)))
      (λ t g. refl)
      (performs_then w (λ t. Lists at Gives) (λ t. goes os t) (λ t. listing t at listed.names) (λ t. visits_in t visited ++ b t) now mid new listed.did (later os b new f))))

  -- there is no prototype: it ends
  ends : prototype_of now.arena at ≡ None → Performs w (λ t. plan.visits (arena_in t old.arena) o) (λ t. visits_in t (visits ++ visited)) old mid
  unfolding chain_from
  ends last = performs_same w _ _ (λ t. visits_in t (visits ++ visited) ++ []) (λ t. visits_in t (visits ++ visited)) old mid (λ t g. refl) (λ t g. append-nil (visits_in t (visits ++ visited)))
      (on None last (λ t. []) mid (performs_nothing w (λ t. []) mid listed.did.heap))

  -- it goes on at the prototype
  goes_on : (p : ObjId) (seen' : BTreeSet Name) → prototype_of now.arena at ≡ Some p → ((n : Name) → is_in seen' n ≡ (is_among (names_under x.fixed) n || (is_among order n || is_in seen n))) → IsListing w o old mid p seen' (visits ++ visited)
  unfolding passed'
  goes_on p seen' next more = record {
    heap = listed.did.heap;
    world = listed.did.still_there w so.world;
    there = subst (λ (z : Objects). IsTrue (entries.has z p)) (sym listed.did.arena) (there_next now.arena so.heap.arena at (Some p) next);
    arena = same_arena;
    passed = passed';
    named = passed_named;
    are = seen_among seen seen' so.passed order (names_under x.fixed) so.are more;
    shown = shown_there;
    rest = λ b new f. on (Some p) next b new f;
  }

  -- what it visits is there
  ends_there : Holds (HasVisit mid.texts mid.arena) (visits ++ visited)
  ends_there = shown_there

-- ---- as the code has them

module _ (w : WorldId) (o : ObjId) (old now mid : Parts) (at : ObjId) (seen : BTreeSet Name) (visits : List Visit) (so : IsListing w o old now at seen visits) (x : Object) (order : List Name) (listed : IsListed w at now mid x order)
    (after : List Visit) (is : after ≡ visits ++ visits_of at (λ n. (flags_in x n).hidden) (is_in seen) order) where
  prototype_is : prototype_of now.arena at ≡ x.prototype
  prototype_is = next_of now mid at x listed.did.arena so.there listed.object

  pub lists_all : x.prototype ≡ None → Performs w (λ t. plan.visits (arena_in t old.arena) o) (λ t. visits_in t after) old mid
  lists_all last = performs_same w _ _ (λ t. visits_in t (visits ++ visits_of at (λ n. (flags_in x n).hidden) (is_in seen) order)) (λ t. visits_in t after) old mid (λ t g. refl) (λ t g. ap (visits_in t) (sym is))
      (ends w o old now mid at seen visits so x order listed (prototype_is ∙ last))

  pub all_there : Holds (HasVisit mid.texts mid.arena) after
  all_there = subst (Holds (HasVisit mid.texts mid.arena)) (sym is) (ends_there w o old now mid at seen visits so x order listed)

  pub lists_on : (p : ObjId) (seen' : BTreeSet Name) → x.prototype ≡ Some p → ((n : Name) → is_in seen' n ≡ (is_among (names_under x.fixed) n || (is_among order n || is_in seen n))) → IsListing w o old mid p seen' after
  lists_on p seen' next more = subst (IsListing w o old mid p seen') (sym is) (goes_on w o old now mid at seen visits so x order listed p seen' (prototype_is ∙ next) more)
