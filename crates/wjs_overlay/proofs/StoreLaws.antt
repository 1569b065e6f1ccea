-- What each call keeps.
use Rattle.std.proofs.Common.{◌≡◌, ℕ, ◌+◌, ◌<◌, Bool, true, false, cond, not, ◌==◌, List, [], ◌∷◌, length, Option, None, Some, is_some, is_none, unwrap_or, map as each, refl, ap, sym, ◌∙◌, subst, arith, suc}
use Rattle.std.specs.Option.{option_map, option_map_or, option_and_then}
use Rattle.std.specs.Ordering.{eq_by_cmp, is_eq, nat_cmp}
use Rattle.std.specs.Cmp.{tied_itself, nat_cmp_total}
use Rattle.std.specs.FinMap as map
use Rattle.std.specs.FinMap.{FinMap, nat_cmp-IsAntisymmetric}
use Rattle.std.proofs.lemmas.Bool.{true≢false, false≢true, eqb-true, eq-eqb}
use Rattle.std.proofs.lemmas.Bool.Decides.{nat_tests}
use Rattle.wjs_base.specs.declared.ids.WorldId.{WorldId}
use Rattle.wjs_base.specs.declared.ids.ObjId.{ObjId}
use Rattle.wjs_base.specs.declared.values.Slot.{Slot}
use Rattle.wjs_base.specs.declared.values.Value.{Value}
use Rattle.wjs_base.specs.Order.{world_cmp, world_total, world_exact}
use Rattle.wjs_store.specs.Naming.{plain}
use Rattle.wjs_store.specs.State.{World, State, find_world, has_world, same_world, count_of, at_world, write_all, settle, moves, reads_of, hand_entries, hand_objects, clear_marks, with_parent, fault_in, after_read, after_write, after_list, after_commit, write_at, read_in, list_in}
use Rattle.wjs_store.specs.Reached.{IsReached}
use Rattle.wjs_store.proofs.Marks.{key_is, marks_read, marks_list, marks_at}
use Rattle.wjs_store.proofs.Writes.{by_one, same_self, world_is, write_id, entries_id, objects_id}
use Rattle.wjs_layers.specs.declared.layer.Layer.{Layer}
use Rattle.wjs_layers.specs.Sparse.{place_of, full_of, AreKept, StandFor}
use Rattle.wjs_overlay.specs.Store.{IsStore}
use Rattle.std.specs.Option.{IsSome}
use Rattle.std.proofs.Common.{IsTrue, slice_get, ◌&&◌}
use Rattle.std.proofs.lemmas.Option.{slice_get_within}
use Rattle.wjs_base.specs.Order.{slot_cmp, obj_cmp}
use Rattle.wjs_base.proofs.Booleans.{by_bool}
use Rattle.wjs_base.proofs.Options.{no_none}
use Rattle.wjs_store.specs.State.{parent_of, child_of, next_id, after_sprout, answer_to, after}
use Rattle.wjs_store.specs.Meaning.{PlainAct, PlainReply, Does}
use Rattle.wjs_store.specs.Fixed.{fixed, begun, fresh}
use Rattle.wjs_store.specs.Shown.{first_of, counts_of, Counts}
use Rattle.wjs_store.proofs.FixedStore.{answers_full}
use Rattle.wjs_store.proofs.Commits.{reached_begun}
use Rattle.wjs_store.proofs.Writes.{found_id}
use Rattle.wjs_layers.specs.declared.layer.Spot.{Spot}
use Rattle.wjs_layers.specs.Sparse.{Keeps, IsAt, read_of, mark_of}
use Rattle.wjs_overlay.specs.Store.{worlds_of, first_id}
use Rattle.wjs_layers.proofs.Places.{place_none, place_head, place_older}
use Rattle.wjs_layers.proofs.Changes.{kept_push}
use Rattle.wjs_layers.proofs.Looks.{found_at}
use Rattle.wjs_layers.proofs.Puts.{stand_by}
use Rattle.wjs_layers.proofs.SproutLaws.{sprout_is}
use Rattle.wjs_layers.proofs.ListLaws.{at_id}

-- ---- numbers

abbrev pub ids_of : State plain → List WorldId
ids_of F = each (λ (x : World plain). x.id) F

length_ids : (F : State plain) → length (ids_of F) ≡ length F
length_ids [] = refl
length_ids (x ∷ F) = ap suc (length_ids F)

pub place_ids : (F G : State plain) (w : WorldId) → ids_of F ≡ ids_of G → place_of F w ≡ place_of G w
unfolding place_of
place_ids [] [] w e = refl
place_ids [] (y ∷ G) w e = cc
place_ids (x ∷ F) [] w e = cc
place_ids (x ∷ F) (y ∷ G) w e =
    let h : x.id ≡ y.id = cc in
    let t : ids_of F ≡ ids_of G = cc in
    ap (λ j. cond (same_world j w) (Some (length F)) (place_of F w)) h
    ∙ ap (λ m. cond (same_world y.id w) (Some m) (place_of F w)) (sym (length_ids F) ∙ ap length t ∙ length_ids G)
    ∙ ap (cond (same_world y.id w) (Some (length G))) (place_ids F G w t)

count_ids : (F G : State plain) (o : ℕ) → ids_of F ≡ ids_of G → count_of o F ≡ count_of o G
count_ids [] [] o e = refl
count_ids [] (y ∷ G) o e = cc
count_ids (x ∷ F) [] o e = cc
count_ids (x ∷ F) (y ∷ G) o e =
    let h : x.id ≡ y.id = cc in
    let t : ids_of F ≡ ids_of G = cc in
    ap (λ (j : WorldId). cond (j.owner == o) 1 0 + count_of o F) h ∙ ap (λ m. cond (y.id.owner == o) 1 0 + m) (count_ids F G o t)

ids_each : (g : World plain → World plain) → ((x : World plain) → (g x).id ≡ x.id) → (F : State plain) → ids_of (each g F) ≡ ids_of F
ids_each g h [] = refl
ids_each g h (x ∷ F) = ap (λ i. i ∷ ids_of (each g F)) (h x) ∙ ap (λ is. x.id ∷ is) (ids_each g h F)

pub ids_read : (F : State plain) (w : WorldId) (s : Slot) → ids_of (after_read F w s) ≡ ids_of F
unfolding after_read
ids_read F w s = ids_each (λ x. cond (same_world x.id w) (read_in s x) x) (λ x. (marks_at w (read_in s) (marks_read s) x).id) F

pub ids_write : (F : State plain) (w : WorldId) (s : Slot) (c : Option Value) → ids_of (after_write F w s c) ≡ ids_of F
unfolding after_write
ids_write F w s c = ids_each (write_at F w s c) (write_id F w s c) F

pub ids_list : (F : State plain) (w : WorldId) (o : ObjId) → ids_of (after_list F w o) ≡ ids_of F
unfolding after_list
ids_list F w o = ids_each (λ x. cond (same_world x.id w) (list_in o x) x) (λ x. (marks_at w (list_in o) (marks_list o) x).id) F

pub ids_at : (w : WorldId) (f : World plain → World plain) → ((x : World plain) → (f x).id ≡ x.id) → (F : State plain) → ids_of (at_world w f F) ≡ ids_of F
ids_at w f h F = ids_each (λ x. cond (same_world x.id w) (f x) x) (at_id w f h) F

pub ids_all : (w : WorldId) (es : List (Slot × Option Value)) (F : State plain) → ids_of (write_all w es F) ≡ ids_of F
ids_all w [] F = refl
ids_all w (e ∷ es) F = ids_all w es (after_write F w e.0 e.1) ∙ ids_write F w e.0 e.1

ids_settle : (x : World plain) (p : WorldId) (F : State plain) → ids_of (settle x p F) ≡ ids_of F
ids_settle x p F =
    let reads = hand_entries (reads_of x) in
    let objects = hand_objects (map.keys x.closed) in
    ids_at x.id clear_marks (λ y. refl) _
    ∙ ids_at p objects (λ y. by_one (is_some y.parent) (λ (z : World plain). z.id ≡ y.id) (objects_id (map.keys x.closed) y y refl) refl) _
    ∙ ids_all p (moves x) _
    ∙ ids_at p reads (λ y. by_one (is_some y.parent) (λ (z : World plain). z.id ≡ y.id) (entries_id (reads_of x) y y refl) refl) F

ids_commit_by : (F : State plain) (o : Option (World plain × World plain)) → ids_of (option_map_or (λ (e : World plain × World plain). cond (is_none (fault_in e.0 e.1)) (settle e.0 e.1.id F) F) o F) ≡ ids_of F
ids_commit_by F None = refl
ids_commit_by F (Some e) = by_one (is_none (fault_in e.0 e.1)) (λ (G : State plain). ids_of G ≡ ids_of F) (ids_settle e.0 e.1.id F) refl

pub ids_commit : (F : State plain) (w : WorldId) → ids_of (after_commit F w) ≡ ids_of F
unfolding after_commit
ids_commit F w = ids_commit_by F (with_parent F w)

-- the store after a call that makes no world
pub store_after : (layers new : List Layer) (places : FinMap world_cmp ℕ) (owners : FinMap nat_cmp ℕ) (G : State plain) → IsStore layers places owners → StandFor new G → ids_of G ≡ ids_of (full_of layers) → length new ≡ length layers → IsStore new places owners
store_after layers new places owners G k st ids len = record {
  sparse = st.sparse;
  some = omega (arith, k.some, len);
  placed = λ w. k.placed w ∙ place_ids (full_of layers) (full_of new) w (sym (ap ids_of st.full ∙ ids));
  owned = λ o. k.owned o ∙ count_ids (full_of layers) (full_of new) o (sym (ap ids_of st.full ∙ ids));
}

-- ---- a world more

same_key : (w i : WorldId) → eq_by_cmp world_cmp w i ≡ same_world i w
same_key w i = by_bool (same_world i w)
    (λ e. ap (λ j. is_eq (world_cmp w j)) (world_is i w e) ∙ ap is_eq (tied_itself world_total w) ∙ sym e)
    (λ e. by_bool (eq_by_cmp world_cmp w i) (λ f. absurd (true≢false (sym (ap (λ j. same_world i j) (key_is world_exact w i f) ∙ same_self i) ∙ e))) (λ f. f ∙ sym e))

same_owner : (o p : ℕ) → eq_by_cmp nat_cmp o p ≡ (p == o)
same_owner o p = by_bool (p == o)
    (λ e. ap (λ j. is_eq (nat_cmp o j)) (eqb-true p o e) ∙ ap is_eq (tied_itself nat_cmp_total o) ∙ sym e)
    (λ e. by_bool (eq_by_cmp nat_cmp o p) (λ f. absurd (true≢false (sym (eq-eqb p o (sym (key_is nat_cmp-IsAntisymmetric o p f))) ∙ e))) (λ f. f ∙ sym e))

placed_more : (places : FinMap world_cmp ℕ) (F : State plain) (x : World plain) → ((w : WorldId) → map.get places w ≡ place_of F w) → (w : WorldId) → map.get (map.insert places x.id (length F)) w ≡ place_of (x ∷ F) w
unfolding place_of
placed_more places F x h w = map.get-insert world_total places x.id (length F) w ∙ ap (λ b. cond b (Some (length F)) (map.get places w)) (same_key w x.id) ∙ ap (cond (same_world x.id w) (Some (length F))) (h w)

unwrap_cond : (b : Bool) (n : ℕ) (o : Option ℕ) → unwrap_or (cond b (Some n) o) 0 ≡ cond b n (unwrap_or o 0)
unwrap_cond true n o = refl
unwrap_cond false n o = refl

count_cond : (b : Bool) (m n : ℕ) → (b ≡ true → n ≡ m) → cond b (m + 1) n ≡ cond b 1 0 + n
count_cond true m n f = let e = f refl in omega arith
count_cond false m n f = omega arith

owned_more : (owners : FinMap nat_cmp ℕ) (F : State plain) (x : World plain) → ((o : ℕ) → unwrap_or (map.get owners o) 0 ≡ count_of o F) → (o : ℕ) → unwrap_or (map.get (map.insert owners x.id.owner (count_of x.id.owner F + 1)) o) 0 ≡ count_of o (x ∷ F)
owned_more owners F x h o =
    ap (λ d. unwrap_or d 0) (map.get-insert nat_cmp_total owners x.id.owner (count_of x.id.owner F + 1) o ∙ ap (λ b. cond b (Some (count_of x.id.owner F + 1)) (map.get owners o)) (same_owner o x.id.owner))
    ∙ unwrap_cond (x.id.owner == o) (count_of x.id.owner F + 1) (map.get owners o)
    ∙ ap (cond (x.id.owner == o) (count_of x.id.owner F + 1)) (h o)
    ∙ count_cond (x.id.owner == o) (count_of x.id.owner F) (count_of o F) (λ e. ap (λ p. count_of p F) (sym (eqb-true x.id.owner o e)))

-- ---- answers

pub answers_store : (spent : Bool) (layers : List Layer) (G : State plain) (a : PlainAct) (r : PlainReply) → spent ≡ false → r ≡ answer_to (full_of layers) a → G ≡ after (full_of layers) a → Does (fixed (worlds_of spent layers) spent) a r (fixed G false) × IsTrue (not spent)
answers_store true layers G a r s e f = absurd (true≢false s)
answers_store false layers G a r s e f = answers_full (full_of layers) G false a r refl e f

-- the same where the store stays as it is
pub answers_same : (spent : Bool) (layers : List Layer) (a : PlainAct) (r : PlainReply) → spent ≡ false → r ≡ answer_to (full_of layers) a → full_of layers ≡ after (full_of layers) a → Does (fixed (worlds_of spent layers) spent) a r (fixed (worlds_of spent layers) spent) × IsTrue (not spent)
answers_same true layers a r s e f = absurd (true≢false s)
answers_same false layers a r s e f = answers_full (full_of layers) (full_of layers) false a r refl e f

-- ---- the first world

empty_kept : AreKept [] []
empty_kept = record {
  many = refl;
  at = λ w i x r p f s. no_none i (sym (place_none w) ∙ p);
  up = λ w i r a p s u. no_none i (sym (place_none w) ∙ p);
}

abbrev pub first_layer : WorldId → Layer
first_layer id = record { id = id; above = None; strict = false; rows = map.empty; closed = map.empty }

abbrev first_of_all : WorldId → World plain
first_of_all id = record { id = id; parent = None; strict = false; copy = map.empty; first = map.empty; written = map.empty; closed = map.empty }

keeps_first : (id : WorldId) → Keeps (first_layer id) (first_of_all id)
keeps_first id = record {
  id = refl;
  parent = refl;
  strict = refl;
  closed = refl;
  first = λ s. map.get-empty slot_cmp s ∙ sym (ap (option_and_then read_of) (map.get-empty slot_cmp s));
  written = λ s. map.get-empty slot_cmp s ∙ sym (ap (option_and_then mark_of) (map.get-empty slot_cmp s));
  now = λ s row h. no_none row (sym (map.get-empty slot_cmp s) ∙ h);
  marked = λ s row h. no_none row (sym (map.get-empty slot_cmp s) ∙ h);
  present = λ s row u h. no_none row (sym (map.get-empty slot_cmp s) ∙ h);
  bare = λ s u h. map.get-empty slot_cmp s;
}

module _ (id : WorldId) (zeroth : id.serial ≡ 0) where
  pub first_stand : StandFor (first_layer id ∷ []) (begun id)
  first_stand = let reached = reached_begun id zeroth in stand_by (first_layer id ∷ []) (begun id) reached (kept_push [] [] empty_kept (first_layer id) (first_of_all id) reached (keeps_first id) (λ a u. no_none a u))

  pub first_store : IsStore (first_layer id ∷ []) (map.insert map.empty id 0) (map.insert map.empty id.owner 1)
  first_store = record {
    sparse = first_stand.sparse;
    some = omega arith;
    placed = λ w. placed_more map.empty [] (first_of_all id) (λ v. map.get-empty world_cmp v ∙ sym (place_none v)) w ∙ ap (λ F. place_of F w) (sym first_stand.full);
    owned = λ o. owned_more map.empty [] (first_of_all id) (λ p. ap (λ d. unwrap_or d 0) (map.get-empty nat_cmp p)) o ∙ ap (count_of o) (sym first_stand.full);
  }

first_place : (x : World plain) (F : State plain) → IsReached (x ∷ F) → (w : WorldId) × (first_of (x ∷ F) ≡ Some w) × (place_of (x ∷ F) w ≡ Some 0)
first_place x [] h = (x.id, refl, place_head x [] x.id (same_self x.id))
first_place x (y ∷ F) h = let r = first_place y F h.1 in (r.0, r.1, place_older x (y ∷ F) r.0 0 h r.2)

first_any : (F : State plain) → IsReached F → 0 < length F → (w : WorldId) × (first_of F ≡ Some w) × (place_of F w ≡ Some 0)
first_any [] h l = absurd (omega arith)
first_any (x ∷ F) h l = first_place x F h

pub first_at : (layers : List Layer) (places : FinMap world_cmp ℕ) (owners : FinMap nat_cmp ℕ) (r : Layer) → IsStore layers places owners → slice_get layers 0 ≡ Some r → first_of (full_of layers) ≡ Some r.id
first_at layers places owners r k s =
    let l : 0 < length (full_of layers) = omega (arith, k.some, k.sparse.kept.many) in
    let f = first_any (full_of layers) k.sparse.reached l in
    let x = found_at (full_of layers) f.0 0 f.2 in
    let kr = k.sparse.kept.at f.0 0 x.0 r f.2 x.1 s in
    f.1 ∙ ap (λ i. Some i) (sym (found_id (full_of layers) f.0 x.0 x.1) ∙ kr.id)

-- each place is a world's
place_any : (F : State plain) (i : ℕ) → IsReached F → i < length F → (w : WorldId) × (place_of F w ≡ Some i)
place_any [] i h l = absurd (omega arith)
place_any (x ∷ F) i h l = by_bool (i == length F)
    (λ e. (x.id, place_head x F x.id (same_self x.id) ∙ ap (λ n. Some n) (sym (eqb-true i (length F) e))))
    (λ e.
    let below : i < length F = grind (arith, nat_tests) in
    let w = place_any F i h.1 below in
    (w.0, place_older x F w.0 i h w.1))

-- each layer's world stands at its place
pub layer_placed : (layers : List Layer) (places : FinMap world_cmp ℕ) (owners : FinMap nat_cmp ℕ) (i : ℕ) (r : Layer) → IsStore layers places owners → slice_get layers i ≡ Some r → place_of (full_of layers) r.id ≡ Some i
layer_placed layers places owners i r k s =
    let l : i < length (full_of layers) = omega (arith, slice_get_within layers i r s, k.sparse.kept.many) in
    let w = place_any (full_of layers) i k.sparse.reached l in
    let x = found_at (full_of layers) w.0 i w.1 in
    let kr = k.sparse.kept.at w.0 i x.0 r w.1 x.1 s in
    subst (λ v. place_of (full_of layers) v ≡ Some i) (sym (found_id (full_of layers) w.0 x.0 x.1) ∙ kr.id) w.1

-- the first world stands at 0
pub first_placed : (layers : List Layer) (places : FinMap world_cmp ℕ) (owners : FinMap nat_cmp ℕ) (r : Layer) → IsStore layers places owners → slice_get layers 0 ≡ Some r → place_of (full_of layers) r.id ≡ Some 0
first_placed layers places owners r k s = layer_placed layers places owners 0 r k s

-- ---- a spent store

eqb_turn : (a b : ℕ) → (a == b) ≡ (b == a)
eqb_turn a b = by_bool (a == b)
    (λ e. e ∙ sym (eq-eqb b a (sym (eqb-true a b e))))
    (λ e. by_bool (b == a) (λ f. absurd (true≢false (sym (eq-eqb a b (sym (eqb-true b a f))) ∙ e))) (λ f. e ∙ sym f))

some_if : (b : Bool) (x : World plain) → is_some (cond b (Some x) None) ≡ b
some_if true x = refl
some_if false x = refl

fresh_has : (w : WorldId) → has_world fresh w ≡ ((w.owner == 0) && (w.serial == 0))
unfolding find_world
fresh_has w = some_if (same_world first_id w) (first_of_all first_id) ∙ ap (λ b. b && (0 == w.serial)) (eqb_turn 0 w.owner) ∙ ap (λ b. (w.owner == 0) && b) (eqb_turn 0 w.serial)

pub spent_has : (spent : Bool) (layers : List Layer) (w : WorldId) → spent ≡ true → has_world (worlds_of spent layers) w ≡ ((w.owner == 0) && (w.serial == 0))
spent_has spent layers w e = ap (λ b. has_world (worlds_of b layers) w) e ∙ fresh_has w

parent_if : (b : Bool) → option_and_then (λ (z : World plain). z.parent) (cond b (Some (first_of_all first_id)) None) ≡ None
parent_if true = refl
parent_if false = refl

fresh_parent : (w : WorldId) → parent_of fresh w ≡ None
unfolding find_world
fresh_parent w = parent_if (same_world first_id w)

pub spent_parent : (spent : Bool) (layers : List Layer) (w : WorldId) → spent ≡ true → parent_of (worlds_of spent layers) w ≡ None
spent_parent spent layers w e = ap (λ b. parent_of (worlds_of b layers) w) e ∙ fresh_parent w

pub is_some_of : {A : Type 0} (o : Option A) → is_some o ≡ true → IsSome o
is_some_of o h = h

-- ---- a world was sprouted

pub store_sprout : (layers new : List Layer) (places : FinMap world_cmp ℕ) (owners : FinMap nat_cmp ℕ) (k : IsStore layers places owners) (at : Spot) (here : IsAt layers at) (id : WorldId) (strict : Bool) (place : ℕ) → id ≡ next_id (full_of layers) id.owner → StandFor new (after_sprout (full_of layers) at.world id.owner strict) → place ≡ length layers → IsStore new (map.insert places id place) (map.insert owners id.owner (id.serial + 1))
store_sprout layers new places owners k at here id strict place next st len =
    let F = full_of layers in
    let x = found_at F at.world at.place here in
    let child = child_of x.0 id strict in
    let is : full_of new ≡ child ∷ F = st.full ∙ sprout_is F at.world id.owner strict x.0 x.1 ∙ ap (λ i. child_of x.0 i strict ∷ F) (sym next) in
    let n : length (full_of new) ≡ suc (length F) = ap length is in
    let p : place ≡ length F = len ∙ k.sparse.kept.many in
    let c : id.serial ≡ count_of id.owner F = ap (λ (i : WorldId). i.serial) next in
    record {
      sparse = st.sparse;
      some = omega (arith, st.sparse.kept.many, n);
      placed = λ w. ap (λ m. map.get (map.insert places id m) w) p ∙ placed_more places F child k.placed w ∙ ap (λ G. place_of G w) (sym is);
      owned = λ o. ap (λ m. unwrap_or (map.get (map.insert owners id.owner (m + 1)) o) 0) c ∙ owned_more owners F child k.owned o ∙ ap (count_of o) (sym is);
    }

counts_if : (b : Bool) → b ≡ true → option_map counts_of (cond b (Some (first_of_all first_id)) None) ≡ Some (record { reads = 0; writes = 0; closed = 0 })
counts_if true e =
    let a = map.len-empty slot_cmp (Option Value) in
    let b = map.len-empty slot_cmp (Unit {0}) in
    let c = map.len-empty obj_cmp (Unit {0}) in
    λ i. Some (record { reads = a i; writes = b i; closed = c i })
counts_if false e = absurd (false≢true e)

fresh_counts : (w : WorldId) → has_world fresh w ≡ true → Counts fresh w (record { reads = 0; writes = 0; closed = 0 })
unfolding find_world
fresh_counts w h = counts_if (same_world first_id w) (sym (some_if (same_world first_id w) (first_of_all first_id)) ∙ h)

pub spent_counts : (spent : Bool) (layers : List Layer) (w : WorldId) → spent ≡ true → IsTrue (has_world (worlds_of spent layers) w) → Counts (worlds_of spent layers) w (record { reads = 0; writes = 0; closed = 0 })
spent_counts spent layers w e h = subst (λ b. Counts (worlds_of b layers) w (record { reads = 0; writes = 0; closed = 0 })) (sym e) (fresh_counts w (sym (ap (λ b. has_world (worlds_of b layers) w) e) ∙ h))
