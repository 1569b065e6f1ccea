-- What a session, and a write in the first world, leave of the others' worlds.
use Rattle.std.proofs.Common.{◌≡◌, ◌≢◌, Bool, true, false, cond, ◌&&◌, ◌||◌, List, [], ◌∷◌, refl, ap, sym, ◌∙◌, subst, map as each, Option, None, Some, is_some, unwrap_or}
use Rattle.std.specs.Option.{option_map, option_map_or, option_and_then, is_none}
use Rattle.std.specs.Ordering.{eq_by_cmp}
use Rattle.std.specs.List.{list_any}
use Rattle.std.specs.FinMap as map
use Rattle.std.proofs.lemmas.Bool.{true≢false, false≢true, or_from, false_from_ne_true}
use Rattle.std.proofs.lemmas.Option.{same_Some}
use Rattle.wjs_base.specs.declared.ids.WorldId.{WorldId}
use Rattle.wjs_base.specs.declared.values.Slot.{Slot}
use Rattle.wjs_base.specs.declared.values.Value.{Value}
use Rattle.wjs_base.specs.Order.{slot_cmp, slot_exact}
use Rattle.wjs_base.proofs.Options.{some_map}
use Rattle.wjs_base.proofs.Booleans.{by_bool}
use Rattle.wjs_store.specs.Naming.{plain}
use Rattle.wjs_store.specs.Reached.{IsReached}
use Rattle.wjs_store.specs.Shown.{first_of, verdict_of}
use Rattle.wjs_store.specs.Marked.{is_written}
use Rattle.wjs_store.specs.Meaning.{View, Worlds, unseen}
use Rattle.wjs_store.specs.declared.store.Verdict.{Verdict}
use Rattle.wjs_store.specs.declared.store.Verdict.TheVariants.{Moved, Disagrees, NoParent}
use Rattle.wjs_store.specs.State as machine
use Rattle.wjs_store.specs.State.{World, same_world, find_world, has_world, parent_of, content_at, at_world, is_touched, is_below, write_at, after_write, write_all, hand_entries, hand_objects, clear_marks, reads_of, moves, settle, fault_in, with_parent, verdict_at, after_commit, moved, differs, no_parent}
use Rattle.wjs_store.specs.MarksMoved.{MarksMoved, parts}
use Rattle.wjs_store.proofs.Marks.{key_is}
use Rattle.wjs_store.proofs.Writes.{by_one, by_two, same_self, world_is, not_older, has_tail, has_after_write, has_after_commit, reached_write}
use Rattle.wjs_store.proofs.Commits.{find_nil, find_tail, below_stops, entries_parents, objects_parents, reached_commit}
use Rattle.wjs_store.proofs.Contents.{content_after_write}
use Rattle.wjs_store.proofs.Invariant.{same_turned}
use Rattle.wjs_store.proofs.Moved.{neither, content_after_commit}
use Rattle.wjs_store.proofs.MovedMarks.{past_at, past_writes}
use Rattle.wjs_store.proofs.MarksLaw.{marks_moved}
use Rattle.wjs_store.proofs.Refused.{refused_stays}
use Rattle.wjs_layers.specs.Reset.{renewed, after_reset}
use Rattle.wjs_layers.proofs.Resetting.{reached_reset}
use Rattle.wjs_session.specs.Session.{holding, world_at, first_copy, has_child, full_of, around_of}
use Rattle.wjs_session.specs.Kept.{IsChild, IsSession}
use Rattle.wjs_session.specs.Returns.{Returns}
use Rattle.wjs_session.specs.Settled.{Settles}
use Rattle.wjs_session.specs.Others.{Leaves, TurnsLeaveOthers, BeginsLeaveOthers, EndsLeaveOthers, AbandonsLeaveOthers, WritesLeaveOthers, ReturnsCompose, NumbersByOwner}
use Rattle.wjs_session.proofs.Worlds.{found_at, content_is, first_each, first_there, first_child, Above, above}
use Rattle.wjs_session.proofs.Acting.{first_write}
use Rattle.wjs_session.proofs.Committing.{first_commit}
use Rattle.wjs_session.proofs.CarryLaws.{none_changed}
use Rattle.wjs_session.proofs.StoreLaws.{first_full}

-- ---- one after another

returns_same : (F : Worlds) (i : WorldId) (G : Worlds) → IsSession F i G → Returns F F i
returns_same F i G k = record { reached = k.shared; child = k.child; marks = refl; holds = λ s t. refl }

returns_then : (F F' F'' : Worlds) (i : WorldId) → Returns F F' i → Returns F' F'' i → Returns F F'' i
returns_then F F' F'' i a b = record {
  reached = b.reached;
  child = b.child;
  marks = b.marks ∙ a.marks;
  holds = λ s t. b.holds s (ap (λ (x : World plain). is_touched x s) a.marks ∙ t) ∙ a.holds s t;
}

pub returns_compose : ReturnsCompose
returns_compose = (returns_same, returns_then)

-- ---- whose world it is

pub first_serial : (G : Worlds) (i : WorldId) → IsReached G → first_of G ≡ Some i → i.serial ≡ 0
first_serial [] i r h = absurd (false≢true (ap is_some h))
first_serial (x ∷ []) i r h = let is : x.id ≡ i = cc in sym (ap (λ (j : WorldId). j.serial) is) ∙ r.0.serial
first_serial (x ∷ y ∷ G) i r h = first_serial (y ∷ G) i r.1 h

pub numbers : NumbersByOwner
numbers F i G k = (first_serial G i k.inner k.first, λ v. first_full (world_at F i) G v ∙ k.first)

-- ---- who has a child

-- a change of worlds that keeps their parents
kids_each : (i : WorldId) (g : World plain → World plain) → ((y : World plain) → (g y).parent ≡ y.parent) → (F : Worlds) → has_child (each g F) i ≡ has_child F i
kids_each i g same [] = refl
kids_each i g same (y ∷ F) = λ k. option_map_or (λ p. same_world p i) (same y k) false || kids_each i g same F k

kids_at : (i j : WorldId) (f : World plain → World plain) → ((y : World plain) → (f y).parent ≡ y.parent) → (F : Worlds) → has_child (at_world j f F) i ≡ has_child F i
kids_at i j f same F = kids_each i (λ y. cond (same_world y.id j) (f y) y) (λ y. by_one (same_world y.id j) (λ (z : World plain). z.parent ≡ y.parent) (same y) refl) F

kids_write : (i p : WorldId) (s : Slot) (c : Option Value) (F : Worlds) → has_child (after_write F p s c) i ≡ has_child F i
unfolding after_write
kids_write i p s c F = kids_each i (write_at F p s c) (λ y. by_two (same_world y.id p) (is_below p s F y.id) (λ (z : World plain). z.parent ≡ y.parent) refl refl refl) F

kids_writes : (i p : WorldId) (es : List (Slot × Option Value)) (F : Worlds) → has_child (write_all p es F) i ≡ has_child F i
kids_writes i p [] F = refl
kids_writes i p (e ∷ es) F = kids_writes i p es (after_write F p e.0 e.1) ∙ kids_write i p e.0 e.1 F

kids_settle : (i : WorldId) (x : World plain) (p : WorldId) (F : Worlds) → has_child (settle x p F) i ≡ has_child F i
kids_settle i x p F =
    let handed = at_world p (hand_entries (reads_of x)) F in
    let wrote = write_all p (moves x) handed in
    kids_at i x.id clear_marks (λ y. refl) (at_world p (hand_objects (map.keys x.closed)) wrote)
    ∙ kids_at i p (hand_objects (map.keys x.closed)) (objects_parents (map.keys x.closed)) wrote
    ∙ kids_writes i p (moves x) handed
    ∙ kids_at i p (hand_entries (reads_of x)) (entries_parents (reads_of x)) F

kids_commit : (i j : WorldId) (F : Worlds) → has_child (after_commit F j) i ≡ has_child F i
unfolding after_commit
kids_commit i j F = by (with_parent F j)
  where
    by : (o : Option (World plain × World plain)) → has_child (option_map_or (λ (e : World plain × World plain). cond (is_none (fault_in e.0 e.1)) (settle e.0 e.1.id F) F) o F) i ≡ has_child F i
    by None = refl
    by (Some e) = by_one (is_none (fault_in e.0 e.1)) (λ (H : Worlds). has_child H i ≡ has_child F i) (kids_settle i e.0 e.1.id F) refl

-- ---- a child of the first world returns

module _ (F F' : Worlds) (i : WorldId) (r : IsReached F') (c : IsChild F i) (there : has_world F' i ≡ true) (first : first_of F' ≡ first_of F) (leaf : has_child F' i ≡ false) (marks : option_map unseen (find_world F' i) ≡ option_map unseen (find_world F i)) where
  same_unseen : unseen (world_at F' i) ≡ unseen (world_at F i)
  same_unseen = same_Some (unseen (world_at F' i)) (unseen (world_at F i)) (sym (ap (option_map unseen) (found_at F' i there)) ∙ marks ∙ ap (option_map unseen) (found_at F i c.there))

  -- what is told of a world without what it holds
  up_same : parent_of F' i ≡ parent_of F i
  up_same =
      ap (option_and_then (λ (x : World plain). x.parent)) (found_at F' i there)
      ∙ ap (λ (x : World plain). x.parent) same_unseen
      ∙ sym (ap (option_and_then (λ (x : World plain). x.parent)) (found_at F i c.there))

  plain_same : option_map_or (λ (x : World plain). x.strict) (find_world F' i) false ≡ option_map_or (λ (x : World plain). x.strict) (find_world F i) false
  plain_same =
      ap (λ o. option_map_or (λ (x : World plain). x.strict) o false) (found_at F' i there)
      ∙ ap (λ (x : World plain). x.strict) same_unseen
      ∙ sym (ap (λ o. option_map_or (λ (x : World plain). x.strict) o false) (found_at F i c.there))

  returns_by : ((s : Slot) → is_touched (world_at F i) s ≡ true → content_at F' i s ≡ content_at F i s) → Returns F F' i
  returns_by h = record {
    reached = r;
    child = record { there = there; up = up_same ∙ c.up ∙ sym first; plain = plain_same ∙ c.plain; leaf = leaf };
    marks = same_unseen;
    holds = λ s t. sym (content_is F' i s) ∙ h s t ∙ content_is F i s;
  }

-- ---- where the other worlds are the same

module _ (F F' : Worlds) (j : WorldId) (r : IsReached F') (first : first_of F' ≡ first_of F) (found : (d : WorldId) → same_world d j ≡ false → find_world F' d ≡ find_world F d) where
  leaves_by : ((i : WorldId) → IsChild F i → has_child F' i ≡ false) → Leaves F j F'
  leaves_by leaf = record {
    first = first;
    there = λ d e. ap is_some (found d e);
    returns = λ i e c.
        returns_by F F' i r c (ap is_some (found i e) ∙ c.there) first (leaf i c) (ap (option_map unseen) (found i e))
        (λ s t. ap (option_and_then (λ (x : World plain). map.get x.copy s)) (found i e));
  }

  base_by : (p : WorldId) → first_of F ≡ Some p → same_world p j ≡ false → first_copy F' ≡ first_copy F
  base_by p is e =
      ap (λ o. option_map_or (λ d. (world_at F' d).copy) o map.empty) (first ∙ is)
      ∙ ap (λ (o : Option (World plain)). (unwrap_or o (holding p map.empty)).copy) (found p e)
      ∙ sym (ap (λ o. option_map_or (λ d. (world_at F d).copy) o map.empty) is)

-- ---- a turn

abbrev hidden : World plain → World plain
hidden y = record y { copy = map.empty; first = map.empty; written = map.empty; closed = map.empty }

first_around : (F : Worlds) (j : WorldId) → first_of (around_of F j) ≡ first_of F
first_around F j = first_each (λ y. cond (same_world y.id j) (hidden y) y) (λ y. by_one (same_world y.id j) (λ (z : World plain). z.id ≡ y.id) refl refl) F

kids_around : (F : Worlds) (j i : WorldId) → has_child (around_of F j) i ≡ has_child F i
kids_around F j i = kids_at i j hidden (λ y. refl) F

find_around : (F : Worlds) (j d : WorldId) → same_world d j ≡ false → find_world (around_of F j) d ≡ find_world F d
find_around F j d e = past_at j hidden (λ y. refl) F d e

pub turns : TurnsLeaveOthers
turns F F' j G G' k k' e =
    let first : first_of F' ≡ first_of F = sym (first_around F' j) ∙ ap first_of e ∙ first_around F j in
    let found : (d : WorldId) → same_world d j ≡ false → find_world F' d ≡ find_world F d = λ d n. sym (find_around F' j d n) ∙ ap (λ (H : Worlds). find_world H d) e ∙ find_around F j d n in
    let a = above F j k.shared k.child in (
      leaves_by F F' j k'.shared first found (λ i c. sym (kids_around F' j i) ∙ ap (λ (H : Worlds). has_child H i) e ∙ kids_around F j i ∙ c.leaf),
      base_by F F' j k'.shared first found a.id a.first a.other,
    )

-- ---- a begin

-- the newest world y, of number j, is a child of the first, and the others are as they were
module _ (y : World plain) (F : Worlds) (j : WorldId) (r : IsReached (y ∷ F)) (c : IsChild (y ∷ F) j) (number : y.id ≡ j) (up : y.parent ≡ first_of F) where
  abbrev over : Above (y ∷ F) j r c
  over = above (y ∷ F) j r c

  passed : (d : WorldId) → same_world d j ≡ false → same_world y.id d ≡ false
  passed d e = ap (λ k. same_world k d) number ∙ same_turned d j e

  found_older : (d : WorldId) → same_world d j ≡ false → find_world (y ∷ F) d ≡ find_world F d
  found_older d e = find_tail y F d (passed d e)

  first_there_older : has_world F over.id ≡ true
  first_there_older = sym (ap is_some (found_older over.id over.other)) ∙ first_there (y ∷ F) over.id r over.first

  first_older : first_of (y ∷ F) ≡ first_of F
  first_older = first_child y F over.id first_there_older

  -- no child of the first world is the first
  leaf_older : (i : WorldId) → IsChild F i → has_child (y ∷ F) i ≡ false
  leaf_older i k =
      let b = above F i r.1 k in
      or_from (option_map_or (λ p. same_world p i) y.parent false) (has_child F i) (ap (λ o. option_map_or (λ p. same_world p i) o false) (up ∙ b.first) ∙ b.other) k.leaf

  leaves_newest : Leaves F j (y ∷ F) × (first_copy (y ∷ F) ≡ first_copy F)
  leaves_newest = (
    leaves_by F (y ∷ F) j r first_older found_older leaf_older,
    base_by F (y ∷ F) j r first_older found_older over.id (sym first_older ∙ over.first) over.other,
  )

-- the newest of worlds, where there is one, and the older ones
abbrev newest : World plain → Worlds → World plain
newest z [] = z
newest z (y ∷ F) = y

abbrev older : Worlds → Worlds
older [] = []
older (y ∷ F) = F

begins_by : (F F' : Worlds) (j : WorldId) → IsReached F' → IsChild F' j → around_of F' j ≡ record (holding j map.empty) { parent = first_of F } ∷ F → Leaves F j F' × (first_copy F' ≡ first_copy F)
begins_by F [] j r c e = absurd (true≢false (sym c.there ∙ ap is_some (find_nil {n = plain} j)))
begins_by F (y ∷ H) j r c e =
    let head : cond (same_world y.id j) (hidden y) y ≡ record (holding j map.empty) { parent = first_of F } = ap (newest y) e in
    let tail : at_world j hidden H ≡ F = ap older e in
    let number : y.id ≡ j = sym (by_one (same_world y.id j) (λ (z : World plain). z.id ≡ y.id) refl refl) ∙ ap (λ (z : World plain). z.id) head in
    let up : y.parent ≡ first_of F = sym (by_one (same_world y.id j) (λ (z : World plain). z.parent ≡ y.parent) refl refl) ∙ ap (λ (z : World plain). z.parent) head in
    let gone : has_world H j ≡ false = false_from_ne_true (has_world H j) (λ h. true≢false (sym (same_self j) ∙ ap (λ k. same_world k j) (sym number) ∙ not_older y H j r h)) in
    let same : H ≡ F = sym (none_changed j hidden H gone) ∙ tail in
    subst (λ (K : Worlds). Leaves K j (y ∷ H) × (first_copy (y ∷ H) ≡ first_copy K)) same
    (leaves_newest y H j r c number (up ∙ sym (ap first_of same)))

pub begins : BeginsLeaveOthers
begins F F' j G' k e = begins_by F F' j k.shared k.child e

-- ---- an end

module _ (F : Worlds) (j : WorldId) (r : IsReached F) (c : IsChild F j) where
  leaves_same : Leaves F j F
  leaves_same = leaves_by F F j r refl (λ d e. refl) (λ i k. k.leaf)

  leaves_moved : verdict_at F j ≡ moved → Leaves F j (after_commit F j)
  leaves_moved h =
      let a = above F j r c in
      let up : parent_of F j ≡ Some a.id = ap (option_and_then (λ (x : World plain). x.parent)) (found_at F j c.there) ∙ a.up in
      let m = marks_moved F j h a.id up r in
      record {
        first = first_commit F j;
        there = λ d e. sym (some_map parts (find_world (after_commit F j) d)) ∙ ap is_some (m.worlds d) ∙ some_map parts (find_world F d);
        returns = λ i e k.
            let b = above F i r k in
            let same : a.id ≡ b.id = same_Some a.id b.id (sym a.first ∙ b.first) in
            let past : same_world i a.id ≡ false = ap (same_world i) same ∙ same_turned b.id i b.other in
            returns_by F (after_commit F j) i (reached_commit F j r) k (has_after_commit F j i k.there) (first_commit F j) (kids_commit i j F ∙ k.leaf) (m.others i e past)
            (λ s t.
            content_after_commit F j h a.id up i s
            ∙ ap (λ q. cond (is_written F j s && (q || is_below a.id s F i)) (content_at F j s) (content_at F i s)) past
            ∙ ap (λ q. cond (is_written F j s && q) (content_at F j s) (content_at F i s)) (below_stops a.id s F i (world_at F i) (found_at F i k.there) t)
            ∙ neither (is_written F j s) (content_at F i s) (content_at F j s));
      }

abbrev is_moved : machine.Verdict Slot → Bool
is_moved moved = true
is_moved (differs s) = false
is_moved no_parent = false

pub ends : EndsLeaveOthers
ends F F' j G verdict k e = subst (Leaves F j) (sym e.worlds) (by verdict e.answers)
  where
    refused : (v : machine.Verdict Slot) → v ≡ verdict_at F j → is_moved v ≡ false → Leaves F j (after_commit F j)
    refused v q n = subst (Leaves F j) (sym (refused_stays F j (λ h. false≢true (sym n ∙ ap is_moved (q ∙ h))))) (leaves_same F j k.shared k.child)

    by : (v : Verdict) → verdict_of v ≡ verdict_at F j → Leaves F j (after_commit F j)
    by Moved q = leaves_moved F j k.shared k.child (sym q)
    by (Disagrees s) q = refused (differs s) q refl
    by NoParent q = refused no_parent q refl

-- ---- a session that is given up

reset_first : (F : Worlds) (j : WorldId) → first_of (after_reset F j) ≡ first_of F
unfolding after_reset
reset_first F j = by (with_parent F j)
  where
    by : (o : Option (World plain × World plain)) → first_of (option_map_or (λ (e : World plain × World plain). at_world j (renewed e.1) F) o F) ≡ first_of F
    by None = refl
    by (Some e) = first_each (λ y. cond (same_world y.id j) (renewed e.1 y) y) (λ y. by_one (same_world y.id j) (λ (z : World plain). z.id ≡ y.id) refl refl) F

kids_reset : (i j : WorldId) (F : Worlds) → has_child (after_reset F j) i ≡ has_child F i
unfolding after_reset
kids_reset i j F = by (with_parent F j)
  where
    by : (o : Option (World plain × World plain)) → has_child (option_map_or (λ (e : World plain × World plain). at_world j (renewed e.1) F) o F) i ≡ has_child F i
    by None = refl
    by (Some e) = kids_at i j (renewed e.1) (λ y. refl) F

find_reset : (F : Worlds) (j d : WorldId) → same_world d j ≡ false → find_world (after_reset F j) d ≡ find_world F d
unfolding after_reset
find_reset F j d n = by (with_parent F j)
  where
    by : (o : Option (World plain × World plain)) → find_world (option_map_or (λ (e : World plain × World plain). at_world j (renewed e.1) F) o F) d ≡ find_world F d
    by None = refl
    by (Some e) = past_at j (renewed e.1) (λ y. refl) F d n

pub abandons : AbandonsLeaveOthers
abandons F F' j G k e =
    let a = above F j k.shared k.child in
    let r = reached_reset F j k.shared k.child.leaf in
    subst (λ (H : Worlds). Leaves F j H × (first_copy H ≡ first_copy F)) (sym e) (
      leaves_by F (after_reset F j) j r (reset_first F j) (find_reset F j) (λ i c. kids_reset i j F ∙ c.leaf),
      base_by F (after_reset F j) j r (reset_first F j) (find_reset F j) a.id a.first a.other,
    )

-- ---- a write in the first world

pub writes : WritesLeaveOthers
writes F p s c r first i k =
    let b = above F i r k in
    let same : p ≡ b.id = same_Some p b.id (sym first ∙ b.first) in
    let past : same_world i p ≡ false = ap (same_world i) same ∙ same_turned b.id i b.other in
    returns_by F (after_write F p s c) i (reached_write F p s c r) k (has_after_write F p s c i ∙ k.there) (first_write F p s c) (kids_write i p s c F ∙ k.leaf) (past_writes p ((s, c) ∷ []) F i past)
    (λ t u.
    content_after_write F p s c i t k.there
    ∙ ap (λ q. cond ((q || is_below p s F i) && eq_by_cmp slot_cmp t s) c (content_at F i t)) past
    ∙ by_bool (eq_by_cmp slot_cmp t s)
    (λ q. ap (λ z. cond (z && eq_by_cmp slot_cmp t s) c (content_at F i t)) (below_stops p s F i (world_at F i) (found_at F i k.there) (ap (is_touched (world_at F i)) (sym (key_is slot_exact t s q)) ∙ u)))
    (λ q. ap (λ z. cond (is_below p s F i && z) c (content_at F i t)) q ∙ neither (is_below p s F i) (content_at F i t) c))
