-- One serial history: the places that are noted for each world are its history.
use Rattle.std.proofs.Common.{◌≡◌, ℕ, ◌+◌, suc, zero, Bool, true, false, cond, List, [], ◌∷◌, ◌++◌, ◌<◌, arith, refl, ap, sym, ◌∙◌, subst, map as each, Option, None, Some, is_some, unwrap_or, slice_get, add-one}
use Rattle.std.specs.Option.{option_map, option_map_or, option_and_then, is_none}
use Rattle.std.specs.Ordering.{eq_by_cmp, is_eq}
use Rattle.std.specs.Cmp.{tied_itself}
use Rattle.std.specs.FinMap as map
use Rattle.std.proofs.lemmas.Bool.{true≢false, false≢true}
use Rattle.wjs_base.specs.declared.ids.WorldId.{WorldId}
use Rattle.wjs_base.specs.declared.ids.ObjId.{ObjId}
use Rattle.wjs_base.specs.declared.values.Slot.{Slot}
use Rattle.wjs_base.specs.declared.values.Value.{Value}
use Rattle.wjs_base.specs.declared.values.Content.{Content}
use Rattle.wjs_base.specs.Order.{world_cmp, world_total, world_exact}
use Rattle.wjs_base.proofs.Booleans.{by_bool}
use Rattle.wjs_store.specs.declared.action.Action.{Action}
use Rattle.wjs_store.specs.declared.action.Action.TheVariants.{Read, Write, List as ListOf, Sprout, Commit}
use Rattle.wjs_store.specs.declared.action.Answer.{Answer}
use Rattle.wjs_store.specs.declared.action.Answer.TheVariants.{Committed, NoWorld}
use Rattle.wjs_store.specs.Naming.{plain}
use Rattle.wjs_store.specs.State.{World, same_world, find_world, has_world, count_of, parent_of, with_parent, fault_in, verdict_at, answer_to, after, after_read, after_list, after_write, after_sprout, after_commit, write_at, write_all, at_world, read_in, list_in, child_of, next_id, moves, reads_of, hand_entries, hand_objects, clear_marks, settle, no_parent, differs, first_world}
use Rattle.wjs_store.specs.Reached.{IsReached}
use Rattle.wjs_store.specs.Meaning.{View, PlainAct, Worlds}
use Rattle.wjs_store.specs.Shown.{content_of, shown_verdict}
use Rattle.wjs_store.specs.Run.{act_of, answer_of, is_done, answer_in, after_in, after_all, answers_in}
use Rattle.wjs_store.specs.Fixed.{fresh}
use Rattle.wjs_store.specs.Replay.{plain_reply, plain_after}
use Rattle.wjs_full.specs.History.{Histories, no_histories, places_of, emptied, put_places, put_place, move_places, noted, histories_from, serial_places, replay_answers, replay_end, IsSerial}
use Rattle.wjs_store.proofs.States.{find_each}
use Rattle.wjs_store.proofs.Marks.{key_is, marks_read, marks_list}
use Rattle.wjs_store.proofs.Writes.{by_one, world_is, same_self, found_id, write_id, write_parent, serial_below, has_head}
use Rattle.wjs_store.proofs.Commits.{reached_fresh, pair_parts, no_fault, entries_ids, entries_parents, objects_ids, objects_parents, parent_other, find_head, find_nil}
use Rattle.wjs_store.proofs.Keeps.{reached_after, has_world_after}
use Rattle.wjs_store.proofs.Parents.{commit_alone, commit_fault, commit_moves}
use Rattle.wjs_store.proofs.Replays.{Holds, Answered, ends}
use Rattle.wjs_store.proofs.Invariant as worlds

-- ---- numbers of worlds as keys

tied_same : (a b : WorldId) → eq_by_cmp world_cmp a b ≡ same_world a b
tied_same a b = by_bool (same_world a b)
    (λ e. ap (λ j. is_eq (world_cmp a j)) (sym (world_is a b e)) ∙ ap is_eq (tied_itself world_total a) ∙ sym e)
    (λ e. by_bool (eq_by_cmp world_cmp a b)
    (λ q. absurd (true≢false (sym (ap (same_world a) (sym (key_is world_exact a b q)) ∙ same_self a) ∙ e)))
    (λ q. q ∙ sym e))

-- ---- parents

module _ (g : World plain → World plain) (ids : (x : World plain) → (g x).id ≡ x.id) (parents : (x : World plain) → (g x).parent ≡ x.parent) where
  parent_map : (o : Option (World plain)) → option_and_then (λ (x : World plain). x.parent) (option_map g o) ≡ option_and_then (λ (x : World plain). x.parent) o
  parent_map None = refl
  parent_map (Some x) = parents x

  parent_each : (F : Worlds) (i : WorldId) → parent_of (each g F) i ≡ parent_of F i
  parent_each F i = ap (option_and_then (λ (x : World plain). x.parent)) (find_each g ids F i) ∙ parent_map (find_world F i)

parent_at : (w : WorldId) (f : World plain → World plain) (ids : (x : World plain) → (f x).id ≡ x.id) (parents : (x : World plain) → (f x).parent ≡ x.parent) (F : Worlds) (i : WorldId) → parent_of (at_world w f F) i ≡ parent_of F i
parent_at w f ids parents F i = parent_each (λ x. cond (same_world x.id w) (f x) x) (λ x. by_one (same_world x.id w) (λ (v : World plain). v.id ≡ x.id) (ids x) refl) (λ x. by_one (same_world x.id w) (λ (v : World plain). v.parent ≡ x.parent) (parents x) refl) F i

parent_read : (F : Worlds) (w : WorldId) (s : Slot) (i : WorldId) → parent_of (after_read F w s) i ≡ parent_of F i
unfolding after_read
parent_read F w s i = parent_at w (read_in s) (λ x. (marks_read s x).id) (λ x. (marks_read s x).parent) F i

parent_list : (F : Worlds) (w : WorldId) (o : ObjId) (i : WorldId) → parent_of (after_list F w o) i ≡ parent_of F i
unfolding after_list
parent_list F w o i = parent_at w (list_in o) (λ x. (marks_list o x).id) (λ x. (marks_list o x).parent) F i

parent_write : (F : Worlds) (w : WorldId) (s : Slot) (c : Option Value) (i : WorldId) → parent_of (after_write F w s c) i ≡ parent_of F i
unfolding after_write
parent_write F w s c i = parent_each (write_at F w s c) (write_id F w s c) (write_parent F w s c) F i

parent_writes : (p : WorldId) (es : List (Slot × Option Value)) (F : Worlds) (i : WorldId) → parent_of (write_all p es F) i ≡ parent_of F i
parent_writes p [] F i = refl
parent_writes p (e ∷ es) F i = parent_writes p es (after_write F p e.0 e.1) i ∙ parent_write F p e.0 e.1 i

parent_settle : (x : World plain) (p : WorldId) (F : Worlds) (i : WorldId) → parent_of (settle x p F) i ≡ parent_of F i
parent_settle x p F i =
    parent_at x.id clear_marks (λ v. refl) (λ v. refl) _ i
    ∙ parent_at p (hand_objects (map.keys x.closed)) (objects_ids (map.keys x.closed)) (objects_parents (map.keys x.closed)) _ i
    ∙ parent_writes p (moves x) _ i
    ∙ parent_at p (hand_entries (reads_of x)) (entries_ids (reads_of x)) (entries_parents (reads_of x)) F i

parent_child : (c : World plain) (F : Worlds) (i : WorldId) → parent_of (c ∷ F) i ≡ cond (same_world c.id i) c.parent (parent_of F i)
unfolding find_world
parent_child c F i = by (same_world c.id i)
  where
    by : (b : Bool) → option_and_then (λ (x : World plain). x.parent) (cond b (Some c) (find_world F i)) ≡ cond b c.parent (parent_of F i)
    by true = refl
    by false = refl

parents_sprout : (F : Worlds) (w : WorldId) → has_world F w ≡ true → (owner : ℕ) (strict : Bool) (i : WorldId) → parent_of (after_sprout F w owner strict) i ≡ cond (same_world (next_id F owner) i) (Some w) (parent_of F i)
unfolding after_sprout
parents_sprout F w there owner strict i = worlds.some_world F w there (λ x fx.
    ap (λ o. parent_of (option_map_or (λ (v : World plain). child_of v (next_id F owner) strict ∷ F) o F) i) fx
    ∙ parent_child (child_of x (next_id F owner) strict) F i
    ∙ ap (λ j. cond (same_world (next_id F owner) i) (Some j) (parent_of F i)) (found_id F w x fx))

-- ---- lists of places

got_puts : (H : Histories) (w i : WorldId) (more : List ℕ) → places_of (put_places w more H) i ≡ cond (same_world i w) (places_of H w ++ more) (places_of H i)
got_puts H w i more =
    ap (λ o. unwrap_or o []) (map.get-insert world_total H.places w (places_of H w ++ more) i)
    ∙ ap (λ b. unwrap_or (cond b (Some (places_of H w ++ more)) (map.get H.places i)) []) (tied_same i w)
    ∙ by (same_world i w)
  where
    by : (b : Bool) → unwrap_or (cond b (Some (places_of H w ++ more)) (map.get H.places i)) [] ≡ cond b (places_of H w ++ more) (places_of H i)
    by true = refl
    by false = refl

got_emptied : (H : Histories) (w i : WorldId) → places_of (emptied w H) i ≡ cond (same_world i w) [] (places_of H i)
got_emptied H w i =
    ap (λ o. unwrap_or o []) (map.get-remove world_total H.places w i ∙ ap (λ b. cond b None (map.get H.places i)) (tied_same i w))
    ∙ by (same_world i w)
  where
    by : (b : Bool) → unwrap_or (cond b None (map.get H.places i)) [] ≡ cond b [] (places_of H i)
    by true = refl
    by false = refl

got_moved : (H : Histories) (w p i : WorldId) → same_world p w ≡ false → places_of (move_places w p H) i ≡ cond (same_world i p) (places_of H p ++ places_of H w) (cond (same_world i w) [] (places_of H i))
got_moved H w p i apart =
    got_puts (emptied w H) p i (places_of H w)
    ∙ ap (λ l. cond (same_world i p) (l ++ places_of H w) (places_of (emptied w H) i)) (got_emptied H w p ∙ ap (λ b. cond b [] (places_of H p)) apart)
    ∙ ap (cond (same_world i p) (places_of H p ++ places_of H w)) (got_emptied H w i)

-- what stands at a place: the action with its answer
abbrev pub Look : Type 0
Look = ℕ → Option (PlainAct × Answer)

abbrev pub entries_at : Look → List ℕ → List (PlainAct × Answer)
entries_at look [] = []
entries_at look (place ∷ places) = option_map_or (λ e. e ∷ entries_at look places) (look place) (entries_at look places)

entries-append : (look : Look) (ps qs : List ℕ) → entries_at look (ps ++ qs) ≡ entries_at look ps ++ entries_at look qs
entries-append look [] qs = refl
entries-append look (p ∷ ps) qs = by (look p) (entries-append look ps qs)
  where
    by : (o : Option (PlainAct × Answer)) → entries_at look (ps ++ qs) ≡ entries_at look ps ++ entries_at look qs → option_map_or (λ e. e ∷ entries_at look (ps ++ qs)) o (entries_at look (ps ++ qs)) ≡ option_map_or (λ e. e ∷ entries_at look ps) o (entries_at look ps) ++ entries_at look qs
    by None h = h
    by (Some e) h = ap (λ l. e ∷ l) h

-- the worlds' parents are known, and the entries at each world's places are its history
record Linked (look : Look) (F : Worlds) (H : Histories) : Type 0 where
  parents : (i : WorldId) → map.get H.parents i ≡ parent_of F i
  histories : worlds.Histories plain answer_of F (λ i. entries_at look (places_of H i))

module _ (look : Look) (F : Worlds) (H : Histories) (reached : IsReached F) (linked : Linked look F H) (place : ℕ) (w : WorldId) (there : has_world F w ≡ true) where
  put_here : (e : PlainAct × Answer) → look place ≡ Some e → entries_at look (places_of (put_place w place H) w) ≡ entries_at look (places_of H w) ++ e ∷ []
  put_here e q =
      ap (entries_at look) (got_puts H w w (place ∷ []) ∙ ap (λ b. cond b (places_of H w ++ place ∷ []) (places_of H w)) (same_self w))
      ∙ entries-append look (places_of H w) (place ∷ [])
      ∙ ap (λ o. entries_at look (places_of H w) ++ option_map_or (λ d. d ∷ []) o []) q

  put_else : (i : WorldId) → same_world i w ≡ false → entries_at look (places_of (put_place w place H) i) ≡ entries_at look (places_of H i)
  put_else i e = ap (entries_at look) (got_puts H w i (place ∷ []) ∙ ap (λ b. cond b (places_of H w ++ place ∷ []) (places_of H i)) e)

  linked_read : (s : Slot) → look place ≡ Some (act_of (Read w s), answer_of (answer_to F (act_of (Read w s)))) → Linked look (after_read F w s) (put_place w place H)
  linked_read s q = record {
    parents = λ i. linked.parents i ∙ sym (parent_read F w s i);
    histories = worlds.histories_read plain answer_of F (λ i. entries_at look (places_of H i)) (λ i. entries_at look (places_of (put_place w place H) i)) reached linked.histories w there put_else s (put_here (act_of (Read w s), answer_of (answer_to F (act_of (Read w s)))) q);
  }

  linked_write : (s : Slot) (c : Content) → look place ≡ Some (act_of (Write w s c), answer_of (answer_to F (act_of (Write w s c)))) → Linked look (after_write F w s (content_of c)) (put_place w place H)
  linked_write s c q = record {
    parents = λ i. linked.parents i ∙ sym (parent_write F w s (content_of c) i);
    histories = worlds.histories_write plain answer_of F (λ i. entries_at look (places_of H i)) (λ i. entries_at look (places_of (put_place w place H) i)) reached linked.histories w there put_else s (content_of c) (put_here (act_of (Write w s c), answer_of (answer_to F (act_of (Write w s c)))) q);
  }

  linked_list : (o : ObjId) → look place ≡ Some (act_of (ListOf w o), answer_of (answer_to F (act_of (ListOf w o)))) → Linked look (after_list F w o) (put_place w place H)
  linked_list o q = record {
    parents = λ i. linked.parents i ∙ sym (parent_list F w o i);
    histories = worlds.histories_list plain answer_of F (λ i. entries_at look (places_of H i)) (λ i. entries_at look (places_of (put_place w place H) i)) reached linked.histories w there put_else o (put_here (act_of (ListOf w o), answer_of (answer_to F (act_of (ListOf w o)))) q);
  }

  linked_sprout : (owner : ℕ) (strict : Bool) → Linked look (after_sprout F w owner strict) (record H { parents = map.insert H.parents (next_id F owner) w })
  linked_sprout owner strict = record {
    parents = λ i.
        map.get-insert world_total H.parents (next_id F owner) w i
        ∙ ap (λ b. cond b (Some w) (map.get H.parents i)) (tied_same i (next_id F owner) ∙ same_either i (next_id F owner))
        ∙ ap (cond (same_world (next_id F owner) i) (Some w)) (linked.parents i)
        ∙ sym (parents_sprout F w there owner strict i);
    histories = worlds.histories_sprout plain answer_of F (λ i. entries_at look (places_of H i)) reached linked.histories w there owner strict;
  }
    where
      same_either : (a b : WorldId) → same_world a b ≡ same_world b a
      same_either a b = by_bool (same_world a b)
          (λ e. e ∙ sym (ap (same_world b) (world_is a b e) ∙ same_self b))
          (λ e. e ∙ sym (worlds.same_turned a b e))

-- ---- a commit

module _ (look : Look) (F : Worlds) (H : Histories) (reached : IsReached F) (linked : Linked look F H) where
  -- the worlds of a commit, by their own numbers
  linked_settle : (x y : World plain) → find_world F x.id ≡ Some x → x.parent ≡ Some y.id → find_world F y.id ≡ Some y → None ≡ fault_in x y → Linked look (settle x y.id F) (move_places x.id y.id H)
  linked_settle x y fx up fy ok =
      let apart = parent_other F x.id y.id x reached fx up in
      let past = worlds.same_turned x.id y.id apart in
      record {
        parents = λ i. linked.parents i ∙ sym (parent_settle x y.id F i);
        histories = worlds.histories_commit plain answer_of F (λ i. entries_at look (places_of H i)) (λ i. entries_at look (places_of (move_places x.id y.id H) i)) linked.histories x y reached fx up fy (no_fault x y (sym ok))
            (ap (entries_at look) (got_moved H x.id y.id x.id past ∙ ap (λ b. cond b (places_of H y.id ++ places_of H x.id) (cond (same_world x.id x.id) [] (places_of H x.id))) apart ∙ ap (λ b. cond b [] (places_of H x.id)) (same_self x.id)))
            (ap (entries_at look) (got_moved H x.id y.id y.id past ∙ ap (λ b. cond b (places_of H y.id ++ places_of H x.id) (cond (same_world y.id x.id) [] (places_of H y.id))) (same_self y.id)) ∙ entries-append look (places_of H y.id) (places_of H x.id))
            (λ i a b. ap (entries_at look) (got_moved H x.id y.id i past ∙ ap (λ k. cond k (places_of H y.id ++ places_of H x.id) (cond (same_world i x.id) [] (places_of H i))) b ∙ ap (λ k. cond k [] (places_of H i)) a));
      }

  linked_commit : (place : ℕ) (w : WorldId) → Linked look (after_commit F w) (noted place (Commit w) (answer_of (answer_to F (act_of (Commit w)))) H)
  linked_commit place w = by (with_parent F w) refl
    where
      stays : Linked look F H → F ≡ after_commit F w → no_parent ≡ verdict_at F w → Linked look (after_commit F w) (noted place (Commit w) (Committed (shown_verdict (verdict_at F w))) H)
      stays l f v = subst (λ G. Linked look G (noted place (Commit w) (Committed (shown_verdict (verdict_at F w))) H)) f (subst (λ u. Linked look F (noted place (Commit w) (Committed (shown_verdict u)) H)) v l)

      refused : (s : Slot) → F ≡ after_commit F w → differs s ≡ verdict_at F w → Linked look (after_commit F w) (noted place (Commit w) (Committed (shown_verdict (verdict_at F w))) H)
      refused s f v = subst (λ G. Linked look G (noted place (Commit w) (Committed (shown_verdict (verdict_at F w))) H)) f (subst (λ u. Linked look F (noted place (Commit w) (Committed (shown_verdict u)) H)) v linked)

      passes : (x y : World plain) → with_parent F w ≡ Some (x, y) → None ≡ fault_in x y → Linked look (after_commit F w) (noted place (Commit w) (Committed (shown_verdict (verdict_at F w))) H)
      passes x y e ok =
          let parts = pair_parts F w (x, y) e in
          let xid = found_id F w x parts.0 in
          let yid = found_id F parts.1 y parts.3 in
          let up = parts.2 ∙ ap (λ q. Some q) (sym yid) in
          let c = commit_moves F w x y e ok in
          let parent : map.get H.parents w ≡ Some y.id = linked.parents w ∙ ap (option_and_then (λ (v : World plain). v.parent)) parts.0 ∙ up in
          let made : Linked look (settle x y.id F) (move_places w y.id H) = subst (λ j. Linked look (settle x y.id F) (move_places j y.id H)) xid (linked_settle x y (ap (find_world F) xid ∙ parts.0) up (ap (find_world F) yid ∙ parts.3) ok) in
          subst (λ G. Linked look G (noted place (Commit w) (Committed (shown_verdict (verdict_at F w))) H)) c.1
          (subst (λ u. Linked look (settle x y.id F) (noted place (Commit w) (Committed (shown_verdict u)) H)) c.0
          (subst (λ o. Linked look (settle x y.id F) (option_map_or (λ p. move_places w p H) o H)) (sym parent) made))

      checked : (x y : World plain) → with_parent F w ≡ Some (x, y) → (o : Option Slot) → o ≡ fault_in x y → Linked look (after_commit F w) (noted place (Commit w) (Committed (shown_verdict (verdict_at F w))) H)
      checked x y e None f = passes x y e f
      checked x y e (Some s) f = let c = commit_fault F w x y s e f in refused s c.1 c.0

      by : (o : Option (World plain × World plain)) → with_parent F w ≡ o → Linked look (after_commit F w) (noted place (Commit w) (Committed (shown_verdict (verdict_at F w))) H)
      by None e = let c = commit_alone F w e in stays linked c.1 c.0
      by (Some d) e = checked d.0 d.1 e (fault_in d.0 d.1) refl

-- ---- any action

noted_none : (place : ℕ) (a : Action) (H : Histories) → noted place a NoWorld H ≡ H
noted_none place (Read w s) H = refl
noted_none place (Write w s c) H = refl
noted_none place (ListOf w o) H = refl
noted_none place (Sprout w owner strict) H = refl
noted_none place (Commit w) H = refl

linked_done : (look : Look) (F : Worlds) (H : Histories) → IsReached F → Linked look F H → (place : ℕ) (a : Action) → is_done F a ≡ true → look place ≡ Some (act_of a, answer_of (answer_to F (act_of a))) → Linked look (after F (act_of a)) (noted place a (answer_of (answer_to F (act_of a))) H)
linked_done look F H r l place (Read w s) t q = linked_read look F H r l place w t s q
linked_done look F H r l place (Write w s c) t q = linked_write look F H r l place w t s c q
linked_done look F H r l place (ListOf w o) t q = linked_list look F H r l place w t o q
linked_done look F H r l place (Sprout w owner strict) t q = linked_sprout look F H r l place w t owner strict
linked_done look F H r l place (Commit w) t q = linked_commit look F H r l place w

linked_step : (look : Look) (F : Worlds) (H : Histories) → IsReached F → Linked look F H → (place : ℕ) (a : Action) → look place ≡ Some (act_of a, answer_in F a) → Linked look (after_in F a) (noted place a (answer_in F a) H)
linked_step look F H r l place a q = by_bool (is_done F a)
    (λ e.
    let answered : answer_in F a ≡ answer_of (answer_to F (act_of a)) = ap (λ b. cond b (answer_of (answer_to F (act_of a))) NoWorld) e in
    subst (λ b. Linked look (cond b (after F (act_of a)) F) (noted place a (cond b (answer_of (answer_to F (act_of a))) NoWorld) H)) (sym e) (linked_done look F H r l place a e (q ∙ ap (λ v. Some (act_of a, v)) answered)))
    (λ e. subst (λ b. Linked look (cond b (after F (act_of a)) F) (noted place a (cond b (answer_of (answer_to F (act_of a))) NoWorld) H)) (sym e) (subst (Linked look F) (sym (noted_none place a H)) l))

reached_in : (F : Worlds) (a : Action) → IsReached F → IsReached (after_in F a)
reached_in F a h = by_one (is_done F a) IsReached (reached_after F (act_of a) h) h

-- ---- all actions

-- the places from k on hold these actions with the machine's answers
Holding : Look → ℕ → Worlds → List Action → Type 0
Holding look k F [] = Unit {0}
Holding look k F (a ∷ acts) = (look k ≡ Some (act_of a, answer_in F a)) × Holding look (k + 1) (after_in F a) acts

linked_all : (look : Look) (k : ℕ) (F : Worlds) (acts : List Action) (H : Histories) → IsReached F → Linked look F H → Holding look k F acts → Linked look (after_all F acts) (histories_from k acts (answers_in F acts) H)
unfolding Holding
linked_all look k F [] H r l h = l
linked_all look k F (a ∷ acts) H r l h = linked_all look (k + 1) (after_in F a) acts (noted k a (answer_in F a) H) (reached_in F a r) (linked_step look F H r l k a h.0) h.1

-- the action and the answer at a place
abbrev pub look_in : List Action → List Answer → Look
look_in acts rs place = option_and_then (λ a. option_map (λ r. (act_of a, r)) (slice_get rs place)) (slice_get acts place)

holding_shift : (look later : Look) (k : ℕ) (F : Worlds) (acts : List Action) → ((i : ℕ) → later (i + 1) ≡ look i) → Holding look k F acts → Holding later (k + 1) F acts
unfolding Holding
holding_shift look later k F [] e h = tt
holding_shift look later k F (a ∷ acts) e h = (e k ∙ h.0, holding_shift look later (k + 1) (after_in F a) acts e h.1)

get_later : {A : Type 0} (x : A) (xs : List A) (i : ℕ) → slice_get (x ∷ xs) (i + 1) ≡ slice_get xs i
get_later x xs i = ap (slice_get (x ∷ xs)) (add-one i)

holding_all : (F : Worlds) (acts : List Action) → Holding (look_in acts (answers_in F acts)) 0 F acts
unfolding Holding
holding_all F [] = tt
holding_all F (a ∷ acts) = (
  refl,
  holding_shift (look_in acts (answers_in (after_in F a) acts)) (look_in (a ∷ acts) (answers_in F (a ∷ acts))) 0 (after_in F a) acts
      (λ i. ap (option_and_then (λ b. option_map (λ r. (act_of b, r)) (slice_get (answers_in F (a ∷ acts)) (i + 1)))) (get_later a acts i)
      ∙ ap (λ o. option_and_then (λ b. option_map (λ r. (act_of b, r)) o) (slice_get acts i)) (get_later (answer_in F a) (answers_in (after_in F a) acts) i))
      (holding_all (after_in F a) acts),
)

-- ---- the first world

linked_fresh : (look : Look) → Linked look fresh no_histories
linked_fresh look = record {
  parents = λ i. map.get-empty world_cmp i ∙ sym (parent_child _ [] i ∙ by (same_world first_world i) (find_none i));
  histories = record {
    holds = λ i x q.
        let is = worlds.only_world _ i x q in
        subst (Holds plain answer_of x) (sym (ap (entries_at look) (nothing i))) (subst (λ v. Holds plain answer_of v []) is (record { root = λ e. (tt, refl); child = λ p m h. absurd (false≢true p) }));
    none = λ i e. ap (entries_at look) (nothing i);
  };
}
  where
    nothing : (i : WorldId) → places_of no_histories i ≡ []
    nothing i = ap (λ o. unwrap_or o []) (map.get-empty world_cmp i)

    find_none : (i : WorldId) → parent_of {n = plain} [] i ≡ None
    find_none i = ap (option_and_then (λ (x : World plain). x.parent)) (find_nil i)

    by : (b : Bool) {o : Option WorldId} → o ≡ None → cond b None o ≡ None
    by true e = refl
    by false e = e

-- ---- the first world stays, without parent

next_new : (F : Worlds) (owner : ℕ) (i : WorldId) → IsReached F → has_world F i ≡ true → same_world (next_id F owner) i ≡ false
next_new F owner i h e = by_bool (same_world (next_id F owner) i)
    (λ q.
    let is = world_is (next_id F owner) i q in
    let last : i.serial ≡ count_of i.owner F = subst (λ (j : WorldId). j.serial ≡ count_of j.owner F) is refl in
    let below : i.serial < count_of i.owner F = serial_below F i h e in
    absurd (omega arith))
    (λ q. q)

parent_commit : (F : Worlds) (w i : WorldId) → parent_of (after_commit F w) i ≡ parent_of F i
unfolding after_commit
parent_commit F w i = by (with_parent F w)
  where
    by : (o : Option (World plain × World plain)) → parent_of (option_map_or (λ (e : World plain × World plain). cond (is_none (fault_in e.0 e.1)) (settle e.0 e.1.id F) F) o F) i ≡ parent_of F i
    by None = refl
    by (Some e) = by_one (is_none (fault_in e.0 e.1)) (λ (G : Worlds). parent_of G i ≡ parent_of F i) (parent_settle e.0 e.1.id F i) refl

parent_done : (F : Worlds) (a : Action) (i : WorldId) → IsReached F → has_world F i ≡ true → is_done F a ≡ true → parent_of (after F (act_of a)) i ≡ parent_of F i
parent_done F (Read w s) i h e d = parent_read F w s i
parent_done F (Write w s c) i h e d = parent_write F w s (content_of c) i
parent_done F (ListOf w o) i h e d = parent_list F w o i
parent_done F (Sprout w owner strict) i h e d = parents_sprout F w d owner strict i ∙ ap (λ b. cond b (Some w) (parent_of F i)) (next_new F owner i h e)
parent_done F (Commit w) i h e d = parent_commit F w i

-- one action
stays_in : (F : Worlds) (a : Action) (i : WorldId) → IsReached F → has_world F i ≡ true → (has_world (after_in F a) i ≡ true) × (parent_of (after_in F a) i ≡ parent_of F i)
stays_in F a i h e = by_bool (is_done F a)
    (λ d. subst (λ b. (has_world (cond b (after F (act_of a)) F) i ≡ true) × (parent_of (cond b (after F (act_of a)) F) i ≡ parent_of F i)) (sym d) (has_world_after F (act_of a) i e, parent_done F a i h e d))
    (λ d. subst (λ b. (has_world (cond b (after F (act_of a)) F) i ≡ true) × (parent_of (cond b (after F (act_of a)) F) i ≡ parent_of F i)) (sym d) (e, refl))

stays_all : (F : Worlds) (acts : List Action) (i : WorldId) → IsReached F → has_world F i ≡ true → (has_world (after_all F acts) i ≡ true) × (parent_of (after_all F acts) i ≡ parent_of F i)
stays_all F [] i h e = (e, refl)
stays_all F (a ∷ acts) i h e =
    let one = stays_in F a i h e in
    let more = stays_all (after_in F a) acts i (reached_in F a h) one.0 in
    (more.0, more.1 ∙ one.1)

-- ---- plain replay

module _ (acts : List Action) (rs : List Answer) (even : (place : ℕ) → is_some (slice_get acts place) ≡ is_some (slice_get rs place)) where
  replay_is : (places : List ℕ) (m : View) → Answered plain answer_of (entries_at (look_in acts rs) places) m → (replay_answers acts places m ≡ each (slice_get rs) places) × (replay_end acts places m ≡ ends plain answer_of (entries_at (look_in acts rs) places) m)
  replay_is [] m h = (refl, refl)
  replay_is (place ∷ places) m h = by (slice_get acts place) (slice_get rs place) (even place) h (replay_is places)
    where
      by : (o : Option Action) (q : Option Answer) → is_some o ≡ is_some q → Answered plain answer_of (option_map_or (λ e. e ∷ entries_at (look_in acts rs) places) (option_and_then (λ a. option_map (λ r. (act_of a, r)) q) o) (entries_at (look_in acts rs) places)) m
          → ((k : View) → Answered plain answer_of (entries_at (look_in acts rs) places) k → (replay_answers acts places k ≡ each (slice_get rs) places) × (replay_end acts places k ≡ ends plain answer_of (entries_at (look_in acts rs) places) k))
          → (option_and_then (λ a. option_map answer_of (plain_reply plain m (act_of a))) o ∷ replay_answers acts places (option_map_or (λ a. plain_after plain m (act_of a)) o m) ≡ q ∷ each (slice_get rs) places) × (replay_end acts places (option_map_or (λ a. plain_after plain m (act_of a)) o m) ≡ ends plain answer_of (option_map_or (λ e. e ∷ entries_at (look_in acts rs) places) (option_and_then (λ a. option_map (λ r. (act_of a, r)) q) o) (entries_at (look_in acts rs) places)) m)
      by None None e h rec = let r = rec m h in (ap (λ l. None ∷ l) r.0, r.1)
      by None (Some r) e h rec = absurd (false≢true e)
      by (Some a) None e h rec = absurd (true≢false e)
      by (Some a) (Some r) e h rec = let k = rec (plain_after plain m (act_of a)) h.1 in (ap (λ o. o ∷ replay_answers acts places (plain_after plain m (act_of a))) h.0 ∙ ap (λ l. Some r ∷ l) k.0, k.1)

even_answers : (F : Worlds) (acts : List Action) (place : ℕ) → is_some (slice_get acts place) ≡ is_some (slice_get (answers_in F acts) place)
even_answers F [] place = refl
even_answers F (a ∷ acts) zero = refl
even_answers F (a ∷ acts) (suc place) = even_answers (after_in F a) acts place

-- the first world's places are a serial history
pub serial_law : (acts : List Action) → IsSerial acts (answers_in fresh acts) (serial_places acts (answers_in fresh acts))
serial_law acts =
    let rs = answers_in fresh acts in
    let look = look_in acts rs in
    let linked = linked_all look 0 fresh acts no_histories reached_fresh (linked_fresh look) (holding_all fresh acts) in
    let stays = stays_all fresh acts first_world reached_fresh first_there in
    worlds.some_world (after_all fresh acts) first_world stays.0 (λ x fx.
    let root : x.parent ≡ None = sym (ap (option_and_then (λ (v : World plain). v.parent)) fx) ∙ stays.1 ∙ first_alone in
    let held = (linked.histories.holds first_world x fx).root root in
    let r = replay_is acts rs (even_answers fresh acts) (serial_places acts rs) map.empty held.0 in
    record { answers = r.0; copy = ap (option_map (λ (v : World plain). v.copy)) fx ∙ ap (λ m. Some m) (sym held.1 ∙ sym r.1) })
  where
    first_there : has_world fresh first_world ≡ true
    first_there = has_head _ []

    first_alone : parent_of fresh first_world ≡ None
    first_alone = ap (option_and_then (λ (v : World plain). v.parent)) (find_head _ [])
