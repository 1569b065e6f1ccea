-- The calls in a session's own world.
use Rattle.std.proofs.Common.{◌≡◌, Bool, true, false, cond, not, ◌&&◌, ◌||◌, List, [], ◌∷◌, refl, ap, sym, ◌∙◌, map as each, Option, None, Some, is_some}
use Rattle.std.specs.Option.{option_map, option_map_or, option_and_then}
use Rattle.std.specs.Ordering.{eq_by_cmp, is_eq}
use Rattle.std.specs.Cmp.{tied_itself}
use Rattle.std.specs.List.{AllByRecursion}
use Rattle.std.specs.FinMap as map
use Rattle.std.proofs.lemmas.Bool.{or_left, or_right}
use Rattle.wjs_base.specs.declared.ids.ObjId.{ObjId}
use Rattle.wjs_base.specs.declared.ids.WorldId.{WorldId}
use Rattle.wjs_base.specs.declared.values.Slot.{Slot}
use Rattle.wjs_base.specs.declared.values.Value.{Value}
use Rattle.wjs_base.specs.Order.{slot_cmp, slot_total, slot_exact, obj_cmp, obj_total}
use Rattle.wjs_base.specs.Same.{object_Decides}
use Rattle.wjs_store.specs.Naming.{plain}
use Rattle.wjs_store.specs.Meaning.{View, Worlds, PlainAct, PlainReply, Does}
use Rattle.wjs_store.specs.State.{World, same_world, find_world, has_world, content_at, same_object, has_row, is_touched, at_world, read_in, read_all, close_in, list_in, slots_in, slots_at, after_read, after_list, read, list, found, listed, answer_to, after}
use Rattle.wjs_store.proofs.Ascending.{same_listed}
use Rattle.wjs_store.proofs.Marks.{contains_insert, marks_read_all, touched_read}
use Rattle.wjs_session.specs.Session.{world_at, first_copy, settled, outer, full_of, passes, session}
use Rattle.wjs_session.specs.Kept.{IsSession}
use Rattle.wjs_session.specs.Calls.{Answered, Brought}
use Rattle.wjs_session.proofs.Worlds.{all_each, found_at, content_is, first_alone, parent_some}
use Rattle.wjs_session.proofs.Growing.{read_world, list_world}
use Rattle.wjs_session.proofs.Looking.{inner_there, own_content, outer_read, outer_list, read_copy, list_copy, brought_read, brought_list}
use Rattle.wjs_session.specs.Maps.{get_outer}
use Rattle.wjs_session.specs.Fills.{fill, has_fill, find_fill}

-- ---- worlds without parent

same_each : {A : Type 0} (P : A → Type 0) (g : A → A) → ((y : A) → P y → g y ≡ y) → (F : List A) → AllByRecursion P F → each g F ≡ F
same_each P g e [] p = refl
same_each P g e (y ∷ F) p = λ k. e y p.0 k ∷ same_each P g e F p.1 k

pub read_none : (s : Slot) (y : World plain) → is_some y.parent ≡ false → read_in s y ≡ y
read_none s y e = ap (λ b. cond (b && not (is_touched y s)) (record y { first = map.insert y.first s (map.get y.copy s) }) y) e

read_all_none : (ss : List Slot) (y : World plain) → is_some y.parent ≡ false → read_all ss y ≡ y
read_all_none [] y e = refl
read_all_none (s ∷ ss) y e = ap (read_all ss) (read_none s y e) ∙ read_all_none ss y e

list_none : (q : ObjId) (y : World plain) → is_some y.parent ≡ false → list_in q y ≡ y
list_none q y e = ap (close_in q) (read_all_none (slots_in q y) y e) ∙ ap (λ b. cond b (record y { closed = map.insert y.closed q tt }) y) e

pub idle : (i : WorldId) (f : World plain → World plain) → ((y : World plain) → is_some y.parent ≡ false → f y ≡ y) → (H : Worlds) → AllByRecursion (λ (y : World plain). same_world y.id i ≡ true → is_some y.parent ≡ false) H → at_world i f H ≡ H
idle i f e H p = same_each (λ (y : World plain). same_world y.id i ≡ true → is_some y.parent ≡ false) (λ (y : World plain). cond (same_world y.id i) (f y) y) (λ y h. by y (same_world y.id i) h) H p
  where
    by : (y : World plain) (b : Bool) → (b ≡ true → is_some y.parent ≡ false) → cond b (f y) y ≡ y
    by y true h = e y (h refl)
    by y false h = refl

-- ---- listings of worlds that hold the same of an object

pub slots_found : (F : Worlds) (i : WorldId) (q : ObjId) → has_world F i ≡ true → slots_at F i q ≡ slots_in q (world_at F i)
slots_found F i q h = ap (λ o. option_map_or (slots_in q) o []) (found_at F i h)

slots_agree : (F H : Worlds) (i : WorldId) (q : ObjId) → has_world F i ≡ true → has_world H i ≡ true → ((t : Slot) → t.object ≡ q → content_at F i t ≡ content_at H i t) → slots_at F i q ≡ slots_at H i q
slots_agree F H i q f h e =
    slots_found F i q f
    ∙ same_listed slot_total slot_exact (λ (s : Slot). same_object s.object q) (world_at F i).copy (world_at H i).copy (λ t p. ap is_some (sym (content_is F i t) ∙ e t ((object_Decides t.object q).0 p) ∙ content_is H i t))
    ∙ sym (slots_found H i q h)

-- a listing touches each slot of its object
pub listed_touched : (q : ObjId) (x : World plain) → is_some x.parent ≡ true → (t : Slot) → t.object ≡ q → is_touched (list_in q x) t ≡ true
listed_touched q x p t is =
    let z = read_all (slots_in q x) x in
    ap (λ b. is_touched (cond b (record z { closed = map.insert z.closed q tt }) z) t) (ap is_some (marks_read_all (slots_in q x) x).parent ∙ p)
    ∙ or_right (has_row z t) (map.contains_key (map.insert z.closed q tt) t.object) (contains_insert obj_total z.closed q tt t.object ∙ or_left (eq_by_cmp obj_cmp t.object q) (map.contains_key z.closed t.object) (ap (λ (o : ObjId). is_eq (obj_cmp o q)) is ∙ ap is_eq (tied_itself obj_total q)))

module _ (F : Worlds) (i : WorldId) (G : Worlds) (k : IsSession F i G) where
  -- the filled worlds have the first one's number once, and it has no parent
  alone_filled : (v : View) → AllByRecursion (λ (y : World plain). same_world y.id i ≡ true → is_some y.parent ≡ false) (full_of (world_at F i) G v)
  alone_filled v = all_each (λ (y : World plain). same_world y.id i ≡ true → is_some y.parent ≡ false) (λ (y : World plain). same_world y.id i ≡ true → is_some y.parent ≡ false) (fill (settled (world_at F i) G) (outer (world_at F i) v)) (λ y h. h) G (first_alone G i k.inner k.first)

  -- an action that leaves the session's worlds, and changes marks of the shared world alone
  module _ (F' : Worlds) (b : Brought F i G F' G) (a : PlainAct) (r : PlainReply) where
    pub looked : ((v : View) → passes (world_at F' i) v ≡ true → r ≡ answer_to (full_of (world_at F i) G v) a) → ((v : View) → after (full_of (world_at F i) G v) a ≡ full_of (world_at F i) G v) → Answered F i G a r F' G
    looked answers stays = record {
      kept = b.kept;
      does = record {
        narrows = b.grows.narrows;
        answers = answers;
        worlds = λ v p. b.same v p ∙ sym (stays v);
        still_there = λ j h.
            let x = world_at F i in
            let y = world_at F' i in
            let old = session F i G [] false in
            let new = session F' i G ((a, r) ∷ []) false in
            has_fill (settled y G) (outer y new.own) G j ∙ sym (has_fill (settled x G) (outer x old.own) G j) ∙ h;
        own = b.grows.own;
        told = refl;
        around = b.grows.around;
        spent = refl;
      };
    }

  -- what the shared world holds in a slot that it has touched is what the session's own world holds
  shown_at : (F' : Worlds) (v : View) (t : Slot) → (world_at F' i).copy ≡ (world_at F i).copy → map.get (outer (world_at F' i) v) t ≡ map.get (outer (world_at F i) v) t → is_touched (world_at F' i) t ≡ true → content_at F i t ≡ content_at (full_of (world_at F i) G v) i t
  shown_at F' v t copies same u =
      let y = world_at F' i in
      content_is F i t ∙ ap (λ c. map.get c t) (sym copies)
      ∙ sym (get_outer y v t ∙ ap (λ b. cond b (map.get y.copy t) (map.get v t)) u)
      ∙ same ∙ sym (own_content F i G k v t)

  stays_read : (s : Slot) (v : View) → after_read (full_of (world_at F i) G v) i s ≡ full_of (world_at F i) G v
  unfolding after_read
  stays_read s v = idle i (read_in s) (read_none s) (full_of (world_at F i) G v) (alone_filled v)

  stays_list : (q : ObjId) (v : View) → after_list (full_of (world_at F i) G v) i q ≡ full_of (world_at F i) G v
  unfolding after_list
  stays_list q v = idle i (list_in q) (list_none q) (full_of (world_at F i) G v) (alone_filled v)

  pub read_own : (s : Slot) → Answered F i G (read i s) (found (content_at F i s)) (after_read F i s) G
  read_own s =
      let b = brought_read F i G k s in
      looked (after_read F i s) b (read i s) (found (content_at F i s))
      (λ v p. ap found (shown_at (after_read F i s) v s (read_copy F i G k s) (outer_read F i G k s v p s) touched))
      (stays_read s)
    where
      touched : is_touched (world_at (after_read F i s) i) s ≡ true
      touched = ap (λ (y : World plain). is_touched y s) (read_world F i k.shared k.child s) ∙ touched_read (world_at F i) s (parent_some F i k.shared k.child)

  pub list_own : (q : ObjId) → Answered F i G (list i q) (listed (slots_at F i q)) (after_list F i q) G
  list_own q =
      let b = brought_list F i G k q in
      looked (after_list F i q) b (list i q) (listed (slots_at F i q))
      (λ v p. ap listed (slots_agree F (full_of (world_at F i) G v) i q k.child.there (has_fill (settled (world_at F i) G) (outer (world_at F i) v) G i ∙ inner_there F i G k)
      (λ t e. shown_at (after_list F i q) v t (list_copy F i G k q) (outer_list F i G k q v p t) (touched t e))))
      (stays_list q)
    where
      touched : (t : Slot) → t.object ≡ q → is_touched (world_at (after_list F i q) i) t ≡ true
      touched t e = ap (λ (y : World plain). is_touched y t) (list_world F i k.shared k.child q) ∙ listed_touched q (world_at F i) (parent_some F i k.shared k.child) t e
