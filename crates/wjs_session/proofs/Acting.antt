-- An action below a session's own world, where what it asks for is settled.
use Rattle.std.proofs.Common.{◌≡◌, Bool, true, false, cond, not, ◌&&◌, ◌||◌, ℕ, List, [], ◌∷◌, refl, ap, sym, ◌∙◌, subst, map as each, Option, None, Some, is_some, IsTrue}
use Rattle.std.specs.Option.{option_map, option_map_or, option_and_then}
use Rattle.std.specs.Ordering.{eq_by_cmp}
use Rattle.std.specs.List.{AllByRecursion}
use Rattle.std.specs.FinMap as map
use Rattle.std.proofs.lemmas.Bool.{true≢false, false≢true, and_right}
use Rattle.wjs_base.specs.declared.ids.ObjId.{ObjId}
use Rattle.wjs_base.specs.declared.ids.WorldId.{WorldId}
use Rattle.wjs_base.specs.declared.values.Slot.{Slot}
use Rattle.wjs_base.specs.declared.values.Value.{Value}
use Rattle.wjs_base.specs.Order.{slot_cmp}
use Rattle.wjs_base.specs.Same.{same_value}
use Rattle.wjs_base.proofs.Booleans.{by_bool}
use Rattle.wjs_store.specs.Naming.{plain}
use Rattle.wjs_store.specs.Reached.{IsReached}
use Rattle.wjs_store.specs.Shown.{first_of}
use Rattle.wjs_store.specs.Meaning.{View, Worlds, PlainAct, PlainReply, Does}
use Rattle.wjs_store.specs.State.{World, same_world, find_world, has_world, content_at, is_touched, is_below, same_content, read_in, list_in, write_at, after_read, after_write, after_list, after_sprout, slots_at, next_id, child_of, read, write, list, sprout, found, wrote, listed, sprouted, answer_to, after}
use Rattle.wjs_store.proofs.Contents.{content_after_read, content_after_list, content_after_write, content_after_sprout}
use Rattle.wjs_store.proofs.Keeps.{reached_after, has_world_after}
use Rattle.wjs_store.proofs.Marks.{marks_read, marks_list}
use Rattle.wjs_store.proofs.Writes.{by_one, same_self, write_id, not_older}
use Rattle.wjs_store.proofs.Commits.{at_head, find_tail}
use Rattle.wjs_session.specs.Filled.{filled}
use Rattle.wjs_session.specs.Session.{world_at, first_copy, settled, outer, full_of, session}
use Rattle.wjs_session.specs.Kept.{IsShut, IsSession}
use Rattle.wjs_session.specs.Grown.{Grows}
use Rattle.wjs_session.specs.Calls.{Answered}
use Rattle.wjs_session.proofs.Worlds.{found_at, first_each, first_child, first_content, first_alone, all_find}
use Rattle.wjs_session.proofs.Filling.{filled_read, filled_write, slots_filled, filled_list, next_fill, filled_sprout}
use Rattle.wjs_session.proofs.Shutting.{shut_after_read, shut_after_write, shut_after_list, shut_after_sprout}
use Rattle.wjs_session.proofs.Growing.{grows_same}
use Rattle.wjs_session.proofs.Looking.{inner_there}
use Rattle.wjs_session.specs.Maps.{get_filled, same_view}
use Rattle.wjs_session.specs.Fills.{fill, has_fill, content_fill}

-- worlds are filled alike by tests that agree, from views that agree where they fail
pub fill_alike : (w u : Slot → Bool) (o p : View) → ((t : Slot) → u t ≡ w t) → ((t : Slot) → w t ≡ false → map.get p t ≡ map.get o t) → (y : World plain) → fill u p y ≡ fill w o y
fill_alike w u o p e f y = ap (λ m. record y { copy = m }) (same_view (filled u y.copy p) (filled w y.copy o) (λ t.
    get_filled u y.copy p t
    ∙ ap (λ b. cond b (map.get y.copy t) (map.get p t)) (e t)
    ∙ by_bool (w t)
    (λ h. ap (λ b. cond b (map.get y.copy t) (map.get p t)) h ∙ sym (ap (λ b. cond b (map.get y.copy t) (map.get o t)) h))
    (λ h. ap (cond (w t) (map.get y.copy t)) (f t h))
    ∙ sym (get_filled w y.copy o t)))

-- ---- the first world's number stays

first_read : (G : Worlds) (d : WorldId) (s : Slot) → first_of (after_read G d s) ≡ first_of G
unfolding after_read
first_read G d s = first_each (λ (y : World plain). cond (same_world y.id d) (read_in s y) y) (λ y. by_one (same_world y.id d) (λ (z : World plain). z.id ≡ y.id) (marks_read s y).id refl) G

pub first_write : (G : Worlds) (d : WorldId) (s : Slot) (c : Option Value) → first_of (after_write G d s c) ≡ first_of G
unfolding after_write
first_write G d s c = first_each (write_at G d s c) (write_id G d s c) G

first_list : (G : Worlds) (d : WorldId) (q : ObjId) → first_of (after_list G d q) ≡ first_of G
unfolding after_list
first_list G d q = first_each (λ (y : World plain). cond (same_world y.id d) (list_in q y) y) (λ y. by_one (same_world y.id d) (λ (z : World plain). z.id ≡ y.id) (marks_list q y).id refl) G

pub sprout_is : (G : Worlds) (d : WorldId) (owner : ℕ) (strict : Bool) → has_world G d ≡ true → after_sprout G d owner strict ≡ child_of (world_at G d) (next_id G owner) strict ∷ G
unfolding after_sprout
sprout_is G d owner strict there = ap (λ o. option_map_or (λ (x : World plain). child_of x (next_id G owner) strict ∷ G) o G) (found_at G d there)

first_sprout : (G : Worlds) (d : WorldId) (owner : ℕ) (strict : Bool) → has_world G d ≡ true → first_of (after_sprout G d owner strict) ≡ first_of G
first_sprout G d owner strict there = ap first_of (sprout_is G d owner strict there) ∙ first_child (child_of (world_at G d) (next_id G owner) strict) G d there

sprout_other : (G : Worlds) (d : WorldId) (owner : ℕ) (strict : Bool) → IsReached G → has_world G d ≡ true → (i : WorldId) → has_world G i ≡ true → same_world (next_id G owner) i ≡ false
sprout_other G d owner strict r there i h = not_older (child_of (world_at G d) (next_id G owner) strict) G i (subst IsReached (sprout_is G d owner strict there) (reached_after G (sprout d owner strict) r)) h

module _ (F : Worlds) (i : WorldId) (G : Worlds) (k : IsSession F i G) (F' : Worlds) (g : Grows F i F') (a : PlainAct) (r : PlainReply) where
  -- an action inside, while the shared world may change where all is settled
  pub answered_by : first_of (after G a) ≡ Some i → ((t : Slot) → settled (world_at F' i) (after G a) t ≡ settled (world_at F i) G t) → ((v : View) (t : Slot) → settled (world_at F i) G t ≡ false → map.get (outer (world_at F' i) v) t ≡ map.get (outer (world_at F i) v) t) → AllByRecursion (IsShut (settled (world_at F i) G)) (after G a) → ((o : View) → r ≡ answer_to (each (fill (settled (world_at F i) G) o) G) a) → ((o : View) → after (each (fill (settled (world_at F i) G) o) G) a ≡ each (fill (settled (world_at F i) G) o) (after G a)) → Answered F i G a r F' (after G a)
  answered_by first same outers shut answers worlds =
      let x = world_at F i in
      let y = world_at F' i in
      record {
        kept = record {
          shared = g.reached;
          child = g.child;
          inner = reached_after G a k.inner;
          first = first;
          shut = subst (λ (w : Slot → Bool). AllByRecursion (IsShut w) (after G a)) (λ j t. sym (same t) j) shut;
        };
        does = record {
          narrows = g.narrows;
          answers = λ v h. answers (outer x v);
          worlds = λ v h.
              (λ j. each (λ (z : World plain). fill_alike (settled x G) (settled y (after G a)) (outer x v) (outer y v) same (outers v) z j) (after G a))
              ∙ sym (worlds (outer x v));
          still_there = λ j h.
              let old = session F i G [] false in
              let new = session F' i (after G a) ((a, r) ∷ []) false in
              has_fill (settled y (after G a)) (outer y new.own) (after G a) j ∙ has_world_after G a j (sym (has_fill (settled x G) (outer x old.own) G j) ∙ h);
          own = g.own;
          told = refl;
          around = g.around;
          spent = refl;
        };
      }

-- a world without parent is below none
below_alone : (d : WorldId) (s : Slot) (i : WorldId) (H : Worlds) → AllByRecursion (λ (y : World plain). same_world y.id i ≡ true → is_some y.parent ≡ false) H → is_below d s H i ≡ false
unfolding is_below
below_alone d s i [] p = refl
below_alone d s i (y ∷ older) p = by (same_world y.id i) refl (below_alone d s i older p.1)
  where
    up : (o : Option WorldId) → is_some o ≡ false → option_map_or (λ q. same_world q d || is_below d s older q) o false ≡ false
    up None q = refl
    up (Some r) q = absurd (true≢false q)

    by : (b : Bool) → same_world y.id i ≡ b → is_below d s older i ≡ false → cond b (not (is_touched y s) && option_map_or (λ q. same_world q d || is_below d s older q) y.parent false) (is_below d s older i) ≡ false
    by true e h = and_right (not (is_touched y s)) (option_map_or (λ q. same_world q d || is_below d s older q) y.parent false) (up y.parent (p.0 e))
    by false e h = h

module _ (F : Worlds) (i : WorldId) (G : Worlds) (k : IsSession F i G) where
  -- where the first world's contents stay, so does what is settled
  pub settled_contents : (x : World plain) (G' : Worlds) → first_of G' ≡ Some i → ((t : Slot) → content_at G' i t ≡ content_at G i t) → (t : Slot) → settled x G' t ≡ settled x G t
  settled_contents x G' f e t = ap (λ c. is_touched x t && same_content same_value c (map.get x.copy t)) (first_content G' i t f ∙ e t ∙ sym (first_content G i t k.first))

  -- the first world is below none
  pub below_first : (d : WorldId) (s : Slot) → is_below d s G i ≡ false
  below_first d s = below_alone d s i G (first_alone G i k.inner k.first)

  grown : Grows F i F
  grown = grows_same F i k.shared k.child

  module _ (d : WorldId) where
    pub answered_read : (s : Slot) → settled (world_at F i) G s ≡ true → Answered F i G (read d s) (found (content_at G d s)) F (after_read G d s)
    answered_read s h =
        let w = settled (world_at F i) G in
        answered_by F i G k F grown (read d s) (found (content_at G d s)) first
        (settled_contents (world_at F i) (after_read G d s) first (λ t. content_after_read G d s i t))
        (λ v t e. refl)
        (shut_after_read w G d s h k.shut)
        (λ o. ap found (sym (content_fill w o G d s h)))
        (λ o. filled_read w o G d s h)
      where
        first : first_of (after_read G d s) ≡ Some i
        first = first_read G d s ∙ k.first

    pub answered_write : (s : Slot) (c : Option Value) → same_world i d ≡ false → settled (world_at F i) G s ≡ true → Answered F i G (write d s c) wrote F (after_write G d s c)
    answered_write s c apart h =
        let w = settled (world_at F i) G in
        answered_by F i G k F grown (write d s c) wrote first
        (settled_contents (world_at F i) (after_write G d s c) first (λ t. content_after_write G d s c i t (inner_there F i G k) ∙ (λ j. cond ((apart j || below_first d s j) && eq_by_cmp slot_cmp t s) c (content_at G i t))))
        (λ v t e. refl)
        (shut_after_write w G d s c h k.shut)
        (λ o. refl)
        (λ o. filled_write w o G d s c h)
      where
        first : first_of (after_write G d s c) ≡ Some i
        first = first_write G d s c ∙ k.first

    pub answered_list : (q : ObjId) → ((s : Slot) → s.object ≡ q → settled (world_at F i) G s ≡ true) → Answered F i G (list d q) (listed (slots_at G d q)) F (after_list G d q)
    answered_list q h =
        let w = settled (world_at F i) G in
        answered_by F i G k F grown (list d q) (listed (slots_at G d q)) first
        (settled_contents (world_at F i) (after_list G d q) first (λ t. content_after_list G d q i t))
        (λ v t e. refl)
        (shut_after_list w G d q h k.shut)
        (λ o. ap listed (sym (slots_filled w o q h G d)))
        (λ o. filled_list w o q h G d)
      where
        first : first_of (after_list G d q) ≡ Some i
        first = first_list G d q ∙ k.first

    pub answered_sprout : (owner : ℕ) (strict : Bool) → has_world G d ≡ true → Answered F i G (sprout d owner strict) (sprouted (next_id G owner)) F (after_sprout G d owner strict)
    answered_sprout owner strict there =
        let w = settled (world_at F i) G in
        answered_by F i G k F grown (sprout d owner strict) (sprouted (next_id G owner)) first
        (settled_contents (world_at F i) (after_sprout G d owner strict) first same)
        (λ v t e. refl)
        (shut_after_sprout w G d owner strict k.shut)
        (λ o. ap sprouted (sym (next_fill w o G owner)))
        (λ o. filled_sprout w o G d owner strict)
      where
        first : first_of (after_sprout G d owner strict) ≡ Some i
        first = first_sprout G d owner strict there ∙ k.first

        new : same_world (next_id G owner) i ≡ false
        new = sprout_other G d owner strict k.inner there i (inner_there F i G k)

        same : (t : Slot) → content_at (after_sprout G d owner strict) i t ≡ content_at G i t
        same t = content_after_sprout G d owner strict i t there ∙ ap (λ b. cond b (content_at G d t) (content_at G i t)) new
