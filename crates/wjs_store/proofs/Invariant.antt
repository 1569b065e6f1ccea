-- Each world's history stays its history, whatever action is done.
use Rattle.std.proofs.Common.{◌≡◌, ℕ, Bool, true, false, cond, not, ◌&&◌, ◌||◌, List, [], ◌∷◌, ◌++◌, refl, ap, sym, ◌∙◌, subst, Option, None, Some, is_some}
use Rattle.std.specs.Option.{option_map, option_map_or, option_and_then}
use Rattle.std.specs.FinMap as map
use Rattle.std.proofs.lemmas.Bool.{true≢false, false≢true}
use Rattle.std.proofs.lemmas.Option.{same_Some}
use Rattle.wjs_base.specs.declared.ids.WorldId.{WorldId}
use Rattle.wjs_base.specs.declared.ids.ObjId.{ObjId}
use Rattle.wjs_base.proofs.Options.{none_of, with_some}
use Rattle.wjs_base.proofs.Booleans.{by_bool}
use Rattle.wjs_store.specs.Naming.{Naming}
use Rattle.wjs_store.specs.State.{World, State, Reply, read, write, list, found, wrote, listed, same_world, find_world, has_world, content_at, is_touched, is_below, put, read_in, list_in, write_in, slots_in, slots_at, after_read, after_list, after_write, write_at, write_all, at_world, child_of, next_id, after_sprout, hand_entries, hand_objects, clear_marks, reads_of, moves, settle, fails}
use Rattle.wjs_store.specs.Reached.{IsReached}
use Rattle.wjs_store.proofs.States.{find_each}
use Rattle.wjs_store.proofs.Marks.{marks_read, marks_list}
use Rattle.wjs_store.proofs.Writes.{world_is, same_self, found_id, not_older, has_tail, reached_sprout, has_at, has_after_write, has_settle, write_id}
use Rattle.wjs_store.proofs.Commits.{at_head, find_tail, local_find, find_at_here, find_at_other, find_write_here, below_stops, entries_ids, objects_ids, fx3, fy3, find_nil}
use Rattle.wjs_store.proofs.Replays.{Entry, Holds, Further, further_same, further_then, further_below, holds_further, holds_read, holds_list, holds_write, holds_nothing}
use Rattle.wjs_store.proofs.CommitReplays.{settled, holds_settled}

-- the test of two numbers does not see their order
pub same_turned : (a b : WorldId) → same_world a b ≡ false → same_world b a ≡ false
same_turned a b e = by_bool (same_world b a) (λ q. absurd (true≢false (sym (ap (same_world a) (world_is b a q) ∙ same_self a) ∙ e))) (λ q. q)

module _ {K V : Type 0} {n : Naming K V} where
  -- a world without parent is below none
  below_alone : (p : WorldId) (s : K) (G : State n) (i : WorldId) (z : World n) → find_world G i ≡ Some z → z.parent ≡ None → is_below p s G i ≡ false
  unfolding is_below
  below_alone p s [] i z e u = refl
  below_alone p s (x ∷ older) i z e u = by_bool (same_world x.id i)
      (λ b. ap (λ c. cond c (not (is_touched x s) && option_map_or (λ q. same_world q p || is_below p s older q) x.parent false) (is_below p s older i)) b
      ∙ ap (λ o. not (is_touched x s) && option_map_or (λ q. same_world q p || is_below p s older q) o false) (ap (λ (v : World n). v.parent) (at_head x z older i b e) ∙ u)
      ∙ and_false (not (is_touched x s)))
      (λ b. ap (λ c. cond c (not (is_touched x s) && option_map_or (λ q. same_world q p || is_below p s older q) x.parent false) (is_below p s older i)) b
      ∙ below_alone p s older i z (sym (find_tail x older i b) ∙ e) u)
    where
      and_false : (b : Bool) → (b && false) ≡ false
      and_false true = refl
      and_false false = refl

  -- a world that another's change passed by
  back_at : (w : WorldId) (f : World n → World n) (ids : (x : World n) → (f x).id ≡ x.id) (F : State n) (i : WorldId) (y : World n) → same_world i w ≡ false → find_world (at_world w f F) i ≡ Some y → find_world F i ≡ Some y
  back_at w f ids F i y e h = with_some (find_world F i) (sym (has_at w f ids F i) ∙ ap is_some h) (λ z q. q ∙ sym (find_at_other w f ids F i z e q) ∙ h)

module _ {K V A : Type 0} (n : Naming K V) (shown : Reply K V → A) where
  -- a world other than the one that is written in
  pub record Before (F : State n) (i : WorldId) (y : World n) : Type 0 where
    pub world : World n
    pub there : find_world F i ≡ Some world
    pub further : Further n shown world y

  below_or_not : (F : State n) (w : WorldId) (s : K) (c : Option V) (i : WorldId) (z : World n) → find_world F i ≡ Some z → Further n shown z (cond (is_below w s F z.id) (record z { copy = put z.copy s c }) z)
  below_or_not F w s c i z q = by_bool (is_below w s F z.id)
      (λ b.
      let below : is_below w s F i ≡ true = ap (is_below w s F) (sym (found_id F i z q)) ∙ b in
      let u : is_touched z s ≡ false = by_bool (is_touched z s) (λ t. absurd (true≢false (sym below ∙ below_stops w s F i z q t))) (λ t. t) in
      let p : is_some z.parent ≡ true = by_bool (is_some z.parent) (λ t. t) (λ t. absurd (true≢false (sym below ∙ below_alone w s F i z q (none_of z.parent t)))) in
      subst (λ k. Further n shown z (cond k (record z { copy = put z.copy s c }) z)) (sym b) (further_below n shown z s c p u))
      (λ b. subst (λ k. Further n shown z (cond k (record z { copy = put z.copy s c }) z)) (sym b) (further_same n shown z))

  back_write : (F : State n) (w : WorldId) (s : K) (c : Option V) (i : WorldId) (y : World n) → same_world i w ≡ false → find_world (after_write F w s c) i ≡ Some y → Before F i y
  unfolding after_write
  back_write F w s c i y e h = with_some (find_world F i) (sym (has_after_write F w s c i) ∙ ap is_some h) (λ z q.
      let is : write_at F w s c z ≡ y = same_Some (write_at F w s c z) y (ap (option_map (write_at F w s c)) (sym q) ∙ sym (find_each (write_at F w s c) (write_id F w s c) F i) ∙ h) in
      let past : cond (is_below w s F z.id) (record z { copy = put z.copy s c }) z ≡ y = ap (λ b. cond b (write_in s c z) (cond (is_below w s F z.id) (record z { copy = put z.copy s c }) z)) (sym (ap (λ j. same_world j w) (found_id F i z q) ∙ e)) ∙ is in
      record { world = z; there = q; further = subst (Further n shown z) past (below_or_not F w s c i z q) })

  back_writes : (p : WorldId) (es : List (K × Option V)) (F : State n) (i : WorldId) (y : World n) → same_world i p ≡ false → find_world (write_all p es F) i ≡ Some y → Before F i y
  back_writes p [] F i y e h = record { world = y; there = h; further = further_same n shown y }
  back_writes p (d ∷ es) F i y e h =
      let b = back_writes p es (after_write F p d.0 d.1) i y e h in
      let a = back_write F p d.0 d.1 i b.world e b.there in
      record { world = a.world; there = a.there; further = further_then n shown a.world b.world y a.further b.further }

  -- ---- the histories of all worlds

  abbrev pub Lists : Type 0
  Lists = WorldId → List (Entry n shown)

  pub record Histories (F : State n) (L : Lists) : Type 0 where
    pub holds : (i : WorldId) (x : World n) → find_world F i ≡ Some x → Holds n shown x (L i)
    pub none : (i : WorldId) → has_world F i ≡ false → L i ≡ []

  not_there : (F : State n) (w i : WorldId) (x : World n) → find_world F w ≡ Some x → has_world F i ≡ false → same_world i w ≡ false
  not_there F w i x fx e = by_bool (same_world i w) (λ q. absurd (true≢false (sym (ap (has_world F) (world_is i w q) ∙ ap is_some fx) ∙ e))) (λ q. q)

  -- one world is changed, and its list
  at_one : (F G : State n) (L M : Lists) (w : WorldId) (x y : World n) → Histories F L → find_world F w ≡ Some x → ((i : WorldId) → has_world G i ≡ has_world F i) → find_world G w ≡ Some y → Holds n shown y (M w) → ((i : WorldId) → same_world i w ≡ false → M i ≡ L i) → ((i : WorldId) (z : World n) → same_world i w ≡ false → find_world G i ≡ Some z → Before F i z) → Histories G M
  at_one F G L M w x y h fx there fy hy rest back = record {
    holds = λ i z q. by_bool (same_world i w)
        (λ e.
        let is = world_is i w e in
        let same : y ≡ z = same_Some y z (sym fy ∙ ap (find_world G) (sym is) ∙ q) in
        subst (λ (j : WorldId). Holds n shown z (M j)) (sym is) (subst (λ (v : World n). Holds n shown v (M w)) same hy))
        (λ e.
        let b = back i z e q in
        subst (Holds n shown z) (sym (rest i e)) (holds_further n shown b.world z (L i) b.further (h.holds i b.world b.there)));
    none = λ i e.
        let gone = sym (there i) ∙ e in
        rest i (not_there F w i x fx gone) ∙ h.none i gone;
  }

  in_place : (F : State n) (L M : Lists) (w : WorldId) (f : World n → World n) (ids : (x : World n) → (f x).id ≡ x.id) (x : World n) → Histories F L → find_world F w ≡ Some x → Holds n shown (f x) (M w) → ((i : WorldId) → same_world i w ≡ false → M i ≡ L i) → Histories (at_world w f F) M
  in_place F L M w f ids x h fx hx rest = at_one F (at_world w f F) L M w x (f x) h fx (has_at w f ids F) (find_at_here w f ids F x fx) hx rest
      (λ i z e q. record { world = z; there = back_at w f ids F i z e q; further = further_same n shown z })

  module _ (F : State n) (L M : Lists) (reached : IsReached F) (h : Histories F L) (w : WorldId) (there : has_world F w ≡ true) (rest : (i : WorldId) → same_world i w ≡ false → M i ≡ L i) where
    pub histories_read : (s : K) → M w ≡ L w ++ (read w s, shown (found (content_at F w s))) ∷ [] → Histories (after_read F w s) M
    unfolding after_read
    histories_read s e = with_some (find_world F w) there (λ x fx.
        let now : content_at F w s ≡ map.get x.copy s = ap (option_and_then (λ (v : World n). map.get v.copy s)) fx in
        in_place F L M w (read_in s) (λ y. (marks_read s y).id) x h fx
        (subst (Holds n shown (read_in s x)) (sym (e ∙ ap (λ c. L w ++ (read w s, shown (found c)) ∷ []) now)) (holds_read n shown x (L w) w s (local_find F w x reached fx) (h.holds w x fx)))
        rest)

    pub histories_list : (o : ObjId) → M w ≡ L w ++ (list w o, shown (listed (slots_at F w o))) ∷ [] → Histories (after_list F w o) M
    unfolding after_list
    histories_list o e = with_some (find_world F w) there (λ x fx.
        let now : slots_at F w o ≡ slots_in o x = ap (λ q. option_map_or (slots_in o) q []) fx in
        in_place F L M w (list_in o) (λ y. (marks_list o y).id) x h fx
        (subst (Holds n shown (list_in o x)) (sym (e ∙ ap (λ ss. L w ++ (list w o, shown (listed ss)) ∷ []) now)) (holds_list n shown x (L w) w o (local_find F w x reached fx) (h.holds w x fx)))
        rest)

    pub histories_write : (s : K) (c : Option V) → M w ≡ L w ++ (write w s c, shown wrote) ∷ [] → Histories (after_write F w s c) M
    histories_write s c e = with_some (find_world F w) there (λ x fx.
        at_one F (after_write F w s c) L M w x (write_in s c x) h fx (has_after_write F w s c) (find_write_here F w s c x fx)
        (subst (Holds n shown (write_in s c x)) (sym e) (holds_write n shown x (L w) w s c (local_find F w x reached fx) (h.holds w x fx)))
        rest
        (back_write F w s c))

  -- ---- a sprout

  with_child : (F : State n) (L : Lists) (c : World n) → is_some c.parent ≡ true → ((t : K) → map.contains_key c.written t ≡ false) → IsReached (c ∷ F) → Histories F L → Histories (c ∷ F) L
  with_child F L c p w reached h = record {
    holds = λ i z q. by_bool (same_world c.id i)
        (λ e.
        let new : has_world F i ≡ false = by_bool (has_world F i) (λ t. absurd (true≢false (sym e ∙ not_older c F i reached t))) (λ t. t) in
        subst (Holds n shown z) (sym (h.none i new)) (subst (λ (v : World n). Holds n shown v []) (at_head c z F i e q) (holds_nothing n shown c p w)))
        (λ e. h.holds i z (sym (find_tail c F i e) ∙ q));
    none = λ i e. h.none i (by_bool (has_world F i) (λ t. absurd (true≢false (sym (has_tail c F i t) ∙ e))) (λ t. t));
  }

  pub histories_sprout : (F : State n) (L : Lists) → IsReached F → Histories F L → (w : WorldId) → has_world F w ≡ true → (owner : ℕ) (strict : Bool) → Histories (after_sprout F w owner strict) L
  unfolding after_sprout
  histories_sprout F L reached h w there owner strict = with_some (find_world F w) there (λ x fx.
      let made : after_sprout F w owner strict ≡ child_of x (next_id F owner) strict ∷ F = ap (λ o. option_map_or (λ (v : World n). child_of v (next_id F owner) strict ∷ F) o F) fx in
      subst (λ G. Histories G L) (sym made) (with_child F L (child_of x (next_id F owner) strict) refl (λ t. ap is_some (map.get-empty n.cmp t)) (subst IsReached made (reached_sprout F w owner strict reached)) h))

  -- ---- a commit that passes

  module _ (F : State n) (L M : Lists) (h : Histories F L) (x y : World n) (reached : IsReached F) (fx : find_world F x.id ≡ Some x) (up : x.parent ≡ Some y.id) (fy : find_world F y.id ≡ Some y) (ok : (t : K) → fails x y t ≡ false) where
    pub histories_commit : M x.id ≡ [] → M y.id ≡ L y.id ++ L x.id → ((i : WorldId) → same_world i x.id ≡ false → same_world i y.id ≡ false → M i ≡ L i) → Histories (settle x y.id F) M
    histories_commit mx my rest = record {
      holds = λ i z q. by_bool (same_world i x.id)
          (λ e.
          let is = world_is i x.id e in
          let same : clear_marks x ≡ z = same_Some (clear_marks x) z (sym (find_at_here x.id clear_marks (λ v. refl) third x (fx3 F x y reached fx up fy ok)) ∙ ap (find_world (settle x y.id F)) (sym is) ∙ q) in
          subst (λ (j : WorldId). Holds n shown z (M j)) (sym is) (subst (Holds n shown z) (sym mx) (subst (λ (v : World n). Holds n shown v []) same (holds_nothing n shown (clear_marks x) (ap is_some up) (λ t. ap is_some (map.get-empty n.cmp t))))))
          (λ e.
          let q3 = back_at x.id clear_marks (λ v. refl) third i z e q in
          by_bool (same_world i y.id)
          (λ d.
          let is = world_is i y.id d in
          let same : settled n shown F x y reached fx up fy ok ≡ z = same_Some (settled n shown F x y reached fx up fy ok) z (sym (fy3 F x y reached fx up fy ok) ∙ ap (find_world third) (sym is) ∙ q3) in
          subst (λ (j : WorldId). Holds n shown z (M j)) (sym is) (subst (Holds n shown z) (sym my) (subst (λ (v : World n). Holds n shown v (L y.id ++ L x.id)) same (holds_settled n shown F x y reached fx up fy ok (L x.id) (L y.id) (h.holds x.id x fx) (h.holds y.id y fy)))))
          (λ d.
          let q2 = back_at y.id (hand_objects (map.keys x.closed)) (objects_ids (map.keys x.closed)) second i z d q3 in
          let b = back_writes y.id (moves x) first i z d q2 in
          subst (Holds n shown z) (sym (rest i e d)) (holds_further n shown b.world z (L i) b.further (h.holds i b.world (back_at y.id (hand_entries (reads_of x)) (entries_ids (reads_of x)) F i b.world d b.there)))));
      none = λ i e.
          let gone = sym (has_settle x y.id F i) ∙ e in
          rest i (not_there F x.id i x fx gone) (not_there F y.id i y fy gone) ∙ h.none i gone;
    }
      where
        first : State n
        first = at_world y.id (hand_entries (reads_of x)) F

        second : State n
        second = write_all y.id (moves x) (at_world y.id (hand_entries (reads_of x)) F)

        third : State n
        third = at_world y.id (hand_objects (map.keys x.closed)) (write_all y.id (moves x) (at_world y.id (hand_entries (reads_of x)) F))

-- ---- worlds that are there

module _ {K V : Type 0} {n : Naming K V} where
  pub some_world : {P : Type 0} (F : State n) (w : WorldId) → has_world F w ≡ true → ((x : World n) → find_world F w ≡ Some x → P) → P
  some_world F w there f = with_some (find_world F w) there f

  -- the one world of a list
  pub only_world : (y : World n) (i : WorldId) (x : World n) → find_world (y ∷ []) i ≡ Some x → y ≡ x
  only_world y i x q = by_bool (same_world y.id i)
      (λ e. at_head y x [] i e q)
      (λ e. absurd (false≢true (sym (ap is_some (find_tail y [] i e ∙ find_nil i)) ∙ ap is_some q)))
