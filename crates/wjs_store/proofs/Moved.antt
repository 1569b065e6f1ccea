-- What a commit that moved leaves of the contents.
use Rattle.std.proofs.Common.{◌≡◌, Bool, true, false, cond, not, ◌&&◌, ◌||◌, List, [], ◌∷◌, refl, ap, sym, ◌∙◌, Option, None, Some, is_some, map as each}
use Rattle.std.specs.Option.{option_map_or, option_and_then, is_none}
use Rattle.std.specs.Ordering.{eq_by_cmp}
use Rattle.std.specs.List.{list_any}
use Rattle.std.specs.FinMap as map
use Rattle.std.proofs.lemmas.Bool.{true≢false}
use Rattle.std.proofs.lemmas.Option.{same_Some}
use Rattle.wjs_base.specs.declared.ids.WorldId.{WorldId}
use Rattle.wjs_base.proofs.Options.{none_of}
use Rattle.wjs_base.proofs.Booleans.{by_bool}
use Rattle.wjs_store.specs.Naming.{Naming}
use Rattle.wjs_store.specs.State.{World, State, same_world, find_world, has_world, parent_of, content_at, is_below, is_touched, put, write_in, write_at, after_write, write_all, at_world, hand_entries, hand_objects, clear_marks, moves, reads_of, settle, fault_in, with_parent, verdict_in, verdict_at, after_commit, moved, differs, no_parent}
use Rattle.wjs_store.specs.Marked.{is_written}
use Rattle.wjs_store.proofs.States.{content_each}
use Rattle.wjs_store.proofs.Marks.{key_is}
use Rattle.wjs_store.proofs.Writes.{by_one, world_is, found_id, write_id, write_parent, has_after_write, has_settle, has_at}
use Rattle.wjs_store.proofs.Commits.{pairs, pair_parts, entries_ids, entries_parents, entries_copies, objects_ids, objects_copies}
use Rattle.wjs_store.proofs.Contents.{content_after_write}

-- a path goes on where it goes on above
up_by : (p : WorldId) (f g : WorldId → Bool) → ((q : WorldId) → same_world q p ≡ false → f q ≡ g q) → (o : Option WorldId) → option_map_or (λ q. same_world q p || f q) o false ≡ option_map_or (λ q. same_world q p || g q) o false
up_by p f g h None = refl
up_by p f g h (Some q) = by_bool (same_world q p)
    (λ e. ap (λ b. b || f q) e ∙ sym (ap (λ b. b || g q) e))
    (λ e. ap (λ b. same_world q p || b) (h q e))

-- one write after others: the earlier gives way where both are at one slot
join_write : {A : Type 0} (e a h u : Bool) (x y z : A) → (e ≡ true → u ≡ h) → (e ≡ true → y ≡ x) → cond (a && h) x (cond (u && e) y z) ≡ cond ((e || a) && h) x z
join_write true a h u x y z f g = ap (λ k. cond (a && h) x (cond (k && true) y z)) (f refl) ∙ ap (λ k. cond (a && h) x (cond (h && true) k z)) (g refl) ∙ last a h x z
  where
    last : {A : Type 0} (a h : Bool) (x z : A) → cond (a && h) x (cond (h && true) x z) ≡ cond h x z
    last true true x z = refl
    last true false x z = refl
    last false true x z = refl
    last false false x z = refl
join_write false a h true x y z f g = refl
join_write false a h false x y z f g = refl

pub neither : {A : Type 0} (a : Bool) (x y : A) → cond (a && false) y x ≡ x
neither true x y = refl
neither false x y = refl

module _ {K V : Type 0} {n : Naming K V} where
  -- a change of the world p alone, the copies left out, keeps the paths up to p
  below_each : (g : World n → World n) → ((x : World n) → (g x).id ≡ x.id) → ((x : World n) → (g x).parent ≡ x.parent) → (p : WorldId) (t : K) → ((x : World n) → same_world x.id p ≡ false → is_touched (g x) t ≡ is_touched x t) → (G : State n) (i : WorldId) → same_world i p ≡ false → is_below p t (each g G) i ≡ is_below p t G i
  unfolding is_below
  below_each g ids parents p t stay [] i e = refl
  below_each g ids parents p t stay (x ∷ older) i e = by_bool (same_world x.id i)
      (λ b.
      ap (λ c. cond c (not (is_touched (g x) t) && option_map_or (λ q. same_world q p || is_below p t (each g older) q) (g x).parent false) (is_below p t (each g older) i)) (ap (λ j. same_world j i) (ids x) ∙ b)
      ∙ ap (λ c. not c && option_map_or (λ q. same_world q p || is_below p t (each g older) q) (g x).parent false) (stay x (ap (λ j. same_world j p) (world_is x.id i b) ∙ e))
      ∙ ap (λ o. not (is_touched x t) && option_map_or (λ q. same_world q p || is_below p t (each g older) q) o false) (parents x)
      ∙ ap (λ c. not (is_touched x t) && c) (up_by p (is_below p t (each g older)) (is_below p t older) (λ q d. below_each g ids parents p t stay older q d) x.parent)
      ∙ sym (ap (λ c. cond c (not (is_touched x t) && option_map_or (λ q. same_world q p || is_below p t older q) x.parent false) (is_below p t older i)) b))
      (λ b.
      ap (λ c. cond c (not (is_touched (g x) t) && option_map_or (λ q. same_world q p || is_below p t (each g older) q) (g x).parent false) (is_below p t (each g older) i)) (ap (λ j. same_world j i) (ids x) ∙ b)
      ∙ below_each g ids parents p t stay older i e
      ∙ sym (ap (λ c. cond c (not (is_touched x t) && option_map_or (λ q. same_world q p || is_below p t older q) x.parent false) (is_below p t older i)) b))

  -- a world that is not there is below none
  below_there : (p : WorldId) (t : K) (G : State n) (i : WorldId) → has_world G i ≡ false → is_below p t G i ≡ false
  unfolding is_below find_world
  below_there p t [] i h = refl
  below_there p t (x ∷ older) i h = by_bool (same_world x.id i)
      (λ b. absurd (true≢false (sym (ap (λ c. is_some (cond c (Some x) (find_world older i))) b) ∙ h)))
      (λ b.
      ap (λ c. cond c (not (is_touched x t) && option_map_or (λ q. same_world q p || is_below p t older q) x.parent false) (is_below p t older i)) b
      ∙ below_there p t older i (sym (ap (λ c. is_some (cond c (Some x) (find_world older i))) b) ∙ h))

  -- a write in p, and the worlds that the next one reaches
  reach_write : (p : WorldId) (s : K) (c : Option V) (t : K) (G : State n) (i : WorldId) → (same_world i p || is_below p t (after_write G p s c) i) ≡ (same_world i p || is_below p t G i)
  unfolding after_write
  reach_write p s c t G i = by_bool (same_world i p)
      (λ b. ap (λ k. k || is_below p t (each (write_at G p s c) G) i) b ∙ sym (ap (λ k. k || is_below p t G i) b))
      (λ b. ap (λ k. same_world i p || k) (below_each (write_at G p s c) (write_id G p s c) (write_parent G p s c) p t
      (λ x e. ap (λ k. is_touched (cond k (write_in s c x) (cond (is_below p s G x.id) (record x { copy = put x.copy s c }) x)) t) e ∙ by_one (is_below p s G x.id) (λ (v : World n). is_touched v t ≡ is_touched x t) refl refl)
      G i b))

  -- one write after another
  content_writes : (p : WorldId) (v : K → Option V) (ks : List K) (G : State n) (i : WorldId) (t : K) → has_world G i ≡ true → content_at (write_all p (pairs v ks) G) i t ≡ cond (list_any (eq_by_cmp n.cmp t) ks && (same_world i p || is_below p t G i)) (v t) (content_at G i t)
  content_writes p v [] G i t h = refl
  content_writes p v (s ∷ ks) G i t h =
      content_writes p v ks (after_write G p s (v s)) i t (has_after_write G p s (v s) i ∙ h)
      ∙ ap (λ b. cond (list_any (eq_by_cmp n.cmp t) ks && b) (v t) (content_at (after_write G p s (v s)) i t)) (reach_write p s (v s) t G i)
      ∙ ap (cond (list_any (eq_by_cmp n.cmp t) ks && (same_world i p || is_below p t G i)) (v t)) (content_after_write G p s (v s) i t h)
      ∙ join_write (eq_by_cmp n.cmp t s) (list_any (eq_by_cmp n.cmp t) ks) (same_world i p || is_below p t G i) (same_world i p || is_below p s G i) (v t) (v s) (content_at G i t)
      (λ e. ap (λ k. same_world i p || is_below p k G i) (sym (key_is n.exact t s e)))
      (λ e. ap v (sym (key_is n.exact t s e)))

  -- a change of one world's marks
  content_at_world : (w : WorldId) (f : World n → World n) → ((x : World n) → (f x).id ≡ x.id) → ((x : World n) → (f x).copy ≡ x.copy) → (G : State n) (i : WorldId) (t : K) → content_at (at_world w f G) i t ≡ content_at G i t
  content_at_world w f ids copies G i t = content_each (λ x. cond (same_world x.id w) (f x) x) (λ x. by_one (same_world x.id w) (λ (v : World n). v.id ≡ x.id) (ids x) refl) G i t (λ x. by_one (same_world x.id w) (λ (v : World n). map.get v.copy t ≡ map.get x.copy t) (ap (λ c. map.get c t) (copies x)) refl)

  -- a change of p's marks, and the worlds that a write in p reaches
  reach_at_world : (p : WorldId) (f : World n → World n) → ((x : World n) → (f x).id ≡ x.id) → ((x : World n) → (f x).parent ≡ x.parent) → (t : K) (G : State n) (i : WorldId) → (same_world i p || is_below p t (at_world p f G) i) ≡ (same_world i p || is_below p t G i)
  reach_at_world p f ids parents t G i = by_bool (same_world i p)
      (λ b. ap (λ k. k || is_below p t (at_world p f G) i) b ∙ sym (ap (λ k. k || is_below p t G i) b))
      (λ b. ap (λ k. same_world i p || k) (below_each (λ x. cond (same_world x.id p) (f x) x) (λ x. by_one (same_world x.id p) (λ (v : World n). v.id ≡ x.id) (ids x) refl) (λ x. by_one (same_world x.id p) (λ (v : World n). v.parent ≡ x.parent) (parents x) refl) p t
      (λ x e. ap (λ k. is_touched (cond k (f x) x) t) e)
      G i b))

  -- the four parts of a commit of x into p
  content_settle : (x : World n) (p : WorldId) (F : State n) (i : WorldId) (t : K) → has_world F i ≡ true → content_at (settle x p F) i t ≡ cond (map.contains_key x.written t && (same_world i p || is_below p t F i)) (map.get x.copy t) (content_at F i t)
  content_settle x p F i t h =
      let handed = at_world p (hand_entries (reads_of x)) F in
      let wrote = write_all p (moves x) handed in
      let listed = at_world p (hand_objects (map.keys x.closed)) wrote in
      content_at_world x.id clear_marks (λ z. refl) (λ z. refl) listed i t
      ∙ content_at_world p (hand_objects (map.keys x.closed)) (objects_ids (map.keys x.closed)) (objects_copies (map.keys x.closed)) wrote i t
      ∙ content_writes p (map.get x.copy) (map.keys x.written) handed i t (has_at p (hand_entries (reads_of x)) (entries_ids (reads_of x)) F i ∙ h)
      ∙ ap (λ b. cond (b && (same_world i p || is_below p t handed i)) (map.get x.copy t) (content_at handed i t)) (sym (map.contains_key-keys x.written t))
      ∙ ap (λ b. cond (map.contains_key x.written t && b) (map.get x.copy t) (content_at handed i t)) (reach_at_world p (hand_entries (reads_of x)) (entries_ids (reads_of x)) (entries_parents (reads_of x)) t F i)
      ∙ ap (cond (map.contains_key x.written t && (same_world i p || is_below p t F i)) (map.get x.copy t)) (content_at_world p (hand_entries (reads_of x)) (entries_ids (reads_of x)) (entries_copies (reads_of x)) F i t)

-- ---- a commit that moved

module _ {K V : Type 0} {n : Naming K V} (F : State n) (w : WorldId) where
  -- the world and its parent, which agree
  pub record Pass : Type 0 where
    pub child : World n
    pub above : World n
    pub child_id : child.id ≡ w
    pub child_there : find_world F child.id ≡ Some child
    pub up : child.parent ≡ Some above.id
    pub above_there : find_world F above.id ≡ Some above
    pub no_fault : fault_in child above ≡ None
    pub leaves : after_commit F w ≡ settle child above.id F

  pass_by : (o : Option (World n × World n)) → with_parent F w ≡ o → option_map_or (λ (e : World n × World n). verdict_in e.0 e.1) o no_parent ≡ moved → Pass
  unfolding after_commit
  pass_by None e h = cc
  pass_by (Some d) e h =
      let parts = pair_parts F w d e in
      let xid = found_id F w d.0 parts.0 in
      let yid = found_id F parts.1 d.1 parts.3 in
      let none = agrees (fault_in d.0 d.1) h in
      record {
        child = d.0;
        above = d.1;
        child_id = xid;
        child_there = ap (find_world F) xid ∙ parts.0;
        up = parts.2 ∙ ap (λ q. Some q) (sym yid);
        above_there = ap (find_world F) yid ∙ parts.3;
        no_fault = none;
        leaves = ap (λ o. option_map_or (λ (e : World n × World n). cond (is_none (fault_in e.0 e.1)) (settle e.0 e.1.id F) F) o F) e ∙ ap (λ o. cond (is_none o) (settle d.0 d.1.id F) F) none;
      }
    where
      agrees : (o : Option K) → option_map_or differs o moved ≡ moved → o ≡ None
      agrees None h = refl
      agrees (Some s) h = cc

  pub pass : verdict_at F w ≡ moved → Pass
  unfolding verdict_at
  pass h = pass_by (with_parent F w) refl h

  module _ (h : verdict_at F w ≡ moved) (p : WorldId) (up : parent_of F w ≡ Some p) where
    pub found : find_world F w ≡ Some (pass h).child
    found = ap (find_world F) (sym (pass h).child_id) ∙ (pass h).child_there

    pub parent_is : (pass h).above.id ≡ p
    parent_is = same_Some (pass h).above.id p (sym (pass h).up ∙ sym (ap (option_and_then (λ (x : World n). x.parent)) found) ∙ up)

    pub content_after_commit : (i : WorldId) (t : K) → content_at (after_commit F w) i t ≡ cond (is_written F w t && (same_world i p || is_below p t F i)) (content_at F w t) (content_at F i t)
    content_after_commit i t =
        let x = (pass h).child in
        let q = (pass h).above.id in
        ap (λ G. content_at G i t) (pass h).leaves
        ∙ by_bool (has_world F i)
        (λ b. content_settle x q F i t b)
        (λ b.
        let gone : find_world F i ≡ None = none_of (find_world F i) b in
        let gone2 : find_world (settle x q F) i ≡ None = none_of (find_world (settle x q F) i) (has_settle x q F i ∙ b) in
        let past : same_world i q ≡ false = by_bool (same_world i q) (λ e. absurd (true≢false (sym (ap (has_world F) (world_is i q e) ∙ ap is_some (pass h).above_there) ∙ b))) (λ e. e) in
        ap (option_and_then (λ (v : World n). map.get v.copy t)) gone2
        ∙ sym (
        ap (λ k. cond (map.contains_key x.written t && (k || is_below q t F i)) (map.get x.copy t) (content_at F i t)) past
        ∙ ap (λ k. cond (map.contains_key x.written t && k) (map.get x.copy t) (content_at F i t)) (below_there q t F i b)
        ∙ neither (map.contains_key x.written t) (content_at F i t) (map.get x.copy t)
        ∙ ap (option_and_then (λ (v : World n). map.get v.copy t)) gone
        ))
        ∙ ap (λ k. cond (map.contains_key x.written t && (same_world i k || is_below k t F i)) (map.get x.copy t) (content_at F i t)) parent_is
        ∙ ap (λ o. cond (option_map_or (λ (v : World n). map.contains_key v.written t) o false && (same_world i p || is_below p t F i)) (option_and_then (λ (v : World n). map.get v.copy t) o) (content_at F i t)) (sym found)

    -- its own contents stay
    pub content_after_commit_own : (t : K) → content_at (after_commit F w) w t ≡ content_at F w t
    content_after_commit_own t = content_after_commit w t ∙ by_one (is_written F w t && (same_world w p || is_below p t F w)) (λ c. c ≡ content_at F w t) refl refl
