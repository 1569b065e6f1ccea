-- What holds of each content of a machine's worlds holds after an action, if it holds of what is written.
use Rattle.std.proofs.Common.{◌≡◌, ℕ, Bool, true, false, cond, ◌&&◌, ◌||◌, List, [], ◌∷◌, Option, None, Some, refl, sym, ap, ◌∙◌, subst, map as each}
use Rattle.std.specs.Prelude.{is_some, is_none}
use Rattle.std.specs.Option.{option_map_or, option_and_then}
use Rattle.std.specs.Ordering.{eq_by_cmp}
use Rattle.std.specs.Cmp.{Equal-is}
use Rattle.std.specs.FinMap as map
use Rattle.wjs_base.specs.declared.ids.ObjId.{ObjId}
use Rattle.wjs_base.specs.declared.ids.WorldId.{WorldId}
use Rattle.wjs_store.specs.Naming.{Naming}
use Rattle.wjs_store.specs.State.{World, State, same_world, find_world, has_world, content_at, is_below, next_id, child_of, after_read, after_list, after_write, after_sprout, after_commit, with_parent, fault_in, settle, at_world, clear_marks, hand_objects, hand_entries, write_all, moves, reads_of}
use Rattle.wjs_store.proofs.Contents.{content_after_read, content_after_list, content_after_write, content_after_sprout}
use Rattle.wjs_store.proofs.Commits.{entries_ids, entries_copies, objects_ids, objects_copies, pair_parts}
use Rattle.wjs_store.proofs.States.{content_each}
use Rattle.wjs_store.proofs.Writes.{has_after_write, same_self}
use Rattle.wjs_by_content.specs.Renamed.{Holds}

-- it holds of a content that is present
abbrev pub HoldsOf : {K V : Type 0} → (K → V → Type 0) → K → Option V → Type 0
HoldsOf {V = V} Q s c = (v : V) → c ≡ Some v → Q s v

module _ {K V : Type 0} {n : Naming K V} (Q : K → V → Type 0) where
  -- it holds of each content
  abbrev pub Within : State n → Type 0
  Within F = (i : WorldId) (s : K) (v : V) → content_at F i s ≡ Some v → Q s v

  pub within_read : (F : State n) (w : WorldId) (s : K) → Within F → Within (after_read F w s)
  within_read F w s h i t v e = h i t v (sym (content_after_read F w s i t) ∙ e)

  pub within_list : (F : State n) (w : WorldId) (o : ObjId) → Within F → Within (after_list F w o)
  within_list F w o h i t v e = h i t v (sym (content_after_list F w o i t) ∙ e)

  -- ---- a write

  world_there : (r : Option (World n)) (t : K) (v : V) → option_and_then (λ (x : World n). map.get x.copy t) r ≡ Some v → is_some r ≡ true
  world_there None t v e = cc
  world_there (Some x) t v e = refl

  pub within_write : (F : State n) (w : WorldId) (s : K) (c : Option V) → HoldsOf Q s c → Within F → Within (after_write F w s c)
  within_write F w s c put h i t v e = by (same_world i w || is_below w s F i) (sym (content_after_write F w s c i t there) ∙ e)
    where
      there : has_world F i ≡ true
      there = sym (has_after_write F w s c i) ∙ world_there (find_world (after_write F w s c) i) t v e

      tied : (b : Bool) → eq_by_cmp n.cmp t s ≡ b → cond b c (content_at F i t) ≡ Some v → Q t v
      tied true is q = subst (λ z. Q z v) (sym (n.exact t s ((Equal-is (n.cmp t s)).0 is))) (put v q)
      tied false is q = h i t v q

      by : (b : Bool) → cond (b && eq_by_cmp n.cmp t s) c (content_at F i t) ≡ Some v → Q t v
      by true q = tied (eq_by_cmp n.cmp t s) refl q
      by false q = h i t v q

  -- ---- a sprout

  pub within_sprout : (F : State n) (w : WorldId) (owner : ℕ) (strict : Bool) → has_world F w ≡ true → Within F → Within (after_sprout F w owner strict)
  within_sprout F w owner strict there h i t v e = by (same_world (next_id F owner) i) (sym (content_after_sprout F w owner strict i t there) ∙ e)
    where
      by : (b : Bool) → cond b (content_at F w t) (content_at F i t) ≡ Some v → Q t v
      by true q = h w t v q
      by false q = h i t v q

  -- ---- a commit

  -- one world whose copy stays
  within_at : (i : WorldId) (f : World n → World n) → ((x : World n) → (f x).id ≡ x.id) → ((x : World n) → (f x).copy ≡ x.copy) → (F : State n) → Within F → Within (at_world i f F)
  within_at i f ids copies F h j t v e = h j t v (sym (content_each (λ x. cond (same_world x.id i) (f x) x) (λ x. id_of (same_world x.id i) x) F j t (λ x. ap (λ c. map.get c t) (copy_of (same_world x.id i) x))) ∙ e)
    where
      id_of : (b : Bool) (x : World n) → (cond b (f x) x).id ≡ x.id
      id_of true x = ids x
      id_of false x = refl

      copy_of : (b : Bool) (x : World n) → (cond b (f x) x).copy ≡ x.copy
      copy_of true x = copies x
      copy_of false x = refl

  within_all : (p : WorldId) (es : List (K × Option V)) → Holds {A = K × Option V} (λ e. HoldsOf Q e.0 e.1) es → (F : State n) → Within F → Within (write_all p es F)
  within_all p [] k F h = h
  within_all p (e ∷ es) k F h = within_all p es k.1 (after_write F p e.0 e.1) (within_write F p e.0 e.1 k.0 h)

  moves_hold : (x : World n) → ((s : K) (v : V) → map.get x.copy s ≡ Some v → Q s v) → (ss : List K) → Holds {A = K × Option V} (λ e. HoldsOf Q e.0 e.1) (each (λ s. (s, map.get x.copy s)) ss)
  moves_hold x k [] = tt
  moves_hold x k (s ∷ ss) = (k s, moves_hold x k ss)

  within_settle : (F : State n) (x : World n) (p : WorldId) → ((s : K) (v : V) → map.get x.copy s ≡ Some v → Q s v) → Within F → Within (settle x p F)
  within_settle F x p k h =
      within_at x.id clear_marks (λ y. refl) (λ y. refl) _
      (within_at p (hand_objects (map.keys x.closed)) (objects_ids (map.keys x.closed)) (objects_copies (map.keys x.closed)) _
      (within_all p (moves x) (moves_hold x k (map.keys x.written)) _
      (within_at p (hand_entries (reads_of x)) (entries_ids (reads_of x)) (entries_copies (reads_of x)) F h)))

  pub within_commit : (F : State n) (w : WorldId) → Within F → Within (after_commit F w)
  unfolding after_commit
  within_commit F w h = by (with_parent F w) refl
    where
      checked : (b : Bool) (x p : World n) → find_world F w ≡ Some x → Within (cond b (settle x p.id F) F)
      checked true x p found = within_settle F x p.id (λ s v e. h w s v (ap (option_and_then (λ (y : World n). map.get y.copy s)) found ∙ e)) h
      checked false x p found = h

      by : (r : Option (World n × World n)) → with_parent F w ≡ r → Within (option_map_or (λ (e : World n × World n). cond (is_none (fault_in e.0 e.1)) (settle e.0 e.1.id F) F) r F)
      by None e = h
      by (Some e) is = checked (is_none (fault_in e.0 e.1)) e.0 e.1 (pair_parts F w e is).0

-- the child of a sprout is there
pub has_child : {K V : Type 0} {n : Naming K V} (F : State n) (w : WorldId) (owner : ℕ) (strict : Bool) → has_world F w ≡ true → has_world (after_sprout F w owner strict) (next_id F owner) ≡ true
unfolding after_sprout find_world
has_child {n = n} F w owner strict there = by (find_world F w) there
  where
    by : (r : Option (World n)) → is_some r ≡ true → has_world (option_map_or (λ x. child_of x (next_id F owner) strict ∷ F) r F) (next_id F owner) ≡ true
    by None e = cc
    by (Some x) e = ap (λ b. is_some (cond b (Some (child_of x (next_id F owner) strict)) (find_world F (next_id F owner)))) (same_self (next_id F owner))
