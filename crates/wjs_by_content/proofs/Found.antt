-- What a known state answers is known; known actions one after another.
use Rattle.std.proofs.Common.{◌≡◌, Bool, true, false, cond, List, [], ◌∷◌, ◌++◌, refl, ap, subst, fold, filter, Option, None, Some, Ordering}
use Rattle.std.specs.Option.{option_map_or, option_and_then}
use Rattle.std.specs.Ordering.{is_lt}
use Rattle.std.specs.FinMap as map
use Rattle.std.specs.FinMap.{FinMap}
use Rattle.wjs_base.specs.declared.ids.WorldId.{WorldId}
use Rattle.wjs_base.specs.declared.ids.ObjId.{ObjId}
use Rattle.wjs_store.specs.Naming.{Naming}
use Rattle.wjs_store.specs.State.{World, State, same_world, same_object, find_world, content_at, slots_in, slots_at, lesser, fails, fault_in, with_parent, verdict_in, verdict_at, moved, differs, no_parent}
use Rattle.wjs_store.proofs.Commits.{pair_parts}
use Rattle.wjs_by_content.specs.Renamed.{Names, Holds, Knows, Known, KnowsContent}
use Rattle.wjs_by_content.proofs.Keys.{firsts}
use Rattle.wjs_by_content.proofs.RenamedKnown.{entries_hold}

holds_firsts : {K X : Type 0} (P : K → Type 0) (es : List (K × X)) → Holds (λ (e : K × X). P e.0) es → Holds P (firsts es)
holds_firsts P [] h = tt
holds_firsts P (e ∷ es) h = (h.0, holds_firsts P es h.1)

holds_passing : {A : Type 0} (P : A → Type 0) (p : A → Bool) (xs : List A) → Holds P xs → Holds P (filter p xs)
holds_passing P p [] h = tt
holds_passing P p (x ∷ xs) h = by (p x) (holds_passing P p xs h.1)
  where
    by : (b : Bool) → Holds P (filter p xs) → Holds P (cond b (x ∷ filter p xs) (filter p xs))
    by true r = (h.0, r)
    by false r = r

pub holds_append : {A : Type 0} (P : A → Type 0) (xs ys : List A) → Holds P xs → Holds P ys → Holds P (xs ++ ys)
holds_append P [] ys h k = k
holds_append P (x ∷ xs) ys h k = (h.0, holds_append P xs ys h.1 k)

-- what holds of each key holds of the least
lesser_holds : {K : Type 0} (R : K → K → Ordering) (P : K → Type 0) (o : Option K) (t : K) → ((s : K) → o ≡ Some s → P s) → P t → (s : K) → lesser R o t ≡ Some s → P s
lesser_holds R P None t h k s e = let q : t ≡ s = cc in subst P q k
lesser_holds R P (Some u) t h k s e = by (is_lt (R t u)) e
  where
    by : (b : Bool) → cond b (Some t) (Some u) ≡ Some s → P s
    by true q = let same : t ≡ s = cc in subst P same k
    by false q = h s q

least_holds : {K : Type 0} (R : K → K → Ordering) (P : K → Type 0) (o : Option K) (ts : List K) → ((s : K) → o ≡ Some s → P s) → Holds P ts → (s : K) → fold (lesser R) o ts ≡ Some s → P s
least_holds R P o [] h k s e = h s e
least_holds R P o (t ∷ ts) h k s e = least_holds R P (lesser R o t) ts (lesser_holds R P o t h k.0) k.1 s e

module _ {K V J W : Type 0} {n : Naming K V} {m : Naming J W} (r : Names n m) where
  found_if : (b : Bool) (y x : World n) (o : Option (World n)) → cond b (Some y) o ≡ Some x → Knows r y → (o ≡ Some x → Knows r x) → Knows r x
  found_if true y x o e k f = let q : y ≡ x = cc in subst (Knows r) q k
  found_if false y x o e k f = f e

  known_found : (F : State n) (w : WorldId) (x : World n) → Known r F → find_world F w ≡ Some x → Knows r x
  unfolding find_world
  known_found [] w x k e = cc
  known_found (y ∷ older) w x k e = found_if (same_world y.id w) y x (find_world older w) e k.0 (known_found older w x k.1)

  content_if : (c d : Option V) → c ≡ d → ((v : V) → c ≡ Some v → r.knows_value v ≡ true) → KnowsContent r d
  content_if c None e h = tt
  content_if c (Some v) e h = h v e

  content_of_world : (s : K) (o : Option (World n)) → ((x : World n) → o ≡ Some x → Knows r x) → KnowsContent r (option_and_then (λ (x : World n). map.get x.copy s) o)
  content_of_world s None h = tt
  content_of_world s (Some x) h = content_if (map.get x.copy s) (map.get x.copy s) refl (λ v e. ((h x refl).copy s v e).1)

  -- a content that is read is known
  pub known_content : (F : State n) (w : WorldId) (s : K) → Known r F → KnowsContent r (content_at F w s)
  known_content F w s k = content_of_world s (find_world F w) (λ x e. known_found F w x k e)

  keys_known : {X : Type 0} (a : FinMap n.cmp X) → ((s : K) (v : X) → map.get a s ≡ Some v → r.knows s ≡ true) → Holds (λ s. r.knows s ≡ true) (map.keys a)
  keys_known a h = holds_firsts (λ s. r.knows s ≡ true) (map.entries a) (entries_hold n.total n.exact (λ s v. r.knows s ≡ true) a h)

  slots_of_world : (o : ObjId) (q : Option (World n)) → ((x : World n) → q ≡ Some x → Knows r x) → Holds (λ s. r.knows s ≡ true) (option_map_or (slots_in o) q [])
  slots_of_world o None h = tt
  slots_of_world o (Some x) h = holds_passing (λ s. r.knows s ≡ true) (λ s. same_object (n.object s) o) (map.keys x.copy) (keys_known x.copy (λ s v e. ((h x refl).copy s v e).0))

  -- slots that are listed are known
  pub known_slots : (F : State n) (w : WorldId) (o : ObjId) → Known r F → Holds (λ s. r.knows s ≡ true) (slots_at F w o)
  known_slots F w o k = slots_of_world o (find_world F w) (λ x e. known_found F w x k e)

  fault_known : (x p : World n) → Knows r x → Knows r p → (s : K) → fault_in x p ≡ Some s → r.knows s ≡ true
  fault_known x p kx kp = least_holds n.cmp (λ s. r.knows s ≡ true) None (filter (fails x p) (map.keys x.first ++ map.keys p.copy)) (λ s e. absurd (cc))
      (holds_passing (λ s. r.knows s ≡ true) (fails x p) (map.keys x.first ++ map.keys p.copy)
      (holds_append (λ s. r.knows s ≡ true) (map.keys x.first) (map.keys p.copy) (keys_known x.first (λ s c e. (kx.first s c e).0)) (keys_known p.copy (λ s v e. (kp.copy s v e).0))))

  refused_at : (o : Option K) (s : K) → (o ≡ Some s → r.knows s ≡ true) → option_map_or differs o moved ≡ differs s → r.knows s ≡ true
  refused_at None s h e = absurd (cc)
  refused_at (Some t) s h e = let q : t ≡ s = cc in h (ap (λ u. Some u) q)

  -- the slot at which a commit is refused is known
  pub known_verdict : (F : State n) (w : WorldId) (s : K) → Known r F → verdict_at F w ≡ differs s → r.knows s ≡ true
  unfolding verdict_at
  known_verdict F w s k = by (with_parent F w) refl
    where
      by : (o : Option (World n × World n)) → with_parent F w ≡ o → option_map_or (λ (e : World n × World n). verdict_in e.0 e.1) o no_parent ≡ differs s → r.knows s ≡ true
      by None is h = absurd (cc)
      by (Some e) is h =
          let parts = pair_parts F w e is in
          refused_at (fault_in e.0 e.1) s (fault_known e.0 e.1 (known_found F w e.0 k parts.0) (known_found F parts.1 e.1 k parts.3) s) h
