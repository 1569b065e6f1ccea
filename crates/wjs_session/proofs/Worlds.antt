-- Worlds by number, where one world is changed.
use Rattle.std.proofs.Common.{◌≡◌, Bool, true, false, cond, not, ◌&&◌, ◌||◌, [], ◌∷◌, refl, ap, sym, ◌∙◌, subst, List, map as each, Option, None, Some, is_some, unwrap_or}
use Rattle.std.specs.Option.{option_map, option_map_or, option_and_then}
use Rattle.std.specs.List.{AllByRecursion, list_any}
use Rattle.std.specs.FinMap as map
use Rattle.std.proofs.lemmas.Bool.{true≢false, false≢true, or_parts}
use Rattle.wjs_base.specs.declared.ids.WorldId.{WorldId}
use Rattle.wjs_base.specs.declared.values.Slot.{Slot}
use Rattle.wjs_base.specs.declared.values.Value.{Value}
use Rattle.wjs_base.specs.Order.{slot_cmp}
use Rattle.wjs_base.proofs.Booleans.{by_bool}
use Rattle.wjs_store.specs.Naming.{plain}
use Rattle.wjs_store.specs.Reached.{IsReached}
use Rattle.wjs_store.specs.Shown.{first_of}
use Rattle.wjs_store.specs.Meaning.{View, Worlds}
use Rattle.wjs_store.specs.State.{World, same_world, find_world, has_world, parent_of, content_at, at_world, is_touched, is_below, put, write_in, write_at, after_write}
use Rattle.wjs_store.proofs.States.{find_each}
use Rattle.wjs_store.proofs.Writes.{by_one, same_self, world_is, found_id, has_head, has_tail, not_older}
use Rattle.wjs_store.proofs.Commits.{find_nil, parent_other}
use Rattle.wjs_store.proofs.Invariant.{same_turned}
use Rattle.wjs_store.proofs.MovedMarks.{past_at}
use Rattle.wjs_session.specs.Session.{holding, world_at, first_copy, has_child}
use Rattle.wjs_session.specs.Kept.{IsChild}

-- ---- lists

-- two changes are one where they are on each element of which P holds
pub each_on : {A B : Type 0} (P : A → Type 0) (g h : A → B) → ((y : A) → P y → g y ≡ h y) → (F : List A) → AllByRecursion P F → each g F ≡ each h F
each_on P g h e [] p = refl
each_on P g h e (y ∷ F) p = λ k. e y p.0 k ∷ each_on P g h e F p.1 k

pub all_each : {A B : Type 0} (P : A → Type 0) (Q : B → Type 0) (g : A → B) → ((y : A) → P y → Q (g y)) → (F : List A) → AllByRecursion P F → AllByRecursion Q (each g F)
all_each P Q g e [] p = tt
all_each P Q g e (y ∷ F) p = (e y p.0, all_each P Q g e F p.1)

pub all_weaker : {A : Type 0} (P Q : A → Type 0) → ((y : A) → P y → Q y) → (F : List A) → AllByRecursion P F → AllByRecursion Q F
all_weaker P Q e [] p = tt
all_weaker P Q e (y ∷ F) p = (e y p.0, all_weaker P Q e F p.1)

pub all_both : {A : Type 0} (P Q : A → Type 0) (F : List A) → AllByRecursion P F → AllByRecursion Q F → AllByRecursion (λ (y : A). P y × Q y) F
all_both P Q [] p q = tt
all_both P Q (y ∷ F) p q = ((p.0, q.0), all_both P Q F p.1 q.1)

-- ---- worlds by number

some_is : {A : Type 0} (o : Option A) (d : A) → is_some o ≡ true → o ≡ Some (unwrap_or o d)
some_is None d h = absurd (false≢true h)
some_is (Some a) d h = refl

pub found_at : (F : Worlds) (i : WorldId) → has_world F i ≡ true → find_world F i ≡ Some (world_at F i)
found_at F i h = some_is (find_world F i) (holding i map.empty) h

pub id_at : (F : Worlds) (i : WorldId) → has_world F i ≡ true → (world_at F i).id ≡ i
id_at F i h = found_id F i (world_at F i) (found_at F i h)

pub at_found : (F : Worlds) (i : WorldId) (x : World plain) → find_world F i ≡ Some x → world_at F i ≡ x
at_found F i x h = ap (λ o. unwrap_or o (holding i map.empty)) h

pub content_is : (F : Worlds) (i : WorldId) (s : Slot) → content_at F i s ≡ map.get (world_at F i).copy s
content_is F i s = by (find_world F i)
  where
    by : (o : Option (World plain)) → option_and_then (λ (x : World plain). map.get x.copy s) o ≡ map.get (unwrap_or o (holding i map.empty)).copy s
    by None = sym (map.get-empty slot_cmp s)
    by (Some x) = refl

pub all_find : (P : World plain → Type 0) (F : Worlds) (i : WorldId) (x : World plain) → AllByRecursion P F → find_world F i ≡ Some x → P x
unfolding find_world
all_find P [] i x p h = absurd (false≢true (ap is_some h))
all_find P (y ∷ F) i x p h = by (same_world y.id i) h (λ e. all_find P F i x p.1 e)
  where
    by : (b : Bool) → cond b (Some y) (find_world F i) ≡ Some x → (find_world F i ≡ Some x → P x) → P x
    by true e f = let same : y ≡ x = cc in subst P same p.0
    by false e f = f e

-- ---- the first world

some_first : (x : World plain) (F : Worlds) → is_some (first_of (x ∷ F)) ≡ true
some_first x [] = refl
some_first x (y ∷ F) = some_first y F

pub first_there : (F : Worlds) (i : WorldId) → IsReached F → first_of F ≡ Some i → has_world F i ≡ true
first_there [] i r h = absurd (false≢true (ap is_some h))
first_there (x ∷ []) i r h = let is : x.id ≡ i = cc in ap (has_world (x ∷ [])) (sym is) ∙ has_head x []
first_there (x ∷ y ∷ F) i r h = has_tail x (y ∷ F) i (first_there (y ∷ F) i r.1 h)

-- the world of the first one's number has no parent
pub first_alone : (F : Worlds) (i : WorldId) → IsReached F → first_of F ≡ Some i → AllByRecursion (λ (y : World plain). same_world y.id i ≡ true → is_some y.parent ≡ false) F
first_alone [] i r h = tt
first_alone (x ∷ []) i r h = (λ e. none_in x.parent refl, tt)
  where
    none_in : (o : Option WorldId) → x.parent ≡ o → is_some o ≡ false
    none_in None e = refl
    none_in (Some p) e = absurd (false≢true (sym (ap is_some (find_nil {n = plain} p)) ∙ r.0.parent_older p e))
first_alone (x ∷ y ∷ F) i r h = (λ e. absurd (true≢false (sym e ∙ not_older x (y ∷ F) i r (first_there (y ∷ F) i r.1 h))), first_alone (y ∷ F) i r.1 h)

pub first_each : (g : World plain → World plain) → ((y : World plain) → (g y).id ≡ y.id) → (F : Worlds) → first_of (each g F) ≡ first_of F
first_each g ids [] = refl
first_each g ids (x ∷ []) = ap (λ j. Some j) (ids x)
first_each g ids (x ∷ y ∷ F) = first_each g ids (y ∷ F)

-- a child is not the first
pub first_child : (c : World plain) (F : Worlds) (i : WorldId) → has_world F i ≡ true → first_of (c ∷ F) ≡ first_of F
unfolding find_world
first_child c [] i h = absurd (false≢true h)
first_child c (y ∷ F) i h = refl

pub first_content : (F : Worlds) (i : WorldId) (s : Slot) → first_of F ≡ Some i → map.get (first_copy F) s ≡ content_at F i s
first_content F i s h = ap (λ o. map.get (option_map_or (λ j. (world_at F j).copy) o map.empty) s) h ∙ sym (content_is F i s)

-- where a world is, one is the first
nonempty : (G : Worlds) (j : WorldId) → has_world G j ≡ true → is_some (first_of G) ≡ true
unfolding find_world
nonempty [] j h = absurd (false≢true h)
nonempty (x ∷ G) j h = some_first x G

-- ---- a child of the first world

module _ (F : Worlds) (i : WorldId) (r : IsReached F) (c : IsChild F i) where
  -- the first world is its parent, and another
  pub record Above : Type 0 where
    pub id : WorldId
    pub first : first_of F ≡ Some id
    pub up : (world_at F i).parent ≡ Some id
    pub other : same_world id i ≡ false

  pub above : Above
  above = by (first_of F) refl (nonempty F i c.there)
    where
      by : (o : Option WorldId) → first_of F ≡ o → is_some o ≡ true → Above
      by None e h = absurd (false≢true h)
      by (Some p) e h =
          let found = found_at F i c.there in
          let up : (world_at F i).parent ≡ Some p = sym (ap (option_and_then (λ (x : World plain). x.parent)) found) ∙ c.up ∙ e in
          record { id = p; first = e; up = up; other = same_turned i p (parent_other F i p (world_at F i) r found up) }

  pub parent_some : is_some (world_at F i).parent ≡ true
  parent_some = ap is_some above.up

-- a world without child is above none
below_leaf : (i : WorldId) (s : Slot) (G : Worlds) (d : WorldId) → has_child G i ≡ false → is_below i s G d ≡ false
unfolding is_below
below_leaf i s [] d h = refl
below_leaf i s (y ∷ older) d h =
    let v = or_parts (option_map_or (λ p. same_world p i) y.parent false) (has_child older i) h in
    by (same_world y.id d) (not (is_touched y s)) (up y.parent v.0 (λ p. below_leaf i s older p v.1)) (below_leaf i s older d v.1)
  where
    up : (o : Option WorldId) → option_map_or (λ p. same_world p i) o false ≡ false → ((p : WorldId) → is_below i s older p ≡ false) → option_map_or (λ p. same_world p i || is_below i s older p) o false ≡ false
    up None e f = refl
    up (Some p) e f = ap (λ b. b || is_below i s older p) e ∙ f p

    by : (a b : Bool) {c d : Bool} → c ≡ false → d ≡ false → cond a (b && c) d ≡ false
    by true true e f = e
    by true false e f = refl
    by false b e f = f

-- so a write in it changes it alone
pub write_leaf : (F : Worlds) (i : WorldId) (s : Slot) (c : Option Value) → has_child F i ≡ false → after_write F i s c ≡ at_world i (write_in s c) F
unfolding after_write
write_leaf F i s c h = λ k. each (λ (y : World plain). one y k) F
  where
    one : (y : World plain) → write_at F i s c y ≡ cond (same_world y.id i) (write_in s c y) y
    one y = ap (λ b. cond (same_world y.id i) (write_in s c y) (cond b (record y { copy = put y.copy s c }) y)) (below_leaf i s F y.id h)
