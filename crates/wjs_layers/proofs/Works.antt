-- How much is kept of a world and of those above it.
use Rattle.std.proofs.Common.{◌≡◌, ℕ, ◌+◌, ◌*◌, ◌≤◌, Bool, true, false, cond, not, ◌&&◌, ◌||◌, List, [], ◌∷◌, length, filter, map as each, Option, None, Some, is_some, slice_get, refl, ap, sym, ◌∙◌, arith, suc, length-append}
use Rattle.std.specs.Option.{option_map, option_map_or}
use Rattle.std.specs.Ordering.{eq_by_cmp, is_eq}
use Rattle.std.specs.Cmp.{tied_itself}
use Rattle.std.specs.List.{list_any}
use Rattle.std.specs.FinMap as map
use Rattle.std.specs.FinMap.{FinMap}
use Rattle.std.proofs.lemmas.Bool.{false≢true, or_left, or_right}
use Rattle.std.proofs.Math.Nat.{mul-le-mul_left}
use Rattle.std.proofs.lemmas.Option.{same_Some}
use Rattle.std.proofs.lemmas.List.Folds.{list_any-append}
use Rattle.wjs_base.specs.declared.ids.WorldId.{WorldId}
use Rattle.wjs_base.specs.declared.values.Slot.{Slot}
use Rattle.wjs_base.specs.Order.{slot_cmp, obj_cmp, slot_total, slot_exact}
use Rattle.wjs_base.proofs.Booleans.{by_bool}
use Rattle.wjs_base.proofs.Options.{by_option, no_none}
use Rattle.wjs_store.specs.Naming.{plain}
use Rattle.wjs_store.specs.State.{World, State, KeySet, find_world, same_world, has_row}
use Rattle.wjs_store.specs.Reached.{IsReached}
use Rattle.wjs_store.proofs.Marks.{key_is, any_filter}
use Rattle.wjs_store.proofs.Writes.{not_older}
use Rattle.wjs_store.proofs.Commits.{parent_there}
use Rattle.wjs_layers.specs.declared.layer.Spot.{Spot}
use Rattle.wjs_layers.specs.declared.layer.Layer.{Layer}
use Rattle.wjs_layers.specs.Cursor.{count_passing}
use Rattle.wjs_layers.specs.Sparse.{read_of, mark_of, full_of, Keeps, IsSparse, IsAt}
use Rattle.wjs_layers.specs.Work.{row_slots, kept_slots, kept_from}
use Rattle.wjs_layers.proofs.Places.{find_top, find_rest, find_nil}
use Rattle.wjs_layers.proofs.Full.{row_some}
use Rattle.wjs_layers.proofs.HandLaws.{above_some}
use Rattle.wjs_layers.proofs.SettleLaws.{mark_keys, row_there}

-- ---- how many pass

pub length_if : (b : Bool) (s : Slot) (ss : List Slot) → length (cond b (s ∷ ss) ss) ≡ cond b 1 0 + length ss
length_if true s ss = omega arith
length_if false s ss = omega arith

count_is : (p : Slot → Bool) (ss : List Slot) → length (filter p ss) ≡ count_passing p ss
count_is p [] = refl
count_is p (s ∷ ss) = length_if (p s) s (filter p ss) ∙ ap (λ m. cond (p s) 1 0 + m) (count_is p ss)

one_of : (b : Bool) → b ≡ true → cond {A = ℕ} b 1 0 ≡ 1
one_of b e = ap (λ b. cond {A = ℕ} b 1 0) e

none_of : (b : Bool) → b ≡ false → cond {A = ℕ} b 1 0 ≡ 0
none_of b e = ap (λ b. cond {A = ℕ} b 1 0) e

pub one_most : (b : Bool) → cond {A = ℕ} b 1 0 ≤ 1
one_most true = omega arith
one_most false = omega arith

pub count_most : {K : Type 0} (p : K → Bool) (ss : List K) → count_passing p ss ≤ length ss
count_most p [] = omega arith
count_most p (s ∷ ss) = let a = one_most (p s) in let b : count_passing p ss ≤ length ss = count_most p ss in omega (arith, a)

-- what pass one of two tests that never pass together
count_two : (q r p : Slot → Bool) (ss : List Slot) → ((s : Slot) → q s ≡ true → p s ≡ true) → ((s : Slot) → r s ≡ true → p s ≡ true) → ((s : Slot) → q s ≡ true → r s ≡ false) → count_passing q ss + count_passing r ss ≤ count_passing p ss
count_two q r p [] f g h = omega arith
count_two q r p (s ∷ ss) f g h =
    let rest : count_passing q ss + count_passing r ss ≤ count_passing p ss = count_two q r p ss f g h in
    by_bool (q s)
    (λ e.
    let a = one_of (q s) e in
    let b = none_of (r s) (h s e) in
    let c = one_of (p s) (f s e) in
    omega (arith, a, b, c, rest))
    (λ e.
    let a = none_of (q s) e in
    by_bool (r s)
    (λ z.
    let b = one_of (r s) z in
    let c = one_of (p s) (g s z) in
    omega (arith, a, b, c, rest))
    (λ z. let b = none_of (r s) z in omega (arith, a, b, rest)))

count_one : (s : Slot) (ss : List Slot) → list_any (eq_by_cmp slot_cmp s) ss ≡ true → 1 ≤ count_passing (eq_by_cmp slot_cmp s) ss
count_one s [] h = absurd (false≢true h)
count_one s (t ∷ ts) h = by_bool (eq_by_cmp slot_cmp s t)
    (λ e. let a = one_of (eq_by_cmp slot_cmp s t) e in omega (arith, a))
    (λ e. let b : 1 ≤ count_passing (eq_by_cmp slot_cmp s) ts = count_one s ts (sym (ap (λ b. b || list_any (eq_by_cmp slot_cmp s) ts) e) ∙ h) in omega (arith, b))

-- ---- over a world and those above it

from_top : (p : Slot → Bool) (x : World plain) (older : State plain) (w : WorldId) → same_world x.id w ≡ true → kept_from p (x ∷ older) w ≡ length (filter p (kept_slots x)) + option_map_or (λ v. kept_from p older v) x.parent 0
unfolding kept_from
from_top p x older w e = ap (λ b. cond b (length (filter p (kept_slots x)) + option_map_or (λ v. kept_from p older v) x.parent 0) (kept_from p older w)) e

from_rest : (p : Slot → Bool) (x : World plain) (older : State plain) (w : WorldId) → same_world x.id w ≡ false → kept_from p (x ∷ older) w ≡ kept_from p older w
unfolding kept_from
from_rest p x older w e = ap (λ b. cond b (length (filter p (kept_slots x)) + option_map_or (λ v. kept_from p older v) x.parent 0) (kept_from p older w)) e

from_none : (p : Slot → Bool) (w : WorldId) → kept_from p [] w ≡ 0
unfolding kept_from
from_none p w = refl

two_up : (a b c : WorldId → ℕ) → ((v : WorldId) → a v + b v ≤ c v) → (o : Option WorldId) → option_map_or a o 0 + option_map_or b o 0 ≤ option_map_or c o 0
two_up a b c h None = omega arith
two_up a b c h (Some v) = h v

pub kept_two : (q r p : Slot → Bool) → ((s : Slot) → q s ≡ true → p s ≡ true) → ((s : Slot) → r s ≡ true → p s ≡ true) → ((s : Slot) → q s ≡ true → r s ≡ false) → (F : State plain) (w : WorldId) → kept_from q F w + kept_from r F w ≤ kept_from p F w
kept_two q r p f g h [] w = let a = from_none q w in let b = from_none r w in omega (arith, a, b)
kept_two q r p f g h (x ∷ older) w = by_bool (same_world x.id w)
    (λ e.
    let ss = kept_slots x in
    let a = from_top q x older w e in
    let b = from_top r x older w e in
    let c = from_top p x older w e in
    let i = count_is q ss in
    let j = count_is r ss in
    let k = count_is p ss in
    let here = count_two q r p ss f g h in
    let up = two_up (λ v. kept_from q older v) (λ v. kept_from r older v) (λ v. kept_from p older v) (λ v. kept_two q r p f g h older v) x.parent in
    omega (arith, a, b, c, i, j, k, here, up))
    (λ e.
    let a = from_rest q x older w e in
    let b = from_rest r x older w e in
    let c = from_rest p x older w e in
    let rest : kept_from q older w + kept_from r older w ≤ kept_from p older w = kept_two q r p f g h older w in
    omega (arith, a, b, c, rest))

pub kept_here : (p : Slot → Bool) (F : State plain) (w : WorldId) (x : World plain) → find_world F w ≡ Some x → length (filter p (kept_slots x)) ≤ kept_from p F w
kept_here p [] w x f = no_none x (sym (find_nil w) ∙ f)
kept_here p (y ∷ older) w x f = by_bool (same_world y.id w)
    (λ e.
    let is = same_Some y x (sym (find_top y older w e) ∙ f) in
    let a = from_top p y older w e in
    let b = ap (λ (z : World plain). length (filter p (kept_slots z))) is in
    omega (arith, a, b))
    (λ e.
    let a = from_rest p y older w e in
    let b : length (filter p (kept_slots x)) ≤ kept_from p older w = kept_here p older w x (sym (find_rest y older w e) ∙ f) in
    omega (arith, a, b))

-- above a world there is no more than from it on
pub kept_up : (p : Slot → Bool) (F : State plain) (w v : WorldId) (x : World plain) → IsReached F → find_world F w ≡ Some x → x.parent ≡ Some v → kept_from p F v ≤ kept_from p F w
kept_up p [] w v x h f e = let a = from_none p v in omega (arith, a)
kept_up p (y ∷ older) w v x h f e = by_bool (same_world y.id w)
    (λ b.
    let up : y.parent ≡ Some v = ap (λ (z : World plain). z.parent) (same_Some y x (sym (find_top y older w b) ∙ f)) ∙ e in
    let a = from_top p y older w b in
    let c = ap (λ o. option_map_or (λ v. kept_from p older v) o 0) up in
    let d = from_rest p y older v (not_older y older v h (h.0.parent_older v up)) in
    omega (arith, a, c, d))
    (λ b.
    let f' = sym (find_rest y older w b) ∙ f in
    let a = from_rest p y older w b in
    let d = from_rest p y older v (not_older y older v h (parent_there older w v x h.1 f' e)) in
    let rest : kept_from p older v ≤ kept_from p older w = kept_up p older w v x h.1 f' e in
    omega (arith, a, d, rest))

-- ---- rows of a layer

-- a slot with a row is among the slots with a row
row_listed : (x : World plain) (s : Slot) → has_row x s ≡ true → list_any (eq_by_cmp slot_cmp s) (row_slots x) ≡ true
row_listed x s h =
    let e = eq_by_cmp slot_cmp s in
    let fresh : Slot → Bool = λ t. not (map.contains_key x.first t) in
    list_any-append e (map.keys x.first) (filter fresh (map.keys x.written))
    ∙ by_bool (map.contains_key x.first s)
    (λ a. or_left (list_any e (map.keys x.first)) (list_any e (filter fresh (map.keys x.written))) (sym (map.contains_key-keys x.first s) ∙ a))
    (λ a. or_right (list_any e (map.keys x.first)) (list_any e (filter fresh (map.keys x.written)))
    (any_filter e fresh (map.keys x.written) (λ k y. ap (λ t. not (map.contains_key x.first t)) (sym (key_is slot_exact s k y)) ∙ ap not a)
    (sym (map.contains_key-keys x.written s) ∙ sym (ap (λ b. b || map.contains_key x.written s) a) ∙ h)))

module _ (r : Layer) (x : World plain) (k : Keeps r x) where
  parent_is : (b : Bool) → is_some r.above ≡ b → is_some x.parent ≡ b
  parent_is b e = ap is_some k.parent ∙ some_map r.above ∙ e
    where
      some_map : (o : Option Spot) → is_some (option_map (λ (a : Spot). a.world) o) ≡ is_some o
      some_map None = refl
      some_map (Some a) = refl

  -- a slot with a row in the layer is kept
  row_kept : (s : Slot) → is_some (map.get r.rows s) ≡ true → list_any (eq_by_cmp slot_cmp s) (kept_slots x) ≡ true
  row_kept s h = by_option (map.get r.rows s)
      (λ e. absurd (false≢true (sym (ap is_some e) ∙ h)))
      (λ row e. by_option r.above
      (λ u.
      ap (λ b. list_any (eq_by_cmp slot_cmp s) (cond b (row_slots x) (map.keys x.copy))) (parent_is false (ap is_some u))
      ∙ sym (map.contains_key-keys x.copy s) ∙ ap is_some (k.now s row e) ∙ k.present s row u e)
      (λ a u.
      ap (λ b. list_any (eq_by_cmp slot_cmp s) (cond b (row_slots x) (map.keys x.copy))) (parent_is true (ap is_some u))
      ∙ row_listed x s (row_some r x k s row (ap is_some u) e)))

  pub row_counted : (s : Slot) → is_some (map.get r.rows s) ≡ true → 1 ≤ length (filter (eq_by_cmp slot_cmp s) (kept_slots x))
  row_counted s h =
      let a = count_one s (kept_slots x) (row_kept s h) in
      let b = count_is (eq_by_cmp slot_cmp s) (kept_slots x) in
      omega (arith, a, b)

-- ---- as many rows as slots with a row

filter_twice : (p q : Slot → Bool) (ss : List Slot) → length (filter p (filter q ss)) ≡ count_passing (λ s. q s && p s) ss
filter_twice p q [] = refl
filter_twice p q (s ∷ ss) = by_bool (q s)
    (λ e. ap (λ b. length (filter p (cond b (s ∷ filter q ss) (filter q ss)))) e ∙ length_if (p s) s (filter p (filter q ss)) ∙ ap (λ m. cond (p s) 1 0 + m) (filter_twice p q ss) ∙ ap (λ b. cond (b && p s) 1 0 + count_passing (λ s. q s && p s) ss) (sym e))
    (λ e. let z : 0 + count_passing (λ s. q s && p s) ss ≡ count_passing (λ s. q s && p s) ss = omega arith in
    ap (λ b. length (filter p (cond b (s ∷ filter q ss) (filter q ss)))) e ∙ filter_twice p q ss ∙ sym z ∙ ap (λ b. cond (b && p s) 1 0 + count_passing (λ s. q s && p s) ss) (sym e))

-- each passes one test or the other
count_cover : (p q : Slot → Bool) (ss : List Slot) → ((s : Slot) → list_any (eq_by_cmp slot_cmp s) ss ≡ true → (p s || q s) ≡ true) → length ss ≤ count_passing p ss + count_passing (λ s. q s && not (p s)) ss
count_cover p q [] f = omega arith
count_cover p q (s ∷ ss) f =
    let rest : length ss ≤ count_passing p ss + count_passing (λ s. q s && not (p s)) ss = count_cover p q ss (λ t e. f t (or_right (eq_by_cmp slot_cmp t s) (list_any (eq_by_cmp slot_cmp t) ss) e)) in
    by_bool (p s)
    (λ e. let a = one_of (p s) e in omega (arith, a, rest))
    (λ e.
    let y : (q s && not (p s)) ≡ true = both (q s) (p s) e (sym (ap (λ b. b || q s) e) ∙ f s (or_left (eq_by_cmp slot_cmp s s) (list_any (eq_by_cmp slot_cmp s) ss) (ap is_eq (tied_itself slot_total s)))) in
    let b = one_of (q s && not (p s)) y in
    omega (arith, b, rest))
  where
    both : (a b : Bool) → b ≡ false → a ≡ true → (a && not b) ≡ true
    both true b e h = ap not e
    both false b e h = absurd (false≢true h)

pub length_each : {A B : Type 0} (f : A → B) (xs : List A) → length (each f xs) ≡ length xs
length_each f [] = refl
length_each f (x ∷ xs) = ap suc (length_each f xs)

length_keys : {V : Type 0} (m : FinMap slot_cmp V) → length (map.keys m) ≡ length (map.entries m)
length_keys m = length_each (λ e. e.0) (map.entries m)

rows_many : (r : Layer) (x : World plain) → Keeps r x → is_some x.parent ≡ true → length (map.keys r.rows) ≤ length (row_slots x)
rows_many r x k px =
    let ks = map.keys r.rows in
    let p : Slot → Bool = λ s. is_some (map.get x.first s) in
    let q : Slot → Bool = λ s. is_some (map.get x.written s) in
    let fresh : Slot → Bool = λ t. not (map.contains_key x.first t) in
    let a : length (row_slots x) ≡ length (map.keys x.first) + length (filter fresh (map.keys x.written)) = length-append (map.keys x.first) (filter fresh (map.keys x.written)) in
    let b : length (map.keys x.first) ≡ count_passing p ks = ap length (mark_keys x.first r.rows (λ t h. row_there r x k read_of t (sym (ap is_some (k.first t)) ∙ h))) ∙ count_is p ks in
    let d : length (filter fresh (map.keys x.written)) ≡ count_passing (λ s. q s && not (p s)) ks = ap (λ ss. length (filter fresh ss)) (mark_keys x.written r.rows (λ t h. row_there r x k mark_of t (sym (ap is_some (k.written t)) ∙ h))) ∙ filter_twice fresh q ks in
    let e : length ks ≤ count_passing p ks + count_passing (λ s. q s && not (p s)) ks = count_cover p q ks (λ s h. by_option (map.get r.rows s)
    (λ z. absurd (false≢true (sym (ap is_some z) ∙ map.contains_key-keys r.rows s ∙ h)))
    (λ row z. row_some r x k s row (above_some r x k px) z)) in
    omega (arith, a, b, d, e)

-- ---- products

pub times_le : (k a b : ℕ) → a ≤ b → a * k ≤ b * k
times_le k a b h = omega (arith, mul-le-mul_left k h)

-- ---- the work in a layer's world

length_closed : (m : KeySet obj_cmp) → length (map.keys m) ≡ map.len m
length_closed m = length_each (λ e. e.0) (map.entries m) ∙ sym (map.len-entries m)

module _ (layers : List Layer) (h : IsSparse layers) (at : Spot) (here : IsAt layers at) (r : Layer) (s : slice_get layers at.place ≡ Some r) (x : World plain) (f : find_world (full_of layers) at.world ≡ Some x) where
  kept_x : Keeps r x
  kept_x = h.kept.at at.world at.place x r here f s

  -- the layer's listed objects are the world's
  pub closed_work : (w : WorldId) (j k : ℕ) → length (map.keys r.closed) * j + kept_from (λ (t : Slot). map.contains_key r.closed t.object) (full_of layers) w * k ≡ map.len x.closed * j + kept_from (λ (t : Slot). map.contains_key x.closed t.object) (full_of layers) w * k
  closed_work w j k =
      ap (λ n. n * j + kept_from (λ (t : Slot). map.contains_key r.closed t.object) (full_of layers) w * k) (length_closed r.closed)
      ∙ ap (λ m. map.len m * j + kept_from (λ (t : Slot). map.contains_key m t.object) (full_of layers) w * k) (sym kept_x.closed)

  pub rows_work : (k : ℕ) → is_some x.parent ≡ true → length (map.keys r.rows) * k ≤ length (row_slots x) * k
  rows_work k p = times_le k _ _ (rows_many r x kept_x p)

  rows_least : is_some x.parent ≡ true → length (map.entries r.rows) ≤ length (row_slots x)
  rows_least p = let a = rows_many r x kept_x p in let b = length_keys r.rows in omega (arith, a, b)

  pub rows_under : (a : Spot) → r.above ≡ Some a → length (map.entries r.rows) ≤ length (row_slots x)
  rows_under a u = rows_least (ap is_some (kept_x.parent ∙ ap (option_map (λ (b : Spot). b.world)) u))

  pub closed_many : length (map.keys r.closed) ≡ map.len x.closed
  closed_many = length_closed r.closed ∙ ap (λ m. map.len m) (sym kept_x.closed)
