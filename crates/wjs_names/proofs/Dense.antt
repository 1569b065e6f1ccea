-- What the rows at the first indices and those at all other names have at a name.
use Rattle.std.proofs.Common.{◌≡◌, ℕ, zero, suc, ◌+◌, ◌<◌, ◌≤◌, Bool, true, false, cond, ltb, List, [], ◌∷◌, ◌++◌, length, set, length-set, Option, None, Some, is_some, slice_get, refl, ap, sym, ◌∙◌, arith, ltb-true, ltb-false, lt-ltb}
use Rattle.std.specs.Ordering.{is_eq, nat_cmp, eq_by_cmp}
use Rattle.std.specs.FinMap as map
use Rattle.std.specs.FinMap.{FinMap, find}
use Rattle.std.specs.Option.{option_or}
use Rattle.std.proofs.lemmas.Bool.{false≢true}
use Rattle.std.proofs.lemmas.Bool.Decides.{nat_tests}
use Rattle.std.proofs.lemmas.Option.{slice_get_past, same_Some}
use Rattle.wjs_base.specs.declared.ids.TextId.{TextId}
use Rattle.wjs_base.specs.declared.values.Name.{Name}
use Rattle.wjs_base.specs.declared.values.Name.TheVariants.{Index, Text}
use Rattle.wjs_base.specs.Order.{name_cmp, name_total, name_exact}
use Rattle.wjs_base.proofs.Booleans.{by_bool}
use Rattle.wjs_base.proofs.Options.{no_none}
use Rattle.wjs_base.proofs.Lists.{get_last, get_set_same, get_set_other}
use Rattle.wjs_names.specs.Dense.{index_in, held_in, dense_value, dense_rows, IsBeside}
use Rattle.wjs_names.specs.Lists.{IsInOrder}
use Rattle.wjs_names.proofs.Basics.{key_is, or_none, or_first, or_second}
use Rattle.wjs_names.proofs.Lists.{find_append}

-- ---- indices

pub by_lt : {P : Type 0} (a b : ℕ) → (a < b → P) → (b ≤ a → P) → P
by_lt a b f g = by_bool (ltb a b) (λ t. f (ltb-true a b t)) (λ t. g (ltb-false a b t))

pub same_index : (a b : ℕ) → a ≡ b → eq_by_cmp name_cmp (Index a) (Index b) ≡ true
same_index a b e = grind (arith, nat_tests)

pub other_index : (a b : ℕ) → (a ≡ b → ⊥) → eq_by_cmp name_cmp (Index a) (Index b) ≡ false
other_index a b n = by_bool (is_eq (nat_cmp a b)) (λ t. absurd (n (grind (arith, nat_tests)))) (λ f. f)

pub record IsIndex (n : ℕ) (name : Name) (i : ℕ) : Type 0 where
  pub name_is : name ≡ Index i
  pub below : i < n

pub placed : (n : ℕ) (name : Name) (i : ℕ) → index_in n name ≡ Some i → IsIndex n name i
placed n (Index j) i h = by_bool (ltb j n)
    (λ t. let e = same_Some j i (sym (ap (λ c. cond c (Some j) None) t) ∙ h) in
    let l : j < n = ltb-true j n t in
    record { name_is = ap Index e; below = omega arith })
    (λ f. no_none i (sym (ap (λ c. cond c (Some j) None) f) ∙ h))
placed n (Text t) i h = no_none i h

index_at : (n i : ℕ) → i < n → index_in n (Index i) ≡ Some i
index_at n i l = ap (λ c. cond c (Some i) None) (lt-ltb i n l)

-- ---- values

module _ {V : Type 0} where
  none_text : (t : TextId) (i : ℕ) (dense : List (Option V)) → find name_cmp (Text t) (dense_rows i dense) ≡ None
  none_text t i [] = refl
  none_text t i (None ∷ dense) = none_text t (i + 1) dense
  none_text t i (Some v ∷ dense) = none_text t (i + 1) dense

  none_low : (j i : ℕ) (dense : List (Option V)) → j < i → find name_cmp (Index j) (dense_rows i dense) ≡ None
  none_low j i [] l = refl
  none_low j i (None ∷ dense) l = none_low j (i + 1) dense (omega arith)
  none_low j i (Some v ∷ dense) l = ap (λ b. cond b (Some v) (find name_cmp (Index j) (dense_rows (i + 1) dense))) (other_index j i (λ e. omega arith)) ∙ none_low j (i + 1) dense (omega arith)

  found_index : (i n : ℕ) (dense : List (Option V)) (j : ℕ) → j ≡ i + n → find name_cmp (Index j) (dense_rows i dense) ≡ held_in (slice_get dense n)
  found_index i n [] j e = refl
  found_index i zero (None ∷ dense) j e = none_low j (i + 1) dense (omega arith)
  found_index i zero (Some v ∷ dense) j e = ap (λ b. cond b (Some v) (find name_cmp (Index j) (dense_rows (i + 1) dense))) (same_index j i (omega arith))
  found_index i (suc n) (None ∷ dense) j e = found_index (i + 1) n dense j (omega arith)
  found_index i (suc n) (Some v ∷ dense) j e = ap (λ b. cond b (Some v) (find name_cmp (Index j) (dense_rows (i + 1) dense))) (other_index j i (λ d. omega arith)) ∙ found_index (i + 1) n dense j (omega arith)

  find_dense : (dense : List (Option V)) (q : Name) → find name_cmp q (dense_rows 0 dense) ≡ dense_value dense q
  find_dense dense (Index j) = found_index 0 j dense j (omega arith)
  find_dense dense (Text t) = none_text t 0 dense

  -- all rows
  abbrev pub all : List (Option V) → List (Name × V) → FinMap name_cmp V
  all dense rest = map.from_entries (dense_rows 0 dense ++ rest)

  pub get_all : (dense : List (Option V)) (rest : List (Name × V)) (q : Name) → map.get (all dense rest) q ≡ option_or (dense_value dense q) (find name_cmp q rest)
  get_all dense rest q =
      map.get-from_entries name_total (dense_rows 0 dense ++ rest) q
      ∙ find_append name_cmp q (dense_rows 0 dense) rest
      ∙ ap (λ o. option_or o (find name_cmp q rest)) (find_dense dense q)

  value_past : (dense : List (Option V)) (q : Name) → index_in (length dense) q ≡ None → dense_value dense q ≡ None
  value_past dense (Index j) h = by_bool (ltb j (length dense))
      (λ t. no_none j (sym h ∙ ap (λ c. cond c (Some j) None) t))
      (λ f. ap held_in (slice_get_past dense j (ltb-false j (length dense) f)))
  value_past dense (Text t) h = refl

  -- what is there has a place
  pub value_there : (dense : List (Option V)) (i : ℕ) → is_some (dense_value dense (Index i)) ≡ true → i < length dense
  value_there dense i s = by_lt i (length dense) (λ l. l) (λ l. absurd (false≢true (sym (ap (λ o. is_some (held_in o)) (slice_get_past dense i l)) ∙ s)))

  -- where there is no row among the others
  none_beside : (n : ℕ) (rest : List (Name × V)) (name : Name) (i : ℕ) → IsBeside n rest → index_in n name ≡ Some i → find name_cmp name rest ≡ None
  none_beside n rest name i beside h = let p = placed n name i h in ap (λ x. find name_cmp x rest) p.name_is ∙ beside.apart i p.below

  pub get_index : (dense : List (Option V)) (rest : List (Name × V)) (name : Name) (i : ℕ) → IsBeside (length dense) rest → index_in (length dense) name ≡ Some i → map.get (all dense rest) name ≡ dense_value dense (Index i)
  get_index dense rest name i beside h =
      let p = placed (length dense) name i h in
      get_all dense rest name
      ∙ ap (option_or (dense_value dense name)) (none_beside (length dense) rest name i beside h)
      ∙ or_none (dense_value dense name)
      ∙ ap (dense_value dense) p.name_is

  pub get_rest : (dense : List (Option V)) (rest : List (Name × V)) (name : Name) → index_in (length dense) name ≡ None → map.get (all dense rest) name ≡ find name_cmp name rest
  get_rest dense rest name h = get_all dense rest name ∙ ap (λ o. option_or o (find name_cmp name rest)) (value_past dense name h)

-- ---- changes

pushed_other : {A : Type 0} (xs : List A) (x : A) (j : ℕ) → (j ≡ length xs → ⊥) → slice_get (xs ++ x ∷ []) j ≡ slice_get xs j
pushed_other [] x zero n = absurd (n refl)
pushed_other [] x (suc j) n = refl
pushed_other (y ∷ xs) x zero n = refl
pushed_other (y ∷ xs) x (suc j) n = pushed_other xs x j (λ e. n (ap suc e))

module _ {V : Type 0} where
  pub dense_set : (dense : List (Option V)) (i : ℕ) (w : Option V) (q : Name) → i < length dense → dense_value (set dense i w) q ≡ cond (eq_by_cmp name_cmp q (Index i)) w (dense_value dense q)
  dense_set dense i w (Text t) l = refl
  dense_set dense i w (Index j) l = by_bool (is_eq (nat_cmp j i))
      (λ t. let e : j ≡ i = grind (arith, nat_tests) in
      ap (λ n. held_in (slice_get (set dense i w) n)) e
      ∙ ap held_in (get_set_same dense i w l)
      ∙ sym (ap (λ b. cond b w (held_in (slice_get dense j))) t))
      (λ f. let n : j ≡ i → ⊥ = λ e. false≢true (sym f ∙ same_index j i e) in
      ap held_in (get_set_other dense i j w (λ e. n (sym e)))
      ∙ sym (ap (λ b. cond b w (held_in (slice_get dense j))) f))

  pub dense_pushed : (dense : List (Option V)) (w : Option V) (q : Name) → dense_value (dense ++ w ∷ []) q ≡ cond (eq_by_cmp name_cmp q (Index (length dense))) w (dense_value dense q)
  dense_pushed dense w (Text t) = refl
  dense_pushed dense w (Index j) = by_bool (is_eq (nat_cmp j (length dense)))
      (λ t. let e : j ≡ length dense = grind (arith, nat_tests) in
      ap (λ n. held_in (slice_get (dense ++ w ∷ []) n)) e
      ∙ ap held_in (get_last dense w)
      ∙ sym (ap (λ b. cond b w (held_in (slice_get dense j))) t))
      (λ f. let n : j ≡ length dense → ⊥ = λ e. false≢true (sym f ∙ same_index j (length dense) e) in
      ap held_in (pushed_other dense w j n)
      ∙ sym (ap (λ b. cond b w (held_in (slice_get dense j))) f))

  pub held_changed : (dense more : List (Option V)) (rest : List (Name × V)) (name : Name) (w : Option V) → find name_cmp name rest ≡ None
      → ((q : Name) → dense_value more q ≡ cond (eq_by_cmp name_cmp q name) w (dense_value dense q))
      → (q : Name) → map.get (all more rest) q ≡ cond (eq_by_cmp name_cmp q name) w (map.get (all dense rest) q)
  held_changed dense more rest name w none h q =
      get_all more rest q
      ∙ ap (λ o. option_or o (find name_cmp q rest)) (h q)
      ∙ or_first (eq_by_cmp name_cmp q name) w (dense_value dense q) (find name_cmp q rest) (λ t. ap (λ x. find name_cmp x rest) (key_is name_exact q name t) ∙ none)
      ∙ sym (ap (cond (eq_by_cmp name_cmp q name) w) (get_all dense rest q))

  -- the value at a place changes, and maybe holes at the end go
  pub place_changed : (dense more : List (Option V)) (rest : List (Name × V)) (name : Name) (i : ℕ) (w : Option V) → IsBeside (length dense) rest → index_in (length dense) name ≡ Some i
      → ((q : Name) → dense_value more q ≡ dense_value (set dense i w) q)
      → (q : Name) → map.get (all more rest) q ≡ cond (eq_by_cmp name_cmp q name) w (map.get (all dense rest) q)
  place_changed dense more rest name i w beside h same =
      let p = placed (length dense) name i h in
      held_changed dense more rest name w (none_beside (length dense) rest name i beside h)
      (λ q. same q ∙ dense_set dense i w q p.below ∙ ap (λ k. cond (eq_by_cmp name_cmp q k) w (dense_value dense q)) (sym p.name_is))

  pub rest_changed : (dense : List (Option V)) (rest more : List (Name × V)) (name : Name) (w : Option V) → index_in (length dense) name ≡ None
      → ((q : Name) → find name_cmp q more ≡ cond (eq_by_cmp name_cmp q name) w (find name_cmp q rest))
      → (q : Name) → map.get (all dense more) q ≡ cond (eq_by_cmp name_cmp q name) w (map.get (all dense rest) q)
  rest_changed dense rest more name w none h q =
      get_all dense more q
      ∙ ap (option_or (dense_value dense q)) (h q)
      ∙ or_second (eq_by_cmp name_cmp q name) w (dense_value dense q) (find name_cmp q rest) (λ t. ap (dense_value dense) (key_is name_exact q name t) ∙ value_past dense name none)
      ∙ sym (ap (cond (eq_by_cmp name_cmp q name) w) (get_all dense rest q))

  pub rest_beside : (n : ℕ) (rest more : List (Name × V)) (name : Name) (w : Option V) → IsBeside n rest → index_in n name ≡ None
      → ((q : Name) → find name_cmp q more ≡ cond (eq_by_cmp name_cmp q name) w (find name_cmp q rest)) → IsInOrder name_cmp more → IsBeside n more
  rest_beside n rest more name w beside none h ordered = record {
    short = beside.short;
    apart = λ i l.
        h (Index i)
        ∙ ap (λ b. cond b w (find name_cmp (Index i) rest)) (by_bool (eq_by_cmp name_cmp (Index i) name) (λ t. no_none i (sym none ∙ ap (index_in n) (sym (key_is name_exact (Index i) name t)) ∙ index_at n i l)) (λ f. f))
        ∙ beside.apart i l;
    ordered = ordered;
  }

  pub fewer_beside : (n m : ℕ) (rest : List (Name × V)) → IsBeside n rest → m ≤ n → IsBeside m rest
  fewer_beside n m rest beside l = record {
    short = let s = beside.short in omega arith;
    apart = λ i b. beside.apart i (omega arith);
    ordered = beside.ordered;
  }

  pub inserted : (old new : FinMap name_cmp V) (name : Name) (v : V) → ((q : Name) → map.get new q ≡ cond (eq_by_cmp name_cmp q name) (Some v) (map.get old q)) → new ≡ map.insert old name v
  inserted old new name v h = map.same_map name_total name_exact new (map.insert old name v) (λ q. h q ∙ sym (map.get-insert name_total old name v q))

  pub removed : (old new : FinMap name_cmp V) (name : Name) → ((q : Name) → map.get new q ≡ cond (eq_by_cmp name_cmp q name) None (map.get old q)) → new ≡ map.remove old name
  removed old new name h = map.same_map name_total name_exact new (map.remove old name) (λ q. h q ∙ sym (map.get-remove name_total old name q))

-- a value is put where there is one
pub held_length : {V : Type 0} (dense new : List (Option V)) (place : ℕ) (v : V) (b : Bool) → new ≡ cond b (set dense place (Some v)) dense → length new ≡ length dense
held_length dense new place v true e = ap length e ∙ length-set dense place (Some v)
held_length dense new place v false e = ap length e

pub held_replaced : {V : Type 0} (dense new : List (Option V)) (rest : List (Name × V)) (name : Name) (place : ℕ) (v : V) (b : Bool) → IsBeside (length dense) rest → index_in (length dense) name ≡ Some place → new ≡ cond b (set dense place (Some v)) dense → all new rest ≡ cond b (map.insert (all dense rest) name v) (all dense rest)
held_replaced dense new rest name place v true beside at e = inserted (all dense rest) (all new rest) name v (place_changed dense new rest name place (Some v) beside at (λ q. ap (λ d. dense_value d q) e))
held_replaced dense new rest name place v false beside at e = ap (λ d. all d rest) e
