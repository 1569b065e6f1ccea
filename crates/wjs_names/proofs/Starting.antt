-- The next row at the first indices, by the rows behind holes.
use Rattle.std.proofs.Common.{◌≡◌, ℕ, zero, suc, ◌+◌, ◌-◌, ◌<◌, ◌≤◌, Bool, true, false, cond, List, [], ◌∷◌, ◌++◌, length, set, Option, None, Some, is_some, refl, ap, sym, ◌∙◌, subst, arith, length-set, length-append}
use Rattle.std.specs.Ordering.{is_lt, nat_cmp, eq_by_cmp}
use Rattle.std.specs.Cmp.{nat_cmp_total}
use Rattle.std.specs.FinMap.{find, nat_cmp-IsAntisymmetric}
use Rattle.std.specs.FinMap.Entries.{put, find-put}
use Rattle.std.specs.Map.{lookup_entry}
use Rattle.std.specs.Option.{option_map}
use Rattle.std.proofs.lemmas.Bool.{true≢false, false≢true}
use Rattle.std.proofs.lemmas.Bool.Decides.{nat_tests}
use Rattle.std.proofs.lemmas.Map.Keys.{le_from_is_le}
use Rattle.wjs_base.specs.declared.values.Name.{Name}
use Rattle.wjs_base.specs.declared.values.Name.TheVariants.{Index, Text}
use Rattle.wjs_base.specs.Order.{name_cmp}
use Rattle.wjs_base.proofs.Booleans.{by_bool}
use Rattle.wjs_base.proofs.Options.{by_option, no_none}
use Rattle.wjs_rows.specs.Order.{is_from, is_after}
use Rattle.wjs_names.specs.Dense.{dense_value}
use Rattle.wjs_names.specs.Least.{IsLeast}
use Rattle.wjs_names.specs.Lists.{IsInOrder, without}
use Rattle.wjs_names.specs.Starts.{stands, IsStarts, IsOpen, IsPassed}
use Rattle.wjs_names.proofs.Dense.{dense_set, dense_pushed, same_index, other_index, value_there}
use Rattle.wjs_names.proofs.Firsts.{from_true, no_less}
use Rattle.wjs_names.proofs.Least.{first_on}
use Rattle.wjs_names.proofs.Sorted.{find_without, sorted_put, sorted_without}

-- ---- tests

lt_true : (a b : ℕ) → a < b → is_lt (nat_cmp a b) ≡ true
lt_true a b h = grind (arith, nat_tests)

true_lt : (a b : ℕ) → is_lt (nat_cmp a b) ≡ true → a < b
true_lt a b h = grind (arith, nat_tests)

false_ge : (a b : ℕ) → is_lt (nat_cmp a b) ≡ false → b ≤ a
false_ge a b h = grind (arith, nat_tests)

eq_is : (a b : ℕ) → eq_by_cmp nat_cmp a b ≡ true → a ≡ b
eq_is a b h = grind (arith, nat_tests)

eq_true : (a b : ℕ) → a ≡ b → eq_by_cmp nat_cmp a b ≡ true
eq_true a b h = grind (arith, nat_tests)

eq_false : (a b : ℕ) → (a ≡ b → ⊥) → eq_by_cmp nat_cmp a b ≡ false
eq_false a b n = by_bool (eq_by_cmp nat_cmp a b) (λ t. absurd (n (eq_is a b t))) (λ f. f)

either_some : {A : Type 0} (b : Bool) (a : A) (o : Option A) → is_some o ≡ true → is_some (cond b (Some a) o) ≡ true
either_some true a o h = refl
either_some false a o h = h

-- a start more
find_more : (starts more : List (ℕ × Unit {0})) (k i : ℕ) → more ≡ put nat_cmp k tt starts → find nat_cmp i more ≡ cond (eq_by_cmp nat_cmp i k) (Some tt) (find nat_cmp i starts)
find_more starts more k i e = ap (find nat_cmp i) e ∙ find-put nat_cmp nat_cmp_total i k tt starts

pub starts_none : {V : Type 0} (dense : List (Option V)) (starts : List (ℕ × Unit {0})) → dense ≡ [] → starts ≡ [] → IsStarts dense starts
starts_none dense starts d e = record {
  rows = λ i s l. absurd (false≢true (sym (ap (λ es. is_some (find nat_cmp i es)) e) ∙ s));
  behind = λ i n s. absurd (false≢true (sym (ap (λ ds. stands ds (i + 1)) d) ∙ s));
  ordered = subst (IsInOrder nat_cmp) (sym e) tt;
}

module _ {V : Type 0} (dense : List (Option V)) (starts : List (ℕ × Unit {0})) (k : IsStarts dense starts) where
  -- ---- before a row is put

  pub open_same : (place : ℕ) → (0 < place → stands dense (place - 1) ≡ true) → IsOpen dense place starts
  open_same place h = record {
    rows = λ i s l n. k.rows i s l;
    behind = k.behind;
    here = λ l n. absurd (true≢false (sym (h l) ∙ n));
    ordered = k.ordered;
  }

  pub open_more : (place : ℕ) (more : List (ℕ × Unit {0})) → more ≡ put nat_cmp place tt starts → IsOpen dense place more
  open_more place more e = record {
    rows = λ i s l n. k.rows i (sym (ap is_some (find_more starts more place i e ∙ ap (λ b. cond b (Some tt) (find nat_cmp i starts)) (eq_false i place n))) ∙ s) l;
    behind = λ i n s. ap is_some (find_more starts more place (i + 1) e) ∙ either_some (eq_by_cmp nat_cmp (i + 1) place) tt (find nat_cmp (i + 1) starts) (k.behind i n s);
    here = λ l n. ap is_some (find_more starts more place place e ∙ ap (λ b. cond b (Some tt) (find nat_cmp place starts)) (eq_true place place refl));
    ordered = sorted_put nat_cmp_total starts more place tt k.ordered e;
  }

  -- ---- before one is taken out

  pub pass_same : (place : ℕ) → stands dense (place + 1) ≡ false → IsPassed dense place starts
  pass_same place h = record { starts_are = k; next = λ s. absurd (true≢false (sym s ∙ h)) }

  pub pass_more : (place next : ℕ) (more : List (ℕ × Unit {0})) → next ≡ place + 1 → stands dense next ≡ true → more ≡ put nat_cmp next tt starts → IsPassed dense place more
  pass_more place next more n t e = record {
    starts_are = record {
      rows = λ i s l. by_bool (eq_by_cmp nat_cmp i next)
          (λ q. ap (stands dense) (eq_is i next q) ∙ t)
          (λ q. k.rows i (sym (ap is_some (find_more starts more next i e ∙ ap (λ b. cond b (Some tt) (find nat_cmp i starts)) q)) ∙ s) l);
      behind = λ i h s. ap is_some (find_more starts more next (i + 1) e) ∙ either_some (eq_by_cmp nat_cmp (i + 1) next) tt (find nat_cmp (i + 1) starts) (k.behind i h s);
      ordered = sorted_put nat_cmp_total starts more next tt k.ordered e;
    };
    next = λ s. ap is_some (find_more starts more next (place + 1) e ∙ ap (λ b. cond b (Some tt) (find nat_cmp (place + 1) starts)) (eq_true (place + 1) next (sym n)));
  }

-- ---- a row is put

module _ {V : Type 0} (dense more : List (Option V)) (place : ℕ) (v : V) (starts : List (ℕ × Unit {0})) (k : IsOpen dense place starts) (grown : (i : ℕ) → i < length more → (i ≡ place → ⊥) → i < length dense) (is : (q : Name) → dense_value more q ≡ cond (eq_by_cmp name_cmp q (Index place)) (Some v) (dense_value dense q)) where
  here_now : (i : ℕ) → i ≡ place → stands more i ≡ true
  here_now i e = ap is_some (is (Index i) ∙ ap (λ b. cond b (Some v) (dense_value dense (Index i))) (same_index i place e))

  there_now : (i : ℕ) → (i ≡ place → ⊥) → stands more i ≡ stands dense i
  there_now i n = ap is_some (is (Index i) ∙ ap (λ b. cond b (Some v) (dense_value dense (Index i))) (other_index i place n))

  starts_put : IsStarts more starts
  starts_put = record {
    rows = λ i s l. by_bool (eq_by_cmp nat_cmp i place)
        (λ t. here_now i (eq_is i place t))
        (λ t. let n : i ≡ place → ⊥ = λ e. false≢true (sym t ∙ eq_true i place e) in there_now i n ∙ k.rows i s (grown i l n) n);
    behind = λ i h s.
        let n : i ≡ place → ⊥ = λ e. true≢false (sym (here_now i e) ∙ h) in
        let hole : stands dense i ≡ false = sym (there_now i n) ∙ h in
        by_bool (eq_by_cmp nat_cmp (i + 1) place)
        (λ t.
        let e : i + 1 ≡ place = eq_is (i + 1) place t in
        let l : 0 < place = omega arith in
        let b : i ≡ place - 1 = omega arith in
        ap (λ j. is_some (find nat_cmp j starts)) e ∙ k.here l (ap (stands dense) (sym b) ∙ hole))
        (λ t. let m : i + 1 ≡ place → ⊥ = λ e. false≢true (sym t ∙ eq_true (i + 1) place e) in k.behind i hole (sym (there_now (i + 1) m) ∙ s));
    ordered = k.ordered;
  }

pub starts_set : {V : Type 0} (dense : List (Option V)) (place : ℕ) (v : V) (starts : List (ℕ × Unit {0})) → place < length dense → IsOpen dense place starts → IsStarts (set dense place (Some v)) starts
starts_set dense place v starts l k = starts_put dense (set dense place (Some v)) place v starts k
    (λ i b n. let e = length-set dense place (Some v) in omega (arith, e))
    (λ q. dense_set dense place (Some v) q l)

-- a row gets another value
pub starts_replaced : {V : Type 0} (dense : List (Option V)) (place : ℕ) (v : V) (starts : List (ℕ × Unit {0})) → place < length dense → stands dense place ≡ true → IsStarts dense starts → IsStarts (set dense place (Some v)) starts
starts_replaced dense place v starts l there k = starts_set dense place v starts l (record {
  rows = λ i s b n. k.rows i s b;
  behind = k.behind;
  here = λ m h. let e : (place - 1) + 1 ≡ place = omega arith in ap (λ j. is_some (find nat_cmp j starts)) (sym e) ∙ k.behind (place - 1) h (ap (stands dense) e ∙ there);
  ordered = k.ordered;
})

pub starts_push : {V : Type 0} (dense : List (Option V)) (place : ℕ) (v : V) (starts : List (ℕ × Unit {0})) → place ≡ length dense → IsOpen dense place starts → IsStarts (dense ++ Some v ∷ []) starts
starts_push dense place v starts e k = starts_put dense (dense ++ Some v ∷ []) place v starts k
    (λ i b n. let m : length (dense ++ Some v ∷ []) ≡ length dense + 1 = length-append dense (Some v ∷ []) in less_or i (length dense) (omega arith) (λ q. n (q ∙ sym e)))
    (λ q. dense_pushed dense (Some v) q ∙ ap (λ j. cond (eq_by_cmp name_cmp q (Index j)) (Some v) (dense_value dense q)) (sym e))
  where
    less_or : (i n : ℕ) → i < n + 1 → (i ≡ n → ⊥) → i < n
    less_or i n l d = by_bool (is_lt (nat_cmp i n)) (λ t. true_lt i n t) (λ f. absurd (d (let g : n ≤ i = false_ge i n f in omega arith)))

-- a refused push leaves the list as it was
pub starts_open : {V : Type 0} (dense : List (Option V)) (place : ℕ) (starts : List (ℕ × Unit {0})) → place ≡ length dense → IsOpen dense place starts → IsStarts dense starts
starts_open dense place starts e k = record {
  rows = λ i s l. k.rows i s l (λ d. omega arith);
  behind = k.behind;
  ordered = k.ordered;
}

-- ---- a row is taken out, and maybe holes at the end go

pub starts_taken : {V : Type 0} (dense more : List (Option V)) (place : ℕ) (starts left : List (ℕ × Unit {0})) → place < length dense → IsPassed dense place starts → left ≡ without nat_cmp place starts → length more ≤ length dense
    → ((q : Name) → dense_value more q ≡ dense_value (set dense place None) q) → IsStarts more left
starts_taken dense more place starts left l k e fewer same = record {
  rows = λ i s b. by_bool (eq_by_cmp nat_cmp i place)
      (λ t. absurd (false≢true (sym (ap is_some (find_left i ∙ ap (λ c. cond c None (find nat_cmp i starts)) t)) ∙ s)))
      (λ t. other i t ∙ k.starts_are.rows i (sym (ap is_some (find_left i ∙ ap (λ c. cond c None (find nat_cmp i starts)) t)) ∙ s) (omega arith));
  behind = λ i h s.
      let n : eq_by_cmp nat_cmp (i + 1) place ≡ false = by_bool (eq_by_cmp nat_cmp (i + 1) place) (λ t. absurd (false≢true (sym (gone (i + 1) t) ∙ s))) (λ f. f) in
      let next : stands dense (i + 1) ≡ true = sym (other (i + 1) n) ∙ s in
      ap is_some (find_left (i + 1) ∙ ap (λ c. cond c None (find nat_cmp (i + 1) starts)) n)
      ∙ by_bool (eq_by_cmp nat_cmp i place)
      (λ t. let p : i ≡ place = eq_is i place t in ap (λ j. is_some (find nat_cmp (j + 1) starts)) p ∙ k.next (ap (λ j. stands dense (j + 1)) (sym p) ∙ next))
      (λ t. k.starts_are.behind i (sym (other i t) ∙ h) next);
  ordered = sorted_without nat_cmp_total starts left place k.starts_are.ordered e;
}
  where
    find_left : (i : ℕ) → find nat_cmp i left ≡ cond (eq_by_cmp nat_cmp i place) None (find nat_cmp i starts)
    find_left i = ap (find nat_cmp i) e ∙ find_without nat_cmp_total place starts i

    other : (i : ℕ) → eq_by_cmp nat_cmp i place ≡ false → stands more i ≡ stands dense i
    other i t = ap is_some (same (Index i) ∙ dense_set dense place None (Index i) l ∙ ap (λ b. cond b None (dense_value dense (Index i))) (other_index i place (λ q. false≢true (sym t ∙ eq_true i place q))))

    gone : (i : ℕ) → eq_by_cmp nat_cmp i place ≡ true → stands more i ≡ false
    gone i t = ap is_some (same (Index i) ∙ dense_set dense place None (Index i) l ∙ ap (λ b. cond b None (dense_value dense (Index i))) (same_index i place (eq_is i place t)))

-- ---- the next row

-- the row at an index
abbrev pub value_row : {V : Type 0} → ℕ → List (Option V) → Option (Name × V)
value_row i dense = option_map (λ v. (Index i, v)) (dense_value dense (Index i))

pub none_of_row : {V : Type 0} (dense : List (Option V)) (i : ℕ) → None ≡ value_row i dense → dense_value dense (Index i) ≡ None
none_of_row {V = V} dense i e = by_option (dense_value dense (Index i))
    (λ n. n)
    (λ v s. no_none (Index i, v) (e ∙ ap (option_map (λ (v : V). (Index i, v))) s))

module _ {V : Type 0} (dense : List (Option V)) (starts : List (ℕ × Unit {0})) (k : IsStarts dense starts) (start : ℕ) where
  at_start : (v : V) (i : ℕ) → start ≤ i → dense_value dense (Index i) ≡ Some v → ((j : ℕ) → start ≤ j → j < i → dense_value dense (Index j) ≡ None) → IsLeast name_cmp (dense_value dense) (is_from name_cmp (Index start)) (Some (Index i, v))
  at_start v i from is before = (from_true start i from, is, no_less dense start i before)

  first_here : (v : V) → dense_value dense (Index start) ≡ Some v → IsLeast name_cmp (dense_value dense) (is_from name_cmp (Index start)) (Some (Index start, v))
  first_here v is = at_start v start (omega arith) is (λ j a b. absurd (omega arith))

  pub first_row : (row : Name × V) → Some row ≡ value_row start dense → IsLeast name_cmp (dense_value dense) (is_from name_cmp (Index start)) (Some row)
  first_row row e = by_option (dense_value dense (Index start))
      (λ n. no_none row (sym (e ∙ ap (option_map (λ (v : V). (Index start, v))) n)))
      (λ v s. subst (IsLeast name_cmp (dense_value dense) (is_from name_cmp (Index start))) (sym (e ∙ ap (option_map (λ (v : V). (Index start, v))) s)) (first_here v s))

  -- holes go on up to a start
  run : dense_value dense (Index start) ≡ None → (stop : ℕ) → ((j : ℕ) → start < j → j < stop → is_some (find nat_cmp j starts) ≡ true → ⊥) → (n : ℕ) → start + n < stop → dense_value dense (Index (start + n)) ≡ None
  run none stop apart zero l = let e : start + zero ≡ start = omega arith in ap (λ j. dense_value dense (Index j)) e ∙ none
  run none stop apart (suc n) l =
      let e : start + suc n ≡ (start + n) + 1 = omega arith in
      let before = run none stop apart n (omega arith) in
      by_option (dense_value dense (Index (start + suc n))) (λ h. h)
      (λ v s. absurd (apart (start + suc n) (omega arith) l
      (ap (λ j. is_some (find nat_cmp j starts)) e ∙ k.behind (start + n) (ap is_some before) (ap (stands dense) (sym e) ∙ ap is_some s))))

  holes : dense_value dense (Index start) ≡ None → (stop : ℕ) → ((j : ℕ) → start < j → j < stop → is_some (find nat_cmp j starts) ≡ true → ⊥) → (j : ℕ) → start ≤ j → j < stop → dense_value dense (Index j) ≡ None
  holes none stop apart j a b = let e : start + (j - start) ≡ j = omega arith in ap (λ i. dense_value dense (Index i)) (sym e) ∙ run none stop apart (j - start) (omega arith)

  pub first_nowhere : dense_value dense (Index start) ≡ None → None ≡ lookup_entry (is_after nat_cmp start) starts → IsLeast name_cmp (dense_value dense) (is_from name_cmp (Index start)) None
  first_nowhere none h = λ q y. nothing q y
    where
      past : (j : ℕ) → is_lt (nat_cmp start j) ≡ true → find nat_cmp j starts ≡ None
      past = subst (IsLeast nat_cmp (λ j. find nat_cmp j starts) (is_after nat_cmp start)) (sym h) (first_on nat_cmp_total nat_cmp-IsAntisymmetric (is_after nat_cmp start) starts k.ordered)

      nothing : (q : Name) → is_from name_cmp (Index start) q ≡ true → dense_value dense q ≡ None
      nothing (Index j) y = holes none (j + 1) (λ i a b s. false≢true (sym (ap is_some (past i (lt_true start i a))) ∙ s)) j (le_from_is_le start j y) (omega arith)
      nothing (Text t) y = refl

  pub first_behind : dense_value dense (Index start) ≡ None → (next : ℕ × Unit {0}) → Some next ≡ lookup_entry (is_after nat_cmp start) starts → IsLeast name_cmp (dense_value dense) (is_from name_cmp (Index start)) (option_map (λ (v : V). (Index next.0, v)) (dense_value dense (Index next.0)))
  first_behind none next h =
      let f = subst (IsLeast nat_cmp (λ j. find nat_cmp j starts) (is_after nat_cmp start)) (sym h) (first_on nat_cmp_total nat_cmp-IsAntisymmetric (is_after nat_cmp start) starts k.ordered) in
      let past : start < next.0 = true_lt start next.0 f.0 in
      let apart : (j : ℕ) → start < j → j < next.0 → is_some (find nat_cmp j starts) ≡ true → ⊥ = λ j a b s. true≢false (sym (lt_true j next.0 b) ∙ f.2 j (lt_true start j a) s) in
      by_option {P = IsLeast name_cmp (dense_value dense) (is_from name_cmp (Index start)) (option_map (λ (v : V). (Index next.0, v)) (dense_value dense (Index next.0)))} (dense_value dense (Index next.0))
      (λ n. subst (λ o. IsLeast name_cmp (dense_value dense) (is_from name_cmp (Index start)) (option_map (λ (v : V). (Index next.0, v)) o)) (sym n) (λ q y. past_all apart (ap is_some f.1) n q y))
      (λ v s. subst (λ o. IsLeast name_cmp (dense_value dense) (is_from name_cmp (Index start)) (option_map (λ (v : V). (Index next.0, v)) o)) (sym s)
      (at_start v next.0 (omega arith) s (λ j a b. holes none next.0 apart j a b)))
    where
      -- a start that no row stands at is past all indices
      past_all : ((j : ℕ) → start < j → j < next.0 → is_some (find nat_cmp j starts) ≡ true → ⊥) → is_some (find nat_cmp next.0 starts) ≡ true → dense_value dense (Index next.0) ≡ None → (q : Name) → is_from name_cmp (Index start) q ≡ true → dense_value dense q ≡ None
      past_all apart found n (Text t) y = refl
      past_all apart found n (Index j) y = by_option (dense_value dense (Index j)) (λ m. m) (λ v s.
          let below : j < length dense = value_there dense j (ap is_some s) in
          by_bool (is_lt (nat_cmp j next.0))
          (λ t. holes none next.0 apart j (le_from_is_le start j y) (true_lt j next.0 t))
          (λ t.
          let past : next.0 ≤ j = false_ge j next.0 t in
          let inside : next.0 < length dense = omega arith in
          absurd (true≢false (sym (k.rows next.0 found inside) ∙ ap is_some n))))
