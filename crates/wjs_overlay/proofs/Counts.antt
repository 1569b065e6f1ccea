-- How many pass a test.
use Rattle.std.proofs.Common.{◌≡◌, ℕ, ◌+◌, ◌≤◌, Bool, true, false, cond, ◌||◌, List, [], ◌∷◌, ap, sym, ◌∙◌, arith}
use Rattle.std.specs.declared.cmp.Ordering.{Ordering}
use Rattle.std.specs.Ordering.{eq_by_cmp}
use Rattle.std.specs.List.{list_any}
use Rattle.std.specs.FinMap.{IsAntisymmetric}
use Rattle.std.proofs.lemmas.Bool.{false≢true}
use Rattle.wjs_base.proofs.Booleans.{by_bool}
use Rattle.wjs_store.proofs.Marks.{key_is}
use Rattle.wjs_layers.specs.Cursor.{count_passing}

count_le : {K : Type 0} (p q : K → Bool) (ss : List K) → ((s : K) → q s ≡ true → p s ≡ true) → count_passing q ss ≤ count_passing p ss
count_le p q [] f = omega arith
count_le p q (s ∷ ss) f =
    let rest : count_passing q ss ≤ count_passing p ss = count_le p q ss f in
    by_bool (q s)
    (λ e. let a : cond {A = ℕ} (q s) 1 0 ≡ 1 = ap (λ b. cond {A = ℕ} b 1 0) e in
    let b : cond {A = ℕ} (p s) 1 0 ≡ 1 = ap (λ b. cond {A = ℕ} b 1 0) (f s e) in omega arith)
    (λ e. let a : cond {A = ℕ} (q s) 1 0 ≡ 0 = ap (λ b. cond {A = ℕ} b 1 0) e in omega arith)

pub count_lt : {K : Type 0} {R : K → K → Ordering} (exact : IsAntisymmetric R) (p q : K → Bool) (ss : List K) (c : K) → ((s : K) → q s ≡ true → p s ≡ true) → list_any (eq_by_cmp R c) ss ≡ true → p c ≡ true → q c ≡ false → count_passing q ss + 1 ≤ count_passing p ss
count_lt exact p q [] c f m y n = absurd (false≢true m)
count_lt {R = R} exact p q (s ∷ ss) c f m y n = by_bool (eq_by_cmp R c s)
    (λ e.
    let is = key_is exact c s e in
    let a : cond {A = ℕ} (q s) 1 0 ≡ 0 = ap (λ b. cond {A = ℕ} b 1 0) (ap q (sym is) ∙ n) in
    let b : cond {A = ℕ} (p s) 1 0 ≡ 1 = ap (λ b. cond {A = ℕ} b 1 0) (ap p (sym is) ∙ y) in
    let rest : count_passing q ss ≤ count_passing p ss = count_le p q ss f in omega arith)
    (λ e.
    let rest : count_passing q ss + 1 ≤ count_passing p ss = count_lt exact p q ss c f (sym (ap (λ b. b || list_any (eq_by_cmp R c) ss) e) ∙ m) y n in
    by_bool (q s)
    (λ z. let a : cond {A = ℕ} (q s) 1 0 ≡ 1 = ap (λ b. cond {A = ℕ} b 1 0) z in
    let b : cond {A = ℕ} (p s) 1 0 ≡ 1 = ap (λ b. cond {A = ℕ} b 1 0) (f s z) in omega arith)
    (λ z. let a : cond {A = ℕ} (q s) 1 0 ≡ 0 = ap (λ b. cond {A = ℕ} b 1 0) z in omega arith))
