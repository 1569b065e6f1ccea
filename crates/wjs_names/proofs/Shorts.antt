-- Up to three rows in order, one after another.
use Rattle.std.proofs.Common.{◌≡◌, ℕ, Bool, true, false, cond, not, T, List, [], ◌∷◌, get_or, Option, None, Some, IfSome, is_some, refl, ap, sym, ◌∙◌, ◌<◌, arith}
use Rattle.std.specs.declared.cmp.Ordering.{Ordering}
use Rattle.std.specs.declared.cmp.Ordering.TheVariants.{Less, Equal, Greater}
use Rattle.std.specs.Ordering.{is_lt, is_le, is_eq, is_gt}
use Rattle.std.specs.Cmp.{IsTotalOrder}
use Rattle.std.specs.FinMap.Entries.{put, find, is_sorted, below_all, by_order}
use Rattle.std.proofs.lemmas.Bool.{true≢false, false≢true}
use Rattle.wjs_base.proofs.Booleans.{left_true, right_true, by_bool}
use Rattle.wjs_base.proofs.Options.{no_none}
use Rattle.wjs_names.specs.Lists.{without}
use Rattle.wjs_names.proofs.Basics.{by_cmp, equal_is, greater_is, less_left}
use Rattle.wjs_names.proofs.Lists.{none_below, all_without, below_tied, below_less}
use Rattle.wjs_names.proofs.Seeks.{past_greater}

-- not greater is no later, and not equal either is earlier
pub not_gt : (o : Ordering) → not (is_gt o) ≡ is_le o
not_gt Less = refl
not_gt Equal = refl
not_gt Greater = refl

pub not_eq : (o : Ordering) → is_gt o ≡ false → not (is_eq o) ≡ is_lt o
not_eq Less f = refl
not_eq Equal f = refl
not_eq Greater f = absurd (true≢false f)

pub gt_not_lt : (o : Ordering) → is_gt o ≡ true → is_lt o ≡ false
gt_not_lt Less t = absurd (false≢true t)
gt_not_lt Equal t = absurd (false≢true t)
gt_not_lt Greater t = refl

pub if_some : {A : Type 0} {P Q : A → Type 0} (o : Option A) → ((a : A) → P a → Q a) → IfSome o P → IfSome o Q
if_some None f h = tt
if_some (Some a) f h = f a h

module _ {K V : Type 0} {R : K → K → Ordering} (total : IsTotalOrder R) (k : K) where
  -- ---- where a value goes

  put_less : (v : V) (e : K × V) (es : List (K × V)) → R k e.0 ≡ Less → put R k v (e ∷ es) ≡ (k, v) ∷ e ∷ es
  put_less v e es o = ap (λ c. by_order c ((k, v) ∷ e ∷ es) ((e.0, v) ∷ es) (e ∷ put R k v es)) o

  put_equal : (v : V) (e : K × V) (es : List (K × V)) → R k e.0 ≡ Equal → put R k v (e ∷ es) ≡ (e.0, v) ∷ es
  put_equal v e es o = ap (λ c. by_order c ((k, v) ∷ e ∷ es) ((e.0, v) ∷ es) (e ∷ put R k v es)) o

  put_greater : (v : V) (e : K × V) (es : List (K × V)) → R k e.0 ≡ Greater → put R k v (e ∷ es) ≡ e ∷ put R k v es
  put_greater v e es o = ap (λ c. by_order c ((k, v) ∷ e ∷ es) ((e.0, v) ∷ es) (e ∷ put R k v es)) o

  -- ---- what is found

  pub find_first : (e : K × V) (es : List (K × V)) (v : V) → Some v ≡ find R k (e ∷ []) → Some v ≡ find R k (e ∷ es)
  find_first e es v h = by_bool (is_eq (R k e.0))
      (λ t. h ∙ ap (λ b. cond b (Some e.1) None) t ∙ sym (ap (λ b. cond b (Some e.1) (find R k es)) t))
      (λ t. no_none v (sym (h ∙ ap (λ b. cond b (Some e.1) None) t)))

  pub find_next : (e : K × V) (es : List (K × V)) → None ≡ find R k (e ∷ []) → find R k es ≡ find R k (e ∷ es)
  find_next e es h = by_bool (is_eq (R k e.0))
      (λ t. no_none e.1 (h ∙ ap (λ b. cond b (Some e.1) None) t))
      (λ t. sym (ap (λ b. cond b (Some e.1) (find R k es)) t))

  -- a key that isn't there is none of the two
  not_first : (e : K × V) (es : List (K × V)) → find R k (e ∷ es) ≡ None → is_eq (R k e.0) ≡ false
  not_first e es h = by_bool (is_eq (R k e.0))
      (λ t. no_none e.1 (sym h ∙ ap (λ b. cond b (Some e.1) (find R k es)) t))
      (λ t. t)

  pub not_next : (e : K × V) (es : List (K × V)) → find R k (e ∷ es) ≡ None → find R k es ≡ None
  not_next e es h = sym (ap (λ b. cond b (Some e.1) (find R k es)) (not_first e es h)) ∙ h

  -- a key found behind an entry comes after it
  past_found : (e : K × V) (es : List (K × V)) → T (is_sorted R (e ∷ es)) → is_eq (R k e.0) ≡ false → is_some (find R k es) ≡ true → R k e.0 ≡ Greater
  past_found e es h n s = by_cmp (R k e.0)
      (λ o. absurd (false≢true (sym (ap is_some (none_below R k es (below_less total k e.0 es o (left_true (below_all R e.0 es) (is_sorted R es) h)))) ∙ s)))
      (λ o. absurd (true≢false (sym (ap is_eq o) ∙ n)))
      (λ o. o)

  -- ---- a value is put where the key is

  module _ (e now : K × V) (v : V) (b : Bool) (is : b ≡ is_eq (R k e.0)) (h : now ≡ cond b (e.0, v) e) where
    pub put_first : (es : List (K × V)) → b ≡ true → now ∷ es ≡ put R k v (e ∷ es)
    put_first es t = ap (λ x. x ∷ es) (h ∙ ap (λ c. cond c (e.0, v) e) t) ∙ sym (put_equal v e es (equal_is (R k e.0) (sym is ∙ t)))

    pub found_first : (es : List (K × V)) → b ≡ true → is_some (find R k (e ∷ es)) ≡ true
    found_first es t = ap (λ c. is_some (cond c (Some e.1) (find R k es))) (sym is ∙ t)

    pub found_one : b ≡ is_some (find R k (e ∷ []))
    found_one = by_bool b
        (λ t. t ∙ sym (found_first [] t))
        (λ f. f ∙ sym (ap (λ c. is_some (cond c (Some e.1) None)) (sym is ∙ f)))

    pub put_one : now ∷ [] ≡ cond b (put R k v (e ∷ [])) (e ∷ [])
    put_one = by_bool b
        (λ t. put_first [] t ∙ sym (ap (λ c. cond c (put R k v (e ∷ [])) (e ∷ [])) t))
        (λ t. ap (λ x. x ∷ []) (h ∙ ap (λ c. cond c (e.0, v) e) t) ∙ sym (ap (λ c. cond c (put R k v (e ∷ [])) (e ∷ [])) t))

    pub found_rest : (es : List (K × V)) (d : Bool) → b ≡ false → d ≡ is_some (find R k es) → d ≡ is_some (find R k (e ∷ es))
    found_rest es d f s = s ∙ sym (ap (λ c. is_some (cond c (Some e.1) (find R k es))) (sym is ∙ f))

    pub put_rest : (es more : List (K × V)) (d : Bool) → T (is_sorted R (e ∷ es)) → b ≡ false → (d ≡ true → is_some (find R k es) ≡ true) → more ≡ cond d (put R k v es) es → now ∷ more ≡ cond d (put R k v (e ∷ es)) (e ∷ es)
    put_rest es more d s f found m =
        ap (λ x. x ∷ more) (h ∙ ap (λ c. cond c (e.0, v) e) f)
        ∙ ap (λ rest. e ∷ rest) m
        ∙ by_bool d
        (λ t. ap (λ c. e ∷ cond c (put R k v es) es) t
        ∙ sym (put_greater v e es (past_found e es s (sym is ∙ f) (found t)))
        ∙ sym (ap (λ c. cond c (put R k v (e ∷ es)) (e ∷ es)) t))
        (λ t. ap (λ c. e ∷ cond c (put R k v es) es) t ∙ sym (ap (λ c. cond c (put R k v (e ∷ es)) (e ∷ es)) t))

  -- ---- one more

  pub more_behind : (v : V) (e : K × V) → is_gt (R k e.0) ≡ true → e ∷ (k, v) ∷ [] ≡ put R k v (e ∷ [])
  more_behind v e g = sym (put_greater v e [] (greater_is (R k e.0) g))

  pub more_before : (v : V) (e : K × V) (es : List (K × V)) → is_gt (R k e.0) ≡ false → find R k (e ∷ es) ≡ None → (k, v) ∷ e ∷ es ≡ put R k v (e ∷ es)
  more_before v e es g n = sym (put_less v e es (less_left (R k e.0) g (not_first e es n)))

  pub more_last : (v : V) (a b : K × V) → T (is_sorted R (a ∷ b ∷ [])) → is_gt (R k b.0) ≡ true → a ∷ b ∷ (k, v) ∷ [] ≡ put R k v (a ∷ b ∷ [])
  more_last v a b s g = sym (put_greater v a (b ∷ []) (past_greater total k a (b ∷ []) 0 b s one (greater_is (R k b.0) g)) ∙ ap (λ rest. a ∷ rest) (put_greater v b [] (greater_is (R k b.0) g)))
    where
      one : 0 < 1
      one = omega arith

  pub more_between : (v : V) (a b : K × V) → is_gt (R k a.0) ≡ true → is_gt (R k b.0) ≡ false → find R k (a ∷ b ∷ []) ≡ None → a ∷ (k, v) ∷ b ∷ [] ≡ put R k v (a ∷ b ∷ [])
  more_between v a b g f n = sym (put_greater v a (b ∷ []) (greater_is (R k a.0) g) ∙ ap (λ rest. a ∷ rest) (put_less v b [] (less_left (R k b.0) f (not_first b [] (not_next a (b ∷ []) n)))))

  -- three with one more
  module _ (v : V) (a b c : K × V) where
    after : (n : ℕ) (d : K × V) → T (is_sorted R (a ∷ b ∷ c ∷ [])) → n < 2 → is_gt (R k (get_or (b ∷ c ∷ []) n d).0) ≡ true → a ∷ put R k v (b ∷ c ∷ []) ≡ put R k v (a ∷ b ∷ c ∷ [])
    after n d s l g = sym (put_greater v a (b ∷ c ∷ []) (past_greater total k a (b ∷ c ∷ []) n d s l (greater_is (R k (get_or (b ∷ c ∷ []) n d).0) g)))

    pub fourth_last : T (is_sorted R (a ∷ b ∷ c ∷ [])) → is_gt (R k c.0) ≡ true → a ∷ b ∷ c ∷ (k, v) ∷ [] ≡ put R k v (a ∷ b ∷ c ∷ [])
    fourth_last s g = ap (λ rest. a ∷ rest) (more_last v b c (right_true (below_all R a.0 (b ∷ c ∷ [])) (is_sorted R (b ∷ c ∷ [])) s) g) ∙ after 1 c s (omega arith) g

    pub fourth_third : T (is_sorted R (a ∷ b ∷ c ∷ [])) → is_gt (R k b.0) ≡ true → is_gt (R k c.0) ≡ false → find R k (a ∷ b ∷ c ∷ []) ≡ None → a ∷ b ∷ (k, v) ∷ c ∷ [] ≡ put R k v (a ∷ b ∷ c ∷ [])
    fourth_third s g f n = ap (λ rest. a ∷ rest) (more_between v b c g f (not_next a (b ∷ c ∷ []) n)) ∙ after 0 b s (omega arith) g

    pub fourth_second : is_gt (R k a.0) ≡ true → is_gt (R k b.0) ≡ false → find R k (a ∷ b ∷ c ∷ []) ≡ None → a ∷ (k, v) ∷ b ∷ c ∷ [] ≡ put R k v (a ∷ b ∷ c ∷ [])
    fourth_second g f n = ap (λ rest. a ∷ rest) (more_before v b (c ∷ []) f (not_next a (b ∷ c ∷ []) n)) ∙ sym (put_greater v a (b ∷ c ∷ []) (greater_is (R k a.0) g))

  -- ---- the one of this key among others

  pub found_here : (e : K × V) (es : List (K × V)) → is_eq (R k e.0) ≡ true → Some e.1 ≡ find R k (e ∷ es)
  found_here e es t = sym (ap (λ b. cond b (Some e.1) (find R k es)) t)

  pub found_past : (e : K × V) (es : List (K × V)) → is_eq (R k e.0) ≡ false → find R k es ≡ find R k (e ∷ es)
  found_past e es f = sym (ap (λ b. cond b (Some e.1) (find R k es)) f)

  pub put_here : (v : V) (e : K × V) (es : List (K × V)) → is_eq (R k e.0) ≡ true → (e.0, v) ∷ es ≡ put R k v (e ∷ es)
  put_here v e es t = sym (put_equal v e es (equal_is (R k e.0) t))

  pub put_past : (v : V) (e : K × V) (es : List (K × V)) → T (is_sorted R (e ∷ es)) → is_eq (R k e.0) ≡ false → is_some (find R k es) ≡ true → e ∷ put R k v es ≡ put R k v (e ∷ es)
  put_past v e es s f t = sym (put_greater v e es (past_found e es s f t))

  pub rest_sorted : (e : K × V) (es : List (K × V)) → T (is_sorted R (e ∷ es)) → T (is_sorted R es)
  rest_sorted e es s = right_true (below_all R e.0 es) (is_sorted R es) s

  -- ---- one less

  pub less_first : (e : K × V) (es : List (K × V)) → T (is_sorted R (e ∷ es)) → is_eq (R k e.0) ≡ true → es ≡ without R k (e ∷ es)
  less_first e es s t = sym (ap (λ c. cond (not c) (e ∷ without R k es) (without R k es)) t ∙ all_without R k es (below_tied total k e.0 es (equal_is (R k e.0) t) (left_true (below_all R e.0 es) (is_sorted R es) s)))

  pub less_next : (e : K × V) (es : List (K × V)) → is_eq (R k e.0) ≡ false → e ∷ without R k es ≡ without R k (e ∷ es)
  less_next e es f = sym (ap (λ c. cond (not c) (e ∷ without R k es) (without R k es)) f)
