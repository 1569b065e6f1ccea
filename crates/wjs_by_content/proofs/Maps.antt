-- A finite map under other keys and values.
use Rattle.std.specs.Prelude.{◌≡◌, Bool, true, false, cond, List, [], ◌∷◌, map as each, Option, None, Some, is_some, refl}
use Rattle.std.specs.Option.{option_map}
use Rattle.std.specs.declared.cmp.Ordering.{Ordering}
use Rattle.std.specs.Ordering.{eq_by_cmp, is_eq}
use Rattle.std.specs.Cmp.{IsTotalOrder, Equal-is, tied_itself}
use Rattle.std.specs.FinMap as map
use Rattle.std.specs.FinMap.{FinMap, IsAntisymmetric}
use Rattle.std.proofs.Common.{sym, ap, ◌∙◌}
use Rattle.std.proofs.lemmas.Bool.{true≢false, false≢true}
use Rattle.wjs_base.proofs.Options.{some_map, none_of, map_cond}
use Rattle.wjs_base.proofs.Booleans.{by_bool}
use Rattle.wjs_by_content.specs.Rename.{renamed}

map_none : {A B : Type 0} (g : A → B) (b : Bool) (o : Option A) → option_map g (cond b None o) ≡ cond b None (option_map g o)
map_none g true o = refl
map_none g false o = refl

module _ {K J : Type 0} {R : K → K → Ordering} {S : J → J → Ordering} (rt : IsTotalOrder R) (re : IsAntisymmetric R) (st : IsTotalOrder S) (se : IsAntisymmetric S) (f : K → J) (tell : (a b : K) → f a ≡ f b → a ≡ b) where
  pub same_key : (a b : K) → eq_by_cmp S (f a) (f b) ≡ eq_by_cmp R a b
  same_key a b = by_bool (eq_by_cmp R a b)
      (λ e. ap (λ c. is_eq (S (f a) (f c))) (sym (re a b ((Equal-is (R a b)).0 e))) ∙ ap is_eq (tied_itself st (f a)) ∙ sym e)
      (λ e. by_bool (eq_by_cmp S (f a) (f b))
      (λ q. absurd (true≢false (sym (ap (λ c. is_eq (R a c)) (sym (tell a b (se (f a) (f b) ((Equal-is (S (f a) (f b))).0 q)))) ∙ ap is_eq (tied_itself rt a)) ∙ e)))
      (λ q. q ∙ sym e))

  module _ {X Y : Type 0} (g : X → Y) where
    pub find_renamed : (es : List (K × X)) (q : K) → map.find S (f q) (each (λ e. (f e.0, g e.1)) es) ≡ option_map g (map.find R q es)
    find_renamed [] q = refl
    find_renamed (e ∷ es) q =
        ap (λ b. cond b (Some (g e.1)) (map.find S (f q) (each (λ e. (f e.0, g e.1)) es))) (same_key q e.0)
        ∙ ap (cond (eq_by_cmp R q e.0) (Some (g e.1))) (find_renamed es q)
        ∙ sym (map_cond g (eq_by_cmp R q e.0) e.1 (map.find R q es))

    pub get_renamed : (m : FinMap R X) (q : K) → map.get (renamed {S = S} f g m) (f q) ≡ option_map g (map.get m q)
    get_renamed m q = map.get-from_entries st (each (λ e. (f e.0, g e.1)) (map.entries m)) (f q) ∙ find_renamed (map.entries m) q ∙ ap (option_map g) (sym (map.get-entries m q))

    pub find_from : (es : List (K × X)) (q : J) → is_some (map.find S q (each (λ e. (f e.0, g e.1)) es)) ≡ true → (k : K) × (q ≡ f k)
    find_from [] q h = absurd (false≢true h)
    find_from (e ∷ es) q h = by_bool (eq_by_cmp S q (f e.0))
        (λ b. (e.0, se q (f e.0) ((Equal-is (S q (f e.0))).0 b)))
        (λ b. find_from es q (sym (ap (λ c. is_some (cond c (Some (g e.1)) (map.find S q (each (λ e. (f e.0, g e.1)) es)))) b) ∙ h))

  -- each key is some f k
  abbrev pub Comes : {Y : Type 0} → FinMap S Y → Type 0
  Comes m = (q : J) → is_some (map.get m q) ≡ true → (k : K) × (q ≡ f k)

  pub comes_renamed : {X Y : Type 0} (g : X → Y) (m : FinMap R X) → Comes (renamed {S = S} f g m)
  comes_renamed g m q h = find_from g (map.entries m) q (ap is_some (sym (map.get-from_entries st (each (λ e. (f e.0, g e.1)) (map.entries m)) q)) ∙ h)

  comes_insert : {Y : Type 0} (m : FinMap S Y) (k : K) (v : Y) → Comes m → Comes (map.insert m (f k) v)
  comes_insert m k v c q h = by_bool (eq_by_cmp S q (f k))
      (λ b. (k, se q (f k) ((Equal-is (S q (f k))).0 b)))
      (λ b. c q (sym (ap is_some (map.get-insert st m (f k) v q ∙ ap (λ e. cond e (Some v) (map.get m q)) b)) ∙ h))

  comes_remove : {Y : Type 0} (m : FinMap S Y) (k : K) → Comes m → Comes (map.remove m (f k))
  comes_remove m k c q h = by_bool (eq_by_cmp S q (f k))
      (λ b. (k, se q (f k) ((Equal-is (S q (f k))).0 b)))
      (λ b. c q (sym (ap is_some (map.get-remove st m (f k) q ∙ ap (λ e. cond e None (map.get m q)) b)) ∙ h))

  -- such maps are equal where they agree at each f k
  pub same_renamed : {Y : Type 0} (a b : FinMap S Y) → Comes a → Comes b → ((k : K) → map.get a (f k) ≡ map.get b (f k)) → a ≡ b
  same_renamed a b ca cb h = map.same_map st se a b (λ q. by_bool (is_some (map.get a q))
      (λ e. let k = ca q e in ap (map.get a) k.1 ∙ h k.0 ∙ ap (map.get b) (sym k.1))
      (λ e. by_bool (is_some (map.get b q))
      (λ d. let k = cb q d in ap (map.get a) k.1 ∙ h k.0 ∙ ap (map.get b) (sym k.1))
      (λ d. none_of (map.get a q) e ∙ sym (none_of (map.get b q) d))))

  pub renamed_insert : {X Y : Type 0} (g : X → Y) (m : FinMap R X) (k : K) (v : X) → renamed {S = S} f g (map.insert m k v) ≡ map.insert (renamed f g m) (f k) (g v)
  renamed_insert g m k v = same_renamed _ _ (comes_renamed g (map.insert m k v)) (comes_insert (renamed f g m) k (g v) (comes_renamed g m)) (λ q.
      get_renamed g (map.insert m k v) q ∙ ap (option_map g) (map.get-insert rt m k v q) ∙ map_cond g (eq_by_cmp R q k) v (map.get m q)
      ∙ sym (map.get-insert st (renamed {S = S} f g m) (f k) (g v) (f q) ∙ ap (λ b. cond b (Some (g v)) (map.get (renamed {S = S} f g m) (f q))) (same_key q k) ∙ ap (cond (eq_by_cmp R q k) (Some (g v))) (get_renamed g m q)))

  pub renamed_remove : {X Y : Type 0} (g : X → Y) (m : FinMap R X) (k : K) → renamed {S = S} f g (map.remove m k) ≡ map.remove (renamed f g m) (f k)
  renamed_remove g m k = same_renamed _ _ (comes_renamed g (map.remove m k)) (comes_remove (renamed f g m) k (comes_renamed g m)) (λ q.
      get_renamed g (map.remove m k) q ∙ ap (option_map g) (map.get-remove rt m k q) ∙ map_none g (eq_by_cmp R q k) (map.get m q)
      ∙ sym (map.get-remove st (renamed {S = S} f g m) (f k) (f q) ∙ ap (λ b. cond b None (map.get (renamed {S = S} f g m) (f q))) (same_key q k) ∙ ap (cond (eq_by_cmp R q k) None) (get_renamed g m q)))

  pub has_renamed : {X Y : Type 0} (g : X → Y) (m : FinMap R X) (q : K) → map.contains_key (renamed {S = S} f g m) (f q) ≡ map.contains_key m q
  has_renamed g m q = ap is_some (get_renamed g m q) ∙ some_map g (map.get m q)
