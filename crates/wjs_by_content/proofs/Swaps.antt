-- Steps at two slots commute: reads, reads that are handed up, and writes.
use Rattle.std.proofs.Common.{◌≡◌, Bool, true, false, cond, not, ◌&&◌, ◌||◌, [], ◌∷◌, refl, ap, sym, ◌∙◌, map as each, Option, Some, is_some, Ordering}
use Rattle.std.specs.Option.{option_map_or}
use Rattle.std.specs.Ordering.{eq_by_cmp}
use Rattle.std.specs.Cmp.{IsTotalOrder, eq_by_cmp_equiv}
use Rattle.std.specs.FinMap as map
use Rattle.std.specs.FinMap.{FinMap, IsAntisymmetric}
use Rattle.std.proofs.lemmas.Bool.{true≢false}
use Rattle.wjs_base.specs.declared.ids.WorldId.{WorldId}
use Rattle.wjs_by_content.proofs.Steps.{each_each}
use Rattle.wjs_store.specs.Naming.{Naming}
use Rattle.wjs_store.specs.State.{World, State, same_world, has_row, is_touched, read_in, write_in, write_at, put, is_below, after_write}
use Rattle.wjs_store.proofs.Marks.{contains_insert, key_is}
use Rattle.wjs_store.proofs.Writes.{get_put, write_id, write_parent}
use Rattle.wjs_by_content.proofs.Keys.{Commutes}

swap_conds : {A : Type 0} (p q : Bool) (x y z : A) → (p ≡ true → q ≡ true → ⊥) → cond q y (cond p x z) ≡ cond p x (cond q y z)
swap_conds true true x y z h = absurd (h refl refl)
swap_conds true false x y z h = refl
swap_conds false q x y z h = refl

-- ---- maps

not_both : {K : Type 0} {R : K → K → Ordering} (exact : IsAntisymmetric R) (a b q : K) → eq_by_cmp R a b ≡ false → eq_by_cmp R q a ≡ true → eq_by_cmp R q b ≡ true → ⊥
not_both {R = R} exact a b q e h k = true≢false (sym k ∙ ap (λ c. eq_by_cmp R c b) (key_is exact q a h) ∙ e)

turned : {K : Type 0} {R : K → K → Ordering} (total : IsTotalOrder R) (a b : K) → eq_by_cmp R a b ≡ false → eq_by_cmp R b a ≡ false
turned total a b e = sym ((eq_by_cmp_equiv total).symm a b) ∙ e

module _ {K X : Type 0} {R : K → K → Ordering} (total : IsTotalOrder R) (exact : IsAntisymmetric R) where
  puts_swap : (m : FinMap R X) (a b : K) (c d : Option X) → eq_by_cmp R a b ≡ false → put (put m a c) b d ≡ put (put m b d) a c
  puts_swap m a b c d e = map.same_map total exact _ _ (λ q.
      get_put total (put m a c) b d q ∙ ap (cond (eq_by_cmp R q b) d) (get_put total m a c q)
      ∙ swap_conds (eq_by_cmp R q a) (eq_by_cmp R q b) c d (map.get m q) (not_both exact a b q e)
      ∙ sym (get_put total (put m b d) a c q ∙ ap (cond (eq_by_cmp R q a) c) (get_put total m b d q)))

  abbrev ins_if : Bool → FinMap R X → K → X → FinMap R X
  ins_if t m s v = cond t (map.insert m s v) m

  ins_swap : (t u : Bool) (m : FinMap R X) (a b : K) (v w : X) → eq_by_cmp R a b ≡ false → ins_if u (ins_if t m a v) b w ≡ ins_if t (ins_if u m b w) a v
  ins_swap true true m a b v w e = puts_swap m a b (Some v) (Some w) e
  ins_swap true false m a b v w e = refl
  ins_swap false u m a b v w e = refl

  contains_if : (t : Bool) (m : FinMap R X) (a : K) (v : X) (b : K) → eq_by_cmp R b a ≡ false → map.contains_key (ins_if t m a v) b ≡ map.contains_key m b
  contains_if true m a v b e = contains_insert total m a v b ∙ ap (λ t. t || map.contains_key m b) e
  contains_if false m a v b e = refl

module _ {K V : Type 0} {n : Naming K V} where
  -- ---- recorded reads

  abbrev rec_if : Bool → World n → K → Option V → World n
  rec_if t x s c = cond t (record x { first = map.insert x.first s c }) x

  touched_if : (t : Bool) (x : World n) (a : K) (c : Option V) (b : K) → eq_by_cmp n.cmp b a ≡ false → is_touched (rec_if t x a c) b ≡ is_touched x b
  touched_if true x a c b e = ap (λ t. (t || map.contains_key x.written b) || map.contains_key x.closed (n.object b)) (contains_if n.total n.exact true x.first a c b e)
  touched_if false x a c b e = refl

  parent_if : (t : Bool) (x : World n) (a : K) (c : Option V) → (rec_if t x a c).parent ≡ x.parent
  parent_if true x a c = refl
  parent_if false x a c = refl

  copy_if : (t : Bool) (x : World n) (a : K) (c : Option V) → (rec_if t x a c).copy ≡ x.copy
  copy_if true x a c = refl
  copy_if false x a c = refl

  rec_swap : (t u : Bool) (x : World n) (a b : K) (c d : Option V) → eq_by_cmp n.cmp a b ≡ false → rec_if u (rec_if t x a c) b d ≡ rec_if t (rec_if u x b d) a c
  rec_swap true true x a b c d e = λ i. record x { first = ins_swap n.total n.exact true true x.first a b c d e i }
  rec_swap true false x a b c d e = refl
  rec_swap false u x a b c d e = refl

  read_after : (t : Bool) (x : World n) (a : K) (c : Option V) (b : K) → eq_by_cmp n.cmp b a ≡ false → read_in b (rec_if t x a c) ≡ rec_if (is_some x.parent && not (is_touched x b)) (rec_if t x a c) b (map.get x.copy b)
  read_after t x a c b e =
      let y = rec_if t x a c in
      ap (λ o. rec_if (is_some o && not (is_touched y b)) y b (map.get y.copy b)) (parent_if t x a c)
      ∙ ap (λ u. rec_if (is_some x.parent && not u) y b (map.get y.copy b)) (touched_if t x a c b e)
      ∙ ap (λ m. rec_if (is_some x.parent && not (is_touched x b)) y b (map.get m b)) (copy_if t x a c)

  pub reads_commute : Commutes n.cmp (λ (x : World n) s. read_in s x)
  reads_commute x a b e =
      let t = is_some x.parent && not (is_touched x a) in
      let u = is_some x.parent && not (is_touched x b) in
      read_after t x a (map.get x.copy a) b (turned n.total a b e)
      ∙ rec_swap t u x a b (map.get x.copy a) (map.get x.copy b) e
      ∙ sym (read_after u x b (map.get x.copy b) a e)

  -- ---- reads that are handed up

  abbrev pub hand_at : (K → Option V) → World n → K → World n
  hand_at v x s = cond (is_touched x s) x (record x { first = map.insert x.first s (v s) })

  turn : (t : Bool) (x y : World n) → cond t x y ≡ cond (not t) y x
  turn true x y = refl
  turn false x y = refl

  hand_is : (v : K → Option V) (x : World n) (s : K) → hand_at v x s ≡ rec_if (not (is_touched x s)) x s (v s)
  hand_is v x s = turn (is_touched x s) x (record x { first = map.insert x.first s (v s) })

  hand_after : (v : K → Option V) (t : Bool) (x : World n) (a : K) (c : Option V) (b : K) → eq_by_cmp n.cmp b a ≡ false → hand_at v (rec_if t x a c) b ≡ rec_if (not (is_touched x b)) (rec_if t x a c) b (v b)
  hand_after v t x a c b e = hand_is v (rec_if t x a c) b ∙ ap (λ u. rec_if (not u) (rec_if t x a c) b (v b)) (touched_if t x a c b e)

  pub hands_commute : (v : K → Option V) → Commutes n.cmp (hand_at v)
  hands_commute v x a b e =
      let t = not (is_touched x a) in
      let u = not (is_touched x b) in
      ap (λ y. hand_at v y b) (hand_is v x a) ∙ hand_after v t x a (v a) b (turned n.total a b e)
      ∙ rec_swap t u x a b (v a) (v b) e
      ∙ sym (ap (λ y. hand_at v y a) (hand_is v x b) ∙ hand_after v u x b (v b) a e)

  -- ---- writes

  row_other : (a : K) (c : Option V) (x : World n) (b : K) → eq_by_cmp n.cmp b a ≡ false → has_row (write_in a c x) b ≡ has_row x b
  row_other a c x b e =
      ap (λ t. t || map.contains_key (write_in a c x).written b) (contains_if n.total n.exact (is_some x.parent && (not (has_row x a) && (map.contains_key x.closed (n.object a) || x.strict))) x.first a (map.get x.copy a) b e)
      ∙ ap (λ t. map.contains_key x.first b || t) (contains_if n.total n.exact (is_some x.parent) x.written a tt b e)

  -- what a write at a slot puts into first
  abbrev records : World n → K → Bool
  records x s = is_some x.parent && (not (has_row x s) && (map.contains_key x.closed (n.object s) || x.strict))

  first_after : (a : K) (c : Option V) (x : World n) (b : K) (d : Option V) → eq_by_cmp n.cmp b a ≡ false → (write_in b d (write_in a c x)).first ≡ ins_if n.total n.exact (records x b) (ins_if n.total n.exact (records x a) x.first a (map.get x.copy a)) b (map.get x.copy b)
  first_after a c x b d e =
      let y = write_in a c x in
      ap (λ t. ins_if n.total n.exact (is_some x.parent && (not t && (map.contains_key x.closed (n.object b) || x.strict))) y.first b (map.get y.copy b)) (row_other a c x b e)
      ∙ ap (ins_if n.total n.exact (records x b) y.first b) (get_put n.total x.copy a c b ∙ ap (λ t. cond t c (map.get x.copy b)) e)

  write_swap : (a b : K) (c d : Option V) (x : World n) → eq_by_cmp n.cmp a b ≡ false → write_in b d (write_in a c x) ≡ write_in a c (write_in b d x)
  write_swap a b c d x e =
      let copies = puts_swap n.total n.exact x.copy a b c d e in
      let firsts = first_after a c x b d (turned n.total a b e) ∙ ins_swap n.total n.exact (records x a) (records x b) x.first a b (map.get x.copy a) (map.get x.copy b) e ∙ sym (first_after b d x a c e) in
      let writtens = ins_swap n.total n.exact (is_some x.parent) (is_some x.parent) x.written a b tt tt e in
      λ i. record x { copy = copies i; first = firsts i; written = writtens i }

  -- a world that is written, one that is below it, or another
  abbrev hit : Bool → Bool → K → Option V → World n → World n
  hit h l s c x = cond h (write_in s c x) (cond l (record x { copy = put x.copy s c }) x)

  touched_hit : (h l : Bool) (a : K) (c : Option V) (x : World n) (b : K) → eq_by_cmp n.cmp b a ≡ false → is_touched (hit h l a c x) b ≡ is_touched x b
  touched_hit true l a c x b e = ap (λ t. t || map.contains_key x.closed (n.object b)) (row_other a c x b e)
  touched_hit false true a c x b e = refl
  touched_hit false false a c x b e = refl

  hit_swap : (h l k : Bool) (a b : K) (c d : Option V) (x : World n) → eq_by_cmp n.cmp a b ≡ false → hit h k b d (hit h l a c x) ≡ hit h l a c (hit h k b d x)
  hit_swap true l k a b c d x e = write_swap a b c d x e
  hit_swap false true true a b c d x e = λ i. record x { copy = puts_swap n.total n.exact x.copy a b c d e i }
  hit_swap false true false a b c d x e = refl
  hit_swap false false k a b c d x e = refl

  below_each : (g : World n → World n) → ((x : World n) → (g x).id ≡ x.id) → ((x : World n) → (g x).parent ≡ x.parent) → (w : WorldId) (s : K) → ((x : World n) → is_touched (g x) s ≡ is_touched x s) → (F : State n) (d : WorldId) → is_below w s (each g F) d ≡ is_below w s F d
  unfolding is_below
  below_each g ids parents w s stay [] d = refl
  below_each g ids parents w s stay (x ∷ older) d =
      ap (λ i. cond (same_world i d) (not (is_touched (g x) s) && option_map_or (λ p. same_world p w || is_below w s (each g older) p) (g x).parent false) (is_below w s (each g older) d)) (ids x)
      ∙ ap (λ t. cond (same_world x.id d) (not t && option_map_or (λ p. same_world p w || is_below w s (each g older) p) (g x).parent false) (is_below w s (each g older) d)) (stay x)
      ∙ ap (λ o. cond (same_world x.id d) (not (is_touched x s) && option_map_or (λ p. same_world p w || is_below w s (each g older) p) o false) (is_below w s (each g older) d)) (parents x)
      ∙ ap (λ (q : WorldId → Bool). cond (same_world x.id d) (not (is_touched x s) && option_map_or (λ p. same_world p w || q p) x.parent false) (q d)) (λ i p. below_each g ids parents w s stay older p i)

  below_after : (F : State n) (w : WorldId) (a : K) (c : Option V) (b : K) → eq_by_cmp n.cmp b a ≡ false → (d : WorldId) → is_below w b (each (write_at F w a c) F) d ≡ is_below w b F d
  below_after F w a c b e d = below_each (write_at F w a c) (write_id F w a c) (write_parent F w a c) w b (λ x. touched_hit (same_world x.id w) (is_below w a F x.id) a c x b e) F d

  write_after : (F : State n) (w : WorldId) (a : K) (c : Option V) (b : K) (d : Option V) → eq_by_cmp n.cmp b a ≡ false → (x : World n) → write_at (each (write_at F w a c) F) w b d (write_at F w a c x) ≡ hit (same_world x.id w) (is_below w b F x.id) b d (write_at F w a c x)
  write_after F w a c b d e x =
      ap (λ i. hit (same_world i w) (is_below w b (each (write_at F w a c) F) i) b d (write_at F w a c x)) (write_id F w a c x)
      ∙ ap (λ l. hit (same_world x.id w) l b d (write_at F w a c x)) (below_after F w a c b e x.id)

  pub writes_commute : (w : WorldId) (v : K → Option V) → Commutes n.cmp (λ (F : State n) s. after_write F w s (v s))
  unfolding after_write
  writes_commute w v F a b e = each_each (write_at (each (write_at F w a (v a)) F) w b (v b)) (write_at F w a (v a)) (write_at (each (write_at F w b (v b)) F) w a (v a)) (write_at F w b (v b))
      (λ x. write_after F w a (v a) b (v b) (turned n.total a b e) x
      ∙ hit_swap (same_world x.id w) (is_below w a F x.id) (is_below w b F x.id) a b (v a) (v b) x e
      ∙ sym (write_after F w b (v b) a (v a) e x)) F
