-- What the maps of a session hold, and when its check passes.
use Rattle.std.proofs.Common.{◌≡◌, Bool, true, false, cond, not, ◌&&◌, ◌||◌, List, [], ◌∷◌, ◌++◌, refl, ap, sym, ◌∙◌, filter, map as each, Option, None, Some, is_some, unwrap_or}
use Rattle.std.specs.declared.cmp.Ordering.{Ordering}
use Rattle.std.specs.declared.cmp.Ordering.TheVariants.{Equal}
use Rattle.std.specs.Option.{option_map_or, is_none}
use Rattle.std.specs.Ordering.{eq_by_cmp}
use Rattle.std.specs.Cmp.{IsTotalOrder}
use Rattle.std.specs.List.{list_any}
use Rattle.std.specs.FinMap as map
use Rattle.std.specs.FinMap.{FinMap, IsAntisymmetric}
use Rattle.std.proofs.lemmas.Bool.{true≢false, false≢true, or_parts}
use Rattle.wjs_base.specs.declared.values.Slot.{Slot}
use Rattle.wjs_base.specs.declared.values.Value.{Value}
use Rattle.wjs_base.specs.Order.{slot_cmp, slot_total, slot_exact}
use Rattle.wjs_base.specs.Same.{same_value, value_Decides}
use Rattle.wjs_base.proofs.Booleans.{by_bool}
use Rattle.wjs_store.specs.Naming.{Naming, plain}
use Rattle.wjs_store.specs.Meaning.{View}
use Rattle.wjs_store.specs.State.{World, put, has_row, is_touched, same_content, fails, fault_in, least}
use Rattle.wjs_store.proofs.Marks.{key_is}
use Rattle.wjs_store.proofs.Writes.{get_put}
use Rattle.wjs_store.proofs.Commits.{pairs, no_fault, agree_read, agree_closed, none_is}
use Rattle.wjs_session.specs.Filled.{filled}
use Rattle.wjs_session.specs.Along.{put_all, own_of}
use Rattle.wjs_session.specs.Session.{holding, outer, passes, owned}

-- ---- one map over another

find_append : (q : Slot) (es fs : List (Slot × Value)) → map.find slot_cmp q (es ++ fs) ≡ cond (is_some (map.find slot_cmp q es)) (map.find slot_cmp q es) (map.find slot_cmp q fs)
find_append q [] fs = refl
find_append q (e ∷ es) fs = by (eq_by_cmp slot_cmp q e.0) (find_append q es fs)
  where
    by : (b : Bool) → map.find slot_cmp q (es ++ fs) ≡ cond (is_some (map.find slot_cmp q es)) (map.find slot_cmp q es) (map.find slot_cmp q fs) → cond b (Some e.1) (map.find slot_cmp q (es ++ fs)) ≡ cond (is_some (cond b (Some e.1) (map.find slot_cmp q es))) (cond b (Some e.1) (map.find slot_cmp q es)) (map.find slot_cmp q fs)
    by true h = refl
    by false h = h

-- a test of slots goes by the slot
alike : (p : Slot → Bool) (q x : Slot) → slot_cmp q x ≡ Equal → p x ≡ p q
alike p q x e = ap p (sym (slot_exact q x e))

pick : (b : Bool) (c d : Option Value) → cond (is_some (cond b c None)) (cond b c None) (cond (not b) d None) ≡ cond b c d
pick true None d = refl
pick true (Some v) d = refl
pick false c d = refl

pub get_filled : (within : Slot → Bool) (m outside : View) (s : Slot) → map.get (filled within m outside) s ≡ cond (within s) (map.get m s) (map.get outside s)
unfolding filled
get_filled within m outside s =
    let inner : View = map.retain_keys m within in
    let beyond : View = map.retain_keys outside (λ t. not (within t)) in
    map.get-from_entries slot_total (map.entries inner ++ map.entries beyond) s
    ∙ find_append s (map.entries inner) (map.entries beyond)
    ∙ ap (λ c. cond (is_some c) c (map.find slot_cmp s (map.entries beyond))) (sym (map.get-entries inner s) ∙ map.get-retain_keys m within s (alike within s))
    ∙ ap (cond (is_some (cond (within s) (map.get m s) None)) (cond (within s) (map.get m s) None)) (sym (map.get-entries beyond s) ∙ map.get-retain_keys outside (λ t. not (within t)) s (alike (λ t. not (within t)) s))
    ∙ pick (within s) (map.get m s) (map.get outside s)

pub same_view : (m n : View) → ((s : Slot) → map.get m s ≡ map.get n s) → m ≡ n
same_view m n h = map.same_map slot_total slot_exact m n h

pub get_outer : (x : World plain) (v : View) (s : Slot) → map.get (outer x v) s ≡ cond (is_touched x s) (map.get x.copy s) (map.get v s)
get_outer x v s = get_filled (is_touched x) x.copy v s

-- ---- recorded reads put back

two_conds : {A : Type 0} (e a : Bool) (p q r : A) → (e ≡ true → p ≡ q) → cond a q (cond e p r) ≡ cond (e || a) q r
two_conds true true p q r f = refl
two_conds true false p q r f = f refl
two_conds false a p q r f = refl

get_put_all : {K V : Type 0} {R : K → K → Ordering} → IsTotalOrder R → IsAntisymmetric R → (v : K → Option V) (ks : List K) (m : FinMap R V) (t : K) → map.get (put_all (pairs v ks) m) t ≡ cond (list_any (eq_by_cmp R t) ks) (v t) (map.get m t)
get_put_all total exact v [] m t = refl
get_put_all {R = R} total exact v (s ∷ ks) m t =
    get_put_all total exact v ks (put m s (v s)) t
    ∙ ap (cond (list_any (eq_by_cmp R t) ks) (v t)) (get_put total m s (v s) t)
    ∙ two_conds (eq_by_cmp R t s) (list_any (eq_by_cmp R t) ks) (v s) (v t) (map.get m t) (λ e. ap v (sym (key_is exact t s e)))

-- what a session's own view holds, by what is recorded, and whether the slot is hidden
abbrev pub own_by : {V : Type 0} → Option (Option V) → Bool → Bool → Option V → Option V
own_by recorded closed row c = cond (is_some recorded) (unwrap_or recorded None) (cond (not (closed && not row)) c None)

pub get_own : {K V : Type 0} {n : Naming K V} (x : World n) (base : FinMap n.cmp V) (t : K) → map.get (own_of x base) t ≡ own_by (map.get x.first t) (map.contains_key x.closed (n.object t)) (has_row x t) (map.get base t)
get_own {K = K} {n = n} x base t =
    let kept : K → Bool = λ s. not (map.contains_key x.closed (n.object s) && not (has_row x s)) in
    get_put_all n.total n.exact (λ s. unwrap_or (map.get x.first s) None) (map.keys x.first) (map.retain_keys base kept) t
    ∙ ap (λ b. cond b (unwrap_or (map.get x.first t) None) (map.get (map.retain_keys base kept) t)) (sym (map.contains_key-keys x.first t))
    ∙ ap (cond (map.contains_key x.first t) (unwrap_or (map.get x.first t) None)) (map.get-retain_keys base kept t (λ s e. ap kept (sym (n.exact t s e))))

pub get_owned : (x : World plain) (base : View) (t : Slot) → map.get (owned x base) t ≡ own_by (map.get x.first t) (map.contains_key x.closed t.object) (has_row x t) (map.get base t)
unfolding owned
get_owned x base t = get_own x base t

-- ---- the check

filter_none : {K : Type 0} (p : K → Bool) → ((k : K) → p k ≡ false) → (ks : List K) → filter p ks ≡ []
filter_none p h [] = refl
filter_none p h (k ∷ ks) = ap (λ b. cond b (k ∷ filter p ks) (filter p ks)) (h k) ∙ filter_none p h ks

pub same_content_self : (c : Option Value) → same_content same_value c c ≡ true
same_content_self None = refl
same_content_self (Some v) = (value_Decides v v).1 refl

pub same_content_is : (a b : Option Value) → same_content same_value a b ≡ true → a ≡ b
same_content_is None None h = refl
same_content_is None (Some b) h = absurd (false≢true h)
same_content_is (Some a) None h = absurd (false≢true h)
same_content_is (Some a) (Some b) h = ap (λ v. Some v) ((value_Decides a b).0 h)

pub passes_at : (x : World plain) (v : View) → passes x v ≡ true → (s : Slot) → fails x (holding x.id v) s ≡ false
unfolding passes
passes_at x v h s = no_fault x (holding x.id v) (none_is (fault_in x (holding x.id v)) h) s

passes_from : (x : World plain) (v : View) → ((s : Slot) → fails x (holding x.id v) s ≡ false) → passes x v ≡ true
unfolding passes
passes_from x v h = ap (λ ss. is_none (least slot_cmp ss)) (filter_none (fails x (holding x.id v)) h (map.keys x.first ++ map.keys v))

-- what a view that is admitted holds where a read is recorded, and in a slot of a listed object that has no row
pub view_read : (x : World plain) (v : View) (s : Slot) (c : Option Value) → passes x v ≡ true → map.get x.first s ≡ Some c → map.get v s ≡ c
view_read x v s c h e = agree_read x (holding x.id v) s c (passes_at x v h s) e

pub view_closed : (x : World plain) (v : View) (s : Slot) → passes x v ≡ true → map.contains_key x.closed s.object ≡ true → has_row x s ≡ false → map.get v s ≡ None
view_closed x v s h cl r = agree_closed x (holding x.id v) s (passes_at x v h s) cl r

-- and a view that holds this is admitted
pub passes_by : (x : World plain) (v : View) → ((s : Slot) (c : Option Value) → map.get x.first s ≡ Some c → map.get v s ≡ c) → ((s : Slot) → map.contains_key x.closed s.object ≡ true → has_row x s ≡ false → map.get v s ≡ None) → passes x v ≡ true
passes_by x v reads hidden = passes_from x v (λ s. neither _ _ (read s (map.get x.first s) refl) (closed s (map.contains_key x.closed s.object) (has_row x s) refl refl))
  where
    neither : (a b : Bool) → a ≡ false → b ≡ false → (a || b) ≡ false
    neither true b h k = h
    neither false b h k = k

    read : (s : Slot) (o : Option (Option Value)) → map.get x.first s ≡ o → option_map_or (λ c. not (same_content same_value c (map.get v s))) o false ≡ false
    read s None e = refl
    read s (Some c) e = ap (λ d. not (same_content same_value c d)) (reads s c e) ∙ ap not (same_content_self c)

    closed : (s : Slot) (a r : Bool) → map.contains_key x.closed s.object ≡ a → has_row x s ≡ r → (a && (map.contains_key v s && not r)) ≡ false
    closed s true true e f = last (map.contains_key v s)
      where
        last : (b : Bool) → (b && false) ≡ false
        last true = refl
        last false = refl
    closed s true false e f = ap (λ c. is_some c && true) (hidden s e f)
    closed s false r e f = refl
