-- What bounds cover.
use Rattle.std.proofs.Common.{◌≡◌, ℕ, ◌+◌, ◌-◌, ◌<◌, ◌≤◌, true, false, ◌&&◌, ◌||◌, nat_le, List, [], ◌∷◌, ◌++◌, length, take, get_or, Some, None, slice_get, suc, zero, refl, ap, sym, ◌∙◌, arith}
use Rattle.std.proofs.lemmas.Bool.{and_parts, false≢true, or_right}
use Rattle.std.specs.List.Sorted.{IsNonDecreasingBy}
use Rattle.std.proofs.lemmas.Option.{same_Some, slice_get_within}
use Rattle.wjs_base.proofs.Booleans.{by_bool}
use Rattle.wjs_base.proofs.Options.{no_none}
use Rattle.wjs_base.proofs.Numbers.{of_le, le_of, not_le}
use Rattle.wjs_store.proofs.Marks.{or_case}
use Rattle.wjs_store.proofs.Parents.{slice_get_at}
use Rattle.wjs_overlay.specs.declared.bounds.Bound.{Bound}
use Rattle.wjs_overlay.specs.Covers.{covers, IsRising, IsCount, Grows}

-- ---- tests

pub by_le : {P : Type 0} (a b : ℕ) → (a ≤ b → P) → (b < a → P) → P
by_le a b f g = by_bool (nat_le a b) (λ t. f (le_of a b t)) (λ t. g (not_le a b t))

-- ---- entries

pub got : {A : Type 0} (xs : List A) (i : ℕ) (a : A) → slice_get xs i ≡ Some a → get_or xs i a ≡ a
got xs i a h = same_Some (get_or xs i a) a (sym (slice_get_at xs i a (slice_get_within xs i a h)) ∙ h)

-- none in a list whose last there is not, and none past the last
pub slice_none : {A P : Type 0} (xs : List A) (i : ℕ) (a : A) → slice_get xs (length xs - 1) ≡ None → slice_get xs i ≡ Some a → P
slice_none [] i a n h = no_none a h
slice_none (x ∷ xs) i a n h = no_none (get_or (x ∷ xs) (length (x ∷ xs) - 1) x) (sym n ∙ slice_get_at (x ∷ xs) (length (x ∷ xs) - 1) x (omega arith))

pub below_last : (bs : List Bound) → IsRising bs → (last : Bound) → slice_get bs (length bs - 1) ≡ Some last → (k : ℕ) (b : Bound) → slice_get bs k ≡ Some b → b.serial ≤ last.serial
below_last bs rising last e k b s =
    let l : k < length bs = slice_get_within bs k b s in
    by_le (length bs - 1) k
    (λ m.
    let same : length bs - 1 ≡ k = omega arith in
    let f : last.serial ≡ b.serial = ap (λ (d : Bound). d.serial) (same_Some last b (sym e ∙ ap (slice_get bs) same ∙ s)) in
    omega arith)
    (λ m. (rising k (length bs - 1) b last m s e).1)

pub rising_places : (bs : List Bound) → IsRising bs → IsNonDecreasingBy (λ (b : Bound). b.place) bs
rising_places bs h = λ i j d le lt. by_le j i
    (λ l. let same : i ≡ j = omega arith in let e = ap (λ k. (get_or bs k d).place) same in omega (arith, e))
    (λ l. let r = h i j (get_or bs i d) (get_or bs j d) l (slice_get_at bs i d (omega arith)) (slice_get_at bs j d lt) in let p = r.0 in omega (arith, p))

-- ---- what is covered

-- by an entry
covers_at : (bs : List Bound) (k place serial : ℕ) (b : Bound) → slice_get bs k ≡ Some b → b.place ≤ place → serial ≤ b.serial → covers bs place serial ≡ true
covers_at [] k place serial b h p s = no_none b h
covers_at (c ∷ bs) zero place serial b h p s =
    ap (λ (d : Bound). (nat_le d.place place && nat_le serial d.serial) || covers bs place serial) (same_Some c b h)
    ∙ ap (λ t. (t && nat_le serial b.serial) || covers bs place serial) (of_le b.place place p)
    ∙ ap (λ t. t || covers bs place serial) (of_le serial b.serial s)
covers_at (c ∷ bs) (suc k) place serial b h p s = or_right (nat_le c.place place && nat_le serial c.serial) (covers bs place serial) (covers_at bs k place serial b h p s)

-- and by nothing else
covers_by : {P : Type 0} (bs : List Bound) (place serial : ℕ) → covers bs place serial ≡ true → ((k : ℕ) (b : Bound) → slice_get bs k ≡ Some b → b.place ≤ place → serial ≤ b.serial → P) → P
covers_by [] place serial h f = absurd (false≢true h)
covers_by (c ∷ bs) place serial h f = or_case (nat_le c.place place && nat_le serial c.serial) (covers bs place serial) h
    (λ e. let a = and_parts (nat_le c.place place) (nat_le serial c.serial) e in f zero c refl (le_of c.place place a.0) (le_of serial c.serial a.1))
    (λ e. covers_by bs place serial e (λ k b s p q. f (suc k) b s p q))

covers_none : (bs : List Bound) (place serial : ℕ) → ((k : ℕ) (b : Bound) → slice_get bs k ≡ Some b → b.place ≤ place → b.serial < serial) → covers bs place serial ≡ false
covers_none bs place serial h = by_bool (covers bs place serial)
    (λ e. covers_by bs place serial e (λ k b s p q. let l : b.serial < serial = h k b s p in absurd (omega arith)))
    (λ e. e)

-- at a later place no less, of a lesser number no less
pub covers_later : (bs : List Bound) (i j serial : ℕ) → i ≤ j → covers bs i serial ≡ true → covers bs j serial ≡ true
covers_later bs i j serial l h = covers_by bs i serial h (λ k b s p q. covers_at bs k j serial b s (omega arith) q)

pub covers_lesser : (bs : List Bound) (i serial less : ℕ) → less ≤ serial → covers bs i serial ≡ true → covers bs i less ≡ true
covers_lesser bs i serial less l h = covers_by bs i serial h (λ k b s p q. covers_at bs k i less b s p (omega arith))

-- the last entry of a place up to this one says all
pub covers_last : (bs : List Bound) (place n : ℕ) (b : Bound) → IsRising bs → IsCount bs place n → 0 < n → slice_get bs (n - 1) ≡ Some b → (serial : ℕ) → covers bs place serial ≡ nat_le serial b.serial
covers_last bs place n b rising count more is serial = by_bool (nat_le serial b.serial)
    (λ e. covers_at bs (n - 1) place serial b is (count.before (n - 1) b (omega arith) is) (le_of serial b.serial e) ∙ sym e)
    (λ e.
    let less : b.serial < serial = not_le serial b.serial e in
    covers_none bs place serial (λ k c s p. by_le n k
    (λ l. let later : place < c.place = count.after k c l s in absurd (omega arith))
    (λ l. by_le (n - 1) k
    (λ m.
    let same : n - 1 ≡ k = omega arith in
    let f : b.serial ≡ c.serial = ap (λ (d : Bound). d.serial) (same_Some b c (sym is ∙ ap (slice_get bs) same ∙ s)) in
    omega arith)
    (λ m. let q : c.serial ≤ b.serial = (rising k (n - 1) c b m s is).1 in omega arith)))
    ∙ sym e)

pub covers_nothing : (bs : List Bound) (place n : ℕ) → n ≡ 0 → IsCount bs place n → (serial : ℕ) → covers bs place serial ≡ false
covers_nothing bs place n none count serial = covers_none bs place serial (λ k b s p. let later : place < b.place = count.after k b (omega arith) s in absurd (omega arith))

-- ---- the first entries, and one behind them

cut_old : (bs : List Bound) (b : Bound) (n k : ℕ) → k < n → n ≤ length bs → slice_get (take n bs ++ b ∷ []) k ≡ slice_get bs k
cut_old bs b zero k l u = absurd (omega arith)
cut_old [] b (suc n) k l u = absurd (omega arith)
cut_old (c ∷ bs) b (suc n) zero l u = refl
cut_old (c ∷ bs) b (suc n) (suc k) l u = cut_old bs b n k (omega arith) (omega arith)

cut_new : (bs : List Bound) (b : Bound) (n : ℕ) → n ≤ length bs → slice_get (take n bs ++ b ∷ []) n ≡ Some b
cut_new [] b zero u = refl
cut_new (c ∷ bs) b zero u = refl
cut_new [] b (suc n) u = absurd (omega arith)
cut_new (c ∷ bs) b (suc n) u = cut_new bs b n (omega arith)

cut_end : (bs : List Bound) (b : Bound) (n k : ℕ) (c : Bound) → n ≤ length bs → slice_get (take n bs ++ b ∷ []) k ≡ Some c → k ≤ n
cut_end [] b zero zero c u h = omega arith
cut_end [] b zero (suc k) c u h = no_none c h
cut_end [] b (suc n) k c u h = absurd (omega arith)
cut_end (d ∷ bs) b zero zero c u h = omega arith
cut_end (d ∷ bs) b zero (suc k) c u h = no_none c h
cut_end (d ∷ bs) b (suc n) zero c u h = omega arith
cut_end (d ∷ bs) b (suc n) (suc k) c u h = let l : k ≤ n = cut_end bs b n k c (omega arith) h in omega arith

module _ (bs : List Bound) (place n : ℕ) (b : Bound) (rising : IsRising bs) (count : IsCount bs (place - 1) n) (child : 0 < place) (here : b.place ≡ place) (others : (k : ℕ) (c : Bound) → slice_get bs k ≡ Some c → c.serial ≤ b.serial) where
  pub put_rises : IsRising (take n bs ++ b ∷ [])
  put_rises = λ i j a c l s t.
      let last : j ≤ n = cut_end bs b n j c count.within t in
      let first : slice_get bs i ≡ Some a = sym (cut_old bs b n i (omega arith) count.within) ∙ s in
      by_le n j
      (λ m.
      let same : n ≡ j = omega arith in
      let e : b ≡ c = same_Some b c (sym (cut_new bs b n count.within) ∙ ap (slice_get (take n bs ++ b ∷ [])) same ∙ t) in
      let p : a.place ≤ place - 1 = count.before i a (omega arith) first in
      let q : a.serial ≤ b.serial = others i a first in
      let f : b.place ≡ c.place = ap (λ (d : Bound). d.place) e in
      let g : b.serial ≡ c.serial = ap (λ (d : Bound). d.serial) e in
      let x : a.place < c.place = omega arith in
      let y : a.serial ≤ c.serial = omega arith in
      (x, y))
      (λ m. rising i j a c l first (sym (cut_old bs b n j m count.within) ∙ t))

  pub put_grows : Grows bs (take n bs ++ b ∷ [])
  put_grows = λ i serial h. covers_by bs i serial h (λ k c s p q. by_le n k
      (λ l.
      let f : place - 1 < c.place = count.after k c l s in
      let g : c.serial ≤ b.serial = others k c s in
      covers_at (take n bs ++ b ∷ []) n i serial b (cut_new bs b n count.within) (omega arith) (omega arith))
      (λ l. covers_at (take n bs ++ b ∷ []) k i serial c (cut_old bs b n k l count.within ∙ s) p q))

  pub put_covers : (serial : ℕ) → serial ≤ b.serial → covers (take n bs ++ b ∷ []) place serial ≡ true
  put_covers serial l = covers_at (take n bs ++ b ∷ []) n place serial b (cut_new bs b n count.within) (omega arith) l
