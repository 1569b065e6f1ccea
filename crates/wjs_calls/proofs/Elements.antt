-- Elements that are written in order.
use Rattle.std.proofs.Common.{◌≡◌, ℕ, zero, suc, ◌+◌, ◌<◌, ◌≤◌, List, [], ◌∷◌, ◌++◌, Some, length, drop, refl, sym, ap, ◌∙◌, arith, drop-cons}
use Rattle.std.specs.Prelude.{map, slice_index_or}
use Rattle.wjs_base.specs.declared.ids.ObjId.{ObjId}
use Rattle.wjs_base.specs.declared.ids.WorldId.{WorldId}
use Rattle.wjs_base.specs.declared.values.Value.{Value as NumberedValue}
use Rattle.wjs_base.specs.Text.{Table}
use Rattle.wjs_by_content.specs.Values.{Value}
use Rattle.wjs_by_content.specs.Names.{Slot, slot, index_name}
use Rattle.wjs_by_content.specs.Tables.{value_in}
use Rattle.wjs_meaning.specs.Deeds.{Act, Do, Write, write_all}
use Rattle.wjs_meaning.specs.NewObjects.{elements_from}

pub write-append : (w : WorldId) (xs ys : List (Slot × Value)) (a : Act) → write_all w (xs ++ ys) a ≡ write_all w xs (write_all w ys a)
write-append w [] ys a = refl
write-append w (x ∷ xs) ys a = λ i. Do (Write w x.0 (Some x.1)) (λ done. write-append w xs ys a i)

pub length-each : {A B : Type 0} (f : A → B) (xs : List A) → length (map f xs) ≡ length xs
length-each f [] = refl
length-each f (x ∷ xs) = let h = length-each f xs in omega (arith, h)

-- the first of a list that is left
pub left_here : {A : Type 0} (xs : List A) (i : ℕ) (other : A) → i < length xs → drop i xs ≡ slice_index_or xs i other ∷ drop (i + 1) xs
left_here xs i other lt = let s : i + 1 ≡ suc i = omega arith in drop-cons xs i other lt ∙ ap (λ j. slice_index_or xs i other ∷ drop j xs) (sym s)

left_at : {A : Type 0} (xs : List A) (i : ℕ) (x : A) → i < length xs → x ≡ slice_index_or xs i x → drop i xs ≡ x ∷ drop (i + 1) xs
left_at xs i x lt e = left_here xs i x lt ∙ ap (λ y. y ∷ drop (i + 1) xs) (sym e)

-- the value at an index is written, and those after it
pub element_left : (t : Table) (w : WorldId) (o : ObjId) (vs : List NumberedValue) (i : ℕ) (v : NumberedValue) (a : Act) → drop i vs ≡ v ∷ drop (i + 1) vs
    → write_all w (elements_from o i (map (value_in t) (drop i vs))) a ≡ Do (Write w (slot o (index_name i)) (Some (value_in t v))) (λ done. write_all w (elements_from o (i + 1) (map (value_in t) (drop (i + 1) vs))) a)
element_left t w o vs i v a e = λ j. write_all w (elements_from o i (map (value_in t) (e j))) a

-- none is left
pub none_left : {A : Type 0} (xs : List A) (i : ℕ) → length xs ≤ i → drop i xs ≡ []
none_left [] zero h = refl
none_left [] (suc i) h = refl
none_left (x ∷ xs) zero h = absurd (omega arith)
none_left (x ∷ xs) (suc i) h = none_left xs i (omega arith)

-- the same where the next index is another's
pub element_before : (t : Table) (w : WorldId) (o : ObjId) (vs : List NumberedValue) (i j : ℕ) (v : NumberedValue) (a : Act) → j ≡ i + 1 → i < length vs → v ≡ slice_index_or vs i v
    → write_all w (elements_from o i (map (value_in t) (drop i vs))) a ≡ Do (Write w (slot o (index_name i)) (Some (value_in t v))) (λ done. write_all w (elements_from o j (map (value_in t) (drop j vs))) a)
element_before t w o vs i j v a next lt e =
    element_left t w o vs i v a (left_at vs i v lt e)
    ∙ ap (λ k. Do (Write w (slot o (index_name i)) (Some (value_in t v))) (λ done. write_all w (elements_from o k (map (value_in t) (drop k vs))) a)) (sym next)

-- four of them
pub four_before : (t : Table) (w : WorldId) (o : ObjId) (vs : List NumberedValue) (i : ℕ) (a b c d : NumberedValue) (act : Act) → i + 4 ≤ length vs
    → a ≡ slice_index_or vs i a → b ≡ slice_index_or vs (i + 1) b → c ≡ slice_index_or vs (i + 2) c → d ≡ slice_index_or vs (i + 3) d
    → write_all w (elements_from o i (map (value_in t) (drop i vs))) act ≡
    write_all w ((slot o (index_name i), value_in t a) ∷ (slot o (index_name (i + 1)), value_in t b) ∷ (slot o (index_name (i + 2)), value_in t c) ∷ (slot o (index_name (i + 3)), value_in t d) ∷ [])
    (write_all w (elements_from o (i + 4) (map (value_in t) (drop (i + 4) vs))) act)
four_before t w o vs i a b c d act least ae be ce de =
    let put = λ (k : ℕ) (v : NumberedValue) (x : Act). Do (Write w (slot o (index_name k)) (Some (value_in t v))) (λ done. x) in
    element_before t w o vs i (i + 1) a act refl (omega (arith, least)) ae
    ∙ ap (put i a) (element_before t w o vs (i + 1) (i + 2) b act (omega arith) (omega (arith, least)) be
    ∙ ap (put (i + 1) b) (element_before t w o vs (i + 2) (i + 3) c act (omega arith) (omega (arith, least)) ce
    ∙ ap (put (i + 2) c) (element_before t w o vs (i + 3) (i + 4) d act (omega arith) (omega (arith, least)) de)))

-- ---- few

module _ {A : Type 0} (xs : List A) where
  pub one_is : (a : A) → 1 ≤ length xs → length xs < 2 → a ≡ slice_index_or xs 0 a → xs ≡ a ∷ []
  one_is a least less ae = left_at xs 0 a (omega (arith, least)) ae ∙ ap (λ l. a ∷ l) (none_left xs 1 (omega (arith, less)))

  pub two_are : (a b : A) → 2 ≤ length xs → length xs < 3 → a ≡ slice_index_or xs 0 a → b ≡ slice_index_or xs 1 b → xs ≡ a ∷ b ∷ []
  two_are a b least less ae be = left_at xs 0 a (omega (arith, least)) ae ∙ ap (λ l. a ∷ l) (left_at xs 1 b (omega (arith, least)) be ∙ ap (λ l. b ∷ l) (none_left xs 2 (omega (arith, less))))

  pub three_are : (a b c : A) → 3 ≤ length xs → length xs < 4 → a ≡ slice_index_or xs 0 a → b ≡ slice_index_or xs 1 b → c ≡ slice_index_or xs 2 c → xs ≡ a ∷ b ∷ c ∷ []
  three_are a b c least less ae be ce =
      left_at xs 0 a (omega (arith, least)) ae
      ∙ ap (λ l. a ∷ l) (left_at xs 1 b (omega (arith, least)) be ∙ ap (λ l. b ∷ l) (left_at xs 2 c (omega (arith, least)) ce ∙ ap (λ l. c ∷ l) (none_left xs 3 (omega (arith, less)))))
