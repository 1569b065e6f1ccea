-- Numbers in lists.
use Rattle.std.proofs.Common.{ℕ, ◌⊎◌, inl, inr, List, [], ◌∷◌, ◌++◌, refl}
use Rattle.wjs_tree.specs.Used.{IsUsed, IsOnce, AreApart}

pub used_cases : (us vs : List ℕ) (n : ℕ) → IsUsed (us ++ vs) n → IsUsed us n ⊎ IsUsed vs n
used_cases [] vs n h = inr h
used_cases (m ∷ us) vs n (inl e) = inl (inl e)
used_cases (m ∷ us) vs n (inr h) = further (used_cases us vs n h)
  where
    further : IsUsed us n ⊎ IsUsed vs n → IsUsed (m ∷ us) n ⊎ IsUsed vs n
    further (inl h) = inl (inr h)
    further (inr h) = inr h

pub once_both : (us vs : List ℕ) → IsOnce us → IsOnce vs → AreApart us vs → IsOnce (us ++ vs)
once_both [] vs a b apart = b
once_both (m ∷ us) vs a b apart = (λ h. neither (used_cases us vs m h), once_both us vs a.1 b (λ n h g. apart n (inr h) g))
  where
    neither : IsUsed us m ⊎ IsUsed vs m → ⊥
    neither (inl h) = a.0 h
    neither (inr h) = apart m (inl refl) h
