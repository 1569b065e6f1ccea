-- A list that grew four times.
use Rattle.std.proofs.Common.{◌≡◌, List, ◌++◌, ap, ◌∙◌, append_assoc}

pub four : {A : Type 0} (a b c d e w x y z : List A) → b ≡ a ++ w → c ≡ b ++ x → d ≡ c ++ y → e ≡ d ++ z → e ≡ a ++ (w ++ x ++ y ++ z)
four a b c d e w x y z ew ex ey ez =
    ez
    ∙ ap (λ l. l ++ z) (ey ∙ ap (λ l. l ++ y) (ex ∙ ap (λ l. l ++ x) ew))
    ∙ ap (λ l. (l ++ y) ++ z) (append_assoc a w x)
    ∙ ap (λ l. l ++ z) (append_assoc a (w ++ x) y)
    ∙ append_assoc a (w ++ x ++ y) z
