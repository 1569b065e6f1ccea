-- Lists with the latest first.
use Rattle.std.proofs.Common.{◌≡◌, List, [], ◌∷◌, ◌++◌, Option, None, Some, length, refl, ap, ◌∙◌, arith}
use Rattle.std.specs.Prelude.{option_to_list}
use Rattle.wjs_model.specs.Frames.{latest_first, Uncovers}

pub latest-snoc : {A : Type 0} (xs : List A) (x : A) → latest_first (xs ++ x ∷ []) ≡ x ∷ latest_first xs
latest-snoc [] x = refl
latest-snoc (y ∷ ys) x = ap (λ l. l ++ y ∷ []) (latest-snoc ys x)

-- what is taken off the end is the latest
pub uncovers : {A : Type 0} (old new : List A) (x : Option A) → old ≡ new ++ option_to_list x → (x ≡ None → length old ≡ 0) → Uncovers (latest_first old) x (latest_first new)
uncovers old new (Some x) e h = ap latest_first e ∙ latest-snoc new x
uncovers [] [] None e h = (refl, refl)
uncovers [] (y ∷ ys) None e h = absurd (cc)
uncovers (x ∷ xs) new None e h = absurd (let l = h refl in omega arith)
