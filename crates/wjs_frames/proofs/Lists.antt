-- Lists whose elements are the same under two functions.
use Rattle.std.proofs.Common.{◌≡◌, List, [], ◌∷◌, refl}
use Rattle.std.specs.Prelude.{map as each, All}
use Rattle.std.proofs.lemmas.List.Elements.{All-head, All-tail}

pub each_alike : {A B : Type 0} (f h : A → B) (P : A → Type 0) → ((x : A) → P x → f x ≡ h x) → (xs : List A) → All P xs → each f xs ≡ each h xs
each_alike f h P same [] k = refl
each_alike f h P same (x ∷ xs) k =
    let one = same x (All-head P x xs k) in
    let more = each_alike f h P same xs (All-tail P x xs k) in
    λ i. one i ∷ more i
