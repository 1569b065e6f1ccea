-- Names that are added on the way.
use Rattle.std.specs.Prelude.{◌≡◌, ℕ, Bool, true, false, if◌then◌else◌, List, [], ◌∷◌, ◌++◌, map, nat_eq}
use Rattle.std.proofs.Common.{refl, ap, ◌||◌}
use Rattle.std.specs.List.{list_any}
use Rattle.std.proofs.lemmas.List.{map-append}
use Rattle.wjs_base.specs.declared.ids.TextId.{TextId}
use Rattle.wjs_scope.specs.Declarations.{name_of, with_name, with_names}

-- names that are added one list after the other
pub with_both : (v xs ys : List TextId) → with_names v (xs ++ ys) ≡ with_names (with_names v xs) ys
with_both v [] ys = refl
with_both v (x ∷ xs) ys = with_both (with_name v x) xs ys

-- what one tree declares, added to v, gives what the other declares, added to w
abbrev pub AddAlike : {T : Type 0} → (T → List TextId) → List TextId → List TextId → T → T → Type 0
AddAlike f v w t u = with_names v (f t) ≡ with_names w (f u)

-- a name is found among numbers as among names
pub found : (x : TextId) (ks : List ℕ) → list_any (λ (y : TextId). nat_eq x.0 y.0) (map name_of ks) ≡ list_any (nat_eq x.0) ks
found x [] = refl
found x (k ∷ ks) = ap (λ b. nat_eq x.0 k || b) (found x ks)

either : (x : TextId) (ks : List ℕ) (b c : Bool) → c ≡ b → map name_of (if b then ks else ks ++ x.0 ∷ []) ≡ (if c then map name_of ks else map name_of ks ++ x ∷ [])
either x ks true true e = refl
either x ks false false e = map-append name_of ks (x.0 ∷ [])
either x ks true false e = cc
either x ks false true e = cc

pub added : (x : TextId) (ks : List ℕ) → map name_of (if list_any (nat_eq x.0) ks then ks else ks ++ x.0 ∷ []) ≡ with_name (map name_of ks) x
added x ks = either x ks (list_any (nat_eq x.0) ks) (list_any (λ (y : TextId). nat_eq x.0 y.0) (map name_of ks)) (found x ks)
