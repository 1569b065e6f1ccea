-- What is asked of the whole comes to what is asked of the rest.
use Rattle.std.specs.Prelude.{◌↔◌, Bool, IsTrue}
use Rattle.wjs_tree.proofs.Walks.{ComesTo}

-- what is asked of one tree is what is asked of the other
abbrev pub AskAlike : {T : Type 0} → (T → Type 0) → T → T → Type 0
AskAlike J t u = J t ↔ J u

pub alike : {T : Type 0} (J : T → Type 0) (t : T) → AskAlike J t t
alike J t = (λ j. j, λ j. j)

pub joined : {T : Type 0} (J : T → Type 0) (t u v : T) → AskAlike J t u → AskAlike J u v → AskAlike J t v
joined J t u v a b = (λ j. b.0 (a.0 j), λ j. a.1 (b.1 j))

pub settle : {X T : Type 0} (P : T → X → Type 0) (J : T → Type 0) (x y : X) (b : Bool) → ComesTo P (AskAlike J) x y → ((u : T) → P u y → IsTrue b ↔ J u) → (t : T) → P t x → IsTrue b ↔ J t
settle P J x y b f g t h = let u = f.each t h in let w = g u.0 u.1 in (λ e. u.2.1 (w.0 e), λ j. w.1 (u.2.0 j))
