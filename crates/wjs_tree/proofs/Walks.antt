-- What is asked of the whole comes to what is asked of the rest.

-- each tree of x comes to one of y, as R says
pub record ComesTo {X T : Type 0} (P : T → X → Type 0) (R : T → T → Type 0) (x y : X) : Type 0 where
  pub each : (t : T) → P t x → (u : T) × P u y × R t u

pub go_on : {X T : Type 0} (P : T → X → Type 0) (Q R S : T → T → Type 0) (x y z : X) → ((t u v : T) → Q t u → R u v → S t v) → ComesTo P Q x y → ComesTo P R y z → ComesTo P S x z
go_on P Q R S x y z join a b = record {
  each = λ t h.
      (let p = a.each t h in
      let q = b.each p.0 p.1 in
      (q.0, q.1, join t p.0 q.0 p.2 q.2));
}
