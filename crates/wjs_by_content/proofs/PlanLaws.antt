-- One plan and then another.
use Rattle.std.proofs.Common.{◌≡◌, List, ◌∷◌, ◌++◌, refl, ap}
use Rattle.wjs_base.specs.declared.ids.WorldId.{WorldId}
use Rattle.wjs_store.specs.State.{State, read, write, list, content_at, after}
use Rattle.wjs_by_content.specs.Names.{content}
use Rattle.wjs_by_content.specs.Plans.{Plan, Gives, Reads, Writes, Lists, Told, told_of, names_at, answer_of, worlds_after, actions_of, then_plan}

module _ {A B : Type 0} (go : A → Plan B) (w : WorldId) where
  pub answer_then : (p : Plan A) (F : State content) → answer_of (then_plan p go) w F ≡ answer_of (go (answer_of p w F)) w (worlds_after p w F)
  answer_then (Gives a) F = refl
  answer_then (Reads s k) F = answer_then (k (content_at F w s)) (after F (read w s))
  answer_then (Writes s c k) F = answer_then k (after F (write w s c))
  answer_then (Lists o k) F = answer_then (k (names_at F w o)) (after F (list w o))

  pub worlds_then : (p : Plan A) (F : State content) → worlds_after (then_plan p go) w F ≡ worlds_after (go (answer_of p w F)) w (worlds_after p w F)
  worlds_then (Gives a) F = refl
  worlds_then (Reads s k) F = worlds_then (k (content_at F w s)) (after F (read w s))
  worlds_then (Writes s c k) F = worlds_then k (after F (write w s c))
  worlds_then (Lists o k) F = worlds_then (k (names_at F w o)) (after F (list w o))

  pub actions_then : (p : Plan A) (F : State content) → actions_of (then_plan p go) w F ≡ actions_of p w F ++ actions_of (go (answer_of p w F)) w (worlds_after p w F)
  actions_then (Gives a) F = refl
  actions_then (Reads s k) F = ap (λ (ts : List Told). told_of F (read w s) ∷ ts) (actions_then (k (content_at F w s)) (after F (read w s)))
  actions_then (Writes s c k) F = ap (λ (ts : List Told). told_of F (write w s c) ∷ ts) (actions_then k (after F (write w s c)))
  actions_then (Lists o k) F = ap (λ (ts : List Told). told_of F (list w o) ∷ ts) (actions_then (k (names_at F w o)) (after F (list w o)))
