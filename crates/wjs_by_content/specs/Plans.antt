-- What is asked of the worlds, as a tree: an action, and what follows each answer.
use Rattle.std.specs.Prelude.{List, [], ◌∷◌, map as each, Option}
use Rattle.wjs_base.specs.declared.ids.ObjId.{ObjId}
use Rattle.wjs_base.specs.declared.ids.WorldId.{WorldId}
use Rattle.wjs_store.specs.State.{State, Act, Reply, Verdict, read, write, list, found, wrote, listed, sprouted, committed, content_at, slots_at, answer_to, after}
use Rattle.wjs_by_content.specs.Rename.{shape}
use Rattle.wjs_by_content.specs.Values.{Text, Value}
use Rattle.wjs_by_content.specs.Names.{Slot, content}

-- what an action answered, as far as contents decide it: of a refused commit not which slot disagreed, since that is the least by the numbers of texts
pub data Heard : Type 0 where
  Found : Option Value → Heard
  Wrote : Heard
  Listed : List Text → Heard
  Sprouted : WorldId → Heard
  Committed : Verdict (Unit {0}) → Heard

abbrev pub heard : Reply Slot Value → Heard
heard (found c) = Found c
heard wrote = Wrote
heard (listed ss) = Listed (each (λ s. s.name) ss)
heard (sprouted w) = Sprouted w
heard (committed v) = Committed (shape v)

-- an action that was done, with its answer
abbrev pub Told : Type 0
Told = Act Slot Value × Heard

-- an action that is done in a state
abbrev pub told_of : State content → Act Slot Value → Told
told_of F a = (a, heard (answer_to F a))

-- ---- plans

-- what is asked of the worlds, and what follows each answer
pub data Plan (A : Type 0) : Type 0 where
  Gives : A → Plan A
  Reads : Slot → (Option Value → Plan A) → Plan A
  Writes : Slot → Option Value → Plan A → Plan A
  Lists : ObjId → (List Text → Plan A) → Plan A

-- the names of an object's present slots, in their order
abbrev pub names_at : State content → WorldId → ObjId → List Text
names_at F w o = each (λ s. s.name) (slots_at F w o)

module _ {A : Type 0} where
  -- the answer of a plan that is done in a world
  abbrev pub answer_of : Plan A → WorldId → State content → A
  answer_of (Gives a) w F = a
  answer_of (Reads s go) w F = answer_of (go (content_at F w s)) w (after F (read w s))
  answer_of (Writes s c go) w F = answer_of go w (after F (write w s c))
  answer_of (Lists o go) w F = answer_of (go (names_at F w o)) w (after F (list w o))

  -- the worlds afterwards
  abbrev pub worlds_after : Plan A → WorldId → State content → State content
  worlds_after (Gives a) w F = F
  worlds_after (Reads s go) w F = worlds_after (go (content_at F w s)) w (after F (read w s))
  worlds_after (Writes s c go) w F = worlds_after go w (after F (write w s c))
  worlds_after (Lists o go) w F = worlds_after (go (names_at F w o)) w (after F (list w o))

  -- the actions that it does, each with its answer
  abbrev pub actions_of : Plan A → WorldId → State content → List Told
  actions_of (Gives a) w F = []
  actions_of (Reads s go) w F = told_of F (read w s) ∷ actions_of (go (content_at F w s)) w (after F (read w s))
  actions_of (Writes s c go) w F = told_of F (write w s c) ∷ actions_of go w (after F (write w s c))
  actions_of (Lists o go) w F = told_of F (list w o) ∷ actions_of (go (names_at F w o)) w (after F (list w o))

-- one plan, and then another that depends on its answer
abbrev pub then_plan : {A B : Type 0} → Plan A → (A → Plan B) → Plan B
then_plan (Gives a) go = go a
then_plan (Reads s k) go = Reads s (λ c. then_plan (k c) go)
then_plan (Writes s c k) go = Writes s c (then_plan k go)
then_plan (Lists o k) go = Lists o (λ names. then_plan (k names) go)
