-- What a store of worlds means.
use Rattle.std.specs.Prelude.{◌≡◌, Bool, not, List, [], ◌∷◌, ◌++◌, map as each, Option, Some, Result, Ok, Err, IsTrue}
use Rattle.wjs_base.specs.declared.ids.OutOfMemory.{OutOfMemory}
use Rattle.std.specs.Option.{option_map}
use Rattle.std.specs.FinMap.{FinMap}
use Rattle.std.specs.FinMap as map
use Rattle.wjs_base.specs.declared.values.Name.{Name}
use Rattle.wjs_base.specs.declared.values.Slot.{Slot}
use Rattle.wjs_base.specs.declared.values.Value.{Value}
use Rattle.wjs_base.specs.declared.ids.ObjId.{ObjId}
use Rattle.wjs_base.specs.declared.ids.WorldId.{WorldId}
use Rattle.wjs_base.specs.Order.{slot_cmp}
use Rattle.wjs_store.specs.Naming.{plain}
use Rattle.wjs_store.specs.Reached.{IsReached}
use Rattle.wjs_store.specs.State.{World, State, Act, Reply, write, wrote, answer_to, after, has_world}

-- a finite map of contents that stands outside the store
abbrev pub View : Type 0
View = FinMap slot_cmp Value

-- worlds as the program has them, the newest first
abbrev pub Worlds : Type 0
Worlds = State plain

-- the machine's actions and answers over slots and values as the program has them
abbrev pub PlainAct : Type 0
PlainAct = Act Slot Value

abbrev pub PlainReply : Type 0
PlainReply = Reply Slot Value

-- what a store means
pub record Meaning : Type 0 where
  -- the worlds, under a view
  pub full : View → Worlds
  -- whether a view is admitted
  pub admits : View → Bool
  -- the store's own view
  pub own : View
  -- the answered actions, where the store tells them
  pub told : Option (List (PlainAct × PlainReply))
  -- what stands beside the worlds
  pub around : Worlds
  -- whether a call answered that memory was wanted
  pub spent : Bool

-- the worlds, under the store's own view
abbrev pub worlds : Meaning → Worlds
worlds m = m.full m.own

-- an action was answered: under each view that is admitted afterwards the answer is the machine's, and so are the worlds
pub record Does (old : Meaning) (action : PlainAct) (answer : PlainReply) (new : Meaning) : Type 0 where
  pub narrows : (v : View) → IsTrue (new.admits v) → IsTrue (old.admits v)
  pub answers : (v : View) → IsTrue (new.admits v) → answer ≡ answer_to (old.full v) action
  pub worlds : (v : View) → IsTrue (new.admits v) → new.full v ≡ after (old.full v) action
  -- a world that was there is there
  pub still_there : (i : WorldId) → IsTrue (has_world (old.full old.own) i) → IsTrue (has_world (new.full new.own) i)
  -- its own view and its surroundings stay, and where it tells its actions, it has told this one too
  pub own : new.own ≡ old.own
  pub told : new.told ≡ option_map (λ done. done ++ (action, answer) ∷ []) old.told
  pub around : new.around ≡ old.around
  pub spent : new.spent ≡ old.spent

-- a world without its copy: its number, its parent, whether it is strict, and its marks
abbrev pub unseen : World plain → World plain
unseen x = record x { copy = map.empty }

-- every store that is not spent
pub record IsSound (m : Meaning) : Type 0 where
  pub admits_own : IsTrue (m.admits m.own)
  pub reached : (v : View) → IsTrue (m.admits v) → IsReached (m.full v)
  pub same_marks : (v : View) → IsTrue (m.admits v) → each unseen (m.full v) ≡ each unseen (worlds m)

-- an answer by the machine, or want of memory for good: the store was spent, or is from now on
abbrev pub Answers : {T : Type 0} → Meaning → PlainAct → (T → PlainReply) → Result T OutOfMemory → Meaning → Type 0
Answers old action told (Ok answer) new = Does old action (told answer) new × IsTrue (not old.spent)
Answers old action told (Err e) new = IsTrue new.spent

-- ---- several actions

-- actions were answered, one after another
abbrev pub DoesAll : Meaning → List (PlainAct × PlainReply) → Meaning → Type 0
DoesAll old [] new = new ≡ old
DoesAll old (e ∷ es) new = (mid : Meaning) × Does old e.0 e.1 mid × DoesAll mid es new

-- all of them, or want of memory for good
abbrev pub AnswersAll : {T : Type 0} → Meaning → List (PlainAct × PlainReply) → Result T OutOfMemory → Meaning → Type 0
AnswersAll old done (Ok answer) new = DoesAll old done new × IsTrue (not old.spent)
AnswersAll old done (Err e) new = IsTrue new.spent

-- the slots of an object that these values have names for
abbrev pub entries_of : ObjId → List (Name × Value) → List (Slot × Option Value)
entries_of o rows = each (λ row. (record { object = o; name = row.0 }, Some row.1)) rows

-- they are written in a world
abbrev pub writes_of : WorldId → List (Slot × Option Value) → List (PlainAct × PlainReply)
writes_of w es = each (λ e. (write w e.0 e.1, wrote)) es
