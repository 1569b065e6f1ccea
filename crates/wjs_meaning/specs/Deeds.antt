-- What is done, as a tree of deeds, and what each deed does to the state.
use Rattle.std.specs.Prelude.{ℕ, zero, suc, List, [], ◌∷◌, ◌++◌, Bool, Option, Some}
use Rattle.wjs_base.specs.declared.ids.ObjId.{ObjId}
use Rattle.wjs_base.specs.declared.ids.WorldId.{WorldId}
use Rattle.wjs_store.specs.State.{State, Verdict, Act as Action, read, write, list, sprout, commit, content_at, next_id, verdict_at, has_world, after}
use Rattle.wjs_by_content.specs.Rename.{shape}
use Rattle.wjs_arena.specs.declared.native.Native.{Native}
use Rattle.wjs_by_content.specs.Values.{Text, Whole, Value, Number, String}
use Rattle.wjs_by_content.specs.Names.{Slot, content}
use Rattle.wjs_by_content.specs.Plans.{Told, told_of, names_at, Plan, Gives as Answers, Reads, Writes, Lists}
use Rattle.wjs_by_content.specs.Objects.{Arena, Internals, created, next_number}
use Rattle.wjs_meaning.specs.Trees.{Tree, Node, tree_at, node_at}

-- ---- what there is

-- the state of a run: the worlds, the objects, the output so far, and the actions done so far with their answers
pub record St : Type 0 where
  pub full : State content
  pub arena : Arena
  pub out : List ℕ
  pub done : List Told

-- where a node is run, its execution context (ECMA-262, 3rd edition, section 10): the trees and the number of the one at hand, the scope, `this`, the current world, the global object, and the owner that numbers what is made
pub record Env : Type 0 where
  pub trees : List Tree
  pub tree : ℕ
  pub scope : ObjId
  pub this : Value
  pub world : WorldId
  pub global : ObjId
  pub owner : ℕ

-- the tree at hand
abbrev pub tree_here : Env → Tree
tree_here env = tree_at env.trees env.tree

-- a node of the tree at hand
abbrev pub node_here : Env → ℕ → Node
node_here env k = node_at (tree_here env) k

-- ---- goals and completions

-- what is entered by a step: an expression for its value or as a target, a statement, a loop at its next turn, a function's body with its arguments, the body of a program, and a native with its arguments, by `new` or not
pub data Goal : Type 0 where
  AtExpr : ℕ → Goal
  AtTarget : ℕ → Goal
  AtStmt : ℕ → Goal
  Again : ℕ → Goal
  AtBody : ObjId → List Value → Goal
  AtProgram : Goal
  AtNative : Native → Bool → List Value → Goal

-- what can be read and stored to: a name in a scope, a global name, a member of a value (8.7)
pub data Reference : Type 0 where
  Local : ObjId → Text → Reference
  Global : Text → Reference
  Member : Value → Text → Reference

-- how an expression ends, by a value or a reference, and how a statement ends; both may throw (8.9)
pub data Completion : Type 0 where
  Gives : Value → Completion
  Refers : Reference → Completion
  Normal : Completion
  Breaks : Option Text → Completion
  Continues : Option Text → Completion
  Returns : Value → Completion
  Throws : Value → Completion

-- ---- deeds

-- what is done to the state: the actions of worlds, whether a world is there, a look at the objects, a new object, output
pub data Deed : Type 0 where
  Read : WorldId → Slot → Deed
  Write : WorldId → Slot → Option Value → Deed
  Listing : WorldId → ObjId → Deed
  Sprout : WorldId → ℕ → Bool → Deed
  Commit : WorldId → Deed
  HasWorld : WorldId → Deed
  Look : Deed
  Create : ℕ → Internals → Deed
  Emit : List ℕ → Deed

-- the type of a deed's answer
abbrev pub Answer : Deed → Type 0
Answer (Read w s) = Option Value
Answer (Write w s c) = Unit {0}
Answer (Listing w o) = List Text
Answer (Sprout w owner strict) = WorldId
Answer (Commit w) = Verdict (Unit {0})
Answer (HasWorld w) = Bool
Answer Look = Arena
Answer (Create owner internals) = ObjId
Answer (Emit bytes) = Unit {0}

-- what a deed answers; a refused commit does not tell the slot
abbrev pub answer_of : (deed : Deed) → St → Answer deed
answer_of (Read w s) st = content_at st.full w s
answer_of (Write w s c) st = tt
answer_of (Listing w o) st = names_at st.full w o
answer_of (Sprout w owner strict) st = next_id st.full owner
answer_of (Commit w) st = shape (verdict_at st.full w)
answer_of (HasWorld w) st = has_world st.full w
answer_of Look st = st.arena
answer_of (Create owner internals) st = next_number st.arena owner
answer_of (Emit bytes) st = tt

-- an action of the worlds joins those done
abbrev pub acted : Action Slot Value → St → St
acted a st = record st { full = after st.full a; done = st.done ++ told_of st.full a ∷ [] }

-- the state that a deed leaves
abbrev pub state_after : Deed → St → St
state_after (Read w s) st = acted (read w s) st
state_after (Write w s c) st = acted (write w s c) st
state_after (Listing w o) st = acted (list w o) st
state_after (Sprout w owner strict) st = acted (sprout w owner strict) st
state_after (Commit w) st = acted (commit w) st
state_after (HasWorld w) st = st
state_after Look st = st
state_after (Create owner internals) st = record st { arena = created st.arena owner internals }
state_after (Emit bytes) st = record st { out = st.out ++ bytes }

-- ---- what is done next

-- the end; a step, and then more; a goal, or deeds of their own, and what follows its completion; a deed, and what follows its answer
pub data Act : Type 0 where
  Ret : Completion → Act
  Tick : Act → Act
  Eval : Goal → Env → (Completion → Act) → Act
  Sub : Act → (Completion → Act) → Act
  Do : (deed : Deed) → (Answer deed → Act) → Act

-- how a run ends, with the state and the steps left, or for want of steps
pub data Outcome : Type 0 where
  Ends : Completion → St → ℕ → Outcome
  Spent : St → Outcome

-- goes on from where a run ends
abbrev pub then_do : Outcome → (Completion → St → ℕ → Outcome) → Outcome
then_do (Ends c st n) go = go c st n
then_do (Spent st) go = Spent st

-- what a goal does
abbrev pub Next : Type 0
Next = Goal → Env → St → ℕ → Outcome

-- does the deeds with n steps left, where `next` is what the goals do; a step that is due where none is left ends the run
abbrev pub interp : Next → Act → St → ℕ → Outcome
interp next (Ret c) st n = Ends c st n
interp next (Tick a) st zero = Spent st
interp next (Tick a) st (suc n) = interp next a st n
interp next (Eval goal env go) st n = then_do (next goal env st n) (λ c st' n'. interp next (go c) st' n')
interp next (Sub a go) st n = then_do (interp next a st n) (λ c st' n'. interp next (go c) st' n')
interp next (Do deed go) st n = interp next (go (answer_of deed st)) (state_after deed st) n

-- ---- what waits for a completion: one of another kind ends it

-- with a value
abbrev pub then_value : (Value → Act) → Completion → Act
then_value go (Gives v) = go v
then_value go c = Ret c

-- with a number
abbrev pub then_number : (Whole → Act) → Completion → Act
then_number go (Gives (Number x)) = go x
then_number go c = Ret c

-- with a text
abbrev pub then_text : (Text → Act) → Completion → Act
then_text go (Gives (String t)) = go t
then_text go c = Ret c

-- with a reference
abbrev pub then_reference : (Reference → Act) → Completion → Act
then_reference go (Refers r) = go r
then_reference go c = Ret c

-- after a statement that ended normally
abbrev pub then_normal : Act → Completion → Act
then_normal a Normal = a
then_normal a c = Ret c

-- ---- short words

-- ends with a value
abbrev pub give : Value → Act
give v = Ret (Gives v)

-- writes in order
abbrev pub write_all : WorldId → List (Slot × Value) → Act → Act
write_all w [] a = a
write_all w (x ∷ xs) a = Do (Write w x.0 (Some x.1)) (λ done. write_all w xs a)

-- a plan is done in a world, and its answer handed on
abbrev pub carry_out : {A : Type 0} → Plan A → WorldId → (A → Act) → Act
carry_out (Answers x) w go = go x
carry_out (Reads s next) w go = Do (Read w s) (λ found. carry_out (next found) w go)
carry_out (Writes s c next) w go = Do (Write w s c) (λ done. carry_out next w go)
carry_out (Lists o next) w go = Do (Listing w o) (λ names. carry_out (next names) w go)
