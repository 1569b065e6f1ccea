-- The visits of a `for`-`in` that is under way.
use Rattle.std.specs.Prelude.{ℕ, List, Option, None, Some, Result, OnOk}
use Rattle.wjs_base.specs.declared.ids.ObjId.{ObjId}
use Rattle.wjs_base.specs.declared.ids.OutOfMemory.{OutOfMemory}
use Rattle.wjs_base.specs.Text.{Table}
use Rattle.wjs_store.specs.Meaning.{Meaning}
use Rattle.wjs_tree.specs.declared.node.Node.{Node}
use Rattle.wjs_tree.specs.declared.node.Node.TheVariants as nodes
use Rattle.wjs_by_content.specs.Values.{Text, Value, Undefined, Null, Object}
use Rattle.wjs_by_content.specs.Names.{Slot}
use Rattle.wjs_by_content.specs.Tables.{text_in}
use Rattle.wjs_meaning.specs.Builtins.{class_prototype}
use Rattle.wjs_meaning.specs.Deeds.{Completion, Env, Act, Ret, Sub, Normal, Throws}
use Rattle.wjs_meaning.specs.Loops as line
use Rattle.wjs_meaning.specs.Loops.{visit_take, visits_from, for_in_value}
use Rattle.wjs_model.specs.declared.config.Config.{Config}
use Rattle.wjs_frames.specs.Following.{Follows}
use Rattle.wjs_loops.specs.declared.for_ins.Taker.{Taker}
use Rattle.wjs_loops.specs.declared.for_ins.Taker.TheVariants.{Target, Variable}

-- what takes the names, as the meaning has it
abbrev pub taker_in : Table → Taker → line.Taker
taker_in t (Target target) = line.TargetNode target.0
taker_in t (Variable name) = line.VarName (text_in t name)

-- what takes the names of a `for`-`in`
abbrev pub taker_of : Node → Option Taker
taker_of (nodes.ForIn target e s) = Some (Target target)
taker_of (nodes.ForVarIn name e s) = Some (Variable name)
taker_of node = None

-- the object that lists the names of a value; none of undefined and null
abbrev pub listed : Value → Option ObjId
listed Undefined = None
listed Null = None
listed (Object o) = Some o
listed v = Some (class_prototype v)

-- a visit that is present is taken, and without one the loop ends
abbrev pub visit_goes : ℕ → line.Taker → ℕ → Option Text → List Slot → Env → Act
visit_goes here taker s None xs env = Ret Normal
visit_goes here taker s (Some name) xs env = visit_take here taker s name env (visits_from here taker s xs env)

-- deeds where they stand: alone, or within others, before what comes after them there
abbrev pub placed : Option (Completion → Act) → Act → Act
placed None act = act
placed (Some go) act = Sub act go

module _ {S : Type 0} (meaning : S → Meaning) where
  -- what is followed of the visits that are left is followed of all that there were
  pub record Passes (before after : Table → List Slot) (env : Table → Env) (old mid : Config S) : Type 0 where
    pub by : (here : ℕ) (taker : line.Taker) (s : ℕ) (go : Option (Completion → Act)) (later : Config S) (r : Result (Unit {0}) OutOfMemory) → OnOk r (Follows meaning (placed go (visits_from here taker s (after later.heap.texts) (env later.heap.texts))) mid later)
        → OnOk r (Follows meaning (placed go (visits_from here taker s (before later.heap.texts) (env later.heap.texts))) old later)

  -- what is followed of the visit that was found present is followed of all that there were
  pub record Reaches (before after : Table → List Slot) (found : Table → Option Text) (env : Table → Env) (old mid : Config S) : Type 0 where
    pub by : (here : ℕ) (taker : line.Taker) (s : ℕ) (go : Option (Completion → Act)) (later : Config S) (r : Result (Unit {0}) OutOfMemory) → OnOk r (Follows meaning (placed go (visit_goes here taker s (found later.heap.texts) (after later.heap.texts) (env later.heap.texts))) mid later)
        → OnOk r (Follows meaning (placed go (visits_from here taker s (before later.heap.texts) (env later.heap.texts))) old later)

  -- what is followed of the visits that were listed is followed of the value whose names they are
  pub record Lists (value : Table → Value) (visits : Table → List Slot) (env : Table → Env) (old mid : Config S) : Type 0 where
    pub by : (here : ℕ) (taker : line.Taker) (s : ℕ) (go : Option (Completion → Act)) (later : Config S) (r : Result (Unit {0}) OutOfMemory) → OnOk r (Follows meaning (placed go (visits_from here taker s (visits later.heap.texts) (env later.heap.texts))) mid later)
        → OnOk r (Follows meaning (placed go (for_in_value here taker s (env later.heap.texts) (value later.heap.texts))) old later)

  -- that the value has none was thrown
  pub record Refuses (value : Table → Value) (error : Table → Value) (env : Table → Env) (old mid : Config S) : Type 0 where
    pub by : (here : ℕ) (taker : line.Taker) (s : ℕ) (go : Option (Completion → Act)) (later : Config S) (r : Result (Unit {0}) OutOfMemory) → OnOk r (Follows meaning (placed go (Ret (Throws (error later.heap.texts)))) mid later)
        → OnOk r (Follows meaning (placed go (for_in_value here taker s (env later.heap.texts) (value later.heap.texts))) old later)
