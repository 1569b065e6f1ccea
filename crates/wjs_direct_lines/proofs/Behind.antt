-- Where the frame of a sequence waits for an element: what it does then looks at its node alone.
use Rattle.std.proofs.Common.{◌≡◌, ℕ, List, [], Option, Vec, Global, refl, ap, ◌∙◌, sym, subst, drop}
use Rattle.std.specs.Prelude.{Result, Ok, Err, OnOk}
use Rattle.std.proofs.lemmas.Result.{on_ok_weaker}
use Rattle.wjs_base.specs.Text.{Table}
use Rattle.wjs_base.specs.declared.ids.NodeId.{NodeId}
use Rattle.wjs_base.specs.declared.ids.OutOfMemory.{OutOfMemory}
use Rattle.wjs_store.specs.Meaning.{Meaning}
use Rattle.wjs_by_content.specs.Values.{Value}
use Rattle.wjs_meaning.specs.Deeds.{Act, Completion, Env, Eval, Goal, Ret, Throws}
use Rattle.wjs_meaning.specs.Reading.{node_in}
use Rattle.wjs_model.specs.declared.config.Config.{Config}
use Rattle.wjs_model.specs.declared.frame.Activation.{Activation as Frame}
use Rattle.wjs_model.specs.declared.frame.Completion.{Completion as Said}
use Rattle.wjs_model.specs.declared.frame.Phase.{Phase}
use Rattle.wjs_model.specs.declared.loaded.LoadedProgram.{LoadedProgram as Program}
use Rattle.wjs_model.specs.declared.point.Point.{Point}
use Rattle.wjs_model.specs.Contents.{completion_in, holding_in}
use Rattle.wjs_model.specs.Soundness.{HasPoint}
use Rattle.wjs_frames.specs.Following.{Follows, Later}
use Rattle.wjs_frames.specs.Parts.{node_among, then_at}
use Rattle.wjs_effects.specs.declared.elements.Sequence.{Sequence}
use Rattle.wjs_effects.specs.declared.elements.Sequence.TheVariants as kinds
use Rattle.wjs_effects.specs.Sequences.{SequenceStands, element_next, element_point, elements_from, elements_in}
use Rattle.wjs_effects.proofs.Running.{element_waits}
use Rattle.wjs_effects.proofs.StandingElements.{point_there}
use Rattle.wjs_stopping.specs.declared.ends.Broken.{Broken}
use Rattle.wjs_stopping.specs.declared.ends.Broken.TheVariants as ends
use Rattle.wjs_stopping.specs.Evaluating.{Evaluates, HasMemory, outcome_in}
use Rattle.wjs_stopping.specs.Waiting.{at_node}
use Rattle.wjs_direct_lines.specs.Deeds.{line_here}
use Rattle.wjs_direct_lines.specs.Sequences.{behind}

-- a throw goes past the elements behind it
pub behind_throws : (kind : Sequence) (rest : Act) (e : Value) → element_next kind rest (Throws e) ≡ Ret (Throws e)
behind_throws kinds.Block rest e = refl
behind_throws kinds.Function rest e = refl
behind_throws kinds.Program rest e = refl

module _ {S : Type 0} (meaning : S → Meaning) (kind : Sequence) (next : ℕ) where
  -- the elements behind it, of the node at a number
  abbrev behind_node : List Program → ℕ → Table → Env → NodeId → Completion → Act
  behind_node us tree t env i = element_next kind (elements_from kind (drop next (elements_in kind (node_in t (node_among us tree i)))) env)

  pub behind_later : (old mid : Config S) (f : Frame) → Later meaning old mid → (t : Table) (env : Env) → behind meaning mid f kind next t env ≡ behind meaning old f kind next t env
  behind_later old mid f l t env = ap (λ (us : Vec Program Global). behind_node us.items f.tree t env f.node) l.units

  -- what a frame of its node does that waits there
  pub behind_waits : (c : Config S) (f : Frame) (i : NodeId) (p : Point) → i ≡ f.node → p ≡ element_point kind next → (t : Table) (env : Env) → then_at meaning c (at_node f i []) p t env ≡ behind meaning c f kind next t env
  behind_waits c f i p ei ep t env =
      ap (λ (q : Point). then_at meaning c (at_node f i []) q t env) ep
      ∙ element_waits kind next i.0 (node_in t (node_among c.units.items f.tree i)) (holding_in t []) env
      ∙ ap (λ (j : NodeId). behind_node c.units.items f.tree t env j) ei

  pub stopped_waits : (old mid : Config S) (f : Frame) (i : NodeId) (p : Point) → i ≡ f.node → p ≡ element_point kind next → Later meaning old mid → (t : Table) (env : Env) → then_at meaning mid (at_node f i []) p t env ≡ behind meaning old f kind next t env
  stopped_waits old mid f i p ei ep l t env = behind_waits mid f i p ei ep t env ∙ behind_later old mid f l t env

  pub waits_there : (c : Config S) (f : Frame) (i : NodeId) (p : Point) → i ≡ f.node → p ≡ element_point kind next → SequenceStands c f kind → HasPoint c (at_node f i []) p
  waits_there c f i p ei ep h =
      subst (λ (j : NodeId). HasPoint c (at_node f j []) p) (sym ei)
      (subst (λ (q : Point). HasPoint c (at_node f f.node []) q) (sym ep) (point_there c f kind next h))

  -- what it does with the end of the element, where that came
  pub end_later : (old mid new : Config S) (f : Frame) (e : Said) (done : Result Said Broken) (w : List Frame) (p : Option (Frame × Phase)) → Later meaning old mid
      → Evaluates meaning (line_here meaning mid f (λ t env. behind meaning mid f kind next t env (completion_in t e))) completion_in done w p mid new
      → Evaluates meaning (line_here meaning mid f (λ t env. behind meaning old f kind next t env (completion_in t e))) completion_in done w p mid new
  end_later old mid new f e done w p l d =
      subst (λ (act : Table → Env → Completion → Act). Evaluates meaning (line_here meaning mid f (λ t env. act t env (completion_in t e))) completion_in done w p mid new) (λ i t env. behind_later old mid f l t env i) d

module _ {S : Type 0} (meaning : S → Meaning) where
  -- an evaluation of a goal from a frame, whose end or stops take its place
  pub goal_follows : {A : Type 0} (said : Table → A → Completion) (goal : Goal) (env : Table → Env) (done : Result A Broken) (w : List Frame) (p : Option (Frame × Phase)) (old mid new : Config S) (r : Result (Unit {0}) OutOfMemory)
      → Evaluates meaning (λ t go. Eval goal (env t) go) said done w p old mid → OnOk r (HasMemory done) → OnOk r (Follows meaning (outcome_in meaning mid said done w p new.heap.texts Ret) mid new)
      → OnOk r (Follows meaning (Eval goal (env new.heap.texts) Ret) old new)
  goal_follows said goal env (Ok v) w p old mid new r l m h = l.by Ret new r h
  goal_follows said goal env (Err (ends.Throws e)) w p old mid new r l m h = l.by Ret new r h
  goal_follows said goal env (Err ends.Stopped) w p old mid new r l m h = l.by Ret new r h
  goal_follows said goal env (Err ends.OutOfMemory) w p old mid new r l m h = on_ok_weaker r (λ x. absurd x) m
