-- The values of references that nodes have as their targets (ECMA-262, 3rd edition, section 8.7.1).
use Rattle.std.specs.Prelude.{◌≡◌, List, [], Option, None, Result, Ok, Err, MatchResult}
use Rattle.wjs_base.specs.declared.ids.NodeId.{NodeId}
use Rattle.wjs_base.specs.declared.ids.ObjId.{ObjId}
use Rattle.wjs_base.specs.declared.values.Value.{Value as Numbered}
use Rattle.wjs_base.specs.declared.values.Value.TheVariants as values
use Rattle.wjs_base.specs.Text.{Table}
use Rattle.wjs_by_content.specs.Tables.{value_in}
use Rattle.wjs_by_content.specs.Values.{Value}
use Rattle.wjs_store.specs.Meaning.{Meaning}
use Rattle.wjs_meaning.specs.Deeds.{Act, Completion}
use Rattle.wjs_meaning.specs.Expressions.{call_callee, call_reference}
use Rattle.wjs_meaning.specs.Reading.{node_in}
use Rattle.wjs_model.specs.declared.config.Config.{Config}
use Rattle.wjs_model.specs.declared.frame.Activation.{Activation as Frame}
use Rattle.wjs_model.specs.declared.frame.Phase.{Phase}
use Rattle.wjs_model.specs.declared.frame.Reference.{Reference}
use Rattle.wjs_model.specs.Contents.{reference_in}
use Rattle.wjs_model.specs.Lists.{arguments_of}
use Rattle.wjs_model.specs.Operands.{evaluated}
use Rattle.wjs_frames.specs.Parts.{env_in, node_among}
use Rattle.wjs_stopping.specs.declared.ends.Broken.{Broken}
use Rattle.wjs_stopping.specs.Ends.{gives_in}
use Rattle.wjs_stopping.specs.Evaluating.{Evaluates}
use Rattle.wjs_direct_lines.specs.Deeds.{line_here}

module _ {S : Type 0} (meaning : S → Meaning) where
  -- the value of a reference, or what its read throws
  abbrev pub read_here : Config S → Frame → Reference → Table → (Completion → Act) → Act
  read_here c f q t = evaluated (reference_in t q) (env_in meaning c t f)

  -- it has this value, which is read
  abbrev pub ReadsAs : Config S → Frame → Reference → Numbered → Config S → Type 0
  ReadsAs c f q v new = Evaluates meaning (read_here c f q) gives_in (Ok v) [] None c new

  -- the object that a value is, or how a call of it broke off before its arguments, whatever its `this`
  abbrev pub FindsObject : Config S → Frame → NodeId → Numbered → Result ObjId Broken → List Frame → Option (Frame × Phase) → Config S → Type 0
  FindsObject c f node v done waits top new = MatchResult done (λ o. v ≡ values.Object o)
      (λ end. (this : Table → Value) → Evaluates meaning (line_here meaning c f (λ t env. call_callee (arguments_of (node_in t (node_among c.units.items f.tree node))) (this t) env (value_in t v))) gives_in (Err end) waits top c new)

  -- the object that the reference of a callee holds, or how its call broke off
  abbrev pub FindsCallee : Config S → Frame → NodeId → Reference → Result ObjId Broken → List Frame → Option (Frame × Phase) → Config S → Type 0
  FindsCallee c f node q done waits top new = MatchResult done (λ o. ReadsAs c f q (values.Object o) new)
      (λ end. Evaluates meaning (line_here meaning c f (λ t env. call_reference (arguments_of (node_in t (node_among c.units.items f.tree node))) env (reference_in t q))) gives_in (Err end) waits top c new)
