-- The deeds of a handler: a scope is made, the name is written there, and then the block is entered.
use Rattle.std.proofs.Common.{◌≡◌, List, Option, None, Some, inl, inr, refl, ap, ◌∙◌, subst}
use Rattle.std.specs.Prelude.{Result, OnOk}
use Rattle.std.specs.Option.{option_map}
use Rattle.wjs_base.specs.declared.ids.OutOfMemory.{OutOfMemory}
use Rattle.wjs_base.specs.declared.ids.ObjId.{ObjId}
use Rattle.wjs_base.specs.declared.values.Name.{Name}
use Rattle.wjs_base.specs.declared.values.Value.{Value as NumberedValue}
use Rattle.wjs_base.specs.Text.{Table, Grows}
use Rattle.wjs_base.specs.declared.ids.NodeId.{NodeId}
use Rattle.wjs_tree.specs.declared.node.Handler.{Handler}
use Rattle.wjs_tree.specs.declared.node.Node.{Node}
use Rattle.wjs_tree.specs.declared.node.Node.TheVariants as nodes
use Rattle.wjs_store.specs.Meaning.{Meaning}
use Rattle.wjs_by_content.specs.Values.{Text}
use Rattle.wjs_by_content.specs.Names.{slot}
use Rattle.wjs_by_content.specs.Tables.{text_in, name_in, value_in}
use Rattle.wjs_heap.specs.Means.{nothing}
use Rattle.wjs_meaning.specs.Reading.{node_in, number, handler_in}
use Rattle.wjs_meaning.specs.Deeds.{Env, Act, Eval, Do, Create, Write, AtStmt}
use Rattle.wjs_meaning.specs.NewObjects.{scope_object}
use Rattle.wjs_meaning.specs.Statements.{try_catch, try_finally}
use Rattle.wjs_arena.specs.Entries.{scope_of}
use Rattle.wjs_scope.specs.Nesting.{Caught, parts, IsAmong}
use Rattle.wjs_model.specs.declared.config.Config.{Config}
use Rattle.wjs_model.specs.declared.frame.Activation.{Activation as Frame}
use Rattle.wjs_model.specs.declared.loaded.LoadedProgram.{LoadedProgram as Program}
use Rattle.wjs_model.specs.Lists.{handler_of}
use Rattle.wjs_model.specs.Standing.{Stands}
use Rattle.wjs_model.specs.Soundness.{IsThere}
use Rattle.wjs_frames.specs.Doing.{Does}
use Rattle.wjs_frames.specs.Following.{Follows, Later}
use Rattle.wjs_frames.specs.Parts.{env_in, node_among, node_now}
use Rattle.wjs_frames.proofs.Parting.{caught_here, stands_later}
use Rattle.wjs_heap_steps.proofs.Later.{later_twice}
use Rattle.wjs_heap_steps.proofs.Composing.{env_later}
use Rattle.wjs_step_common.proofs.Following.{follows_as}
use Rattle.wjs_blocks.specs.Tries.{catch_in}

module _ {S : Type 0} (meaning : S → Meaning) (old mid late new : Config S) (frame : Frame) (h : Handler) (last : Option NodeId) (v : NumberedValue) (scope : ObjId) (name : Name) (r : Result (Unit {0}) OutOfMemory) where
  abbrev block : Env → Act
  block env = Eval (AtStmt h.block.0) (record env { scope = scope }) (try_finally (number last) env)

  pub catch_follows : Does meaning (λ t go. Do (Create old.owner (scope_object frame.scope)) go) (λ t. scope) old mid → Later meaning old mid
      → ((t : Table) → Grows mid.heap.texts t → name_in t name ≡ text_in t h.name)
      → Does meaning (λ t go. Do (Write frame.world (slot scope (name_in t name)) (Some (value_in t v))) go) (λ t. nothing) mid late → Later meaning mid late
      → OnOk r (Follows meaning (block (env_in meaning late new.heap.texts frame)) late new)
      → OnOk r (Follows meaning (try_catch (text_in new.heap.texts h.name) h.block.0 (number last) (env_in meaning old new.heap.texts frame) (value_in new.heap.texts v)) old new)
  catch_follows made later_mid named wrote later_late entered =
      let t = new.heap.texts in
      let env = env_in meaning old t frame in
      let same : env_in meaning late t frame ≡ env = env_later meaning old late t frame (later_twice meaning old mid late later_mid later_late) in
      let here : OnOk r (Follows meaning (block env) late new) = subst (λ (e : Env). OnOk r (Follows meaning (block e) late new)) same entered in
      let put : Text → Act = λ x. Do (Write frame.world (slot scope x) (Some (value_in t v))) (λ done. block env) in
      made.by (λ s. Do (Write frame.world (slot s (text_in t h.name)) (Some (value_in t v))) (λ done. Eval (AtStmt h.block.0) (record env { scope = s }) (try_finally (number last) env))) new r
      (follows_as meaning (put (name_in t name)) (put (text_in t h.name)) mid new r (λ grows. ap put (named t grows)) (wrote.by (λ done. block env) new r here))

caught_among : (n : Node) (h : Handler) → catch_in n ≡ Some h → IsAmong (parts n) (h.block, Caught h.name)
caught_among (nodes.Try b (Some k) last) h q = let same : k ≡ h = cc in subst (λ (x : Handler). IsAmong (parts (nodes.Try b (Some k) last)) (x.block, Caught x.name)) same (inr (inl refl))
caught_among (nodes.Try b None last) h q = absurd (cc)
caught_among _ h q = absurd (cc)

-- the block stands in the scope that was made, and does after the write
pub caught_stands_later : {S : Type 0} (meaning : S → Meaning) (old mid late : Config S) (frame : Frame) (h : Handler) (scope : ObjId) → IsThere meaning old frame → catch_in (node_now meaning old frame) ≡ Some h
    → Later meaning old mid → scope_of mid.heap.arena scope ≡ Some frame.scope → Later meaning mid late → Stands late.units.items late.heap.arena frame.tree h.block scope 0
caught_stands_later meaning old mid late frame h scope there is later_mid outer later_late =
    let among : IsAmong (parts (node_now meaning mid frame)) (h.block, Caught h.name) = caught_among (node_now meaning mid frame) h (ap (λ (us : List Program). catch_in (node_among us frame.tree frame.node)) (λ i. (later_mid.units i).items) ∙ is) in
    stands_later meaning mid (record frame { scope = scope }) late h.block later_late (caught_here meaning mid frame (node_now meaning mid frame) h.block (later_mid.frames frame there) refl h.name scope among outer)

-- the handler by content
pub handler_same : (t : Table) (n : Node) → handler_of (node_in t n) ≡ option_map (handler_in t) (catch_in n)
handler_same t (nodes.Try b handler last) = refl
handler_same t _ = refl
