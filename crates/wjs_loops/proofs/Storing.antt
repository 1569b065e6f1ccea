-- Stores to the variables that a node declares.
use Rattle.std.proofs.Common.{◌≡◌, ℕ, ◌+◌, List, ap, ◌∙◌, subst, drop, Some}
use Rattle.std.specs.Prelude.{Result, OnOk, slice_get}
use Rattle.std.specs.Option.{option_map}
use Rattle.wjs_base.specs.declared.ids.OutOfMemory.{OutOfMemory}
use Rattle.wjs_base.specs.declared.ids.TextId.{TextId}
use Rattle.wjs_base.specs.declared.values.Value.{Value as NumberedValue}
use Rattle.wjs_base.specs.Text.{Table}
use Rattle.wjs_store.specs.Meaning.{Meaning}
use Rattle.wjs_tree.specs.declared.node.Declarator.{Declarator}
use Rattle.wjs_scope.specs.declared.place.Place.{Place as Found}
use Rattle.wjs_by_content.specs.Tables.{text_in, value_in}
use Rattle.wjs_meaning.specs.Trees.{name_place}
use Rattle.wjs_meaning.specs.Deeds.{Env, Act, Ret, Throws, tree_here}
use Rattle.wjs_meaning.specs.Reading.{node_in}
use Rattle.wjs_meaning.specs.References.{reference_at, store}
use Rattle.wjs_meaning.specs.Statements.{vars_from}
use Rattle.wjs_model.specs.declared.config.Config.{Config}
use Rattle.wjs_model.specs.declared.frame.Activation.{Activation as Frame}
use Rattle.wjs_model.specs.declared.loaded.LoadedProgram.{LoadedProgram as Program}
use Rattle.wjs_model.specs.Units.{place_in}
use Rattle.wjs_model.specs.Lists.{variables_of}
use Rattle.wjs_model.specs.Waiting.{store_variable}
use Rattle.wjs_frames.specs.Parts.{env_in, node_now, node_among}
use Rattle.wjs_frames.specs.Doing.{DoesFirst, FailsFirst}
use Rattle.wjs_frames.specs.Following.{Follows, Later}
use Rattle.wjs_effects.specs.Variables.{declarators_in}
use Rattle.wjs_heap_steps.proofs.Composing.{env_later}
use Rattle.wjs_effects.proofs.Declared.{variable_stores}

module _ {S : Type 0} (meaning : S → Meaning) (old mid later : Config S) (r : Result (Unit {0}) OutOfMemory) (f : Frame) (at : ℕ) (place : Found) (name : TextId) (v : NumberedValue) where
  abbrev texts : Table
  texts = later.heap.texts

  abbrev here : ℕ
  here = f.node.0

  -- the stores of the deeds
  abbrev stores : Table → Act → Act
  stores t act = reference_at (place_in place) (text_in t name) (env_in meaning old t f) (λ x. store x (value_in t v) (env_in meaning old t f) act)

  abbrev goes : Act
  goes = store_variable here (drop at (variables_of (node_in texts (node_now meaning old f)))) at (env_in meaning old texts f) (value_in texts v)

  -- the variables behind it, under a program's units and where they are run
  abbrev behind : Config S → Act
  behind c = vars_from here (at + 1) (drop (at + 1) (variables_of (node_in texts (node_now meaning c f)))) (env_in meaning c texts f)

  behind_later : Later meaning old mid → behind mid ≡ behind old
  behind_later l =
      ap (λ (e : Env). vars_from here (at + 1) (drop (at + 1) (variables_of (node_in texts (node_now meaning mid f)))) e) (env_later meaning old mid texts f l)
      ∙ ap (λ (us : List Program). vars_from here (at + 1) (drop (at + 1) (variables_of (node_in texts (node_among us f.tree f.node)))) (env_in meaning old texts f)) (λ i. (l.units i).items)

  stored : name_place (tree_here (env_in meaning old texts f)) here at ≡ place_in place → Some name ≡ option_map (λ (d : Declarator). d.name) (slice_get (declarators_in (node_now meaning old f)) at) → stores texts (behind old) ≡ goes
  stored p e = variable_stores texts (node_now meaning old f) here (env_in meaning old texts f) at (value_in texts v) (place_in place) name p e

  pub stored_follows : name_place (tree_here (env_in meaning old texts f)) here at ≡ place_in place → Some name ≡ option_map (λ (d : Declarator). d.name) (slice_get (declarators_in (node_now meaning old f)) at) → DoesFirst meaning stores old mid → Later meaning old mid → OnOk r (Follows meaning (behind mid) mid later) → OnOk r (Follows meaning goes old later)
  stored_follows p e d l h =
      let M : Act → Type 0 = λ act. OnOk r (Follows meaning act mid later) in
      let O : Act → Type 0 = λ act. OnOk r (Follows meaning act old later) in
      subst O (stored p e) (d.by (behind old) later r (subst M (behind_later l) h))

  pub unstored_follows : (error : NumberedValue) → name_place (tree_here (env_in meaning old texts f)) here at ≡ place_in place → Some name ≡ option_map (λ (d : Declarator). d.name) (slice_get (declarators_in (node_now meaning old f)) at) → FailsFirst meaning stores (λ t. value_in t error) old mid → OnOk r (Follows meaning (Ret (Throws (value_in texts error))) mid later) → OnOk r (Follows meaning goes old later)
  unstored_follows error p e d h =
      let O : Act → Type 0 = λ act. OnOk r (Follows meaning act old later) in
      subst O (stored p e) (d.by (behind old) later r h)
