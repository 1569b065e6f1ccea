-- Bodies begin: their scopes are filled.
use Rattle.std.proofs.Common.{◌≡◌, ℕ, List, ◌∷◌, ◌++◌}
use Rattle.std.specs.Prelude.{filter, not, All}
use Rattle.std.proofs.lemmas.List.Elements.{All-weaker}
use Rattle.wjs_base.specs.declared.ids.ObjId.{ObjId}
use Rattle.wjs_base.specs.declared.ids.TextId.{TextId}
use Rattle.wjs_base.specs.declared.values.Value.{Value as NumberedValue}
use Rattle.wjs_base.specs.Text.{Has}
use Rattle.wjs_base.proofs.TextLaws.{Grows-Has}
use Rattle.wjs_store.specs.Meaning.{Meaning}
use Rattle.wjs_by_content.specs.Names.{arguments_name}
use Rattle.wjs_by_content.specs.Values.{Text, Value}
use Rattle.wjs_meaning.specs.Declarations.{Declared}
use Rattle.wjs_meaning.specs.Trees.{has_text}
use Rattle.wjs_meaning.specs.Deeds.{Env, Act, Do, Create}
use Rattle.wjs_meaning.specs.Functions.{arguments_object, function_names}
use Rattle.wjs_model.specs.declared.config.Config.{Config}
use Rattle.wjs_model.specs.Soundness.{HasValue}
use Rattle.wjs_frames.specs.Following.{Later}
use Rattle.wjs_variables.specs.Entering.{declared_then}
use Rattle.wjs_variables.specs.Filling.{arguments_written}

-- ---- what was there is there after deeds

module _ {S : Type 0} (meaning : S → Meaning) (old new : Config S) (l : Later meaning old new) where
  pub values_later : (vs : List NumberedValue) → All (HasValue old) vs → All (HasValue new) vs
  values_later vs h = All-weaker (HasValue old) (HasValue new) l.values vs h

  pub texts_later : (ids : List TextId) → All (Has old.heap.texts) ids → All (Has new.heap.texts) ids
  texts_later ids h = All-weaker (Has old.heap.texts) (Has new.heap.texts) (λ id k. Grows-Has old.heap.texts new.heap.texts id l.texts k) ids h

-- ---- a body

-- the variables that are undefined at first
abbrev pub others_of : Env → Declared → List Text
others_of env d = filter (λ name. not (has_text (arguments_name ∷ d.formals ++ function_names env d.functions) name)) d.vars

pub body_filled : (formals others : List Text) (functions : List ℕ) (args : List Value) (d : Declared) (f : ObjId) (env : Env) (act : Act) → formals ≡ d.formals → functions ≡ d.functions → others ≡ others_of env d
    → arguments_written formals functions others f args env act ≡ Do (Create env.owner (arguments_object args)) (λ a. declared_then d f a args env act)
body_filled formals others functions args d f env act ef en eo = λ i. arguments_written (ef i) (en i) (eo i) f args env act
