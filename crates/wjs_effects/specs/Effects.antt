-- What is left of deeds, and that it names what is there.
use Rattle.std.specs.Prelude.{◌≡◌, ◌<◌, ◌∷◌, ◌⊎◌, [], length, None, Some}
use Rattle.wjs_base.specs.declared.values.Value.{Value as Numbered}
use Rattle.wjs_base.specs.declared.values.Value.TheVariants as values
use Rattle.wjs_base.specs.declared.number.Whole.{Whole}
use Rattle.wjs_base.specs.Text.{Table, Has}
use Rattle.wjs_scope.specs.Places.{placed_names}
use Rattle.wjs_by_content.specs.declared.answers.PutAnswer.{PutAnswer}
use Rattle.wjs_by_content.specs.declared.answers.PutAnswer.TheVariants.{Done, Ignored, BadLength}
use Rattle.wjs_by_content.specs.Names.{slot}
use Rattle.wjs_by_content.specs.Objects.{fixed}
use Rattle.wjs_by_content.specs.Tables.{text_in}
use Rattle.wjs_by_content.specs.Values.{Value, Number, Object}
use Rattle.wjs_meaning.specs.declared.trouble.Trouble.TheVariants.{InvalidArrayLength}
use Rattle.wjs_meaning.specs.Deeds.{Env, Reference, Local, Global, Member, Completion, Gives, Normal, Returns, Throws, Act, Eval, Sub, Do, Look, Write, Create, AtExpr, then_value}
use Rattle.wjs_meaning.specs.Errors.{error_of}
use Rattle.wjs_meaning.specs.Properties.{put}
use Rattle.wjs_meaning.specs.Statements.{expr_done, return_value, vars_from}
use Rattle.wjs_model.specs.declared.config.Config.{Config}
use Rattle.wjs_model.specs.declared.frame.Activation.{Activation as Frame}
use Rattle.wjs_model.specs.declared.frame.Completion.{Completion as NumberedCompletion}
use Rattle.wjs_model.specs.declared.frame.Completion.TheVariants as completions
use Rattle.wjs_model.specs.declared.frame.Reference.{Reference as NumberedReference}
use Rattle.wjs_model.specs.Contents.{completion_in, reference_in}
use Rattle.wjs_model.specs.Soundness.{HasCompletion}
use Rattle.wjs_frames.specs.Parts.{node_among}
use Rattle.wjs_effects.specs.declared.effect.Effect.{Effect}
use Rattle.wjs_effects.specs.declared.effect.Effect.TheVariants as effects
use Rattle.wjs_effects.specs.declared.effect.Made.{Made}
use Rattle.wjs_effects.specs.declared.effect.Made.TheVariants.{There}
use Rattle.wjs_effects.specs.declared.effect.Told.{Told}
use Rattle.wjs_effects.specs.declared.effect.Told.TheVariants as told
use Rattle.wjs_effects.specs.Making.{made_in}

-- what follows a [[Put]] (ECMA-262, 3rd edition, section 8.7.2): a completion, or what is thrown
abbrev pub put_ended : Env → Completion → (Completion → Act) → PutAnswer → Act
put_ended env e go Done = go e
put_ended env e go Ignored = go e
put_ended env e go BadLength = Do (Create env.owner (error_of InvalidArrayLength [])) (λ o. go (Throws (Object o)))

-- a store (8.7.2), and then a completion, or what is thrown
abbrev pub stored : Reference → Value → Env → Completion → (Completion → Act) → Act
stored (Local scope name) v env e go = Do Look (λ arena. elim (fixed arena scope name) [
  | Some old ↦ go e
  | None ↦ Do (Write env.world (slot scope name) (Some v)) (λ done. go e)
])
stored (Global name) v env e go = put env.global name v env (put_ended env e go)
stored (Member (Object o) name) v env e go = put o name v env (put_ended env e go)
stored (Member base name) v env e go = go e

-- an end: this completion, or something is thrown
abbrev pub EndsOrThrows : NumberedCompletion → NumberedCompletion → Type 0
EndsOrThrows told e = (e ≡ told) ⊎ ((x : Numbered) × (e ≡ completions.Throws x))

-- ---- what is left of deeds, with what follows their completion

abbrev pub Rest : Type 0
Rest = Table → Env → (Completion → Act) → Act

-- an end
abbrev pub ends : NumberedCompletion → Rest
ends e = λ t env go. go (completion_in t e)

-- the end of a `return` of a value
abbrev pub returns : Made → Rest
returns m = λ t env go. go (Returns (made_in t m))

-- what is told of a store: the value, or nothing
abbrev pub told_in : Told → Value → Completion
told_in told.Stored v = Gives v
told_in told.Nothing v = Normal

abbrev pub told_of : Told → Numbered → NumberedCompletion
told_of told.Stored v = completions.Gives v
told_of told.Nothing v = completions.Normal

-- a store, and then an end: of an assignment the value, of `++` and `--` a number, of a `var` none
abbrev pub stores : NumberedReference → Made → (Table → Completion) → Rest
stores q m end = λ t env go. stored (reference_in t q) (made_in t m) env (end t) go

abbrev pub assigns : NumberedReference → Made → Rest
assigns q m = stores q m (λ t. Gives (made_in t m))

abbrev pub updates : NumberedReference → Whole → Whole → Rest
updates q next told = stores q (There (values.Number next)) (λ t. Gives (Number told.number))

abbrev pub initialises : NumberedReference → Made → Rest
initialises q m = stores q m (λ t. Normal)

-- what a statement does last
abbrev pub carried : Effect → Rest
carried (effects.Ends e) = ends e
carried (effects.Evaluates e) = λ t env go. Sub (Eval (AtExpr e.0) env (then_value expr_done)) go
carried (effects.Returns e) = λ t env go. Sub (Eval (AtExpr e.0) env (then_value return_value)) go
carried (effects.Initialises node name e) = λ t env go. Sub (vars_from node.0 0 ((text_in t name, Some e.0) ∷ []) env) go

-- what it names is there
abbrev pub HasEffect : {S : Type 0} → Config S → Frame → Effect → Type 0
HasEffect c f (effects.Ends e) = HasCompletion c e
HasEffect c f (effects.Evaluates e) = Unit {0}
HasEffect c f (effects.Returns e) = Unit {0}
HasEffect c f (effects.Initialises node name e) = (0 < length (placed_names (node_among c.units.items f.tree node))) × Has c.heap.texts name
