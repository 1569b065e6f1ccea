-- What an operand does, with what follows its completion (ECMA-262, 3rd edition, sections 11.1.1 to 11.1.3 and 8.7.1).
use Rattle.std.specs.Prelude.{Option, None, Some}
use Rattle.wjs_by_content.specs.Values.{Text, Value, Object}
use Rattle.wjs_meaning.specs.declared.trouble.Trouble.TheVariants.{NotDefined}
use Rattle.wjs_meaning.specs.Trees.{Place}
use Rattle.wjs_meaning.specs.Deeds.{Env, Reference, Local, Global, Member, Completion, Gives, Refers, Throws, Act, Do, Create}
use Rattle.wjs_meaning.specs.Errors.{error_of}
use Rattle.wjs_meaning.specs.Properties.{get}
use Rattle.wjs_meaning.specs.References.{reference_at, value_of}
use Rattle.wjs_model.specs.Contents.{Operand, ValueOperand, NameOperand, TargetOperand}

-- an absent global name throws
abbrev pub defined_or_thrown : Text → Env → (Completion → Act) → Option Value → Act
defined_or_thrown name env go None = Do (Create env.owner (error_of NotDefined name)) (λ o. go (Throws (Object o)))
defined_or_thrown name env go (Some v) = go (Gives v)

-- the value of a reference, or what is thrown
abbrev pub evaluated : Reference → Env → (Completion → Act) → Act
evaluated (Local scope name) env go = value_of (Local scope name) env (λ v. go (Gives v))
evaluated (Global name) env go = get env.global name env (defined_or_thrown name env go)
evaluated (Member base name) env go = value_of (Member base name) env (λ v. go (Gives v))

-- the value of a name at its place
abbrev pub named : Place → Text → Env → (Completion → Act) → Act
named place name env go = reference_at place name env (λ r. evaluated r env go)

abbrev pub with_operand : Operand → Env → (Completion → Act) → Act
with_operand (ValueOperand v) env go = go (Gives v)
with_operand (NameOperand place name) env go = named place name env go
with_operand (TargetOperand place name) env go = reference_at place name env (λ r. go (Refers r))
