-- What readers of lists in statements answer.
use Rattle.std.specs.Prelude.{◌≡◌, ℕ, ◌<◌, ◌≤◌, Bool, List, length, Option, Some, None}
use Rattle.std.specs.declared.result.Result.{Result}
use Rattle.std.specs.declared.result.Result.TheVariants.{Ok, Err}
use Rattle.wjs_base.specs.declared.ids.TextId.{TextId}
use Rattle.wjs_base.specs.declared.ids.OutOfMemory.{OutOfMemory}
use Rattle.wjs_tree.specs.declared.tokens.Tok.{Tok}
use Rattle.wjs_tree.specs.declared.tokens.Token.TheVariants as tokens
use Rattle.wjs_tree.specs.declared.node.Node.{Node}
use Rattle.wjs_tree.specs.Trees.{Optional, Variables}
use Rattle.wjs_tree.specs.Children.{OptionBelow, DeclaratorsBelow}
use Rattle.wjs_tree.specs.Ends.{HasToken}
use Rattle.wjs_tree.specs.Spelling.{last_ending}
use Rattle.wjs_tree.specs.Shows.{OptionalShows, VariablesShow}
use Rattle.wjs_parse_simple.specs.declared.parts.Declared.{Declared}
use Rattle.wjs_parse_simple.specs.declared.parts.ListedVariables.{ListedVariables}
use Rattle.wjs_parse_simple.specs.Readings.{ending_of, value_ending, VariableForm, VariablesForm, Shut, ShutList}

-- the name at a place
abbrev pub WordAt : List Tok → ℕ → Option TextId → Type 0
WordAt toks i (Some x) = HasToken toks i (tokens.Word x)
WordAt toks i None = (x : TextId) → HasToken toks i (tokens.Word x) → ⊥

-- the variable, and no other is read unless it could be longer
pub record FindsVariable (toks : List Tok) (no_in : Bool) (room i : ℕ) (ns : List Node) (p : Declared) : Type 0 where
  pub tree : Optional
  pub used : List ℕ
  pub shows : OptionalShows ns tree p.declarator.value used
  pub ending : ending_of p.stop ≡ value_ending tree
  pub form : VariableForm toks no_in room i p.declarator.name tree p.next
  pub only : (x : TextId) (u : Optional) (m : ℕ) → VariableForm toks no_in room i x u m → Shut toks no_in u m → (x ≡ p.declarator.name) × (u ≡ tree) × (m ≡ p.next)

abbrev pub VariableAnswers : List Tok → Bool → ℕ → ℕ → List Node → Result (Option Declared) OutOfMemory → Type 0
VariableAnswers toks no_in room i ns (Ok (Some p)) = FindsVariable toks no_in room i ns p
VariableAnswers toks no_in room i ns (Ok None) = (x : TextId) (u : Optional) (m : ℕ) → VariableForm toks no_in room i x u m → Shut toks no_in u m → ⊥
VariableAnswers toks no_in room i ns (Err e) = Unit {0}

-- the variables, and no others are read unless they could be more
pub record FindsVariables (toks : List Tok) (no_in : Bool) (room i : ℕ) (ns : List Node) (p : ListedVariables) : Type 0 where
  pub trees : Variables
  pub used : List ℕ
  pub shows : VariablesShow ns trees p.list used
  pub ending : ending_of p.stop ≡ last_ending trees
  pub form : VariablesForm toks no_in room i trees p.next
  pub only : (us : Variables) (m : ℕ) → VariablesForm toks no_in room i us m → ShutList toks no_in us m → (us ≡ trees) × (m ≡ p.next)

abbrev pub VariablesAnswers : List Tok → Bool → ℕ → ℕ → List Node → Result (Option ListedVariables) OutOfMemory → Type 0
VariablesAnswers toks no_in room i ns (Ok (Some p)) = FindsVariables toks no_in room i ns p
VariablesAnswers toks no_in room i ns (Ok None) = (us : Variables) (m : ℕ) → VariablesForm toks no_in room i us m → ShutList toks no_in us m → ⊥
VariablesAnswers toks no_in room i ns (Err e) = Unit {0}

-- where variables end, and that their nodes are there
abbrev pub VariableEnds : List Tok → ℕ → List Node → Result (Option Declared) OutOfMemory → Type 0
VariableEnds toks i ns (Ok (Some p)) = (i < p.next) × (p.next ≤ length toks) × OptionBelow (length ns) p.declarator.value
VariableEnds toks i ns _ = Unit {0}

abbrev pub VariablesEnds : List Tok → ℕ → List Node → Result (Option ListedVariables) OutOfMemory → Type 0
VariablesEnds toks i ns (Ok (Some p)) = (i < p.next) × (p.next ≤ length toks) × DeclaratorsBelow (length ns) p.list
VariablesEnds toks i ns _ = Unit {0}
