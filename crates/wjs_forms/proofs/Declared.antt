-- Where declared variables end.
use Rattle.std.proofs.Common.{◌≡◌, ℕ, ◌+◌, Bool, true, false, List, [], ◌∷◌, Option, Some, None, refl, sym, ap, ◌∙◌, subst, arith}
use Rattle.wjs_base.specs.declared.ids.TextId.{TextId}
use Rattle.wjs_tree.specs.declared.tokens.Tok.{Tok}
use Rattle.wjs_tree.specs.declared.tokens.Token.TheVariants as tokens
use Rattle.wjs_tree.specs.declared.signs.Sign.TheVariants as signs
use Rattle.wjs_tree.specs.declared.node.End.{End}
use Rattle.wjs_tree.specs.Trees.{Optional, Absent, Present, Variables, NoVariable, Variable}
use Rattle.wjs_tree.specs.Levels.{ends_in_update}
use Rattle.wjs_tree.specs.Ends.{HasToken, HasSign, Ending, Complete, InName, InExpr, Ends}
use Rattle.wjs_tree.specs.Spelling.{last_ending}
use Rattle.wjs_forms.specs.declared.class.Class.TheVariants as classes
use Rattle.wjs_forms.specs.declared.forms.Form.{Form}
use Rattle.wjs_forms.specs.declared.forms.Form.TheVariants as forms
use Rattle.wjs_forms.specs.declared.forms.Control.TheVariants as controls
use Rattle.wjs_forms.specs.Classes.{class_at}
use Rattle.wjs_forms.specs.States.{state, step, Runs}
use Rattle.wjs_forms.proofs.Runs.{class_here}
use Rattle.wjs_forms.proofs.Tops.{is_new, no_in}
use Rattle.wjs_forms.proofs.Endings.{is_suffix_class, ended_here, variable_runs, named_runs}
use Rattle.wjs_forms.proofs.Operands.{moved}
use Rattle.wjs_forms.proofs.Statements.{on_sign, on_word}

-- a form that holds variables, in which `in` is an operator or not
pub record HoldsVariables (f : Form) (s : List Form) (b : Bool) : Type 0 where
  pub comma : (j : Bool) → step classes.Comma j (f ∷ s) controls.Behind ≡ Some (state controls.Name (f ∷ s))
  pub bars : no_in (f ∷ s) ≡ b
  pub free : is_new (f ∷ s) ≡ false

pub statement_holds : (s : List Form) → HoldsVariables forms.Var s false
statement_holds s = record { comma = λ j. refl; bars = refl; free = refl }

pub header_holds : (s : List Form) → HoldsVariables forms.ForVar s true
header_holds s = record { comma = λ j. refl; bars = refl; free = refl }

-- what is behind the last variable, which ends so
abbrev pub Closing : List Tok → ℕ → Form → List Form → Ending → Type 0
Closing toks n f s Complete = Unit {0}
Closing toks n f s InName = Runs toks n (state controls.Named (f ∷ s))
Closing toks n f s (InExpr update) = (is_suffix_class (class_here toks n) ≡ true → update ≡ true) × Runs toks n (state controls.Behind (f ∷ s))

-- how a variable ends
abbrev pub part_ending : Optional → Ending
part_ending Absent = InName
part_ending (Present e) = InExpr (ends_in_update e)

-- how variables end behind one that ends so
abbrev pub final : Ending → Variables → Ending
final prior NoVariable = prior
final prior (Variable x e rest) = final (part_ending e) rest

pub last_is : (x : TextId) (e : Optional) (rest : Variables) → last_ending (Variable x e rest) ≡ final (part_ending e) rest
last_is x Absent NoVariable = refl
last_is x (Present e) NoVariable = refl
last_is x Absent (Variable y d rest) = last_is y d rest
last_is x (Present e) (Variable y d rest) = last_is y d rest

no_suffix : (toks : List Tok) (i : ℕ) (update : Bool) → HasSign toks i signs.Comma → is_suffix_class (class_here toks i) ≡ true → update ≡ true
no_suffix toks i update h q = absurd (let w : false ≡ true = sym (ap is_suffix_class (ap class_at h)) ∙ q in cc)

no_suffix_end : (toks : List Tok) (i : ℕ) (update : Bool) → HasSign toks i signs.Semicolon → is_suffix_class (class_here toks i) ≡ true → update ≡ true
no_suffix_end toks i update h q = absurd (let w : false ≡ true = sym (ap is_suffix_class (ap class_at h)) ∙ q in cc)

-- a further variable
pub comma_closing : (toks : List Tok) (f : Form) (s : List Form) (b : Bool) (i : ℕ) (x : TextId) → HoldsVariables f s b → HasSign toks i signs.Comma → HasToken toks (i + 1) (tokens.Word x) → Runs toks (i + 2) (state controls.Named (f ∷ s)) → (prior : Ending) → Closing toks i f s prior
comma_closing toks f s b i x v h w run Complete = tt
comma_closing toks f s b i x v h w run InName =
    on_sign toks i signs.Comma _ (state controls.Name (f ∷ s)) h (λ j. refl) (on_word toks (i + 1) x _ (state controls.Named (f ∷ s)) w (λ j. refl) (moved toks _ (i + 2) (i + 1 + 1) (omega arith) run))
comma_closing toks f s b i x v h w run (InExpr update) = (
  no_suffix toks i update h,
  on_sign toks i signs.Comma _ (state controls.Name (f ∷ s)) h v.comma (on_word toks (i + 1) x _ (state controls.Named (f ∷ s)) w (λ j. refl) (moved toks _ (i + 2) (i + 1 + 1) (omega arith) run)),
)

-- `;` behind those of a header
pub header_closing : (toks : List Tok) (n : ℕ) (s : List Form) (ending : Ending) → HasSign toks n signs.Semicolon → Runs toks (n + 1) (state controls.Test (forms.ForTest ∷ s)) → Closing toks n forms.ForVar s ending
header_closing toks n s Complete h run = tt
header_closing toks n s InName h run = on_sign toks n signs.Semicolon _ (state controls.Test (forms.ForTest ∷ s)) h (λ j. refl) run
header_closing toks n s (InExpr update) h run = (no_suffix_end toks n update h, on_sign toks n signs.Semicolon _ (state controls.Test (forms.ForTest ∷ s)) h (λ j. refl) run)

-- the end of a statement behind them
pub statement_closing : (toks : List Tok) (ending : Ending) (end : End) (m n : ℕ) (s : List Form) → Ends toks ending end m n → Runs toks n (state controls.Done s) → Closing toks m forms.Var s ending
statement_closing toks Complete end m n s h run = tt
statement_closing toks InName end m n s h run = named_runs toks end m n s h run
statement_closing toks (InExpr update) end m n s h run = ((ended_here toks (InExpr update) end m n h).1, variable_runs toks update end m n s h run)
