-- What a body declares (ECMA-262, 3rd edition, sections 10.1.3 and 12.2).
use Rattle.std.specs.Prelude.{ℕ, zero, suc, Bool, true, false, List, [], ◌∷◌, ◌++◌, map as each, filter, flat_map, Option, None, Some}
use Rattle.wjs_by_content.specs.Values.{Text}
use Rattle.wjs_meaning.specs.Trees.{Node, Init, InitVar, Block, Var, If, DoWhile, While, For, ForIn, ForVarIn, Label, Switch, Try, Within, FunctionDecl, Tree, node_at, formals_of, elements_of, has_text}

-- a body's formals, its FunctionDecls in order, and the names of its `var`s in order of first occurrence
pub record Declared : Type 0 where
  pub formals : List Text
  pub functions : List ℕ
  pub vars : List Text

abbrev pub names_of : List (Text × Option ℕ) → List Text
names_of = each (λ x. x.0)

abbrev pub vars_of_init : Init → List Text
vars_of_init (InitVar xs) = names_of xs
vars_of_init init = []

abbrev pub vars_of_option : Option ℕ → (ℕ → List Text) → List Text
vars_of_option None inner = []
vars_of_option (Some s) inner = inner s

abbrev pub vars_of_handler : Option (Text × ℕ) → (ℕ → List Text) → List Text
vars_of_handler None inner = []
vars_of_handler (Some x) inner = inner x.1

-- the names of the `var`s of a statement, where `inner` gives those of its parts
abbrev pub vars_of_form : Node → (ℕ → List Text) → List Text
vars_of_form (Block ss) inner = flat_map inner ss
vars_of_form (Var xs) inner = names_of xs
vars_of_form (If e s t) inner = inner s ++ vars_of_option t inner
vars_of_form (DoWhile s e) inner = inner s
vars_of_form (While e s) inner = inner s
vars_of_form (For init t u s) inner = vars_of_init init ++ inner s
vars_of_form (ForIn t e s) inner = inner s
vars_of_form (ForVarIn name e s) inner = name ∷ inner s
vars_of_form (Label name s) inner = inner s
vars_of_form (Switch e clauses) inner = flat_map (λ (c : Option ℕ × List ℕ). flat_map inner c.1) clauses
vars_of_form (Try b handler f) inner = inner b ++ vars_of_handler handler inner ++ vars_of_option f inner
vars_of_form (Within e b) inner = inner b
vars_of_form _ inner = []

-- those of a statement, to a depth
abbrev pub vars_to : ℕ → Tree → ℕ → List Text
vars_to zero tree k = []
vars_to (suc depth) tree k = vars_of_form (node_at tree k) (λ s. vars_to depth tree s)

-- the first of each name, where those in `seen` have come already
abbrev pub without_repeats : List Text → List Text → List Text
without_repeats seen [] = []
without_repeats seen (x ∷ xs) = elim (has_text seen x) [ true ↦ without_repeats seen xs | false ↦ x ∷ without_repeats (x ∷ seen) xs ]

abbrev pub is_declaration : Node → Bool
is_declaration (FunctionDecl name formals elements) = true
is_declaration _ = false

-- what a body declares; a child's number is below its parent's
abbrev pub declared_by : Tree → ℕ → Declared
declared_by tree body = record {
  formals = formals_of (node_at tree body);
  functions = filter (λ k. is_declaration (node_at tree k)) (elements_of (node_at tree body));
  vars = without_repeats [] (flat_map (λ s. vars_to (suc s) tree s) (elements_of (node_at tree body)));
}
