-- What a tree with other numbers for its texts declares, and its names by content.
use Rattle.std.specs.Prelude.{◌≡◌, List, [], ◌∷◌, ◌++◌, Option, None, Some}
use Rattle.std.proofs.Common.{refl, ap, sym, ◌∙◌}
use Rattle.std.proofs.lemmas.List.{map-append}
use Rattle.wjs_base.specs.declared.ids.TextId.{TextId}
use Rattle.wjs_base.specs.Text.{Table}
use Rattle.wjs_tree.specs.declared.node.Spelt.{Spelt}
use Rattle.wjs_tree.specs.declared.node.Spelt.TheVariants as spelt
use Rattle.wjs_tree.specs.declared.node.PropertyKey.{PropertyKey}
use Rattle.wjs_tree.specs.declared.node.PropertyKey.TheVariants as keys
use Rattle.wjs_tree.specs.Trees.{Variables, Init, Stmt, Stmts, Clauses, Elements, NoVariable, Variable, NoInit, InitExpr, InitVar, Block, Var, If, IfElse, DoWhile, While, For, ForIn, ForVarIn, Label, Switch, TryCatch, TryFinally, TryBoth, Within, NoStmt, MoreStmts, NoClause, Case, Default, NoElement, Statement, FunctionDecl}
use Rattle.wjs_scope.specs.Declarations.{variable_names, init_names, names_declared, all_declared, clauses_declared, elements_declared}
use Rattle.wjs_scope.specs.Places.{arguments_text}
use Rattle.wjs_scope.specs.Contents.{resolve_text}
use Rattle.wjs_by_content.specs.Values.{same_text}
use Rattle.wjs_by_content.specs.Tables.{text_in}
use Rattle.wjs_meaning.specs.Trees.{Spelled}
use Rattle.wjs_meaning.specs.Reading.{spelt_in, key_in, label_in}
use Rattle.wjs_model.specs.Units.{place_in}
use Rattle.wjs_programs.specs.Numbered.{Scopes, functions_declared, texts_in, names_within, within, places_of}
use Rattle.wjs_programs.proofs.Renaming.{name_renamed, names_renamed, spelt_renamed, key_renamed, variables_renamed, init_renamed, stmt_renamed, stmts_renamed, clauses_renamed, elements_renamed}

module _ (r : TextId → TextId) where
  -- both lists with other numbers, one behind the other
  appended : (xs ys vs ws : List TextId) → vs ≡ names_renamed r xs → ws ≡ names_renamed r ys → vs ++ ws ≡ names_renamed r (xs ++ ys)
  appended xs ys vs ws e f = (λ z. e z ++ f z) ∙ sym (map-append r xs ys)

  variables_named : (vs : Variables) → variable_names (variables_renamed r vs) ≡ names_renamed r (variable_names vs)
  variables_named NoVariable = refl
  variables_named (Variable x e rest) = λ z. r x ∷ variables_named rest z

  init_named : (first : Init) → init_names (init_renamed r first) ≡ names_renamed r (init_names first)
  init_named NoInit = refl
  init_named (InitExpr e) = refl
  init_named (InitVar vs) = variables_named vs

  mutual
    declares : (t : Stmt) → names_declared (stmt_renamed r t) ≡ names_renamed r (names_declared t)
    declares (Block body) = all_declare body
    declares (Var vs end) = variables_named vs
    declares (If e s) = declares s
    declares (IfElse e s u) = appended (names_declared s) (names_declared u) _ _ (declares s) (declares u)
    declares (DoWhile s e end) = declares s
    declares (While e s) = declares s
    declares (For first test update s) = appended (init_names first) (names_declared s) _ _ (init_named first) (declares s)
    declares (ForIn t e s) = declares s
    declares (ForVarIn x e s) = λ z. r x ∷ declares s z
    declares (Label x s) = declares s
    declares (Switch e list) = clauses_declare list
    declares (TryCatch b x c) = appended (all_declared b) (all_declared c) _ _ (all_declare b) (all_declare c)
    declares (TryFinally b f) = appended (all_declared b) (all_declared f) _ _ (all_declare b) (all_declare f)
    declares (TryBoth b x c f) = appended (all_declared b) (all_declared c ++ all_declared f) _ _ (all_declare b) (appended (all_declared c) (all_declared f) _ _ (all_declare c) (all_declare f))
    declares (Within e b) = all_declare b
    declares _ = refl

    all_declare : (t : Stmts) → all_declared (stmts_renamed r t) ≡ names_renamed r (all_declared t)
    all_declare NoStmt = refl
    all_declare (MoreStmts s rest) = appended (names_declared s) (all_declared rest) _ _ (declares s) (all_declare rest)

    clauses_declare : (t : Clauses) → clauses_declared (clauses_renamed r t) ≡ names_renamed r (clauses_declared t)
    clauses_declare NoClause = refl
    clauses_declare (Case e body rest) = appended (all_declared body) (clauses_declared rest) _ _ (all_declare body) (clauses_declare rest)
    clauses_declare (Default body rest) = appended (all_declared body) (clauses_declared rest) _ _ (all_declare body) (clauses_declare rest)

  elements_declare : (t : Elements) → elements_declared (elements_renamed r t) ≡ names_renamed r (elements_declared t)
  elements_declare NoElement = refl
  elements_declare (Statement s rest) = appended (names_declared s) (elements_declared rest) _ _ (declares s) (elements_declare rest)
  elements_declare (FunctionDecl x formals body rest) = elements_declare rest

  functions_declare : (t : Elements) → functions_declared (elements_renamed r t) ≡ names_renamed r (functions_declared t)
  functions_declare NoElement = refl
  functions_declare (Statement s rest) = functions_declare rest
  functions_declare (FunctionDecl x formals body rest) = λ z. r x ∷ functions_declare rest z

  -- the names of a function's scope but for `arguments`
  scope_named : (formals : List TextId) (body : Elements) → names_renamed r formals ++ (functions_declared (elements_renamed r body) ++ elements_declared (elements_renamed r body)) ≡ names_renamed r (formals ++ (functions_declared body ++ elements_declared body))
  scope_named formals body = appended formals (functions_declared body ++ elements_declared body) _ _ refl (appended (functions_declared body) (elements_declared body) _ _ (functions_declare body) (elements_declare body))

-- where each number stands for the same text as the other one
module _ (old new : Table) (to : TextId → TextId) (same : (x : TextId) → text_in new (to x) ≡ text_in old x) where
  pub same_texts : (names : List TextId) → texts_in new (names_renamed to names) ≡ texts_in old names
  same_texts [] = refl
  same_texts (x ∷ xs) = λ z. same x z ∷ same_texts xs z

  pub same_spelt : (s : Spelt) → spelt_in new (spelt_renamed to s) ≡ spelt_in old s
  same_spelt (spelt.Word x) = same x
  same_spelt (spelt.Key k) = refl

  pub same_key : (key : PropertyKey) → key_in new (key_renamed to key) ≡ key_in old key
  same_key (keys.Spelt s) = λ z. Spelled (same_spelt s z)
  same_key (keys.Text x) = λ z. Spelled (same x z)
  same_key (keys.Number n) = refl

  pub same_label : (label : Option TextId) → label_in new (name_renamed to label) ≡ label_in old label
  same_label None = refl
  same_label (Some x) = λ z. Some (same x z)

  pub same_places : (around : Scopes) (names : List TextId) → places_of new around (names_renamed to names) ≡ places_of old around names
  same_places around [] = refl
  same_places around (x ∷ xs) = λ z. place_in (resolve_text same_text around (same x z)) ∷ same_places around xs z

  pub same_variable_places : (around : Scopes) (vs : Variables) → places_of new around (variable_names (variables_renamed to vs)) ≡ places_of old around (variable_names vs)
  same_variable_places around vs = ap (places_of new around) (variables_named to vs) ∙ same_places around (variable_names vs)

  pub same_init_places : (around : Scopes) (first : Init) → places_of new around (init_names (init_renamed to first)) ≡ places_of old around (init_names first)
  same_init_places around first = ap (places_of new around) (init_named to first) ∙ same_places around (init_names first)

  same_names : (formals : List TextId) (body : Elements) → names_within new (names_renamed to formals) (elements_renamed to body) ≡ names_within old formals body
  same_names formals body =
      let names = formals ++ (functions_declared body ++ elements_declared body) in
      let e = ap (texts_in new) (scope_named to formals body) ∙ same_texts names in
      λ z. arguments_text ∷ e z

  pub same_within : (name : Option TextId) (formals : List TextId) (body : Elements) (around : Scopes) → within new (name_renamed to name) (names_renamed to formals) (elements_renamed to body) around ≡ within old name formals body around
  same_within None formals body around = λ z. same_names formals body z ∷ around
  same_within (Some x) formals body around = λ z. same_names formals body z ∷ (same x z ∷ []) ∷ around
