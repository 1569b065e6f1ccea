-- The tree of a program by content is the same with other numbers for its texts.
use Rattle.std.specs.Prelude.{◌≡◌, ℕ, ◌-◌, [], ◌∷◌, ◌++◌, map as each, length, reverse, None, Some}
use Rattle.std.proofs.Common.{refl}
use Rattle.wjs_base.specs.declared.ids.TextId.{TextId}
use Rattle.wjs_base.specs.Text.{Table}
use Rattle.wjs_tree.specs.Trees.{Expr, Optional, Arguments, Items, Properties, Variables, Init, Stmt, Stmts, Clauses, Elements, Name, Number, Text, This, ThisWorld, Null, Boolean, Paren, ArrayLit, ObjectLit, Function, Dot, At, Call, NewWith, NewBare, Postfix, Prefix, Binary, Cond, Assign, Comma, Absent, Present, NoArgument, Argument, NoItem, Hole, Item, LastItem, NoProperty, Property, LastProperty, NoVariable, Variable, NoInit, InitExpr, InitVar, Block, Var, Empty, ExprStmt, If, IfElse, DoWhile, While, For, ForIn, ForVarIn, Continue, Break, Return, Throw, Label, Switch, TryCatch, TryFinally, TryBoth, Within, NoStmt, MoreStmts, NoClause, Case, Default, NoElement, Statement, FunctionDecl}
use Rattle.wjs_by_content.specs.Tables.{text_in}
use Rattle.wjs_meaning.specs.Trees as node
use Rattle.wjs_programs.specs.Numbered.{Scopes, Entry, plain, below, expr, optional, arguments, items, properties, variables, init, block, stmt, stmts, clauses, elements, tree_of}
use Rattle.wjs_programs.proofs.Renaming.{renamed, optional_renamed, arguments_renamed, items_renamed, properties_renamed, variables_renamed, init_renamed, stmt_renamed, stmts_renamed, clauses_renamed, elements_renamed}
use Rattle.wjs_programs.proofs.RenamedNames.{same_variable_places, same_init_places, same_texts, same_spelt, same_key, same_label, same_places, same_within}

-- where each number stands for the same text as the other one
module _ (old new : Table) (to : TextId → TextId) (same : (x : TextId) → text_in new (to x) ≡ text_in old x) where
  mutual
    same_expr : (around : Scopes) (k : ℕ) (tree : Expr) → expr new around k (renamed to tree) ≡ expr old around k tree
    same_expr around k (Name x) = λ z. record { node = node.Name (same x z); places = same_places old new to same around (x ∷ []) z } ∷ []
    same_expr around k (Number n) = refl
    same_expr around k (Text x) = λ z. plain (node.TextLit (same x z)) []
    same_expr around k This = refl
    same_expr around k ThisWorld = refl
    same_expr around k Null = refl
    same_expr around k (Boolean b) = refl
    same_expr around k (Paren e) = λ z. plain (node.Paren (k - 1)) (same_expr around (k - 1) e z)
    same_expr around k (ArrayLit xs) = λ z. let l = same_items around (k - 1) xs z in plain (node.ArrayLit l.0) l.1
    same_expr around k (ObjectLit ps) = λ z. let l = same_properties around (k - 1) ps z in plain (node.ObjectLit l.0) l.1
    same_expr around k (Function name formals body) = λ z. let l = same_elements (same_within old new to same name formals body around z) (k - 1) body z in plain (node.Function (same_label old new to same name z) (same_texts old new to same formals z) l.0) l.1
    same_expr around k (Dot e x) = λ z. plain (node.Dot (k - 1) (same_spelt old new to same x z)) (same_expr around (k - 1) e z)
    same_expr around k (At e i) = λ z. let l = same_expr around (k - 1) e z in let b = below (k - 1) l in plain (node.At (k - 1) b) (l ++ same_expr around b i z)
    same_expr around k (Call f xs) = λ z. let l = same_expr around (k - 1) f z in let r = same_arguments around (below (k - 1) l) xs z in plain (node.Call (k - 1) r.0) (l ++ r.1)
    same_expr around k (NewWith f xs) = λ z. let l = same_expr around (k - 1) f z in let r = same_arguments around (below (k - 1) l) xs z in plain (node.NewWith (k - 1) r.0) (l ++ r.1)
    same_expr around k (NewBare f) = λ z. plain (node.NewBare (k - 1)) (same_expr around (k - 1) f z)
    same_expr around k (Postfix t op) = λ z. plain (node.Postfix (k - 1) op) (same_expr around (k - 1) t z)
    same_expr around k (Prefix op e) = λ z. plain (node.Prefix op (k - 1)) (same_expr around (k - 1) e z)
    same_expr around k (Binary a op b) = λ z. let l = same_expr around (k - 1) a z in let r = below (k - 1) l in plain (node.Binary (k - 1) op r) (l ++ same_expr around r b z)
    same_expr around k (Cond c a b) = λ z.
        let l = same_expr around (k - 1) c z in
        let m = below (k - 1) l in
        let s = same_expr around m a z in
        let n = below m s in
        plain (node.Cond (k - 1) m n) (l ++ (s ++ same_expr around n b z))
    same_expr around k (Assign t op e) = λ z. let l = same_expr around (k - 1) t z in let r = below (k - 1) l in plain (node.Assign (k - 1) op r) (l ++ same_expr around r e z)
    same_expr around k (Comma a b) = λ z. let l = same_expr around (k - 1) a z in let r = below (k - 1) l in plain (node.Comma (k - 1) r) (l ++ same_expr around r b z)

    same_optional : (around : Scopes) (k : ℕ) (tree : Optional) → optional new around k (optional_renamed to tree) ≡ optional old around k tree
    same_optional around k Absent = refl
    same_optional around k (Present e) = λ z. (Some k, same_expr around k e z)

    same_arguments : (around : Scopes) (k : ℕ) (tree : Arguments) → arguments new around k (arguments_renamed to tree) ≡ arguments old around k tree
    same_arguments around k NoArgument = refl
    same_arguments around k (Argument e rest) = λ z. let l = same_expr around k e z in let r = same_arguments around (below k l) rest z in (k ∷ r.0, l ++ r.1)

    same_items : (around : Scopes) (k : ℕ) (tree : Items) → items new around k (items_renamed to tree) ≡ items old around k tree
    same_items around k NoItem = refl
    same_items around k (Hole rest) = λ z. let r = same_items around k rest z in (None ∷ r.0, r.1)
    same_items around k (Item e rest) = λ z. let l = same_expr around k e z in let r = same_items around (below k l) rest z in (Some k ∷ r.0, l ++ r.1)
    same_items around k (LastItem e) = λ z. (Some k ∷ [], same_expr around k e z)

    same_properties : (around : Scopes) (k : ℕ) (tree : Properties) → properties new around k (properties_renamed to tree) ≡ properties old around k tree
    same_properties around k NoProperty = refl
    same_properties around k (Property key e rest) = λ z. let l = same_expr around k e z in let r = same_properties around (below k l) rest z in ((same_key old new to same key z, k) ∷ r.0, l ++ r.1)
    same_properties around k (LastProperty key e) = λ z. ((same_key old new to same key z, k) ∷ [], same_expr around k e z)

    same_variables : (around : Scopes) (k : ℕ) (tree : Variables) → variables new around k (variables_renamed to tree) ≡ variables old around k tree
    same_variables around k NoVariable = refl
    same_variables around k (Variable x e rest) = λ z. let l = same_optional around k e z in let r = same_variables around (below k l.1) rest z in ((same x z, l.0) ∷ r.0, l.1 ++ r.1)

    same_init : (around : Scopes) (k : ℕ) (tree : Init) → init new around k (init_renamed to tree) ≡ init old around k tree
    same_init around k NoInit = refl
    same_init around k (InitExpr e) = λ z. (node.InitExpr k, same_expr around k e z)
    same_init around k (InitVar vs) = λ z. let l = same_variables around k vs z in (node.InitVar l.0, l.1)

    same_stmt : (around : Scopes) (k : ℕ) (tree : Stmt) → stmt new around k (stmt_renamed to tree) ≡ stmt old around k tree
    same_stmt around k (Block body) = λ z. block (same_stmts around (k - 1) body z)
    same_stmt around k (Var vs end) = λ z. let l = same_variables around (k - 1) vs z in record { node = node.Var l.0; places = same_variable_places old new to same around vs z } ∷ l.1
    same_stmt around k Empty = refl
    same_stmt around k (ExprStmt e end) = λ z. plain (node.Expr (k - 1)) (same_expr around (k - 1) e z)
    same_stmt around k (If e s) = λ z. let l = same_expr around (k - 1) e z in let r = below (k - 1) l in plain (node.If (k - 1) r None) (l ++ same_stmt around r s z)
    same_stmt around k (IfElse e s u) = λ z.
        let l = same_expr around (k - 1) e z in
        let m = below (k - 1) l in
        let t = same_stmt around m s z in
        let n = below m t in
        plain (node.If (k - 1) m (Some n)) (l ++ (t ++ same_stmt around n u z))
    same_stmt around k (DoWhile s e end) = λ z. let l = same_stmt around (k - 1) s z in let r = below (k - 1) l in plain (node.DoWhile (k - 1) r) (l ++ same_expr around r e z)
    same_stmt around k (While e s) = λ z. let l = same_expr around (k - 1) e z in let r = below (k - 1) l in plain (node.While (k - 1) r) (l ++ same_stmt around r s z)
    same_stmt around k (For first test update s) = λ z.
        let i = same_init around (k - 1) first z in
        let a = below (k - 1) i.1 in
        let t = same_optional around a test z in
        let b = below a t.1 in
        let u = same_optional around b update z in
        let c = below b u.1 in
        record { node = node.For i.0 t.0 u.0 c; places = same_init_places old new to same around first z } ∷ (i.1 ++ (t.1 ++ (u.1 ++ same_stmt around c s z)))
    same_stmt around k (ForIn t e s) = λ z.
        let l = same_expr around (k - 1) t z in
        let m = below (k - 1) l in
        let v = same_expr around m e z in
        let n = below m v in
        plain (node.ForIn (k - 1) m n) (l ++ (v ++ same_stmt around n s z))
    same_stmt around k (ForVarIn x e s) = λ z.
        let l = same_expr around (k - 1) e z in
        let r = below (k - 1) l in
        record { node = node.ForVarIn (same x z) (k - 1) r; places = same_places old new to same around (x ∷ []) z } ∷ (l ++ same_stmt around r s z)
    same_stmt around k (Continue label end) = λ z. plain (node.Continue (same_label old new to same label z)) []
    same_stmt around k (Break label end) = λ z. plain (node.Break (same_label old new to same label z)) []
    same_stmt around k (Return e end) = λ z. let l = same_optional around (k - 1) e z in plain (node.Return l.0) l.1
    same_stmt around k (Throw e end) = λ z. plain (node.Throw (k - 1)) (same_expr around (k - 1) e z)
    same_stmt around k (Label x s) = λ z. plain (node.Label (same x z) (k - 1)) (same_stmt around (k - 1) s z)
    same_stmt around k (Switch e list) = λ z. let l = same_expr around (k - 1) e z in let r = same_clauses around (below (k - 1) l) list z in plain (node.Switch (k - 1) r.0) (l ++ r.1)
    same_stmt around k (TryCatch b x c) = λ z.
        let l = block (same_stmts around (k - 1 - 1) b z) in
        let q = below (k - 1) l in
        plain (node.Try (k - 1) (Some (same x z, q)) None) (l ++ block (same_stmts ((same x z ∷ []) ∷ around) (q - 1) c z))
    same_stmt around k (TryFinally b f) = λ z. let l = block (same_stmts around (k - 1 - 1) b z) in let q = below (k - 1) l in plain (node.Try (k - 1) None (Some q)) (l ++ block (same_stmts around (q - 1) f z))
    same_stmt around k (TryBoth b x c f) = λ z.
        let l = block (same_stmts around (k - 1 - 1) b z) in
        let q = below (k - 1) l in
        let h = block (same_stmts ((same x z ∷ []) ∷ around) (q - 1) c z) in
        let r = below q h in
        plain (node.Try (k - 1) (Some (same x z, q)) (Some r)) (l ++ (h ++ block (same_stmts around (r - 1) f z)))
    same_stmt around k (Within e b) = λ z. let l = same_expr around (k - 1) e z in let p = below (k - 1) l in plain (node.Within (k - 1) p) (l ++ block (same_stmts around (p - 1) b z))

    same_stmts : (around : Scopes) (k : ℕ) (tree : Stmts) → stmts new around k (stmts_renamed to tree) ≡ stmts old around k tree
    same_stmts around k NoStmt = refl
    same_stmts around k (MoreStmts s rest) = λ z. let l = same_stmt around k s z in let r = same_stmts around (below k l) rest z in (k ∷ r.0, l ++ r.1)

    same_clauses : (around : Scopes) (k : ℕ) (tree : Clauses) → clauses new around k (clauses_renamed to tree) ≡ clauses old around k tree
    same_clauses around k NoClause = refl
    same_clauses around k (Case e body rest) = λ z.
        let l = same_expr around k e z in
        let b = same_stmts around (below k l) body z in
        let r = same_clauses around (below (below k l) b.1) rest z in
        ((Some k, b.0) ∷ r.0, l ++ (b.1 ++ r.1))
    same_clauses around k (Default body rest) = λ z. let b = same_stmts around k body z in let r = same_clauses around (below k b.1) rest z in ((None, b.0) ∷ r.0, b.1 ++ r.1)

    same_elements : (around : Scopes) (k : ℕ) (tree : Elements) → elements new around k (elements_renamed to tree) ≡ elements old around k tree
    same_elements around k NoElement = refl
    same_elements around k (Statement s rest) = λ z. let l = same_stmt around k s z in let r = same_elements around (below k l) rest z in (k ∷ r.0, l ++ r.1)
    same_elements around k (FunctionDecl x formals body rest) = λ z.
        let b = same_elements (same_within old new to same None formals body around z) (k - 1) body z in
        let l = plain (node.FunctionDecl (same x z) (same_texts old new to same formals z) b.0) b.1 in
        let r = same_elements around (below k l) rest z in
        (k ∷ r.0, l ++ r.1)

  pub same_tree : (program : Elements) → tree_of new (elements_renamed to program) ≡ tree_of old program
  same_tree program = λ z.
      let n = length (same_elements [] 0 program z).1 in
      let l = same_elements [] (n - 1) program z in
      let entries = plain (node.Program l.0) l.1 in
      record { nodes = reverse (each (λ (e : Entry). e.node) entries); body = n; places = reverse (each (λ (e : Entry). e.places) entries) }
