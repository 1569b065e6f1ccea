-- A node that stands for a tree, and its parts.
use Rattle.std.specs.Prelude.{◌≡◌, ℕ, ◌≤◌, List, [], ◌∷◌, ◌++◌, Some, None}
use Rattle.std.proofs.Common.{refl, subst, arith}
use Rattle.wjs_base.specs.declared.ids.NodeId.{NodeId}
use Rattle.wjs_tree.specs.declared.node.Node.{Node}
use Rattle.wjs_tree.specs.declared.node.Node.TheVariants as nodes
use Rattle.wjs_tree.specs.Trees.{Expr, Stmt, Name, Number, Text, This, ThisWorld, Null, Boolean, Paren, ArrayLit, ObjectLit, Function, Dot, At, Call, NewWith, NewBare, Postfix, Prefix, Binary, Cond, Assign, Comma, Block, Var, Empty, ExprStmt, If, IfElse, DoWhile, While, For, ForIn, ForVarIn, Continue, Break, Return, Throw, Label, Switch, TryCatch, TryFinally, TryBoth, Within}
use Rattle.wjs_tree.specs.Height.{height, stmt_height}
use Rattle.wjs_tree.specs.Shows.{Has, Shows, StmtShows, has_tail, has_comma}
use Rattle.wjs_scope.specs.Nesting.{Around, Caught, Inside, option_part, init_parts, parts}
use Rattle.wjs_scope.specs.Visits.{HasElements}
use Rattle.wjs_scope.proofs.Standing.{Stands, AsExpr, AsStmt, AsFunction, AsScript, AllStand, Splits, one, expr, stmt, joined, optional, arguments, items, properties, variables, init, stmts, clauses, elements}

made : (ns : List Node) (room : ℕ) (i : NodeId) (used : List ℕ) (m node : Node) (rest : List ℕ) → Has ns i m → Has ns i node → used ≡ i.0 ∷ rest → 1 ≤ room → HasElements ns m → AllStand ns room (parts m) rest → Splits ns room i used node
made ns room i used m node rest a b is some there each = let same : m ≡ node = cc in subst (λ (z : Node). Splits ns room i used z) same (record { rest = rest; is = is; some = some; elements = there; each = each })

high : (t : Expr) → 1 ≤ height t
high (Dot e x) = high e
high (Postfix t op) = high t
high (Name x) = omega arith
high (Number k) = omega arith
high (Text x) = omega arith
high This = omega arith
high ThisWorld = omega arith
high Null = omega arith
high (Boolean b) = omega arith
high (Paren e) = omega arith
high (ArrayLit xs) = omega arith
high (ObjectLit ps) = omega arith
high (Function name formals body) = omega arith
high (At e j) = omega arith
high (Call f xs) = omega arith
high (NewWith f xs) = omega arith
high (NewBare f) = omega arith
high (Prefix op e) = omega arith
high (Binary l op r) = omega arith
high (Cond c x y) = omega arith
high (Assign t op e) = omega arith
high (Comma l r) = omega arith

split_expr : (ns : List Node) (room : ℕ) → room ≤ 200 → (i : NodeId) (used : List ℕ) (t : Expr) → Shows ns t i used → height t ≤ room → (node : Node) → Has ns i node → Splits ns room i used node
split_expr ns room small i used (Name x) h low node has = made ns room i used (nodes.Name x) node ([]) h.0 has h.1 (omega arith) (tt) (refl)
split_expr ns room small i used (Number k) h low node has = made ns room i used (nodes.Number k) node ([]) h.0 has h.1 (omega arith) (tt) (refl)
split_expr ns room small i used (Text x) h low node has = made ns room i used (nodes.Text x) node ([]) h.0 has h.1 (omega arith) (tt) (refl)
split_expr ns room small i used This h low node has = made ns room i used nodes.This node ([]) h.0 has h.1 (omega arith) (tt) (refl)
split_expr ns room small i used ThisWorld h low node has = made ns room i used nodes.ThisWorld node ([]) h.0 has h.1 (omega arith) (tt) (refl)
split_expr ns room small i used Null h low node has = made ns room i used nodes.Null node ([]) h.0 has h.1 (omega arith) (tt) (refl)
split_expr ns room small i used (Boolean b) h low node has = made ns room i used (nodes.Bool b) node ([]) h.0 has h.1 (omega arith) (tt) (refl)
split_expr ns room small i used (Paren e) h low node has = made ns room i used (nodes.Paren h.0) node (h.1) h.2 has h.3 (omega arith) (tt) (expr ns room e h.0 h.1 h.4 (omega arith))
split_expr ns room small i used (ArrayLit xs) h low node has = made ns room i used (nodes.ArrayLit h.0 (has_tail xs)) node (h.1) h.2 has h.3 (omega arith) (tt) (items ns room xs h.0 h.1 h.4 (omega arith))
split_expr ns room small i used (ObjectLit ps) h low node has = made ns room i used (nodes.ObjectLit h.0 (has_comma ps)) node (h.1) h.2 has h.3 (omega arith) (tt) (properties ns room ps h.0 h.1 h.4 (omega arith))
split_expr ns room small i used (Function name formals body) h low node has = made ns room i used (nodes.Function name formals h.0) node (h.1) h.2 has h.3 (omega arith) ((body, (h.1, h.4), omega arith)) (elements ns room Inside body h.0 h.1 h.4 (omega arith))
split_expr ns room small i used (Dot e x) h low node has = made ns room i used (nodes.Dot h.0 x) node (h.1) h.2 has h.3 (omega (arith, high e)) (tt) (expr ns room e h.0 h.1 h.4 (omega arith))
split_expr ns room small i used (NewBare f) h low node has = made ns room i used (nodes.NewBare h.0) node (h.1) h.2 has h.3 (omega arith) (tt) (expr ns room f h.0 h.1 h.4 (omega arith))
split_expr ns room small i used (Postfix t op) h low node has = made ns room i used (nodes.Postfix h.0 op) node (h.1) h.2 has h.3 (omega (arith, high t)) (tt) (expr ns room t h.0 h.1 h.4 (omega arith))
split_expr ns room small i used (Prefix op e) h low node has = made ns room i used (nodes.Prefix op h.0) node (h.1) h.2 has h.3 (omega arith) (tt) (expr ns room e h.0 h.1 h.4 (omega arith))
split_expr ns room small i used (At e j) h low node has = made ns room i used (nodes.At h.0 h.1) node (h.2 ++ h.3) h.4 has h.5 (omega arith) (tt) (h.2, h.3, refl, AsExpr e h.6 (omega arith), expr ns room j h.1 h.3 h.7 (omega arith))
split_expr ns room small i used (Binary l op r) h low node has = made ns room i used (nodes.Binary h.0 op h.1) node (h.2 ++ h.3) h.4 has h.5 (omega arith) (tt) (h.2, h.3, refl, AsExpr l h.6 (omega arith), expr ns room r h.1 h.3 h.7 (omega arith))
split_expr ns room small i used (Assign t op e) h low node has = made ns room i used (nodes.Assign h.0 op h.1) node (h.2 ++ h.3) h.4 has h.5 (omega arith) (tt) (h.2, h.3, refl, AsExpr t h.6 (omega arith), expr ns room e h.1 h.3 h.7 (omega arith))
split_expr ns room small i used (Comma l r) h low node has = made ns room i used (nodes.Comma h.0 h.1) node (h.2 ++ h.3) h.4 has h.5 (omega arith) (tt) (h.2, h.3, refl, AsExpr l h.6 (omega arith), expr ns room r h.1 h.3 h.7 (omega arith))
split_expr ns room small i used (Call f xs) h low node has = made ns room i used (nodes.Call h.0 h.1) node (h.2 ++ h.3) h.4 has h.5 (omega arith) (tt) (h.2, h.3, refl, AsExpr f h.6 (omega arith), arguments ns room xs h.1 h.3 h.7 (omega arith))
split_expr ns room small i used (NewWith f xs) h low node has = made ns room i used (nodes.NewWith h.0 h.1) node (h.2 ++ h.3) h.4 has h.5 (omega arith) (tt) (h.2, h.3, refl, AsExpr f h.6 (omega arith), arguments ns room xs h.1 h.3 h.7 (omega arith))
split_expr ns room small i used (Cond c x y) h low node has = made ns room i used (nodes.Cond h.0 h.1 h.2) node (h.3 ++ (h.4 ++ h.5)) h.6 has h.7 (omega arith) (tt) (h.3, h.4 ++ h.5, refl, AsExpr c h.8 (omega arith), (h.4, h.5, refl, AsExpr x h.9 (omega arith), expr ns room y h.2 h.5 h.10 (omega arith)))

split_stmt : (ns : List Node) (room : ℕ) → room ≤ 200 → (i : NodeId) (used : List ℕ) (t : Stmt) → StmtShows ns t i used → stmt_height t ≤ room → (node : Node) → Has ns i node → Splits ns room i used node
split_stmt ns room small i used (Block body) h low node has = made ns room i used (nodes.Block h.0) node (h.1) h.2 has h.3 (omega arith) (tt) (stmts ns room body h.0 h.1 h.4 (omega arith))
split_stmt ns room small i used (Var vs end) h low node has = made ns room i used (nodes.Var h.0 end) node (h.1) h.2 has h.3 (omega arith) (tt) (variables ns room vs h.0 h.1 h.4 (omega arith))
split_stmt ns room small i used Empty h low node has = made ns room i used nodes.Empty node ([]) h.0 has h.1 (omega arith) (tt) (refl)
split_stmt ns room small i used (ExprStmt e end) h low node has = made ns room i used (nodes.Expr h.0 end) node (h.1) h.2 has h.3 (omega arith) (tt) (expr ns room e h.0 h.1 h.4 (omega arith))
split_stmt ns room small i used (If e s) h low node has = made ns room i used (nodes.If h.0 h.1 None) node (h.2 ++ h.3) h.4 has h.5 (omega arith) (tt) (h.2, h.3, refl, AsExpr e h.6 (omega arith), stmt ns room s h.1 h.3 h.7 (omega arith))
split_stmt ns room small i used (IfElse e s u) h low node has = made ns room i used (nodes.If h.0 h.1 (Some h.2)) node (h.3 ++ (h.4 ++ h.5)) h.6 has h.7 (omega arith) (tt) (h.3, h.4 ++ h.5, refl, AsExpr e h.8 (omega arith), (h.4, h.5, refl, AsStmt s h.9 (omega arith), stmt ns room u h.2 h.5 h.10 (omega arith)))
split_stmt ns room small i used (DoWhile s e end) h low node has = made ns room i used (nodes.DoWhile h.0 h.1 end) node (h.2 ++ h.3) h.4 has h.5 (omega arith) (tt) (h.2, h.3, refl, AsStmt s h.6 (omega arith), expr ns room e h.1 h.3 h.7 (omega arith))
split_stmt ns room small i used (While e s) h low node has = made ns room i used (nodes.While h.0 h.1) node (h.2 ++ h.3) h.4 has h.5 (omega arith) (tt) (h.2, h.3, refl, AsExpr e h.6 (omega arith), stmt ns room s h.1 h.3 h.7 (omega arith))
split_stmt ns room small i used (For first test update s) h low node has = made ns room i used (nodes.For h.0 h.1 h.2 h.3) node (h.4 ++ (h.5 ++ (h.6 ++ h.7))) h.8 has h.9 (omega arith) (tt) (joined ns room (init_parts h.0) (option_part h.1 ++ (option_part h.2 ++ h.3 ∷ [])) h.4 (h.5 ++ (h.6 ++ h.7)) (init ns room first h.0 h.4 h.10 (omega arith)) (joined ns room (option_part h.1) (option_part h.2 ++ h.3 ∷ []) h.5 (h.6 ++ h.7) (optional ns room test h.1 h.5 h.11 (omega arith)) (joined ns room (option_part h.2) (h.3 ∷ []) h.6 h.7 (optional ns room update h.2 h.6 h.12 (omega arith)) (stmt ns room s h.3 h.7 h.13 (omega arith)))))
split_stmt ns room small i used (ForIn t e s) h low node has = made ns room i used (nodes.ForIn h.0 h.1 h.2) node (h.3 ++ (h.4 ++ h.5)) h.6 has h.7 (omega arith) (tt) (h.3, h.4 ++ h.5, refl, AsExpr t h.8 (omega arith), (h.4, h.5, refl, AsExpr e h.9 (omega arith), stmt ns room s h.2 h.5 h.10 (omega arith)))
split_stmt ns room small i used (ForVarIn x e s) h low node has = made ns room i used (nodes.ForVarIn x h.0 h.1) node (h.2 ++ h.3) h.4 has h.5 (omega arith) (tt) (h.2, h.3, refl, AsExpr e h.6 (omega arith), stmt ns room s h.1 h.3 h.7 (omega arith))
split_stmt ns room small i used (Continue label end) h low node has = made ns room i used (nodes.Continue label end) node ([]) h.0 has h.1 (omega arith) (tt) (refl)
split_stmt ns room small i used (Break label end) h low node has = made ns room i used (nodes.Break label end) node ([]) h.0 has h.1 (omega arith) (tt) (refl)
split_stmt ns room small i used (Return e end) h low node has = made ns room i used (nodes.Return h.0 end) node (h.1) h.2 has h.3 (omega arith) (tt) (optional ns room e h.0 h.1 h.4 (omega arith))
split_stmt ns room small i used (Throw e end) h low node has = made ns room i used (nodes.Throw h.0 end) node (h.1) h.2 has h.3 (omega arith) (tt) (expr ns room e h.0 h.1 h.4 (omega arith))
split_stmt ns room small i used (Label x s) h low node has = made ns room i used (nodes.Label x h.0) node (h.1) h.2 has h.3 (omega arith) (tt) (stmt ns room s h.0 h.1 h.4 (omega arith))
split_stmt ns room small i used (Switch e list) h low node has = made ns room i used (nodes.Switch h.0 h.1) node (h.2 ++ h.3) h.4 has h.5 (omega arith) (tt) (h.2, h.3, refl, AsExpr e h.6 (omega arith), clauses ns room list h.1 h.3 h.7 (omega arith))
split_stmt ns room small i used (TryCatch b x c) h low node has = made ns room i used (nodes.Try h.0 (Some (record { name = x; block = h.1 })) None) node ((h.0.0 ∷ h.4) ++ (h.1.0 ∷ h.5)) h.6 has h.7 (omega arith) (tt) (h.0.0 ∷ h.4, h.1.0 ∷ h.5, refl, AsStmt (Block b) (h.2, h.4, h.8, refl, h.9) (omega arith), one ns room h.1 (Caught x) (h.1.0 ∷ h.5) (AsStmt (Block c) (h.3, h.5, h.10, refl, h.11) (omega arith)))
split_stmt ns room small i used (TryFinally b f) h low node has = made ns room i used (nodes.Try h.0 None (Some h.1)) node ((h.0.0 ∷ h.4) ++ (h.1.0 ∷ h.5)) h.6 has h.7 (omega arith) (tt) (h.0.0 ∷ h.4, h.1.0 ∷ h.5, refl, AsStmt (Block b) (h.2, h.4, h.8, refl, h.9) (omega arith), one ns room h.1 Around (h.1.0 ∷ h.5) (AsStmt (Block f) (h.3, h.5, h.10, refl, h.11) (omega arith)))
split_stmt ns room small i used (TryBoth b x c f) h low node has = made ns room i used (nodes.Try h.0 (Some (record { name = x; block = h.1 })) (Some h.2)) node ((h.0.0 ∷ h.6) ++ ((h.1.0 ∷ h.7) ++ (h.2.0 ∷ h.8))) h.9 has h.10 (omega arith) (tt) (h.0.0 ∷ h.6, (h.1.0 ∷ h.7) ++ (h.2.0 ∷ h.8), refl, AsStmt (Block b) (h.3, h.6, h.11, refl, h.12) (omega arith), (h.1.0 ∷ h.7, h.2.0 ∷ h.8, refl, AsStmt (Block c) (h.4, h.7, h.13, refl, h.14) (omega arith), one ns room h.2 Around (h.2.0 ∷ h.8) (AsStmt (Block f) (h.5, h.8, h.15, refl, h.16) (omega arith))))
split_stmt ns room small i used (Within e b) h low node has = made ns room i used (nodes.Within h.0 h.1) node (h.3 ++ (h.1.0 ∷ h.4)) h.5 has h.6 (omega arith) (tt) (h.3, h.1.0 ∷ h.4, refl, AsExpr e h.7 (omega arith), one ns room h.1 Around (h.1.0 ∷ h.4) (AsStmt (Block b) (h.2, h.4, h.8, refl, h.9) (omega arith)))

-- a node that stands for a tree is its own number and those of its parts
pub split : (ns : List Node) (room : ℕ) → room ≤ 200 → (i : NodeId) (used : List ℕ) → Stands ns room i used → (node : Node) → Has ns i node → Splits ns room i used node
split ns room small i used (AsExpr t h low) node has = split_expr ns room small i used t h low node has
split ns room small i used (AsStmt t h low) node has = split_stmt ns room small i used t h low node has
split ns room small i used (AsFunction x formals list f b some) node has =
    made ns room i used (nodes.FunctionDecl x formals list) node b.1 f has b.2 some (b.0, (b.1, b.3), (let low = b.4 in omega arith)) (elements ns room Inside b.0 list b.1 b.3 b.4)
split ns room small i used (AsScript list f b some) node has =
    made ns room i used (nodes.Program list) node b.1 f has b.2 some (b.0, (b.1, b.3), (let low = b.4 in omega arith)) (elements ns room Around b.0 list b.1 b.3 b.4)

node_of_expr : (ns : List Node) (i : NodeId) (used : List ℕ) (t : Expr) → Shows ns t i used → (node : Node) × Has ns i node
node_of_expr ns i used (Name x) h = (_, h.0)
node_of_expr ns i used (Number k) h = (_, h.0)
node_of_expr ns i used (Text x) h = (_, h.0)
node_of_expr ns i used This h = (_, h.0)
node_of_expr ns i used ThisWorld h = (_, h.0)
node_of_expr ns i used Null h = (_, h.0)
node_of_expr ns i used (Boolean b) h = (_, h.0)
node_of_expr ns i used (Paren e) h = (_, h.2)
node_of_expr ns i used (ArrayLit xs) h = (_, h.2)
node_of_expr ns i used (ObjectLit ps) h = (_, h.2)
node_of_expr ns i used (Function name formals body) h = (_, h.2)
node_of_expr ns i used (Dot e x) h = (_, h.2)
node_of_expr ns i used (NewBare f) h = (_, h.2)
node_of_expr ns i used (Postfix t op) h = (_, h.2)
node_of_expr ns i used (Prefix op e) h = (_, h.2)
node_of_expr ns i used (At e j) h = (_, h.4)
node_of_expr ns i used (Binary l op r) h = (_, h.4)
node_of_expr ns i used (Assign t op e) h = (_, h.4)
node_of_expr ns i used (Comma l r) h = (_, h.4)
node_of_expr ns i used (Call f xs) h = (_, h.4)
node_of_expr ns i used (NewWith f xs) h = (_, h.4)
node_of_expr ns i used (Cond c x y) h = (_, h.6)

node_of_stmt : (ns : List Node) (i : NodeId) (used : List ℕ) (t : Stmt) → StmtShows ns t i used → (node : Node) × Has ns i node
node_of_stmt ns i used (Block body) h = (_, h.2)
node_of_stmt ns i used (Var vs end) h = (_, h.2)
node_of_stmt ns i used Empty h = (_, h.0)
node_of_stmt ns i used (ExprStmt e end) h = (_, h.2)
node_of_stmt ns i used (If e s) h = (_, h.4)
node_of_stmt ns i used (IfElse e s u) h = (_, h.6)
node_of_stmt ns i used (DoWhile s e end) h = (_, h.4)
node_of_stmt ns i used (While e s) h = (_, h.4)
node_of_stmt ns i used (For first test update s) h = (_, h.8)
node_of_stmt ns i used (ForIn t e s) h = (_, h.6)
node_of_stmt ns i used (ForVarIn x e s) h = (_, h.4)
node_of_stmt ns i used (Continue label end) h = (_, h.0)
node_of_stmt ns i used (Break label end) h = (_, h.0)
node_of_stmt ns i used (Return e end) h = (_, h.2)
node_of_stmt ns i used (Throw e end) h = (_, h.2)
node_of_stmt ns i used (Label x s) h = (_, h.2)
node_of_stmt ns i used (Switch e list) h = (_, h.4)
node_of_stmt ns i used (TryCatch b x c) h = (_, h.6)
node_of_stmt ns i used (TryFinally b f) h = (_, h.6)
node_of_stmt ns i used (TryBoth b x c f) h = (_, h.9)
node_of_stmt ns i used (Within e b) h = (_, h.5)

-- what stands for a tree is a node
pub node_of : (ns : List Node) (room : ℕ) (i : NodeId) (used : List ℕ) → Stands ns room i used → (node : Node) × Has ns i node
node_of ns room i used (AsExpr t h low) = node_of_expr ns i used t h
node_of ns room i used (AsStmt t h low) = node_of_stmt ns i used t h
node_of ns room i used (AsFunction x formals list f b some) = (_, f)
node_of ns room i used (AsScript list f b some) = (_, f)
