-- What an expression is by its outermost form: how tightly it binds, whether it may be assigned to, and how it begins and ends.
use Rattle.std.specs.Prelude.{ℕ, Bool, true, false, min}
use Rattle.wjs_tree.specs.Operators.{binary_level}
use Rattle.wjs_tree.specs.Trees.{Expr, Name, Paren, ObjectLit, Function, Dot, At, Call, NewWith, NewBare, Postfix, Prefix, Binary, Cond, Assign, Comma}

-- How tightly a form binds, as its nonterminal in the grammar: 18 for a primary expression, 17 for a member expression,
-- 16 for a call, 15 for `new` without arguments, 14 for a postfix expression, 13 for a unary one, 12 to 3 for the binary
-- operators, 2 for a choice, 1 for an assignment and 0 for a comma (sections 11.1 to 11.14).
abbrev pub level : Expr → ℕ
level (Dot e x) = min (level e) 17
level (At e i) = min (level e) 17
level (Call f xs) = 16
level (NewWith f xs) = 17
level (NewBare f) = 15
level (Postfix t s) = 14
level (Prefix s e) = 13
level (Binary a op b) = binary_level op
level (Cond c a b) = 2
level (Assign t op e) = 1
level (Comma a b) = 0
level _ = 18

-- what may be assigned to: a name, a property, or either in parentheses (sections 8.7, 11.1.6)
abbrev pub is_target : Expr → Bool
is_target (Name x) = true
is_target (Dot e x) = true
is_target (At e i) = true
is_target (Paren e) = is_target e
is_target _ = false

-- `new` without arguments
abbrev pub is_bare : Expr → Bool
is_bare (NewBare f) = true
is_bare _ = false

-- the first token is `{` or `function` (section 12.4)
abbrev pub starts_with_brace : Expr → Bool
starts_with_brace (ObjectLit ps) = true
starts_with_brace (Function name formals body) = true
starts_with_brace (Dot e x) = starts_with_brace e
starts_with_brace (At e i) = starts_with_brace e
starts_with_brace (Call f xs) = starts_with_brace f
starts_with_brace (Postfix t s) = starts_with_brace t
starts_with_brace (Binary a op b) = starts_with_brace a
starts_with_brace (Cond c a b) = starts_with_brace c
starts_with_brace (Assign t op e) = starts_with_brace t
starts_with_brace (Comma a b) = starts_with_brace a
starts_with_brace _ = false

-- the last token is `++` or `--`
abbrev pub ends_in_update : Expr → Bool
ends_in_update (Postfix t s) = true
ends_in_update (Prefix s e) = ends_in_update e
ends_in_update (Binary a op b) = ends_in_update b
ends_in_update (Cond c a b) = ends_in_update b
ends_in_update (Assign t op e) = ends_in_update e
ends_in_update (Comma a b) = ends_in_update b
ends_in_update _ = false
