-- What a shaped tree stands for is taken, by recursion on the tree.
use Rattle.std.proofs.Common.{◌≡◌, ℕ, ◌+◌, ◌≤◌, inl, inr, Bool, true, false, List, [], ◌∷◌, length, Option, Some, None, refl, sym, ap, ◌∙◌, subst, arith}
use Rattle.wjs_base.specs.declared.ids.TextId.{TextId}
use Rattle.wjs_tree.specs.declared.tokens.Tok.{Tok}
use Rattle.wjs_tree.specs.declared.tokens.Token.{Token}
use Rattle.wjs_tree.specs.declared.tokens.Token.TheVariants as tokens
use Rattle.wjs_tree.specs.declared.signs.Sign.TheVariants as signs
use Rattle.wjs_tree.specs.declared.keys.Key.TheVariants as keys
use Rattle.wjs_tree.specs.declared.node.End.{End}
use Rattle.wjs_tree.specs.declared.node.PropertyKey.{PropertyKey}
use Rattle.wjs_tree.specs.declared.node.PropertyKey.TheVariants as property_keys
use Rattle.wjs_tree.specs.declared.node.Spelt.{Spelt}
use Rattle.wjs_tree.specs.declared.node.Spelt.TheVariants as spelts
use Rattle.wjs_tree.specs.declared.operators.PrefixOperator.{PrefixOperator}
use Rattle.wjs_tree.specs.declared.operators.PrefixOperator.TheVariants as prefixes
use Rattle.wjs_tree.specs.Operators.{is_update}
use Rattle.wjs_tree.specs.Trees.{Expr, Optional, Arguments, Items, Properties, Variables, Init, Stmt, Stmts, Clauses, Elements, Name, Number, Text, This, ThisWorld, Null, Boolean, Paren, ArrayLit, ObjectLit, Function, Dot, At, Call, NewWith, NewBare, Postfix, Prefix, Binary, Cond, Assign, Comma, Absent, Present, NoArgument, Argument, NoItem, Hole, Item, LastItem, NoProperty, Property, LastProperty, NoVariable, Variable, NoInit, InitExpr, InitVar, Block, Var, Empty, ExprStmt, If, IfElse, DoWhile, While, For, ForIn, ForVarIn, Continue, Break, Return, Throw, Label, Switch, TryCatch, TryFinally, TryBoth, Within, NoStmt, MoreStmts, NoClause, Case, Default, NoElement, Statement, FunctionDecl}
use Rattle.wjs_tree.specs.Levels.{level, is_target, ends_in_update}
use Rattle.wjs_tree.specs.Formed.{is_open_if, AreSome, Shaped, OptionalShaped, InitialiserShaped, ArgumentsShaped, ItemsShaped, PropertiesShaped, VariablesShaped, InitShaped, StmtShaped, StmtsShaped, ClausesShaped, ElementsShaped}
use Rattle.wjs_tree.specs.Ends.{HasToken, HasSign, HasKey, Ending, Complete, InName, InExpr, Ends}
use Rattle.wjs_tree.specs.Spelling.{property_token, last_ending, Stands, OptionalStands, InitialiserStands, ArgumentsStand, MoreArgumentsStand, ItemsStand, PropertiesStand, VariablesStand, MoreVariablesStand, InitStands, StmtStands, StmtsStand, ClausesStand, ElementsStand}
use Rattle.wjs_tree.proofs.Levels.{new_level}
use Rattle.wjs_forms.specs.declared.class.Class.{Class}
use Rattle.wjs_forms.specs.declared.class.Class.TheVariants as classes
use Rattle.wjs_forms.specs.declared.forms.Place.{Place}
use Rattle.wjs_forms.specs.declared.forms.Place.TheVariants as places
use Rattle.wjs_forms.specs.declared.forms.Form.{Form}
use Rattle.wjs_forms.specs.declared.forms.Form.TheVariants as forms
use Rattle.wjs_forms.specs.declared.forms.Control.{Control}
use Rattle.wjs_forms.specs.declared.forms.Control.TheVariants as controls
use Rattle.wjs_forms.specs.declared.forms.Move.TheVariants as moves
use Rattle.wjs_forms.specs.Classes.{class_of, is_name}
use Rattle.wjs_forms.specs.Table.{after_update, assigns as assign_move}
use Rattle.wjs_forms.specs.Moves.{named_key}
use Rattle.wjs_forms.specs.States.{State, state, step, act, below, Runs}
use Rattle.wjs_forms.proofs.Runs.{class_here, joined_here, step_on}
use Rattle.wjs_forms.proofs.Tops.{is_new, no_in}
use Rattle.wjs_forms.proofs.Follows.{Binds, BindsNew, Follows, Taking, binary_low, binary_high, binds_high, binds_up, new_free, low_new, low_place, places_low, target_high, follows_token, by_chain}
use Rattle.wjs_forms.proofs.Endings.{complete_runs, suffix_follows}
use Rattle.wjs_forms.proofs.Declared.{HoldsVariables, Closing, part_ending, final, last_is, comma_closing, header_holds, header_closing, statement_holds, statement_closing}
use Rattle.wjs_forms.proofs.Heads.{place_sign, place_word, place_formals, not_else, property, for_head, each, each_var, try_head, catch_head, finally_head, clause_control, clause_end, clause_case, clause_default}
use Rattle.wjs_forms.proofs.Operands.{moved, spelt_is_name, prefix_place, one_token, paren, dot, index, call, new_with, new_bare, postfix, prefix, binary, cond, assign, comma}
use Rattle.wjs_forms.proofs.Beginnings.{holds_list, holds_elements, elements_list, item_runs, argument_runs, test_runs, update_runs, init_runs, for_named_runs, body_runs, list_runs, list_else, then_runs, finally_runs}
use Rattle.wjs_forms.proofs.Statements.{on_sign, on_key, on_word, closed_by, head, name, expression, jump, bare_return, return, throw, guarded}

-- behind the operand a comma leads to a further one
abbrev CommaStays : List Form → Type 0
CommaStays s = (j : Bool) → step classes.Comma j s controls.Behind ≡ Some (state (controls.Want places.First) s)

binds_new : (p : Place) (e : Expr) → after_update p ≡ false → 15 ≤ level e → Binds p e
binds_new places.Whole e u h = tt
binds_new places.First e u h = omega arith
binds_new places.Later e u h = omega arith
binds_new places.Update e u h = cc

first_assigns : (p : Place) (e : Expr) → level e ≤ 2 → Binds p e → assign_move p ≡ moves.Stay (controls.Want places.First)
first_assigns places.Whole e l b = refl
first_assigns places.First e l b = refl
first_assigns places.Later e l b = absurd (omega arith)
first_assigns places.Update e l b = absurd (omega arith)

binds_prefix : (op : PrefixOperator) (b : Bool) (e : Expr) → 13 ≤ level e → (is_update op ≡ true → is_target e ≡ true) → Shaped b e → Binds (prefix_place op) e
binds_prefix prefixes.Increment b e l g f = target_high b e (g refl) f
binds_prefix prefixes.Decrement b e l g f = target_high b e (g refl) f
binds_prefix _ b e l g f = omega arith

-- where a target stands an operator `in` may or may not be barred
pub free_in : (b c : Bool) (e : Expr) → 15 ≤ level e → Shaped b e → Shaped c e
free_in b c (Paren e) l f = f
free_in b c (ArrayLit xs) l f = f
free_in b c (ObjectLit ps) l f = f
free_in b c (Function x xs body) l f = f
free_in b c (Dot e x) l f = (f.0, free_in b c e (let h = f.0 in omega arith) f.1)
free_in b c (At e j) l f = (f.0, free_in b c e (let h = f.0 in omega arith) f.1, f.2)
free_in b c (Call e xs) l f = (f.0, free_in b c e (let h = f.0 in omega arith) f.1, f.2)
free_in b c (NewWith e xs) l f = (f.0, free_in b c e (let h = f.0 in omega arith) f.1, f.2)
free_in b c (NewBare e) l f = (f.0, free_in b c e (new_level e f.0) f.1)
free_in b c (Postfix e op) l f = absurd (omega arith)
free_in b c (Prefix op e) l f = absurd (omega arith)
free_in b c (Binary x op y) l f = absurd (let q = binary_low op in omega arith)
free_in b c (Cond x y z) l f = absurd (omega arith)
free_in b c (Assign x op y) l f = absurd (omega arith)
free_in b c (Comma x y) l f = absurd (omega arith)
free_in b c _ l f = tt

dot_new : (s : List Form) (e : Expr) (x : Spelt) → BindsNew s (Dot e x) → BindsNew s e
dot_new s e x w q = elim (w q) [ inl h ↦ inl (omega arith) | inr h ↦ absurd (let v : false ≡ true = h in cc) ]

index_new : (s : List Form) (e x : Expr) → BindsNew s (At e x) → BindsNew s e
index_new s e x w q = elim (w q) [ inl h ↦ inl (omega arith) | inr h ↦ absurd (let v : false ≡ true = h in cc) ]

declare_step : (j : Bool) (s : List Form) → holds_elements s ≡ true → step classes.Function j s controls.List ≡ Some (state controls.DeclaredName (forms.Declaration ∷ s))
declare_step j [] h = refl
declare_step j (forms.Declaration ∷ rest) h = refl
declare_step j (forms.Function p ∷ rest) h = refl
declare_step j (f ∷ rest) h = cc

module _ (toks : List Tok) where
  mutual
    pub taking : (e : Expr) (p : Place) (s : List Form) (i n : ℕ) → Binds p e → BindsNew s e → (level e ≡ 0 → CommaStays s) → Shaped (no_in s) e → Stands toks e i n → Taking toks p s e i n
    taking (Name x) p s i n b w z f h = one_token toks p s i n (Name x) (tokens.Word x) (omega arith) h.0 (λ j. refl) h.1
    taking (Number x) p s i n b w z f h = one_token toks p s i n (Number x) (tokens.Number x) (omega arith) h.0 (λ j. refl) h.1
    taking (Text x) p s i n b w z f h = one_token toks p s i n (Text x) (tokens.Text x) (omega arith) h.0 (λ j. refl) h.1
    taking This p s i n b w z f h = one_token toks p s i n This (tokens.Key keys.This) (omega arith) h.0 (λ j. refl) h.1
    taking ThisWorld p s i n b w z f h = one_token toks p s i n ThisWorld (tokens.Key keys.ThisWorld) (omega arith) h.0 (λ j. refl) h.1
    taking Null p s i n b w z f h = one_token toks p s i n Null (tokens.Key keys.Null) (omega arith) h.0 (λ j. refl) h.1
    taking (Boolean true) p s i n b w z f h = one_token toks p s i n (Boolean true) (tokens.Key keys.True) (omega arith) h.0 (λ j. refl) h.1
    taking (Boolean false) p s i n b w z f h = one_token toks p s i n (Boolean false) (tokens.Key keys.False) (omega arith) h.0 (λ j. refl) h.1
    taking (Paren e) p s i n b w z f h =
        paren toks p s i n e h.0 false h.1 h.3 h.4 f (taking e places.Whole (forms.Paren p ∷ s) (i + 1) h.0 tt (new_free (forms.Paren p ∷ s) e refl) (λ l j. refl) f h.2)
    taking (ArrayLit xs) p s i n b w z f h = by_chain toks p s (ArrayLit xs) i n (omega arith) (λ run.
        on_sign toks i signs.OpenBracket _ (state controls.Item (forms.Array p ∷ s)) h.1 (λ j. refl) (items xs p s (i + 1) h.0 f h.2 h.3 (moved toks _ n (h.0 + 1) h.4 run)))
    taking (ObjectLit xs) p s i n b w z f h = by_chain toks p s (ObjectLit xs) i n (omega arith) (λ run.
        on_sign toks i signs.OpenBrace _ (state controls.KeyOrEnd (forms.Object p ∷ s)) h.1 (λ j. refl) (properties xs p s (i + 1) h.0 f h.2 h.3 (moved toks _ n (h.0 + 1) h.4 run)))
    taking (Function x xs body) p s i n b w z f h = by_chain toks p s (Function x xs body) i n (omega arith) (λ run.
        let inside : Runs toks (h.1 + 2) (state controls.List (forms.Function p ∷ s)) =
        elements body (forms.Function p ∷ s) (h.1 + 2) h.2 refl f.0 h.9 (on_sign toks h.2 signs.CloseBrace _ (state (controls.Have p false) s) h.10 (λ j. refl) (moved toks _ n (h.2 + 1) h.11 run)) in
        on_key toks i keys.Function _ (state controls.NameOrFormals (forms.Function p ∷ s)) h.3 (λ j. refl)
        (name toks x (i + 1) h.0 (forms.Function p ∷ s) h.4
        (head toks xs h.0 h.1 controls.NameOrFormals (forms.Function p ∷ s) (λ j. refl) h.5 h.6 h.7 h.8 inside)
        (head toks xs h.0 h.1 controls.Formals (forms.Function p ∷ s) (λ j. refl) h.5 h.6 h.7 h.8 inside)))
    taking (Dot e x) p s i n b w z f h =
        dot toks p s i n e x h.0 f.0 h.2 h.3 h.4 (taking e p s i h.0 (binds_high p e f.0) (dot_new s e x w) (λ l. absurd (let q = f.0 in omega arith)) f.1 h.1)
    taking (At e x) p s i n b w z f h =
        index toks p s i n e x h.0 h.1 f.0 h.3 h.5 h.6
        (taking e p s i h.0 (binds_high p e f.0) (index_new s e x w) (λ l. absurd (let q = f.0 in omega arith)) f.1 h.2)
        (taking x places.Whole (forms.Index p ∷ s) (h.0 + 1) h.1 tt (new_free (forms.Index p ∷ s) x refl) (λ l j. refl) f.2 h.4)
    taking (Call e xs) p s i n b w z f h =
        let bar = low_new s (Call e xs) (omega arith) refl w in
        call toks p s i n e xs h.0 h.1 bar f.0 h.3 h.6
        (taking e p s i h.0 (binds_high p e f.0) (new_free s e bar) (λ l. absurd (let q = f.0 in omega arith)) f.1 h.2)
        (arguments xs p s (h.0 + 1) h.1 f.2 h.4 h.5)
    taking (NewWith e xs) p s i n b w z f h =
        new_with toks p s i n e xs h.0 h.1 f.0 h.2 h.4 h.7
        (taking e p (forms.New ∷ s) (i + 1) h.0 (binds_high p e (let q = f.0 in omega arith)) (λ q. inl f.0) (λ l. absurd (let q = f.0 in omega arith)) f.1 h.3)
        (arguments xs p s (h.0 + 1) h.1 f.2 h.5 h.6)
    taking (NewBare e) p s i n b w z f h =
        let u = low_place p (NewBare e) (omega arith) b in
        new_bare toks p s i n e u h.0 (taking e p (forms.New ∷ s) (i + 1) n (binds_new p e u (new_level e f.0)) (λ q. f.0) (λ l. absurd (let q = new_level e f.0 in omega arith)) f.1 h.1)
    taking (Postfix e op) p s i n b w z f h =
        let bar = low_new s (Postfix e op) (omega arith) refl w in
        let u = low_place p (Postfix e op) (omega arith) b in
        postfix toks p s i n e op h.0 (no_in s) u bar f.0 f.2 h.2 h.3 h.4 (taking e p s i h.0 (binds_high p e (target_high (no_in s) e f.0 f.2)) (new_free s e bar) (λ l. absurd (let q = f.1 in omega arith)) f.2 h.1)
    taking (Prefix op e) p s i n b w z f h =
        let bar = low_new s (Prefix op e) (omega arith) refl w in
        let u = low_place p (Prefix op e) (omega arith) b in
        prefix toks p s i n op e u bar f.1 h.0 (taking e (prefix_place op) s (i + 1) n (binds_prefix op (no_in s) e f.0 f.1 f.2) (new_free s e bar) (λ l. absurd (let q = f.0 in omega arith)) f.2 h.1)
    taking (Binary x op y) p s i n b w z f h =
        let low = binary_low op in
        let high = binary_high op in
        let bar = low_new s (Binary x op y) (omega arith) refl w in
        let u = low_place p (Binary x op y) (omega arith) b in
        binary toks p s i n x op y h.0 low u bar f.0 h.2
        (taking x p s i h.0 (binds_up p (Binary x op y) x f.1 b) (new_free s x bar) (λ l. absurd (let q = f.1 in omega arith)) f.3 h.1)
        (taking y places.Later s (h.0 + 1) n (let q = f.2 in omega arith) (new_free s y bar) (λ l. absurd (let q = f.2 in omega arith)) f.4 h.3)
    taking (Cond x y t) p s i n b w z f h =
        let bar = low_new s (Cond x y t) (omega arith) refl w in
        let u = low_place p (Cond x y t) (omega arith) b in
        cond toks p s i n x y t h.0 h.1 u bar h.3 h.5
        (taking x p s i h.0 (binds_up p (Cond x y t) x (let q = f.0 in omega arith) b) (new_free s x bar) (λ l. absurd (let q = f.0 in omega arith)) f.3 h.2)
        (taking y places.First (forms.Cond ∷ s) (h.0 + 1) h.1 f.1 (new_free (forms.Cond ∷ s) y refl) (λ l. absurd (let q = f.1 in omega arith)) f.4 h.4)
        (taking t places.First s (h.1 + 1) n f.2 (new_free s t bar) (λ l. absurd (let q = f.2 in omega arith)) f.5 h.6)
    taking (Assign x op y) p s i n b w z f h =
        let bar = low_new s (Assign x op y) (omega arith) refl w in
        assign toks p s i n x op y h.0 (no_in s) (first_assigns p (Assign x op y) (omega arith) b) bar f.0 f.3 h.2
        (taking x p s i h.0 (binds_high p x (target_high (no_in s) x f.0 f.3)) (new_free s x bar) (λ l. absurd (let q = f.1 in omega arith)) f.3 h.1)
        (taking y places.First s (h.0 + 1) n f.2 (new_free s y bar) (λ l. absurd (let q = f.2 in omega arith)) f.4 h.3)
    taking (Comma x y) p s i n b w z f h =
        let bar = low_new s (Comma x y) (omega arith) refl w in
        let u = low_place p (Comma x y) (omega arith) b in
        comma toks p s i n x y h.0 u (z refl) h.2
        (taking x p s i h.0 (binds_up p (Comma x y) x (omega arith) b) (new_free s x bar) (λ l. z refl) f.1 h.1)
        (taking y places.First s (h.0 + 1) n f.0 (new_free s y bar) (λ l. absurd (let q = f.0 in omega arith)) f.2 h.3)

    -- arguments behind a first one: what stands there may follow an argument, and leads on from it
    more_arguments : (xs : Arguments) (p : Place) (s : List Form) (i n : ℕ) → ArgumentsShaped xs → MoreArgumentsStand toks xs i n → HasSign toks n signs.CloseParen → Runs toks (n + 1) (state (controls.Have p false) s)
        → ((e : Expr) → Follows (class_here toks i) places.First (forms.Arguments p ∷ s) e) × Runs toks i (state controls.Behind (forms.Arguments p ∷ s))
    more_arguments NoArgument p s i n f h c run =
        let here : HasSign toks i signs.CloseParen = subst (λ (z : ℕ). HasSign toks z signs.CloseParen) h c in (
          λ e. follows_token toks i (tokens.Sign signs.CloseParen) places.First (forms.Arguments p ∷ s) e here tt,
          on_sign toks i signs.CloseParen _ (state (controls.Have p false) s) here (λ j. refl) (moved toks _ (n + 1) (i + 1) (ap (λ (z : ℕ). z + 1) h) run),
        )
    more_arguments (Argument e rest) p s i n f h c run =
        let later = more_arguments rest p s h.0 n f.2 h.3 c run in
        let x = taking e places.First (forms.Arguments p ∷ s) (i + 1) h.0 f.0 (new_free (forms.Arguments p ∷ s) e refl) (λ l j. refl) f.1 h.2 in (
          λ e'. follows_token toks i (tokens.Sign signs.Comma) places.First (forms.Arguments p ∷ s) e' h.1 tt,
          on_sign toks i signs.Comma _ (state (controls.Want places.First) (forms.Arguments p ∷ s)) h.1 (λ j. refl) (x.other (places_low places.First (forms.Arguments p ∷ s) e refl) (later.0 e) later.1),
        )

    arguments : (xs : Arguments) (p : Place) (s : List Form) (i n : ℕ) → ArgumentsShaped xs → ArgumentsStand toks xs i n → HasSign toks n signs.CloseParen → Runs toks (n + 1) (state (controls.Have p false) s)
        → Runs toks i (state controls.ArgumentOrEnd (forms.Arguments p ∷ s))
    arguments NoArgument p s i n f h c run = moved toks _ n i h (on_sign toks n signs.CloseParen _ (state (controls.Have p false) s) c (λ j. refl) run)
    arguments (Argument e rest) p s i n f h c run =
        let later = more_arguments rest p s h.0 n f.2 h.2 c run in
        let x = taking e places.First (forms.Arguments p ∷ s) i h.0 f.0 (new_free (forms.Arguments p ∷ s) e refl) (λ l j. refl) f.1 h.1 in
        argument_runs toks i p s (x.other (places_low places.First (forms.Arguments p ∷ s) e refl) (later.0 e) later.1)

    items : (xs : Items) (p : Place) (s : List Form) (i n : ℕ) → ItemsShaped xs → ItemsStand toks xs i n → HasSign toks n signs.CloseBracket → Runs toks (n + 1) (state (controls.Have p false) s) → Runs toks i (state controls.Item (forms.Array p ∷ s))
    items NoItem p s i n f h c run = moved toks _ n i h (on_sign toks n signs.CloseBracket _ (state (controls.Have p false) s) c (λ j. refl) run)
    items (Hole rest) p s i n f h c run = on_sign toks i signs.Comma _ (state controls.Item (forms.Array p ∷ s)) h.0 (λ j. refl) (items rest p s (i + 1) n f h.1 c run)
    items (Item e rest) p s i n f h c run =
        let x = taking e places.First (forms.Array p ∷ s) i h.0 f.0 (new_free (forms.Array p ∷ s) e refl) (λ l. absurd (let q = f.0 in omega arith)) f.1 h.1 in
        item_runs toks i p s (x.other (places_low places.First (forms.Array p ∷ s) e refl) (follows_token toks h.0 (tokens.Sign signs.Comma) places.First (forms.Array p ∷ s) e h.2 tt)
        (on_sign toks h.0 signs.Comma _ (state controls.Item (forms.Array p ∷ s)) h.2 (λ j. refl) (items rest p s (h.0 + 1) n f.2 h.3 c run)))
    items (LastItem e) p s i n f h c run =
        let x = taking e places.First (forms.Array p ∷ s) i n f.0 (new_free (forms.Array p ∷ s) e refl) (λ l. absurd (let q = f.0 in omega arith)) f.1 h in
        item_runs toks i p s (x.other (places_low places.First (forms.Array p ∷ s) e refl) (follows_token toks n (tokens.Sign signs.CloseBracket) places.First (forms.Array p ∷ s) e c tt)
        (on_sign toks n signs.CloseBracket _ (state (controls.Have p false) s) c (λ j. refl) run))

    properties : (xs : Properties) (p : Place) (s : List Form) (i n : ℕ) → PropertiesShaped xs → PropertiesStand toks xs i n → HasSign toks n signs.CloseBrace → Runs toks (n + 1) (state (controls.Have p false) s)
        → Runs toks i (state controls.KeyOrEnd (forms.Object p ∷ s))
    properties NoProperty p s i n f h c run = moved toks _ n i h (on_sign toks n signs.CloseBrace _ (state (controls.Have p false) s) c (λ j. refl) run)
    properties (Property key e rest) p s i n f h c run =
        let x = taking e places.First (forms.Object p ∷ s) (i + 2) h.0 f.0 (new_free (forms.Object p ∷ s) e refl) (λ l. absurd (let q = f.0 in omega arith)) f.1 h.3 in
        property toks key p s i h.1 h.2 (x.other (places_low places.First (forms.Object p ∷ s) e refl) (follows_token toks h.0 (tokens.Sign signs.Comma) places.First (forms.Object p ∷ s) e h.4 tt)
        (on_sign toks h.0 signs.Comma _ (state controls.KeyOrEnd (forms.Object p ∷ s)) h.4 (λ j. refl) (properties rest p s (h.0 + 1) n f.2 h.5 c run)))
    properties (LastProperty key e) p s i n f h c run =
        let x = taking e places.First (forms.Object p ∷ s) (i + 2) n f.0 (new_free (forms.Object p ∷ s) e refl) (λ l. absurd (let q = f.0 in omega arith)) f.1 h.2 in
        property toks key p s i h.0 h.1 (x.other (places_low places.First (forms.Object p ∷ s) e refl) (follows_token toks n (tokens.Sign signs.CloseBrace) places.First (forms.Object p ∷ s) e c tt)
        (on_sign toks n signs.CloseBrace _ (state (controls.Have p false) s) c (λ j. refl) run))

    -- `=` and a value, or nothing
    initialiser : (t : Optional) (f : Form) (s : List Form) (b : Bool) (i n : ℕ) → HoldsVariables f s b → InitialiserShaped b t → InitialiserStands toks t i n → Closing toks n f s (part_ending t) → Runs toks i (state controls.Named (f ∷ s))
    initialiser Absent f s b i n v g h run = moved toks _ n i h run
    initialiser (Present e) f s b i n v g h run =
        let x = taking e places.First (f ∷ s) (i + 1) n g.0 (new_free (f ∷ s) e v.free) (λ l. absurd (let q = g.0 in omega arith)) (subst (λ (z : Bool). Shaped z e) (sym v.bars) g.1) h.1 in
        on_sign toks i signs.Assign _ (state (controls.Want places.First) (f ∷ s)) h.0 (λ j. refl) (x.other (places_low places.First (f ∷ s) e refl) (suffix_follows (class_here toks n) s f e run.0) run.1)

    -- variables behind a first one, which ends so
    more_variables : (vs : Variables) (f : Form) (s : List Form) (b : Bool) (i n : ℕ) → HoldsVariables f s b → VariablesShaped b vs → MoreVariablesStand toks vs i n → (prior : Ending) → Closing toks n f s (final prior vs) → Closing toks i f s prior
    more_variables NoVariable f s b i n v g h prior run = subst (λ (z : ℕ). Closing toks z f s prior) h run
    more_variables (Variable x e rest) f s b i n v g h prior run =
        let later = more_variables rest f s b h.0 n v g.1 h.4 (part_ending e) run in
        comma_closing toks f s b i x v h.1 h.2 (initialiser e f s b (i + 2) h.0 v g.0 h.3 later) prior

    -- the first name, and what is behind it
    variables : (vs : Variables) (f : Form) (s : List Form) (b : Bool) (i n : ℕ) → HoldsVariables f s b → AreSome vs → VariablesShaped b vs → VariablesStand toks vs i n → Closing toks n f s (last_ending vs)
        → (x : TextId) × HasToken toks i (tokens.Word x) × Runs toks (i + 1) (state controls.Named (f ∷ s))
    variables NoVariable f s b i n v some g h run = absurd some
    variables (Variable x e rest) f s b i n v some g h run =
        let later = more_variables rest f s b h.0 n v g.1 h.3 (part_ending e) (subst (Closing toks n f s) (last_is x e rest) run) in
        (x, h.1, initialiser e f s b (i + 1) h.0 v g.0 h.2 later)

    -- what stands first in the header of a `for`
    init : (t : Init) (s : List Form) (i n : ℕ) → InitShaped t → InitStands toks t i n → HasSign toks n signs.Semicolon → Runs toks (n + 1) (state controls.Test (forms.ForTest ∷ s)) → Runs toks i (state controls.Init s)
    init NoInit s i n f h c run = moved toks _ n i h (on_sign toks n signs.Semicolon _ (state controls.Test (forms.ForTest ∷ s)) c (λ j. refl) run)
    init (InitExpr e) s i n f h c run = init_runs toks i s
        (closed_by toks i n signs.Semicolon e (forms.ForInit ∷ s) (state controls.Test (forms.ForTest ∷ s)) c tt (λ j. refl)
        (taking e places.Whole (forms.ForInit ∷ s) i n tt (new_free (forms.ForInit ∷ s) e refl) (λ l j. refl) f h) run)
    init (InitVar vs) s i n f h c run =
        let later = variables vs forms.ForVar s true (i + 1) n (header_holds s) f.0 f.1 h.1 (header_closing toks n s (last_ending vs) c run) in
        on_key toks i keys.Var _ (state controls.ForName (forms.ForVar ∷ s)) h.0 (λ j. refl)
        (on_word toks (i + 1) later.0 _ (state controls.ForNamed (forms.ForVar ∷ s)) later.1 (λ j. refl) (for_named_runs toks (i + 1 + 1) s later.2))

    test : (t : Optional) (s : List Form) (i n : ℕ) → OptionalShaped t → OptionalStands toks t i n → HasSign toks n signs.Semicolon → Runs toks (n + 1) (state controls.Update (forms.Header ∷ s)) → Runs toks i (state controls.Test (forms.ForTest ∷ s))
    test Absent s i n f h c run = moved toks _ n i h (on_sign toks n signs.Semicolon _ (state controls.Update (forms.Header ∷ s)) c (λ j. refl) run)
    test (Present e) s i n f h c run = test_runs toks i s
        (closed_by toks i n signs.Semicolon e (forms.ForTest ∷ s) (state controls.Update (forms.Header ∷ s)) c tt (λ j. refl)
        (taking e places.Whole (forms.ForTest ∷ s) i n tt (new_free (forms.ForTest ∷ s) e refl) (λ l j. refl) f h) run)

    update : (t : Optional) (s : List Form) (i n : ℕ) → OptionalShaped t → OptionalStands toks t i n → HasSign toks n signs.CloseParen → Runs toks (n + 1) (state controls.Body s) → Runs toks i (state controls.Update (forms.Header ∷ s))
    update Absent s i n f h c run = moved toks _ n i h (on_sign toks n signs.CloseParen _ (state controls.Body s) c (λ j. refl) run)
    update (Present e) s i n f h c run = update_runs toks i s
        (closed_by toks i n signs.CloseParen e (forms.Header ∷ s) (state controls.Body s) c tt (λ j. refl)
        (taking e places.Whole (forms.Header ∷ s) i n tt (new_free (forms.Header ∷ s) e refl) (λ l j. refl) f h) run)

    -- a statement: no `else` stands behind an open `if`
    pub stmt : (t : Stmt) (s : List Form) (i n : ℕ) → StmtShaped t → StmtStands toks t i n → (is_open_if t ≡ true → class_here toks n ≡ classes.Else → ⊥) → Runs toks n (state controls.Done s) → Runs toks i (state controls.Body s)
    stmt (Block body) s i n f h c run = on_sign toks i signs.OpenBrace _ (state controls.List (forms.Block ∷ s)) h.1 (λ j. refl)
        (stmts body (forms.Block ∷ s) (i + 1) h.0 refl f h.2 (on_sign toks h.0 signs.CloseBrace _ (state controls.Done s) h.3 (λ j. refl) (moved toks _ n (h.0 + 1) h.4 run)))
    stmt (Var vs end) s i n f h c run =
        let later = variables vs forms.Var s false (i + 1) h.0 (statement_holds s) f.0 f.1 h.2 (statement_closing toks (last_ending vs) end h.0 n s h.3 run) in
        on_key toks i keys.Var _ (state controls.Name (forms.Var ∷ s)) h.1 (λ j. refl) (on_word toks (i + 1) later.0 _ (state controls.Named (forms.Var ∷ s)) later.1 (λ j. refl) later.2)
    stmt Empty s i n f h c run = on_sign toks i signs.Semicolon _ (state controls.Done s) h.0 (λ j. refl) (moved toks _ n (i + 1) h.1 run)
    stmt (ExprStmt e end) s i n f h c run =
        expression toks e end i h.0 n s f.0 h.1 h.2 (taking e places.Whole (forms.Value ∷ s) i h.0 tt (new_free (forms.Value ∷ s) e refl) (λ l j. refl) f.1 h.1) run
    stmt (If e t) s i n f h c run =
        guarded toks keys.If forms.If e i h.0 s (state controls.Body s) (state controls.Body (forms.Then ∷ s)) (λ j. refl) (λ j. refl) tt h.1 h.2 h.4
        (taking e places.Whole (forms.If ∷ s) (i + 2) h.0 tt (new_free (forms.If ∷ s) e refl) (λ l j. refl) f.0 h.3)
        (stmt t (forms.Then ∷ s) (h.0 + 1) n f.1 h.5 (λ q. c refl) (then_runs toks n s (c refl) run))
    stmt (IfElse e t u) s i n f h c run =
        guarded toks keys.If forms.If e i h.0 s (state controls.Body s) (state controls.Body (forms.Then ∷ s)) (λ j. refl) (λ j. refl) tt h.2 h.3 h.5
        (taking e places.Whole (forms.If ∷ s) (i + 2) h.0 tt (new_free (forms.If ∷ s) e refl) (λ l j. refl) f.0 h.4)
        (stmt t (forms.Then ∷ s) (h.0 + 1) h.1 f.2 h.6 (λ q. absurd (let w : true ≡ false = sym q ∙ f.1 in cc))
        (on_key toks h.1 keys.Else _ (state controls.Body s) h.7 (λ j. refl) (stmt u s (h.1 + 1) n f.3 h.8 c run)))
    stmt (DoWhile t e end) s i n f h c run = on_key toks i keys.Do _ (state controls.Body (forms.Do ∷ s)) h.2 (λ j. refl)
        (stmt t (forms.Do ∷ s) (i + 1) h.0 f.0 h.3 (λ q. not_else toks h.0 keys.While h.4 (λ z. cc))
        (guarded toks keys.While forms.DoWhile e h.0 h.1 s (state controls.Done (forms.Do ∷ s)) (state controls.Complete s) (λ j. refl) (λ j. refl) tt h.4 h.5 h.7
        (taking e places.Whole (forms.DoWhile ∷ s) (h.0 + 2) h.1 tt (new_free (forms.DoWhile ∷ s) e refl) (λ l j. refl) f.1 h.6)
        (complete_runs toks Complete end (h.1 + 1) n s h.8 run)))
    stmt (While e t) s i n f h c run =
        guarded toks keys.While forms.Header e i h.0 s (state controls.Body s) (state controls.Body s) (λ j. refl) (λ j. refl) tt h.1 h.2 h.4
        (taking e places.Whole (forms.Header ∷ s) (i + 2) h.0 tt (new_free (forms.Header ∷ s) e refl) (λ l j. refl) f.0 h.3)
        (stmt t s (h.0 + 1) n f.1 h.5 c run)
    stmt (For t e u b) s i n f h c run = for_head toks i s h.3 h.4
        (init t s (i + 2) h.0 f.0 h.5 h.6 (test e s (h.0 + 1) h.1 f.1 h.7 h.8 (update u s (h.1 + 1) h.2 f.2 h.9 h.10 (stmt b s (h.2 + 1) n f.3 h.11 c run))))
    stmt (ForIn t e b) s i n f h c run = for_head toks i s h.2 h.3
        (each toks t e s (i + 2) h.0 h.1 f.0 f.2 h.5 h.7
        (taking t places.Whole (forms.ForInit ∷ s) (i + 2) h.0 tt (new_free (forms.ForInit ∷ s) t refl) (λ l j. refl) (free_in false true t f.1 f.2) h.4)
        (taking e places.Whole (forms.Header ∷ s) (h.0 + 1) h.1 tt (new_free (forms.Header ∷ s) e refl) (λ l j. refl) f.3 h.6)
        (stmt b s (h.1 + 1) n f.4 h.8 c run))
    stmt (ForVarIn x e b) s i n f h c run = for_head toks i s h.1 h.2
        (each_var toks x e s i h.0 h.3 h.4 h.5 h.7 (taking e places.Whole (forms.Header ∷ s) (i + 5) h.0 tt (new_free (forms.Header ∷ s) e refl) (λ l j. refl) f.0 h.6) (stmt b s (h.0 + 1) n f.1 h.8 c run))
    stmt (Continue x end) s i n f h c run = jump toks keys.Continue x end i h.0 n s (λ j. refl) h.1 h.2 h.3 run
    stmt (Break x end) s i n f h c run = jump toks keys.Break x end i h.0 n s (λ j. refl) h.1 h.2 h.3 run
    stmt (Return Absent end) s i n f h c run = bare_return toks end i n s h.0 h.1 run
    stmt (Return (Present e) end) s i n f h c run =
        return toks e end i h.0 n s h.1 h.2 h.4 (taking e places.Whole (forms.Value ∷ s) (i + 1) h.0 tt (new_free (forms.Value ∷ s) e refl) (λ l j. refl) f h.3) run
    stmt (Throw e end) s i n f h c run =
        throw toks e end i h.0 n s h.1 h.2 h.4 (taking e places.Whole (forms.Value ∷ s) (i + 1) h.0 tt (new_free (forms.Value ∷ s) e refl) (λ l j. refl) f h.3) run
    stmt (Label x t) s i n f h c run =
        on_word toks i x _ (state controls.NameOrLabel (forms.Value ∷ s)) h.0 (λ j. refl)
        (on_sign toks (i + 1) signs.Colon _ (state controls.Body s) h.1 (λ j. refl) (moved toks _ (i + 2) (i + 1 + 1) (omega arith) (stmt t s (i + 2) n f h.2 c run)))
    stmt (Switch e cs) s i n f h c run =
        guarded toks keys.Switch forms.Switch e i h.0 s (state controls.Body s) (state controls.SwitchBrace (forms.Clauses ∷ s)) (λ j. refl) (λ j. refl) tt h.2 h.3 h.5
        (taking e places.Whole (forms.Switch ∷ s) (i + 2) h.0 tt (new_free (forms.Switch ∷ s) e refl) (λ l j. refl) f.0 h.4)
        (on_sign toks (h.0 + 1) signs.OpenBrace _ (state controls.ClauseOrEnd (forms.Clauses ∷ s)) h.6 (λ j. refl)
        (moved toks _ (h.0 + 2) (h.0 + 1 + 1) (omega arith) (clauses cs true s (h.0 + 2) h.1 f.1 h.7 h.8 (moved toks _ n (h.1 + 1) h.9 run))))
    stmt (TryCatch b x u) s i n f h c run = try_head toks i s h.2 h.3
        (stmts b (forms.TryBlock ∷ s) (i + 2) h.0 refl f.0 h.4 (on_sign toks h.0 signs.CloseBrace _ (state controls.CatchOrFinally s) h.5 (λ j. refl)
        (catch_head toks x (h.0 + 1) s h.6 (place_sign toks (h.0 + 2) (h.0 + 1 + 1) signs.OpenParen (omega arith) h.7) (place_word toks (h.0 + 3) (h.0 + 1 + 2) x (omega arith) h.8)
        (place_sign toks (h.0 + 4) (h.0 + 1 + 3) signs.CloseParen (omega arith) h.9) (place_sign toks (h.0 + 5) (h.0 + 1 + 4) signs.OpenBrace (omega arith) h.10)
        (moved toks _ (h.0 + 6) (h.0 + 1 + 5) (omega arith) (stmts u (forms.CatchBlock ∷ s) (h.0 + 6) h.1 refl f.1 h.11
        (on_sign toks h.1 signs.CloseBrace _ (state controls.FinallyOrDone s) h.12 (λ j. refl) (finally_runs toks (h.1 + 1) s (moved toks _ n (h.1 + 1) h.13 run))))))))
    stmt (TryFinally b u) s i n f h c run = try_head toks i s h.2 h.3
        (stmts b (forms.TryBlock ∷ s) (i + 2) h.0 refl f.0 h.4 (on_sign toks h.0 signs.CloseBrace _ (state controls.CatchOrFinally s) h.5 (λ j. refl)
        (finally_head toks (h.0 + 1) controls.CatchOrFinally s (λ j. refl) h.6 (place_sign toks (h.0 + 2) (h.0 + 1 + 1) signs.OpenBrace (omega arith) h.7)
        (moved toks _ (h.0 + 3) (h.0 + 1 + 2) (omega arith) (stmts u (forms.Block ∷ s) (h.0 + 3) h.1 refl f.1 h.8
        (on_sign toks h.1 signs.CloseBrace _ (state controls.Done s) h.9 (λ j. refl) (moved toks _ n (h.1 + 1) h.10 run)))))))
    stmt (TryBoth b x u v) s i n f h c run = try_head toks i s h.3 h.4
        (stmts b (forms.TryBlock ∷ s) (i + 2) h.0 refl f.0 h.5 (on_sign toks h.0 signs.CloseBrace _ (state controls.CatchOrFinally s) h.6 (λ j. refl)
        (catch_head toks x (h.0 + 1) s h.7 (place_sign toks (h.0 + 2) (h.0 + 1 + 1) signs.OpenParen (omega arith) h.8) (place_word toks (h.0 + 3) (h.0 + 1 + 2) x (omega arith) h.9)
        (place_sign toks (h.0 + 4) (h.0 + 1 + 3) signs.CloseParen (omega arith) h.10) (place_sign toks (h.0 + 5) (h.0 + 1 + 4) signs.OpenBrace (omega arith) h.11)
        (moved toks _ (h.0 + 6) (h.0 + 1 + 5) (omega arith) (stmts u (forms.CatchBlock ∷ s) (h.0 + 6) h.1 refl f.1 h.12
        (on_sign toks h.1 signs.CloseBrace _ (state controls.FinallyOrDone s) h.13 (λ j. refl)
        (finally_head toks (h.1 + 1) controls.FinallyOrDone s (λ j. refl) h.14 (place_sign toks (h.1 + 2) (h.1 + 1 + 1) signs.OpenBrace (omega arith) h.15)
        (moved toks _ (h.1 + 3) (h.1 + 1 + 2) (omega arith) (stmts v (forms.Block ∷ s) (h.1 + 3) h.2 refl f.2 h.16
        (on_sign toks h.2 signs.CloseBrace _ (state controls.Done s) h.17 (λ j. refl) (moved toks _ n (h.2 + 1) h.18 run)))))))))))
    stmt (Within e b) s i n f h c run = on_key toks i keys.In _ (state (controls.Want places.Whole) (forms.Within ∷ s)) h.2 (λ j. refl)
        (closed_by toks (i + 1) h.0 signs.OpenBrace e (forms.Within ∷ s) (state controls.List (forms.Block ∷ s)) h.4 tt (λ j. refl)
        (taking e places.Whole (forms.Within ∷ s) (i + 1) h.0 tt (new_free (forms.Within ∷ s) e refl) (λ l j. refl) f.0 h.3)
        (stmts b (forms.Block ∷ s) (h.0 + 1) h.1 refl f.1 h.5 (on_sign toks h.1 signs.CloseBrace _ (state controls.Done s) h.6 (λ j. refl) (moved toks _ n (h.1 + 1) h.7 run))))

    stmts : (t : Stmts) (s : List Form) (i n : ℕ) → holds_list s ≡ true → StmtsShaped t → StmtsStand toks t i n → Runs toks n (state controls.List s) → Runs toks i (state controls.List s)
    stmts NoStmt s i n l f h run = moved toks _ n i h run
    stmts (MoreStmts t rest) s i n l f h run =
        let later = stmts rest s h.0 n l f.1 h.2 run in
        body_runs toks i s (stmt t s i h.0 f.0 h.1 (λ q. list_else toks h.0 s later) (list_runs toks h.0 s l later))

    -- clauses, behind the brace or behind others
    clauses : (t : Clauses) (first : Bool) (s : List Form) (i n : ℕ) → ClausesShaped t → ClausesStand toks t i n → HasSign toks n signs.CloseBrace → Runs toks (n + 1) (state controls.Done s) → Runs toks i (state (clause_control first) (forms.Clauses ∷ s))
    clauses NoClause first s i n f h c run = moved toks _ n i h (on_sign toks n signs.CloseBrace _ (state controls.Done s) c (λ j. clause_end first j s) run)
    clauses (Case e body rest) first s i n f h c run =
        on_key toks i keys.Case _ (state (controls.Want places.Whole) (forms.CaseHead ∷ forms.Clauses ∷ s)) h.2 (λ j. clause_case first j s)
        (closed_by toks (i + 1) h.0 signs.Colon e (forms.CaseHead ∷ forms.Clauses ∷ s) (state controls.List (forms.Clauses ∷ s)) h.4 tt (λ j. refl)
        (taking e places.Whole (forms.CaseHead ∷ forms.Clauses ∷ s) (i + 1) h.0 tt (new_free (forms.CaseHead ∷ forms.Clauses ∷ s) e refl) (λ l j. refl) f.0 h.3)
        (stmts body (forms.Clauses ∷ s) (h.0 + 1) h.1 refl f.1 h.5 (clauses rest false s h.1 n f.2 h.6 c run)))
    clauses (Default body rest) first s i n f h c run =
        on_key toks i keys.Default _ (state controls.DefaultColon (forms.Clauses ∷ s)) h.1 (λ j. clause_default first j s)
        (on_sign toks (i + 1) signs.Colon _ (state controls.List (forms.Clauses ∷ s)) h.2 (λ j. refl)
        (moved toks _ (i + 2) (i + 1 + 1) (omega arith) (stmts body (forms.Clauses ∷ s) (i + 2) h.0 refl f.0 h.3 (clauses rest false s h.0 n f.1 h.4 c run))))

    pub elements : (t : Elements) (s : List Form) (i n : ℕ) → holds_elements s ≡ true → ElementsShaped t → ElementsStand toks t i n → Runs toks n (state controls.List s) → Runs toks i (state controls.List s)
    elements NoElement s i n l f h run = moved toks _ n i h run
    elements (Statement t rest) s i n l f h run =
        let later = elements rest s h.0 n l f.1 h.2 run in
        body_runs toks i s (stmt t s i h.0 f.0 h.1 (λ q. list_else toks h.0 s later) (list_runs toks h.0 s (elements_list s l) later))
    elements (FunctionDecl x xs body rest) s i n l f h run =
        on_key toks i keys.Function _ (state controls.DeclaredName (forms.Declaration ∷ s)) h.2 (λ j. declare_step j s l)
        (on_word toks (i + 1) x _ (state controls.Formals (forms.Declaration ∷ s)) h.3 (λ j. refl)
        (moved toks _ (i + 2) (i + 1 + 1) (omega arith)
        (head toks xs (i + 2) h.0 controls.Formals (forms.Declaration ∷ s) (λ j. refl) h.4 (place_formals toks xs (i + 3) (i + 2 + 1) h.0 (omega arith) h.5) h.6 h.7
        (elements body (forms.Declaration ∷ s) (h.0 + 2) h.1 refl f.0 h.8 (on_sign toks h.1 signs.CloseBrace _ (state controls.List s) h.9 (λ j. refl) (elements rest s (h.1 + 1) n l f.2 h.10 run))))))
