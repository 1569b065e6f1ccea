-- The names that none of others is.
use Rattle.std.specs.Prelude.{◌≡◌, ℕ, ◌+◌, ◌<◌, Bool, true, false, not, if◌then◌else◌, List, [], ◌∷◌, ◌++◌, All, cond, length, take, nat_eq, Option, None, Some}
use Rattle.std.specs.List.{list_any}
use Rattle.std.proofs.Common.{refl, sym, ap, ◌∙◌, ◌||◌, get_or, append-nil}
use Rattle.std.proofs.lemmas.Bool.{eqb-true, ne_eqb}
use Rattle.std.proofs.lemmas.List.{take_more}
use Rattle.std.proofs.lemmas.List.Elements.{All-head, All-tail, filter-append}
use Rattle.std.proofs.lemmas.List.Folds.{list_any-append}
use Rattle.wjs_base.specs.declared.ids.TextId.{TextId}
use Rattle.wjs_tree.specs.declared.node.Node.{Node}
use Rattle.wjs_scope.specs.Declarations.{with_name, with_names, formals_of, elements_of}
use Rattle.wjs_scope.specs.Scopes.{Scope, is_in, none_of, some_name, function_names, function_scope}
use Rattle.wjs_scope.specs.Bodies.{others_in}

-- ---- names that are put last, unless they are there

settled : (b c : Bool) → (c ≡ true → b ≡ true) → b ≡ (b || (c || false))
settled true c h = refl
settled false true h = h refl
settled false false h = refl

or_pair : (a b c : Bool) → ((a || (b || false)) || c) ≡ (a || (b || c))
or_pair true b c = refl
or_pair false true c = refl
or_pair false false c = refl

by_test : (b : Bool) (xs : Scope) (x y : TextId) → is_in xs x ≡ b → is_in (if b then xs else xs ++ x ∷ []) y ≡ (is_in xs y || is_in (x ∷ []) y)
by_test true xs x y e = settled (is_in xs y) (nat_eq y.0 x.0) (λ same. ap (λ (k : ℕ). list_any (λ (z : TextId). nat_eq k z.0) xs) (eqb-true y.0 x.0 same) ∙ e)
by_test false xs x y e = list_any-append (λ (z : TextId). nat_eq y.0 z.0) xs (x ∷ [])

pub in_with_name : (xs : Scope) (x y : TextId) → is_in (with_name xs x) y ≡ (is_in xs y || is_in (x ∷ []) y)
in_with_name xs x y = by_test (is_in xs x) xs x y refl

in_both : (xs ys : Scope) (y : TextId) → is_in (xs ++ ys) y ≡ (is_in xs y || is_in ys y)
in_both xs ys y = list_any-append (λ (z : TextId). nat_eq y.0 z.0) xs ys

or_none : (b : Bool) → b ≡ (b || false)
or_none true = refl
or_none false = refl

in_with_names : (ys xs : Scope) (y : TextId) → is_in (with_names xs ys) y ≡ (is_in xs y || is_in ys y)
in_with_names [] xs y = or_none (is_in xs y)
in_with_names (x ∷ ys) xs y = in_with_names ys (with_name xs x) y ∙ ap (λ b. b || is_in ys y) (in_with_name xs x y) ∙ or_pair (is_in xs y) (nat_eq y.0 x.0) (is_in ys y)

or_three : (a b c : Bool) → ((a || b) || c) ≡ (a || (b || c))
or_three true b c = refl
or_three false b c = refl

-- a name is in a function's scope but for its variables where it is one of these
in_first : (arguments : Option TextId) (formals functions : List TextId) (y : TextId) → is_in (function_scope arguments formals functions []) y ≡ is_in (some_name arguments ++ (formals ++ functions)) y
in_first arguments formals functions y =
    let first = some_name arguments in
    in_with_names functions (with_names first formals) y ∙ ap (λ b. b || is_in functions y) (in_with_names formals first y) ∙ or_three (is_in first y) (is_in formals y) (is_in functions y)
    ∙ sym (in_both first (formals ++ functions) y ∙ ap (λ b. is_in first y || b) (in_both formals functions y))

-- ---- those that none of others is

-- they are the same where the tests of each are
none_alike : (others more names : List TextId) → All (λ (x : TextId). is_in others x ≡ is_in more x) names → none_of others names ≡ none_of more names
none_alike others more [] h = refl
none_alike others more (x ∷ names) h =
    ap (λ b. cond (not b) (x ∷ none_of others names) (none_of others names)) (All-head (λ (x : TextId). is_in others x ≡ is_in more x) x names h)
    ∙ ap (λ l. cond (not (is_in more x)) (x ∷ l) l) (none_alike others more names (All-tail (λ (x : TextId). is_in others x ≡ is_in more x) x names h))

pub none_first : (arguments : Option TextId) (formals functions names : List TextId) → none_of (function_scope arguments formals functions []) names ≡ none_of (some_name arguments ++ (formals ++ functions)) names
none_first arguments formals functions names = none_alike _ _ names (λ k d lt. in_first arguments formals functions (get_or names k d))

-- a name more is looked at
pub put : (others names : List TextId) (k : ℕ) (d : TextId) (old new : List TextId) (b : Bool) → k < length names → b ≡ not (is_in others (get_or names k d)) → b ≡ true → new ≡ old ++ get_or names k d ∷ [] → old ≡ none_of others (take k names) → new ≡ none_of others (take (k + 1) names)
put others names k d old new b lt e t n h =
    let x = get_or names k d in
    n ∙ ap (λ l. l ++ x ∷ []) h ∙ ap (λ c. none_of others (take k names) ++ cond c (x ∷ []) []) (sym t ∙ e)
    ∙ sym (ap (none_of others) (take_more names k d lt) ∙ filter-append (λ (y : TextId). not (is_in others y)) (take k names) (x ∷ []))

pub left_out : (others names : List TextId) (k : ℕ) (d : TextId) (old new : List TextId) (b : Bool) → k < length names → b ≡ not (is_in others (get_or names k d)) → b ≡ false → new ≡ old → old ≡ none_of others (take k names) → new ≡ none_of others (take (k + 1) names)
left_out others names k d old new b lt e t n h =
    let x = get_or names k d in
    n ∙ h ∙ sym (append-nil (none_of others (take k names))) ∙ ap (λ c. none_of others (take k names) ++ cond c (x ∷ []) []) (sym t ∙ e)
    ∙ sym (ap (none_of others) (take_more names k d lt) ∙ filter-append (λ (y : TextId). not (is_in others y)) (take k names) (x ∷ []))

-- ---- a number for `arguments` that none of the names has

pub others_come : (ns : List Node) (id : TextId) (node : Node) (names : List TextId) → All (λ (x : TextId). x.0 ≡ id.0 → ⊥) names → others_in ns None node names ≡ others_in ns (Some id) node names
others_come ns id node names h =
    let more = formals_of node ++ function_names ns (elements_of node) in
    none_alike more (id ∷ more) names (λ k d lt. ap (λ b. b || is_in more (get_or names k d)) (sym (ne_eqb (get_or names k d).0 id.0 (h k d lt))))
