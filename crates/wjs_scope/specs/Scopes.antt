-- Where a name is found (ECMA-262, 3rd edition, section 10.1.4): outwards through the scopes around it.
use Rattle.std.specs.Prelude.{ℕ, suc, Bool, not, if◌then◌else◌, List, [], ◌∷◌, ◌++◌, filter, nat_eq, Option, Some, None, slice_get}
use Rattle.std.specs.List.{list_any}
use Rattle.wjs_base.specs.declared.ids.TextId.{TextId}
use Rattle.wjs_base.specs.declared.ids.NodeId.{NodeId}
use Rattle.wjs_tree.specs.declared.node.Node.{Node}
use Rattle.wjs_tree.specs.declared.node.Node.TheVariants as nodes
use Rattle.wjs_tree.specs.Trees.{Elements}
use Rattle.wjs_scope.specs.declared.place.Place.{Place}
use Rattle.wjs_scope.specs.declared.place.Place.TheVariants.{Local, Global}
use Rattle.wjs_scope.specs.Declarations.{variables, with_names, formals_of, elements_of}

-- a scope, by its names
abbrev pub Scope : Type 0
Scope = List TextId

abbrev pub is_in : Scope → TextId → Bool
is_in names x = list_any (λ (y : TextId). nat_eq x.0 y.0) names

-- those of the names that none of the others is
abbrev pub none_of : List TextId → List TextId → List TextId
none_of others names = filter (λ (x : TextId). not (is_in others x)) names

-- the place of a name among scopes, the nearest first, some having been passed
abbrev pub place_past : ℕ → List Scope → TextId → Place
place_past hops [] x = Global
place_past hops (names ∷ outer) x = if is_in names x then Local hops else place_past (suc hops) outer x

-- the place of a name among scopes, the nearest first: how many are passed on the way to the first that has it, or the global object
abbrev pub resolve : List Scope → TextId → Place
resolve scopes x = place_past 0 scopes x

abbrev pub some_name : Option TextId → List TextId
some_name None = []
some_name (Some x) = x ∷ []

abbrev pub declared_name : Option Node → List TextId
declared_name (Some (nodes.FunctionDecl x formals list)) = x ∷ []
declared_name _ = []

-- the names of the functions that are declared among elements (section 13)
abbrev pub function_names : List Node → List NodeId → List TextId
function_names ns [] = []
function_names ns (i ∷ more) = declared_name (slice_get ns i.0) ++ function_names ns more

-- the scope of a function (sections 10.1.3 and 10.1.8): `arguments`, the formals, the functions and the variables, each once
abbrev pub function_scope : Option TextId → List TextId → List TextId → List TextId → Scope
function_scope arguments formals functions vars = with_names (with_names (with_names (some_name arguments) formals) functions) vars

-- the name of a function expression that has one; a declared function's name stands in the scope around it
abbrev pub own_name : Node → Option TextId
own_name (nodes.Function name formals list) = name
own_name _ = None

-- the scope of a function expression's name (section 13)
abbrev pub with_own_name : Option TextId → List Scope → List Scope
with_own_name None around = around
with_own_name (Some x) around = (x ∷ []) ∷ around

-- the scopes in the body of a function that stands among others
abbrev pub in_function : List Node → Option TextId → Node → Elements → List Scope → List Scope
in_function ns arguments node body around = function_scope arguments (formals_of node) (function_names ns (elements_of node)) (variables body) ∷ with_own_name (own_name node) around
