-- What a visit marks and opens.
use Rattle.std.specs.Prelude.{◌≡◌, ℕ, ◌+◌, ◌<◌, ◌≤◌, ◌⊎◌, List, [], ◌∷◌, length, drop, set, slice_get, Option, Some, None}
use Rattle.std.proofs.Common.{refl, sym, ap, subst, ◌∙◌, inl, inr, get_or}
use Rattle.std.proofs.lemmas.List.{drop_all}
use Rattle.wjs_base.specs.declared.ids.TextId.{TextId}
use Rattle.wjs_base.specs.declared.ids.NodeId.{NodeId}
use Rattle.wjs_tree.specs.declared.node.Node.{Node}
use Rattle.wjs_tree.specs.declared.node.Handler.{Handler}
use Rattle.wjs_tree.specs.declared.node.Node.TheVariants as nodes
use Rattle.wjs_tree.specs.Trees.{Elements}
use Rattle.wjs_scope.specs.declared.levels.Level.{Level}
use Rattle.wjs_scope.specs.Declarations.{with_names, elements_of, variables}
use Rattle.wjs_tree.specs.Forms.{AreElements}
use Rattle.wjs_scope.specs.Scopes.{Scope, declared_name, function_names, function_scope, in_function, with_own_name}
use Rattle.wjs_scope.specs.Nesting.{Side, Around, Caught, Inside, option_part, plain_parts, on_side, parts, IsAmong, Enters}
use Rattle.wjs_scope.specs.Levels.{Nests, StaysNested, Opens, OpensOwn}
use Rattle.wjs_scope.specs.Marks.{number_on, marked, marked_parts}
use Rattle.wjs_scope.specs.Visits.{Begins}
use Rattle.wjs_tree.specs.There.{ElementsThere}
use Rattle.wjs_scope.proofs.Walks.{with_both}
use Rattle.wjs_tree.proofs.Lists.{behind, elements_first}
use Rattle.wjs_scope.proofs.Functions.{element_within}

-- parts that all stand in the scopes around a node, or in its inner ones
pub around_marked : (table : List (Option ℕ)) (at inner : ℕ) (list : List NodeId) → marked table at list ≡ marked_parts table at inner (on_side Around list)
around_marked table at inner [] = refl
around_marked table at inner (i ∷ more) = around_marked (set table i.0 (Some at)) at inner more

pub inside_marked : (table : List (Option ℕ)) (at inner : ℕ) (list : List NodeId) → marked table inner list ≡ marked_parts table at inner (on_side Inside list)
inside_marked table at inner [] = refl
inside_marked table at inner (i ∷ more) = inside_marked (set table i.0 (Some inner)) at inner more

pub all_around : (n : Node) → ((name : Option TextId) (formals : List TextId) (list : List NodeId) → n ≡ nodes.Function name formals list → ⊥) → ((a : NodeId) (h : Option Handler) (o : Option NodeId) → n ≡ nodes.Try a h o → ⊥)
    → ((x : TextId) (formals : List TextId) (list : List NodeId) → n ≡ nodes.FunctionDecl x formals list → ⊥) → parts n ≡ on_side Around (plain_parts n)
all_around (nodes.Function name formals list) f t d = absurd (f name formals list refl)
all_around (nodes.Try a h o) f t d = absurd (t a h o refl)
all_around (nodes.FunctionDecl x formals list) f t d = absurd (d x formals list refl)
all_around _ f t d = refl

pub among_side : (side : Side) (list : List NodeId) (p : NodeId × Side) → IsAmong (on_side side list) p → p.1 ≡ side
among_side side [] p h = elim h [ ]
among_side side (i ∷ more) p (inl e) = ap (λ (z : NodeId × Side). z.1) e
among_side side (i ∷ more) p (inr h) = among_side side more p h

-- the scopes of a function begin at it
module _ (ns : List Node) (arguments : Option TextId) (node : Node) (at inner : ℕ) (before after : List Level) where
  inside_it : ((body : Elements) (scopes : List Scope) → AreElements ns body (elements_of node) → Nests before at scopes → Nests after inner (in_function ns arguments node body scopes))
      → (side : Side) → side ≡ Inside → (scopes found : List Scope) → Nests before at scopes → Enters ns arguments node side scopes found → Nests after (number_on side at inner) found
  inside_it f Around e scopes found n h = absurd (cc)
  inside_it f (Caught x) e scopes found n h = absurd (cc)
  inside_it f Inside e scopes found n h = subst (Nests after inner) (sym h.2) (f h.0 scopes h.1 n)

  around_it : StaysNested before after → (side : Side) → side ≡ Around → (scopes found : List Scope) → Nests before at scopes → Enters ns arguments node side scopes found → Nests after (number_on side at inner) found
  around_it stays Around e scopes found n h = subst (Nests after at) (sym h) (stays at scopes n)
  around_it stays (Caught x) e scopes found n h = absurd (cc)
  around_it stays Inside e scopes found n h = absurd (cc)

  pub body_begins : (list : List NodeId) → parts node ≡ on_side Inside list → StaysNested before after
      → ((body : Elements) (scopes : List Scope) → AreElements ns body (elements_of node) → Nests before at scopes → Nests after inner (in_function ns arguments node body scopes)) → Begins ns arguments node at inner before after
  body_begins list e stays f = record {
    stays = stays;
    opens = λ p scopes found among n h. inside_it f p.1 (among_side Inside list p (subst (λ z. IsAmong z p) e among)) scopes found n h;
  }

  pub nothing_begins : (list : List NodeId) → parts node ≡ on_side Around list → StaysNested before after → Begins ns arguments node at inner before after
  nothing_begins list e stays = record {
    stays = stays;
    opens = λ p scopes found among n h. around_it stays p.1 (among_side Around list p (subst (λ z. IsAmong z p) e among)) scopes found n h;
  }

-- the names of a body's scope
abbrev pub NamesBody : List Node → Option TextId → List TextId → List NodeId → List TextId → Type 0
NamesBody ns arguments formals list names = (t : Elements) → AreElements ns t list → names ≡ function_scope arguments formals (function_names ns list) (variables t)

pub function_begins : (ns : List Node) (arguments name : Option TextId) (formals : List TextId) (list : List NodeId) (at around inner : ℕ) (before between after : List Level) (names : List TextId)
    → NamesBody ns arguments formals list names → OpensOwn before between at around name → Opens between after around inner names
    → Begins ns arguments (nodes.Function name formals list) at inner before after
function_begins ns arguments name formals list at around inner before between after names e own o =
    body_begins ns arguments (nodes.Function name formals list) at inner before after list refl (λ k s h. o.stays k s (own.stays k s h))
    (λ body scopes h n. subst (λ (z : List TextId). Nests after inner (z ∷ with_own_name name scopes)) (e body h) (o.opens (with_own_name name scopes) (own.opens scopes n)))

pub declaration_begins : (ns : List Node) (arguments : Option TextId) (x : TextId) (formals : List TextId) (list : List NodeId) (at inner : ℕ) (before after : List Level) (names : List TextId)
    → NamesBody ns arguments formals list names → Opens before after at inner names
    → Begins ns arguments (nodes.FunctionDecl x formals list) at inner before after
declaration_begins ns arguments x formals list at inner before after names e o =
    body_begins ns arguments (nodes.FunctionDecl x formals list) at inner before after list refl o.stays
    (λ body scopes h n. subst (λ (z : List TextId). Nests after inner (z ∷ scopes)) (e body h) (o.opens scopes n))

-- the sides of the parts of a `try`
pub try_sides : (a : NodeId) (handler : Option Handler) (o : Option NodeId) (p : NodeId × Side) → IsAmong (parts (nodes.Try a handler o)) p → (p.1 ≡ Around) ⊎ ((h : Handler) × (handler ≡ Some h) × (p.1 ≡ Caught h.name))
try_sides a handler o p (inl e) = inl (ap (λ (z : NodeId × Side). z.1) e)
try_sides a None o p (inr h) = inl (among_side Around (option_part o) p h)
try_sides a (Some b) o p (inr (inl e)) = inr (b, refl, ap (λ (z : NodeId × Side). z.1) e)
try_sides a (Some b) o p (inr (inr h)) = inl (among_side Around (option_part o) p h)

-- functions whose names are added on the way
pub record FunctionsAdded (ns : List Node) (list : List NodeId) (v : List TextId) (k : ℕ) (w : List TextId) : Type 0 where
  pub there : ElementsThere ns 200 (drop k list)
  pub same : with_names v (function_names ns list) ≡ with_names w (function_names ns (drop k list))

pub element_here : (ns : List Node) (list : List NodeId) (v : List TextId) (k : ℕ) (w : List TextId) (d : NodeId) → k < length list → FunctionsAdded ns list v k w → (get_or list k d).0 < length ns
element_here ns list v k w d lt walk = element_within ns 200 (get_or list k d) (elements_first ns 200 (get_or list k d) (drop (k + 1) list) (subst (ElementsThere ns 200) (behind list k d lt) walk.there)).0

pub element_added : (ns : List Node) (list : List NodeId) (v : List TextId) (k : ℕ) (w z : List TextId) (d : NodeId) → k < length list → z ≡ with_names w (declared_name (slice_get ns (get_or list k d).0)) → FunctionsAdded ns list v k w → FunctionsAdded ns list v (k + 1) z
element_added ns list v k w z d lt e walk =
    let same = behind list k d lt in
    let i = get_or list k d in
    record {
      there = (elements_first ns 200 i (drop (k + 1) list) (subst (ElementsThere ns 200) same walk.there)).1;
      same = walk.same ∙ ap (λ (q : List NodeId). with_names w (function_names ns q)) same ∙ with_both w (declared_name (slice_get ns i.0)) (function_names ns (drop (k + 1) list)) ∙ ap (λ q. with_names q (function_names ns (drop (k + 1) list))) (sym e);
    }

pub all_added : (ns : List Node) (list : List NodeId) (v : List TextId) (k : ℕ) (w : List TextId) → length list ≤ k → FunctionsAdded ns list v k w → w ≡ with_names v (function_names ns list)
all_added ns list v k w le walk = sym (walk.same ∙ ap (λ (q : List NodeId). with_names w (function_names ns q)) (drop_all k list le))
