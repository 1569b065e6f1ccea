-- The nodes of a unit by content and by number: what they are, and what their bodies declare.
use Rattle.std.proofs.Common.{◌≡◌, ℕ, zero, suc, List, [], ◌∷◌, Bool, true, false, cond, Option, None, Some, refl, sym, ap, ◌∙◌, subst}
use Rattle.std.specs.Prelude.{map as each, filter, slice_get, unwrap_or, All}
use Rattle.std.specs.Option.{option_map}
use Rattle.std.proofs.lemmas.Option.{slice_get-map}
use Rattle.std.proofs.lemmas.List.Elements.{All-nil, All-head, All-tail}
use Rattle.wjs_base.specs.Text.{Table, IsTable, Has}
use Rattle.wjs_base.specs.declared.ids.NodeId.{NodeId}
use Rattle.wjs_tree.specs.declared.node.Node.{Node}
use Rattle.wjs_tree.specs.declared.node.Node.TheVariants as form
use Rattle.wjs_by_content.specs.Tables.{text_in}
use Rattle.wjs_meaning.specs.Trees as content
use Rattle.wjs_meaning.specs.Declarations as content_names
use Rattle.wjs_meaning.specs.Declarations.{declared_by}
use Rattle.wjs_meaning.specs.Reading.{node_in, numbers}
use Rattle.wjs_scope.specs.declared.declarations.Declarations.{Declarations}
use Rattle.wjs_scope.specs.Declarations.{formals_of, elements_of, is_declaration, functions_among}
use Rattle.wjs_scope.specs.Bodies.{node_at, elements_at}
use Rattle.wjs_model.specs.declared.loaded.LoadedProgram.{LoadedProgram as Program}
use Rattle.wjs_model.specs.Bodies.{IsMeant}
use Rattle.wjs_model.specs.Texts.{KnowsNode, KnowsUnit}
use Rattle.wjs_model.specs.Units.{unit_in}
use Rattle.wjs_model.proofs.Placed.{placed_known}

-- ---- nodes

mapped_node : (t : Table) (o : Option Node) → unwrap_or (option_map (node_in t) o) content.Empty ≡ node_in t (unwrap_or o form.Empty)
mapped_node t None = refl
mapped_node t (Some n) = refl

-- of a tree of these nodes
pub node_there : (t : Table) (ns : List Node) (tree : content.Tree) → tree.nodes ≡ each (node_in t) ns → (k : ℕ) → content.node_at tree k ≡ node_in t (node_at ns k)
node_there t ns tree e k =
    ap (λ (l : List content.Node). unwrap_or (slice_get l k) content.Empty) e ∙ ap (λ o. unwrap_or o content.Empty) (slice_get-map (node_in t) ns k) ∙ mapped_node t (slice_get ns k)

pub node_named : (t : Table) (u : Program) (k : ℕ) → content.node_at (unit_in t u) k ≡ node_in t (node_at u.program.nodes k)
node_named t u k = node_there t u.program.nodes (unit_in t u) refl k

pub node_known : (t : Table) (ns : List Node) (k : ℕ) → All (KnowsNode t) ns → KnowsNode t (node_at ns k)
node_known t [] k h = tt
node_known t (n ∷ more) zero h = All-head (KnowsNode t) n more h
node_known t (n ∷ more) (suc k) h = node_known t more k (All-tail (KnowsNode t) n more h)

-- ---- formals, elements and functions

formals_named : (t : Table) (n : Node) → content.formals_of (node_in t n) ≡ each (text_in t) (formals_of n)
formals_named t (form.Function name formals elements) = refl
formals_named t (form.FunctionDecl name formals elements) = refl
formals_named t n = refl

pub formals_known : (t : Table) (n : Node) → KnowsNode t n → All (Has t) (formals_of n)
formals_known t (form.Function name formals elements) h = h.1
formals_known t (form.FunctionDecl name formals elements) h = h.1
formals_known t n h = All-nil (Has t)

pub elements_named : (t : Table) (n : Node) → content.elements_of (node_in t n) ≡ numbers (elements_of n)
elements_named t (form.Function name formals elements) = refl
elements_named t (form.FunctionDecl name formals elements) = refl
elements_named t (form.Program elements) = refl
elements_named t n = refl

declaration_named : (t : Table) (o : Option Node) → content_names.is_declaration (unwrap_or (option_map (node_in t) o) content.Empty) ≡ is_declaration o
declaration_named t None = refl
declaration_named t (Some (form.FunctionDecl name formals elements)) = refl
declaration_named t (Some n) = refl

numbers_cond : (b : Bool) (s : NodeId) (xs : List NodeId) → numbers (cond b (s ∷ xs) xs) ≡ cond b (s.0 ∷ numbers xs) (numbers xs)
numbers_cond true s xs = refl
numbers_cond false s xs = refl

module _ (t : Table) (u : Program) where
  -- whether the node of a number declares a function
  abbrev is_one : ℕ → Bool
  is_one k = content_names.is_declaration (content.node_at (unit_in t u) k)

  functions_named : (ss : List NodeId) → numbers (functions_among u.program.nodes ss) ≡ filter is_one (numbers ss)
  functions_named [] = refl
  functions_named (s ∷ ss) =
      let here = is_declaration (slice_get u.program.nodes s.0) in
      numbers_cond here s (functions_among u.program.nodes ss)
      ∙ ap (λ l. cond here (s.0 ∷ l) l) (functions_named ss)
      ∙ ap (λ b. cond b (s.0 ∷ filter is_one (numbers ss)) (filter is_one (numbers ss)))
      (sym (ap (λ (o : Option content.Node). content_names.is_declaration (unwrap_or o content.Empty)) (slice_get-map (node_in t) u.program.nodes s.0) ∙ declaration_named t (slice_get u.program.nodes s.0)))

  -- ---- what a table has of a unit's bodies is what they declare, by content

  module _ (k : ℕ) (d : Declarations) (m : IsMeant u.program.nodes k d) where
    pub formals_meant : each (text_in t) d.formals ≡ (declared_by (unit_in t u) k).formals
    formals_meant = ap (each (text_in t)) m.formals ∙ sym (ap content.formals_of (node_named t u k) ∙ formals_named t (node_at u.program.nodes k))

    pub functions_meant : numbers d.functions ≡ (declared_by (unit_in t u) k).functions
    functions_meant =
        ap numbers m.functions ∙ functions_named (elements_at u.program.nodes k)
        ∙ ap (filter is_one) (sym (ap content.elements_of (node_named t u k) ∙ elements_named t (node_at u.program.nodes k)))

    pub variables_meant : IsTable t → KnowsUnit t u → each (text_in t) d.variables ≡ (declared_by (unit_in t u) k).vars
    variables_meant table known = m.variables t (unit_in t u) table (placed_known t u known) refl

    pub formals_found : KnowsUnit t u → All (Has t) d.formals
    formals_found known = subst (All (Has t)) (sym m.formals) (formals_known t (node_at u.program.nodes k) (node_known t u.program.nodes k known))

    pub variables_found : KnowsUnit t u → All (Has t) d.variables
    variables_found known = m.found t (placed_known t u known)
