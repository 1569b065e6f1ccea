-- The scopes around the nodes of a program, by the texts of their names.
use Rattle.std.specs.Prelude.{ℕ, List, [], ◌∷◌, ◌++◌, All, Option, None, Some}
use Rattle.std.proofs.Common.{refl, sym, subst, inl, inr}
use Rattle.wjs_base.specs.declared.ids.TextId.{TextId}
use Rattle.wjs_base.specs.Text.{Table, IsTable, Finds, Has as InTable}
use Rattle.wjs_base.specs.declared.ids.NodeId.{NodeId}
use Rattle.wjs_tree.specs.declared.node.Node.{Node}
use Rattle.wjs_tree.specs.declared.node.Handler.{Handler}
use Rattle.wjs_tree.specs.declared.node.Node.TheVariants as nodes
use Rattle.wjs_tree.specs.Trees.{Elements}
use Rattle.wjs_tree.specs.Shows.{Has, ElementsShow}
use Rattle.wjs_scope.specs.Declarations.{variables}
use Rattle.wjs_scope.specs.Scopes.{Scope, function_names, function_scope, in_function}
use Rattle.wjs_scope.specs.Nesting.{Side, Around, Caught, Inside, parts, IsAmong, Enters, Leads, StandsAmong}
use Rattle.wjs_scope.specs.Places.{arguments_text}
use Rattle.wjs_by_content.specs.Tables.{text_in}
use Rattle.wjs_model.specs.Texts.{KnowsNode}
use Rattle.wjs_programs.specs.Numbered.{Scopes, names_within, within}
use Rattle.wjs_programs.proofs.Scopes.{AreAlike, AllAlike, name_alike, function_alike, within_alike}
use Rattle.wjs_programs.proofs.Declared.{functions_shown, node_known, names_known}
use Rattle.wjs_programs.proofs.Steps.{AllAmong, all_among}

-- a way, and one part more
leads_on : (ns : List Node) (arguments : Option TextId) (way : List (NodeId × Side)) (i j : NodeId) (scopes found inner : List Scope) (node : Node) (p : NodeId × Side) → Leads ns arguments i scopes way j found → Has ns j node → IsAmong (parts node) p
    → Enters ns arguments node p.1 found inner → Leads ns arguments i scopes (way ++ p ∷ []) p.0 inner
leads_on ns arguments [] i j scopes found inner node p h has among enters =
    (node, inner, subst (λ (z : NodeId). Has ns z node) h.0 has, among, subst (λ z. Enters ns arguments node p.1 z inner) h.1 enters, (refl, refl))
leads_on ns arguments (q ∷ way) i j scopes found inner node p h has among enters = (h.0, h.1, h.2, h.3, h.4, leads_on ns arguments way q.0 j h.1 found inner node p h.5 has among enters)

-- scopes with these texts stand around the node
abbrev pub IsAround : Table → List Node → Option TextId → NodeId → NodeId → Scopes → Type 0
IsAround texts ns arguments body i around = (scopes : List Scope) × StandsAmong ns arguments body i scopes × AllAlike texts scopes around

module _ (texts : Table) (table : IsTable texts) (ns : List Node) (knows : All (KnowsNode texts) ns) (arguments : Option TextId) (finds : Finds texts arguments_text arguments) (body : NodeId) where
  abbrev pub Among : NodeId → Scopes → Type 0
  Among i around = IsAround texts ns arguments body i around

  step : (i : NodeId) (around next : Scopes) (node : Node) (p : NodeId × Side) (inner : List Scope) → Has ns i node → (a : Among i around) → IsAmong (parts node) p → Enters ns arguments node p.1 a.0 inner → AllAlike texts inner next → Among p.0 next
  step i around next node p inner has a among enters alike = (inner, (a.1.0 ++ p ∷ [], leads_on ns arguments a.1.0 body i [] a.0 inner node p a.1.1 has among enters), alike)

  pub part_around : (i j : NodeId) (around : Scopes) (n : Node) → Has ns i n → Among i around → IsAmong (parts n) (j, Around) → Among j around
  part_around i j around n has a among = step i around around n (j, Around) a.0 has a among refl a.2

  pub caught_around : (i b : NodeId) (handler : Handler) (last : Option NodeId) (around : Scopes) → Has ns i (nodes.Try b (Some handler) last) → Among i around → Among handler.block ((text_in texts handler.name ∷ []) ∷ around)
  caught_around i b handler last around has a =
      step i around ((text_in texts handler.name ∷ []) ∷ around) (nodes.Try b (Some handler) last) (handler.block, Caught handler.name) ((handler.name ∷ []) ∷ a.0) has a (inr (inl refl)) refl
      (name_alike texts table handler.name (node_known texts ns knows i _ has), a.2)

  -- the names of a function's scope
  own_scope : (formals : List TextId) (list : List NodeId) (t : Elements) (us : List ℕ) → ElementsShow ns t list us → All (InTable texts) formals → AreAlike texts (function_scope arguments formals (function_names ns list) (variables t)) (names_within texts formals t)
  own_scope formals list t us h known =
      subst (λ (z : List TextId). AreAlike texts (function_scope arguments formals z (variables t)) (names_within texts formals t)) (sym (functions_shown ns t list us h))
      (function_alike texts table arguments finds formals t (names_known texts ns knows formals t list us known h))

  pub inside_around : (i : NodeId) (name : Option TextId) (formals : List TextId) (list : List NodeId) (t : Elements) (us : List ℕ) (around : Scopes) → Has ns i (nodes.Function name formals list) → Among i around → ElementsShow ns t list us
      → AllAmong Among (within texts name formals t around) list
  inside_around i name formals list t us around has a h =
      let known : KnowsNode texts (nodes.Function name formals list) = node_known texts ns knows i _ has in
      all_among Among Inside (within texts name formals t around) list
      (λ j b. step i around (within texts name formals t around) (nodes.Function name formals list) (j, Inside) (in_function ns arguments (nodes.Function name formals list) t a.0) has a b (t, (us, h), refl)
      (within_alike texts table name formals t (function_scope arguments formals (function_names ns list) (variables t)) a.0 around known.0 (own_scope formals list t us h known.1) a.2))

  pub declared_around : (i : NodeId) (x : TextId) (formals : List TextId) (list : List NodeId) (t : Elements) (us : List ℕ) (around : Scopes) → Has ns i (nodes.FunctionDecl x formals list) → Among i around → ElementsShow ns t list us
      → AllAmong Among (within texts None formals t around) list
  declared_around i x formals list t us around has a h =
      let known : KnowsNode texts (nodes.FunctionDecl x formals list) = node_known texts ns knows i _ has in
      all_among Among Inside (within texts None formals t around) list
      (λ j b. step i around (within texts None formals t around) (nodes.FunctionDecl x formals list) (j, Inside) (in_function ns arguments (nodes.FunctionDecl x formals list) t a.0) has a b (t, (us, h), refl)
      (within_alike texts table None formals t (function_scope arguments formals (function_names ns list) (variables t)) a.0 around tt (own_scope formals list t us h known.1) a.2))
