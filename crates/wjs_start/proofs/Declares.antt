-- The names that a script declares.
use Rattle.std.proofs.Common.{◌≡◌, ℕ, ◌+◌, ◌<◌, List, [], ◌∷◌, ◌++◌, Option, None, length, get_or, take, sym, ap, ◌∙◌, subst}
use Rattle.std.specs.Prelude.{map, filter_map}
use Rattle.std.specs.Option.{option_map}
use Rattle.std.proofs.lemmas.List.{append-nil, map-append, map_more}
use Rattle.std.proofs.lemmas.List.Elements.{filter_map-append}
use Rattle.wjs_base.specs.declared.ids.TextId.{TextId}
use Rattle.wjs_base.specs.Text.{Table, IsTable}
use Rattle.wjs_base.specs.declared.ids.NodeId.{NodeId}
use Rattle.wjs_tree.specs.declared.node.Node.{Node}
use Rattle.wjs_by_content.specs.Values.{Text}
use Rattle.wjs_by_content.specs.Tables.{text_in}
use Rattle.wjs_meaning.specs.Declarations.{declared_by}
use Rattle.wjs_meaning.specs.Reading.{node_in, numbers}
use Rattle.wjs_meaning.specs.Trees.{name_of, node_at}
use Rattle.wjs_model.specs.declared.loaded.LoadedProgram.{LoadedProgram as Program}
use Rattle.wjs_model.specs.Texts.{KnowsUnit, KnowsNode}
use Rattle.wjs_model.specs.Units.{unit_in, node_of}
use Rattle.wjs_start.specs.Declaring.{declared_by_tree}
use Rattle.wjs_model.proofs.Naming.{node_named, node_known}

-- the name at a node
abbrev pub name_in : Table → Program → ℕ → Option Text
name_in t u k = name_of (node_at (unit_in t u) k)

pub name_is : (t : Table) (u : Program) (id : NodeId) (n : Node) (o : Option TextId) → node_of u id ≡ n → name_of (node_in t n) ≡ option_map (text_in t) o → name_in t u id.0 ≡ option_map (text_in t) o
name_is t u id n o e h = ap name_of (node_named t u id.0) ∙ ap (λ (m : Node). name_of (node_in t m)) e ∙ h

pub name_found : (t : Table) (u : Program) (id : NodeId) (n : Node) → node_of u id ≡ n → KnowsUnit t u → KnowsNode t n
name_found t u id n e h = subst (KnowsNode t) e (node_known t u.program.nodes id.0 h)

-- no name more
pub no_name_added : (t : Table) (u : Program) (id : NodeId) (o : Option TextId) (names : List TextId) → o ≡ None → name_in t u id.0 ≡ option_map (text_in t) o → map (text_in t) names ≡ map (text_in t) names ++ filter_map (name_in t u) (id.0 ∷ [])
no_name_added t u id o names oe h = sym (ap (λ l. map (text_in t) names ++ l) (none (name_in t u id.0) (h ∙ ap (option_map (text_in t)) oe)) ∙ append-nil (map (text_in t) names))
  where
    none : (q : Option Text) → q ≡ None → filter_map (λ (k : ℕ). q) (id.0 ∷ []) ≡ []
    none q e = ap (λ (p : Option Text). filter_map (λ (k : ℕ). p) (id.0 ∷ [])) e

-- one function more
pub functions_on : (t : Table) (u : Program) (functions : List NodeId) (i : ℕ) (d : NodeId) (names new : List TextId) → i < length functions → map (text_in t) new ≡ map (text_in t) names ++ filter_map (name_in t u) ((get_or functions i d).0 ∷ []) → map (text_in t) names ≡ filter_map (name_in t u) (numbers (take i functions)) → map (text_in t) new ≡ filter_map (name_in t u) (numbers (take (i + 1) functions))
functions_on t u functions i d names new lt e h =
    e
    ∙ ap (λ l. l ++ filter_map (name_in t u) ((get_or functions i d).0 ∷ [])) h
    ∙ sym (filter_map-append (name_in t u) (numbers (take i functions)) ((get_or functions i d).0 ∷ []))
    ∙ sym (ap (filter_map (name_in t u)) (map_more (λ (id : NodeId). id.0) functions i d lt))

-- the names of the functions and then those of the variables
pub names_together : (t : Table) (u : Program) (named all : List TextId) (slice functions : List NodeId) (last variables : List TextId) → all ≡ named ++ last → slice ≡ functions → last ≡ variables
    → map (text_in t) named ≡ filter_map (name_in t u) (numbers slice) → numbers functions ≡ (declared_by (unit_in t u) u.program.body.0).functions → map (text_in t) variables ≡ (declared_by (unit_in t u) u.program.body.0).vars → map (text_in t) all ≡ declared_by_tree (unit_in t u)
names_together t u named all slice functions last variables e es el en ef ev =
    ap (map (text_in t)) e
    ∙ map-append (text_in t) named last
    ∙ ap (λ l. l ++ map (text_in t) last) (en ∙ ap (λ (l : List NodeId). filter_map (name_in t u) (numbers l)) es ∙ ap (filter_map (name_in t u)) ef)
    ∙ ap (λ l. filter_map (name_in t u) (declared_by (unit_in t u) u.program.body.0).functions ++ l) (ap (map (text_in t)) el ∙ ev)

-- the same of a slice of them
pub names_sliced : (u : Program) (names slice : List TextId) → slice ≡ names → ((t : Table) → IsTable t → KnowsUnit t u → map (text_in t) names ≡ declared_by_tree (unit_in t u)) → (t : Table) → IsTable t → KnowsUnit t u → map (text_in t) slice ≡ declared_by_tree (unit_in t u)
names_sliced u names slice e f t table known = ap (map (text_in t)) e ∙ f t table known
