-- What holds of programs and their trees.
use Rattle.std.specs.Prelude.{◌≡◌, ℕ, List, length, All, Option}
use Rattle.wjs_base.specs.declared.ids.TextId.{TextId}
use Rattle.wjs_base.specs.Text.{Table, IsTable, Finds}
use Rattle.wjs_base.specs.declared.ids.NodeId.{NodeId}
use Rattle.wjs_tree.specs.declared.tokens.Tok.{Tok}
use Rattle.wjs_tree.specs.Trees.{Elements}
use Rattle.wjs_tree.specs.Spelling.{ElementsStand}
use Rattle.wjs_tree.specs.declared.node.Node.{Node}
use Rattle.wjs_lexer.specs.Lexing.{HasTokens}
use Rattle.wjs_scope.specs.declared.declarations.Declarations.{Declarations}
use Rattle.wjs_scope.specs.Bodies.{BodiesStand, AreDeclared}
use Rattle.wjs_scope.specs.Places.{IsScript, ArePlaces, arguments_text}
use Rattle.wjs_order.specs.Order.{IsNumbered}
use Rattle.wjs_meaning.specs.Trees.{Tree}
use Rattle.wjs_model.specs.Bodies.{AreMeant}
use Rattle.wjs_model.specs.Texts.{KnowsNode, KnowsUnit}
use Rattle.wjs_model.specs.Units.{unit_in}
use Rattle.wjs_model.specs.declared.loaded.LoadedProgram.{LoadedProgram as Program}
use Rattle.wjs_programs.specs.Numbered.{tree_of}
use Rattle.wjs_programs.specs.Programs.{IsProgram, IsNoProgram}

-- the nodes of a program that tokens spell name no other texts than those of the table by which the bytes are tokens
abbrev pub NodesAreKnown : Type 0
NodesAreKnown =
    (bytes : List ℕ) (texts : Table) (toks : List Tok) (tree : Elements) (ns : List Node) (body : NodeId) → HasTokens bytes texts toks → ElementsStand toks tree 0 (length toks) → IsNumbered ns tree body → All (KnowsNode texts) ns

-- a loaded program with the places of its names is the tree of the program that its nodes stand for
abbrev pub UnitsAreTrees : Type 0
UnitsAreTrees =
    (texts : Table) (unit : Program) (tree : Elements) (arguments : Option TextId) → IsTable texts → IsNumbered unit.program.nodes tree unit.program.body → KnowsUnit texts unit → Finds texts arguments_text arguments
    → ArePlaces unit.program.nodes arguments unit.program.body unit.places → unit_in texts unit ≡ tree_of texts tree

-- each body of a numbered script has its elements
abbrev pub AllBodiesStand : Type 0
AllBodiesStand = (ns : List Node) (tree : Elements) (body : NodeId) → IsNumbered ns tree body → IsScript ns body → BodiesStand ns

-- what a table has of the bodies of a numbered script by its tree is what they declare in the meaning
abbrev pub BodiesAreMeant : Type 0
BodiesAreMeant =
    (ns : List Node) (tree : Elements) (body : NodeId) (arguments : Option TextId) (table : List Declarations × Declarations) → IsNumbered ns tree body → IsScript ns body → AreDeclared ns arguments table → AreMeant ns table

-- bytes spell one program at most
abbrev pub OneProgram : Type 0
OneProgram = (bytes : List ℕ) (a b : Tree) → IsProgram bytes a → IsProgram bytes b → b ≡ a

-- bytes that spell a program by one table of texts are refused by none
abbrev pub ProgramOrNone : Type 0
ProgramOrNone = (bytes : List ℕ) (a : Tree) → IsProgram bytes a → IsNoProgram bytes → ⊥
