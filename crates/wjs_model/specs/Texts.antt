-- The texts that a program names are in a table.
use Rattle.std.specs.Prelude.{Option, None, Some, All}
use Rattle.wjs_base.specs.declared.ids.TextId.{TextId}
use Rattle.wjs_base.specs.Text.{Table, Has}
use Rattle.wjs_tree.specs.declared.node.Spelt.{Spelt}
use Rattle.wjs_tree.specs.declared.node.Spelt.TheVariants as spelt
use Rattle.wjs_tree.specs.declared.node.PropertyKey.{PropertyKey}
use Rattle.wjs_tree.specs.declared.node.PropertyKey.TheVariants as keys
use Rattle.wjs_tree.specs.declared.node.ForInit.{ForInit}
use Rattle.wjs_tree.specs.declared.node.ForInit.TheVariants as inits
use Rattle.wjs_tree.specs.declared.node.Handler.{Handler}
use Rattle.wjs_tree.specs.declared.node.Node.{Node}
use Rattle.wjs_tree.specs.declared.node.Node.TheVariants as form
use Rattle.wjs_scope.specs.Places.{IsPlaced}
use Rattle.wjs_model.specs.declared.loaded.LoadedProgram.{LoadedProgram as Program}

module _ (texts : Table) where
  abbrev pub HasText : Option TextId → Type 0
  HasText None = Unit {0}
  HasText (Some id) = Has texts id

  abbrev pub KnowsSpelt : Spelt → Type 0
  KnowsSpelt (spelt.Word id) = Has texts id
  KnowsSpelt (spelt.Key key) = Unit {0}

  abbrev pub KnowsKey : PropertyKey → Type 0
  KnowsKey (keys.Spelt name) = KnowsSpelt name
  KnowsKey (keys.Text id) = Has texts id
  KnowsKey (keys.Number x) = Unit {0}

  abbrev pub KnowsInit : ForInit → Type 0
  KnowsInit (inits.Var xs) = All (λ d. Has texts d.name) xs
  KnowsInit _ = Unit {0}

  abbrev pub KnowsHandler : Option Handler → Type 0
  KnowsHandler None = Unit {0}
  KnowsHandler (Some h) = Has texts h.name

  -- the texts that stand in a node itself
  abbrev pub KnowsNode : Node → Type 0
  KnowsNode (form.Name id) = Has texts id
  KnowsNode (form.Text id) = Has texts id
  KnowsNode (form.ObjectLit pairs comma) = All (λ p. KnowsKey p.key) pairs
  KnowsNode (form.Function name formals elements) = HasText name × All (Has texts) formals
  KnowsNode (form.Dot e name) = KnowsSpelt name
  KnowsNode (form.Var xs end) = All (λ d. Has texts d.name) xs
  KnowsNode (form.For init t u s) = KnowsInit init
  KnowsNode (form.ForVarIn name e s) = Has texts name
  KnowsNode (form.Continue label end) = HasText label
  KnowsNode (form.Break label end) = HasText label
  KnowsNode (form.Label name s) = Has texts name
  KnowsNode (form.Try b handler f) = KnowsHandler handler
  KnowsNode (form.FunctionDecl name formals elements) = Has texts name × All (Has texts) formals
  KnowsNode _ = Unit {0}

  abbrev pub KnowsUnit : Program → Type 0
  KnowsUnit u = All KnowsNode u.program.nodes

  -- the loaded program is a script, its places are those of its names, and the other variables of its bodies are right
  abbrev pub PlacesUnit : Program → Type 0
  PlacesUnit u = IsPlaced texts u.program.nodes u.program.body u.places u.bodies
