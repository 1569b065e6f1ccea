-- Nodes whose texts are there are the same under a table that has grown.
use Rattle.std.proofs.Common.{◌≡◌, ℕ, List, Option, None, Some, refl, ap}
use Rattle.std.specs.Prelude.{map as each, All}
use Rattle.std.specs.Option.{option_map}
use Rattle.wjs_base.specs.declared.ids.TextId.{TextId}
use Rattle.wjs_base.specs.Text.{Table, Has, Grows}
use Rattle.wjs_tree.specs.declared.node.Spelt.{Spelt}
use Rattle.wjs_tree.specs.declared.node.Spelt.TheVariants as spelt
use Rattle.wjs_tree.specs.declared.node.PropertyKey.{PropertyKey}
use Rattle.wjs_tree.specs.declared.node.PropertyKey.TheVariants as keys
use Rattle.wjs_tree.specs.declared.node.Property.{Property}
use Rattle.wjs_tree.specs.declared.node.Declarator.{Declarator}
use Rattle.wjs_tree.specs.declared.node.ForInit.{ForInit}
use Rattle.wjs_tree.specs.declared.node.ForInit.TheVariants as inits
use Rattle.wjs_tree.specs.declared.node.Handler.{Handler}
use Rattle.wjs_tree.specs.declared.node.Node.{Node as NumberedNode}
use Rattle.wjs_tree.specs.declared.node.Node.TheVariants as form
use Rattle.wjs_by_content.specs.Values.{Text}
use Rattle.wjs_by_content.specs.Tables.{text_in}
use Rattle.wjs_by_content.proofs.Growth.{text_stays}
use Rattle.wjs_meaning.specs.Trees.{Spelled, Init, InitVar, Name, TextLit, ObjectLit, Function, Dot, Var, For, ForVarIn, Continue, Break, Label, Try, FunctionDecl}
use Rattle.wjs_meaning.specs.Reading.{numbers, number, spelt_in, key_in, pair_in, variable_in, init_in, handler_in, label_in, node_in}
use Rattle.wjs_model.specs.declared.loaded.LoadedProgram.{LoadedProgram as Program}
use Rattle.wjs_model.specs.Units.{unit_in, rows_from}
use Rattle.wjs_model.specs.Texts.{HasText, KnowsSpelt, KnowsKey, KnowsInit, KnowsHandler, KnowsNode, KnowsUnit}
use Rattle.wjs_frames.proofs.Lists.{each_alike}

module _ (old new : Table) (g : Grows old new) where
  pub label_grows : (id : Option TextId) → HasText old id → label_in new id ≡ label_in old id
  label_grows None k = refl
  label_grows (Some id) k = ap Some (text_stays old new g id k)

  texts_grow : (ids : List TextId) → All (Has old) ids → each (text_in new) ids ≡ each (text_in old) ids
  texts_grow ids k = each_alike (text_in new) (text_in old) (Has old) (text_stays old new g) ids k

  spelt_grows : (s : Spelt) → KnowsSpelt old s → spelt_in new s ≡ spelt_in old s
  spelt_grows (spelt.Word id) k = text_stays old new g id k
  spelt_grows (spelt.Key key) k = refl

  key_grows : (x : PropertyKey) → KnowsKey old x → key_in new x ≡ key_in old x
  key_grows (keys.Spelt name) k = ap Spelled (spelt_grows name k)
  key_grows (keys.Text id) k = ap Spelled (text_stays old new g id k)
  key_grows (keys.Number x) k = refl

  pair_grows : (p : Property) → KnowsKey old p.key → pair_in new p ≡ pair_in old p
  pair_grows p k = let e = key_grows p.key k in λ i. (e i, p.value.0)

  variable_grows : (d : Declarator) → Has old d.name → variable_in new d ≡ variable_in old d
  variable_grows d k = let e = text_stays old new g d.name k in λ i. (e i, number d.value)

  variables_grow : (xs : List Declarator) → All (λ d. Has old d.name) xs → each (variable_in new) xs ≡ each (variable_in old) xs
  variables_grow xs k = each_alike (variable_in new) (variable_in old) (λ d. Has old d.name) variable_grows xs k

  init_grows : (x : ForInit) → KnowsInit old x → init_in new x ≡ init_in old x
  init_grows inits.Nothing k = refl
  init_grows (inits.Expr e) k = refl
  init_grows (inits.Var xs) k = ap InitVar (variables_grow xs k)

  handler_grows : (h : Option Handler) → KnowsHandler old h → option_map (handler_in new) h ≡ option_map (handler_in old) h
  handler_grows None k = refl
  handler_grows (Some h) k = let e = text_stays old new g h.name k in λ i. Some (e i, h.block.0)

  node_grows : (n : NumberedNode) → KnowsNode old n → node_in new n ≡ node_in old n
  node_grows (form.Name id) k = ap Name (text_stays old new g id k)
  node_grows (form.Text id) k = ap TextLit (text_stays old new g id k)
  node_grows (form.ObjectLit pairs comma) k = ap ObjectLit (each_alike (pair_in new) (pair_in old) (λ p. KnowsKey old p.key) pair_grows pairs k)
  node_grows (form.Function name formals elements) k =
      let n = label_grows name k.0 in
      let f = texts_grow formals k.1 in
      λ i. Function (n i) (f i) (numbers elements)
  node_grows (form.Dot e name) k = ap (λ (s : Text). Dot e.0 s) (spelt_grows name k)
  node_grows (form.Var xs end) k = ap Var (variables_grow xs k)
  node_grows (form.For init t u s) k = ap (λ (x : Init). For x (number t) (number u) s.0) (init_grows init k)
  node_grows (form.ForVarIn name e s) k = ap (λ (x : Text). ForVarIn x e.0 s.0) (text_stays old new g name k)
  node_grows (form.Continue label end) k = ap Continue (label_grows label k)
  node_grows (form.Break label end) k = ap Break (label_grows label k)
  node_grows (form.Label name s) k = ap (λ (x : Text). Label x s.0) (text_stays old new g name k)
  node_grows (form.Try b handler f) k = ap (λ (h : Option (Text × ℕ)). Try b.0 h (number f)) (handler_grows handler k)
  node_grows (form.FunctionDecl name formals elements) k =
      let n = text_stays old new g name k.0 in
      let f = texts_grow formals k.1 in
      λ i. FunctionDecl (n i) (f i) (numbers elements)
  node_grows _ k = refl

  pub unit_grows : (u : Program) → KnowsUnit old u → unit_in new u ≡ unit_in old u
  unit_grows u k =
      let nodes = each_alike (node_in new) (node_in old) (KnowsNode old) node_grows u.program.nodes k in
      λ i. record { nodes = nodes i; body = u.program.body.0; places = rows_from u 0 u.program.nodes }
