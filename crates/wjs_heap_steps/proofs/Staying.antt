-- What was there is there after a deed.
use Rattle.std.proofs.Common.{◌≡◌, List, [], ◌∷◌, Option, None, Some, Vec, Global, refl, sym, subst, IsTrue}
use Rattle.std.specs.Prelude.{not, All}
use Rattle.std.specs.FinMap as map
use Rattle.std.proofs.lemmas.List.Elements.{All-weaker}
use Rattle.wjs_base.specs.declared.ids.ObjId.{ObjId}
use Rattle.wjs_base.specs.declared.ids.TextId.{TextId}
use Rattle.wjs_base.specs.declared.ids.WorldId.{WorldId}
use Rattle.wjs_base.specs.declared.values.Name.{Name}
use Rattle.wjs_base.specs.declared.values.Slot.{Slot}
use Rattle.wjs_base.specs.declared.values.Value.{Value}
use Rattle.wjs_base.specs.declared.values.Value.TheVariants as values
use Rattle.wjs_base.specs.Text.{Table, Has, Grows}
use Rattle.wjs_base.proofs.TextLaws.{Grows-Has, Grows-IsName}
use Rattle.wjs_store.specs.State.{has_world}
use Rattle.wjs_store.specs.Meaning.{Meaning, worlds}
use Rattle.wjs_arena.specs.Entries.{Entry, Keeps}
use Rattle.wjs_tree.specs.declared.node.Spelt.{Spelt}
use Rattle.wjs_tree.specs.declared.node.Spelt.TheVariants as spelt
use Rattle.wjs_tree.specs.declared.node.PropertyKey.{PropertyKey}
use Rattle.wjs_tree.specs.declared.node.PropertyKey.TheVariants as keys
use Rattle.wjs_tree.specs.declared.node.Property.{Property}
use Rattle.wjs_tree.specs.declared.node.Declarator.{Declarator}
use Rattle.wjs_tree.specs.declared.node.ForInit.{ForInit}
use Rattle.wjs_tree.specs.declared.node.ForInit.TheVariants as inits
use Rattle.wjs_tree.specs.declared.node.Handler.{Handler}
use Rattle.wjs_tree.specs.declared.node.Node.{Node}
use Rattle.wjs_tree.specs.declared.node.Node.TheVariants as form
use Rattle.wjs_by_content.specs.Worlds.{KnowsWorlds}
use Rattle.wjs_heap.specs.declared.heap.Heap.{Heap}
use Rattle.wjs_heap.specs.Heap.{IsHeap, KnowsTold}
use Rattle.wjs_heap.specs.Means.{parts}
use Rattle.wjs_model.specs.declared.loaded.LoadedProgram.{LoadedProgram as Program}
use Rattle.wjs_model.specs.declared.frame.Reference.{Reference}
use Rattle.wjs_model.specs.declared.frame.Reference.TheVariants as references
use Rattle.wjs_model.specs.declared.frame.Completion.{Completion}
use Rattle.wjs_model.specs.declared.frame.Completion.TheVariants as completions
use Rattle.wjs_model.specs.declared.frame.Held.{Held}
use Rattle.wjs_model.specs.declared.frame.Held.TheVariants as holds
use Rattle.wjs_model.specs.declared.operand.Operand.{Operand}
use Rattle.wjs_model.specs.declared.operand.Operand.TheVariants as operands
use Rattle.wjs_model.specs.declared.frame.Phase.{Phase}
use Rattle.wjs_model.specs.declared.frame.Phase.TheVariants as phases
use Rattle.wjs_model.specs.declared.point.Point.{Point}
use Rattle.wjs_model.specs.declared.point.Start.{Start}
use Rattle.wjs_model.specs.declared.point.Start.TheVariants as starts
use Rattle.wjs_model.specs.declared.frame.Activation.{Activation as Frame}
use Rattle.wjs_model.specs.declared.config.Config.{Config}
use Rattle.wjs_model.specs.Soundness.{HasObject, HasName, HasValue, HasSlot, HasLabel, HasReference, HasCompletion, HasItem, HasItems, HasOperand, HasStart, HasPoint, HasPhase, HasWorld, IsThere, IsStacked, Base}
use Rattle.wjs_model.specs.Standing.{FunctionStands, PointStands, FrameStands}
use Rattle.wjs_model.proofs.Placed.{placed_stay}
use Rattle.wjs_model.proofs.Standing.{has_kept, point_kept, frame_kept}
use Rattle.wjs_model.specs.Apart.{IsNear, NearSlots, NamesNear}
use Rattle.wjs_model.specs.Texts.{HasText, KnowsSpelt, KnowsKey, KnowsInit, KnowsHandler, KnowsNode, KnowsUnit}
use Rattle.wjs_frames.specs.Following.{Later}

-- ---- the texts of programs

module _ (old new : Table) (g : Grows old new) where
  id_stays : (id : TextId) → Has old id → Has new id
  id_stays id h = Grows-Has old new id g h

  ids_stay : (ids : List TextId) → All (Has old) ids → All (Has new) ids
  ids_stay ids h = All-weaker (Has old) (Has new) id_stays ids h

  text_stays : (id : Option TextId) → HasText old id → HasText new id
  text_stays None h = tt
  text_stays (Some id) h = id_stays id h

  pub spelt_stays : (s : Spelt) → KnowsSpelt old s → KnowsSpelt new s
  spelt_stays (spelt.Word id) h = id_stays id h
  spelt_stays (spelt.Key key) h = tt

  key_stays : (k : PropertyKey) → KnowsKey old k → KnowsKey new k
  key_stays (keys.Spelt s) h = spelt_stays s h
  key_stays (keys.Text id) h = id_stays id h
  key_stays (keys.Number x) h = tt

  variables_stay : (xs : List Declarator) → All (λ d. Has old d.name) xs → All (λ d. Has new d.name) xs
  variables_stay xs h = All-weaker (λ (d : Declarator). Has old d.name) (λ (d : Declarator). Has new d.name) (λ d. id_stays d.name) xs h

  init_stays : (i : ForInit) → KnowsInit old i → KnowsInit new i
  init_stays (inits.Var xs) h = variables_stay xs h
  init_stays inits.Nothing h = tt
  init_stays (inits.Expr e) h = tt

  handler_stays : (h : Option Handler) → KnowsHandler old h → KnowsHandler new h
  handler_stays None k = tt
  handler_stays (Some h) k = id_stays h.name k

  node_stays : (n : Node) → KnowsNode old n → KnowsNode new n
  node_stays (form.Name id) h = id_stays id h
  node_stays (form.Text id) h = id_stays id h
  node_stays (form.ObjectLit pairs comma) h = All-weaker (λ (p : Property). KnowsKey old p.key) (λ (p : Property). KnowsKey new p.key) (λ p. key_stays p.key) pairs h
  node_stays (form.Function name formals elements) h = (text_stays name h.0, ids_stay formals h.1)
  node_stays (form.Dot e name) h = spelt_stays name h
  node_stays (form.Var xs end) h = variables_stay xs h
  node_stays (form.For init t u s) h = init_stays init h
  node_stays (form.ForVarIn name e s) h = id_stays name h
  node_stays (form.Continue label end) h = text_stays label h
  node_stays (form.Break label end) h = text_stays label h
  node_stays (form.Label name s) h = id_stays name h
  node_stays (form.Try b handler f) h = handler_stays handler h
  node_stays (form.FunctionDecl name formals elements) h = (id_stays name h.0, ids_stay formals h.1)
  node_stays n h = tt

  pub units_stay : (us : List Program) → All (KnowsUnit old) us → All (KnowsUnit new) us
  units_stay us h = All-weaker (KnowsUnit old) (KnowsUnit new) (λ u. All-weaker (KnowsNode old) (KnowsNode new) node_stays u.program.nodes) us h

-- ---- configurations

module _ {S : Type 0} (old new : Config S) (g : Grows old.heap.texts new.heap.texts) (objects : (o : ObjId) → HasObject old o → HasObject new o) where
  value_there : (v : Value) → HasValue old v → HasValue new v
  value_there values.Undefined h = tt
  value_there values.Null h = tt
  value_there (values.Bool b) h = tt
  value_there (values.Number x) h = tt
  value_there (values.Text id) h = Grows-Has old.heap.texts new.heap.texts id g h
  value_there (values.Object o) h = objects o h

  name_there : (n : Name) → HasName old n → HasName new n
  name_there n h = Grows-IsName old.heap.texts new.heap.texts n g h

  label_there : (l : Option TextId) → HasLabel old l → HasLabel new l
  label_there None h = tt
  label_there (Some id) h = Grows-Has old.heap.texts new.heap.texts id g h

  reference_there : (r : Reference) → HasReference old r → HasReference new r
  reference_there (references.Local scope name) h = (objects scope h.0, name_there name h.1)
  reference_there (references.Global name) h = name_there name h
  reference_there (references.Member base name) h = (value_there base h.0, name_there name h.1)

  completion_there : (e : Completion) → HasCompletion old e → HasCompletion new e
  completion_there (completions.Gives v) h = value_there v h
  completion_there (completions.Refers r) h = reference_there r h
  completion_there completions.Normal h = tt
  completion_there (completions.Breaks l) h = label_there l h
  completion_there (completions.Continues l) h = label_there l h
  completion_there (completions.Returns v) h = value_there v h
  completion_there (completions.Throws v) h = value_there v h

  slot_there : (s : Slot) → HasSlot old s → HasSlot new s
  slot_there s h = (objects s.object h.0, name_there s.name h.1)

  item_there : (i : Held) → HasItem old i → HasItem new i
  item_there (holds.Value v) h = value_there v h
  item_there (holds.Reference r) h = reference_there r h
  item_there (holds.Callee f this) h = (value_there f h.0, value_there this h.1)
  item_there (holds.Elements o count) h = objects o h
  item_there (holds.Earlier e) h = completion_there e h
  item_there (holds.Visit s) h = slot_there s h

  items_there : (is : List Held) → HasItems old is → HasItems new is
  items_there [] h = tt
  items_there (i ∷ is) h = (item_there i h.0, items_there is h.1)

  operand_there : (o : Operand) → HasOperand old o → HasOperand new o
  operand_there (operands.Value v) h = value_there v h
  operand_there (operands.Name place id) h = Grows-Has old.heap.texts new.heap.texts id g h
  operand_there (operands.Target place id) h = Grows-Has old.heap.texts new.heap.texts id g h

  start_there : (s : Start) → HasStart old s → HasStart new s
  start_there (starts.Body f) h = objects f h
  start_there s h = tt

  module _ (meaning : S → Meaning) (has_worlds : (w : WorldId) → HasWorld meaning old w → HasWorld meaning new w) (keeps : Keeps old.heap.arena new.heap.arena) (units : new.units ≡ old.units) where
    frame_there : (f : Frame) → IsThere meaning old f → IsThere meaning new f
    frame_there f h = record {
      scope = objects f.scope h.scope;
      this = value_there f.this h.this;
      world = has_worlds f.world h.world;
      held = items_there f.held h.held;
      stands = subst (λ (us : Vec Program Global). FrameStands us.items new.heap.arena f) (sym units) (frame_kept old.heap.arena new.heap.arena keeps old.units.items f h.stands);
    }

    point_there : (f : Frame) (p : Point) → HasPoint old f p → HasPoint new f p
    point_there f p h = subst (λ (us : Vec Program Global). PointStands us.items new.heap.arena f.tree f.node f.scope p) (sym units) (point_kept old.heap.arena new.heap.arena keeps old.units.items f.tree f.node f.scope p h)

    phase_there : (f : Frame) (p : Phase) → HasPhase old f p → HasPhase new f p
    phase_there f (phases.Due start) h = start_there start h
    phase_there f (phases.Ready start) h = start_there start h
    phase_there f (phases.Waiting point) h = point_there f point h
    phase_there f (phases.Given point e) h = (point_there f point h.0, completion_there e h.1)
    phase_there f (phases.Entering point o) h = (point_there f point h.0, operand_there o h.1)

    stacked_there : (f : Frame) → IsStacked meaning old f → IsStacked meaning new f
    stacked_there f h = record { there = frame_there f h.there; phase = phase_there f f.phase h.phase }

    -- all that was there is there
    pub later_there : new.state ≡ old.state → new.global ≡ old.global → new.owner ≡ old.owner → Base meaning new → Later meaning old new
    later_there state global owner base = record {
      state = state;
      units = units;
      global = global;
      owner = owner;
      base = base;
      frames = frame_there;
      values = value_there;
      objects = objects;
      names = name_there;
      references = reference_there;
      completions = completion_there;
      items = items_there;
      worlds = has_worlds;
      arena = keeps;
      texts = g;
    }

-- on another heap the worlds have their owners, what is kept apart is so, and the functions stand
module _ {S : Type 0} (meaning : S → Meaning) where
  pub record StaysApart (old : Config S) (heap : Heap S) : Type 0 where
    pub worlds_own : (w : WorldId) → IsTrue (has_world (worlds (meaning heap.store)) w) → w.owner ≡ old.owner
    pub worlds_by : (o : ObjId) (e : Entry) (w : WorldId) → map.get heap.arena o ≡ Some e → e.object.world ≡ Some w → w.owner ≡ o.owner
    pub objects : (o : ObjId) (e : Entry) → map.get heap.arena o ≡ Some e → IsNear old.apart.items o → NamesNear old.apart.items e.object
    pub slots : NearSlots old.apart.items (worlds (meaning heap.store))
    pub functions : (o : ObjId) (e : Entry) → map.get heap.arena o ≡ Some e → FunctionStands old.units.items heap.arena e.object.code e.object.scope

-- on another heap
module _ {S : Type 0} (meaning : S → Meaning) (old : Config S) (heap : Heap S) (g : Grows old.heap.texts heap.texts) (keeps : Keeps old.heap.arena heap.arena)
    (has_worlds : (w : WorldId) → HasWorld meaning old w → IsTrue (has_world (worlds (meaning heap.store)) w)) where
  objects_on : (o : ObjId) → HasObject old o → HasObject (record old { heap = heap }) o
  objects_on o h = (has_kept old.heap.arena heap.arena keeps o h.0, h.1)

  pub base_on : Base meaning old → IsHeap (parts meaning heap) → KnowsWorlds heap.texts (worlds (meaning heap.store))
      → KnowsTold heap.texts (meaning heap.store).told → IsTrue (not (meaning heap.store).spent)
      → ((o : ObjId) (e : Entry) (w : WorldId) → map.get heap.arena o ≡ Some e → e.object.world ≡ Some w → w.owner ≡ old.owner → IsTrue (has_world (worlds (meaning heap.store)) w)) → StaysApart meaning old heap → Base meaning (record old { heap = heap })
  base_on b is_heap marks told works own apart = record {
    heap = is_heap;
    works = works;
    global = objects_on old.global b.global;
    world = has_worlds old.world b.world;
    builtins = λ k. objects_on _ (b.builtins k);
    units = units_stay old.heap.texts heap.texts g old.units.items b.units;
    places = placed_stay old.heap.texts heap.texts g old.units.items b.units b.places;
    functions = apart.functions;
    worlds_own = apart.worlds_own;
    worlds_by = apart.worlds_by;
    own_worlds = own;
    own = b.own;
    near_objects = apart.objects;
    near_slots = apart.slots;
    frames = All-weaker (IsStacked meaning old) (IsStacked meaning (record old { heap = heap })) (stacked_there old (record old { heap = heap }) g objects_on meaning has_worlds keeps refl) old.frames b.frames;
    marks = marks;
    told = told;
  }

  pub later_on : Base meaning old → IsHeap (parts meaning heap) → KnowsWorlds heap.texts (worlds (meaning heap.store))
      → KnowsTold heap.texts (meaning heap.store).told → IsTrue (not (meaning heap.store).spent)
      → ((o : ObjId) (e : Entry) (w : WorldId) → map.get heap.arena o ≡ Some e → e.object.world ≡ Some w → w.owner ≡ old.owner → IsTrue (has_world (worlds (meaning heap.store)) w)) → StaysApart meaning old heap → Later meaning old (record old { heap = heap })
  later_on b is_heap marks told works own apart = later_there old (record old { heap = heap }) g objects_on meaning has_worlds keeps refl refl refl refl (base_on b is_heap marks told works own apart)
