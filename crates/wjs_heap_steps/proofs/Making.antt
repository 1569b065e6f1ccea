-- Objects that are made.
use Rattle.std.proofs.Common.{◌≡◌, ℕ, ◌≤◌, true, false, List, [], ◌∷◌, length, take, arith, Option, None, Some, refl, sym, ap, ◌∙◌, subst}
use Rattle.std.specs.Prelude.{IfSome, OnOk}
use Rattle.wjs_base.specs.declared.ids.ObjId.{ObjId}
use Rattle.wjs_base.specs.declared.ids.WorldId.{WorldId}
use Rattle.wjs_base.specs.declared.ids.TextId.{TextId}
use Rattle.wjs_base.specs.declared.values.Name.{Name}
use Rattle.wjs_base.specs.declared.values.Value.{Value as NumberedValue}
use Rattle.wjs_base.specs.declared.values.Value.TheVariants as values
use Rattle.wjs_base.specs.Spelling.{IsName}
use Rattle.std.proofs.lemmas.List.{length-take}
use Rattle.wjs_base.specs.Text.{Table, longest}
use Rattle.wjs_store.specs.Meaning.{Meaning}
use Rattle.wjs_arena.specs.declared.class.Class.{Class}
use Rattle.wjs_arena.specs.declared.class.Class.TheVariants as class
use Rattle.wjs_arena.specs.declared.object.Flags.{Flags}
use Rattle.wjs_by_content.specs.Renamed.{Holds}
use Rattle.wjs_arena.specs.declared.object.Code.{Code}
use Rattle.wjs_arena.specs.declared.object.Code.TheVariants as code
use Rattle.wjs_arena.specs.declared.object.Object.{Object}
use Rattle.wjs_arena.specs.Entries.{Objects}
use Rattle.wjs_by_content.specs.Objects.{Internals, object_of, hidden_kept_flags}
use Rattle.wjs_by_content.specs.Names.{length_name, message_name}
use Rattle.wjs_by_content.specs.Tables.{text_in, name_in, value_in, under_in, object_in}
use Rattle.wjs_by_content.specs.Values.{Text, Value, String, whole}
use Rattle.wjs_heap.specs.Heap.{HasNamed, HasValue}
use Rattle.wjs_meaning.specs.declared.trouble.Trouble.{Trouble}
use Rattle.wjs_meaning.specs.declared.trouble.Trouble.TheVariants as troubles
use Rattle.wjs_meaning.specs.Builtins.{array_prototype, string_prototype, world_prototype, wrapper_of}
use Rattle.wjs_meaning.specs.Errors.{message_of, prototype_of, fixed_name, error_of}
use Rattle.wjs_meaning.specs.NewObjects.{array_object}
use Rattle.wjs_meaning.specs.WorldValues.{world_object_of}
use Rattle.wjs_meaning.specs.Deeds.{Do, Create}
use Rattle.wjs_model.specs.declared.config.Config.{Config}
use Rattle.wjs_model.specs.declared.loaded.LoadedProgram.{LoadedProgram as Program}
use Rattle.wjs_model.specs.Standing.{FunctionStands}
use Rattle.wjs_model.specs.Apart.{IsNear, NearValue, NearIf, NamesNear}
use Rattle.wjs_frames.specs.Doing.{Does}
use Rattle.wjs_frames.specs.Following.{Follows, Later}

-- an object of a class on a prototype
abbrev pub bare : Class → Option ObjId → Object
bare class prototype = record { class = class; prototype = prototype; scope = None; code = code.None; primitive = values.Undefined; world = None; fixed = []; flags = []; all_kept = false }

pub bare_named : (texts : Table) (arena : Objects) (class : Class) (p : Option ObjId) → HasNamed texts arena (bare class p)
bare_named texts arena class p = record { primitive = tt; fixed = tt; flags = tt }

pub no_world : (w : Option WorldId) (P : WorldId → Type 0) → w ≡ None → IfSome w P
no_world None P e = tt
no_world (Some x) P e = absurd (cc)

-- what is no function stands nowhere
pub no_code : (units : List Program) (arena : Objects) (x : Object) (scope : Option ObjId) → x.code ≡ code.None → FunctionStands units arena x.code scope
no_code units arena x scope e = subst (λ (q : Code). FunctionStands units arena q scope) (sym e) tt

pub none_some : {A B : Type 0} (r : Option A) (a : A) → r ≡ None → r ≡ Some a → B
none_some None a e q = cc
none_some (Some b) a e q = cc

-- ---- what is made, by content

module _ (t : Table) (x : Object) (p : ObjId) where
  pub array_is : (flags : List (Name × Flags)) (name : Name) → x ≡ bare class.Array (Some p) → p ≡ array_prototype → flags ≡ (name, hidden_kept_flags) ∷ [] → name_in t name ≡ length_name → object_in t (record x { flags = flags }) ≡ array_object
  array_is flags name xe pe fe ne =
      ap (λ (y : Object). object_in t (record y { flags = flags })) xe
      ∙ ap (λ (q : ObjId). object_in t (record (bare class.Array (Some q)) { flags = flags })) pe
      ∙ ap (λ (fs : List (Name × Flags)). object_in t (record (bare class.Array (Some array_prototype)) { flags = fs })) fe
      ∙ ap (λ (n : Text). record (object_of class.Array (Some array_prototype)) { flags = (n, hidden_kept_flags) ∷ [] }) ne

  pub wrapper_is : (kind : Class) (q : ObjId) (v : NumberedValue) → x ≡ bare kind (Some p) → p ≡ q → object_in t (record x { primitive = v }) ≡ record (object_of kind (Some q)) { primitive = value_in t v }
  wrapper_is kind q v xe pe =
      ap (λ (y : Object). object_in t (record y { primitive = v })) xe
      ∙ ap (λ (r : ObjId). object_in t (record (bare kind (Some r)) { primitive = v })) pe

  pub text_wrapper_is : (id : TextId) (fixed : List (Name × NumberedValue)) (name : Name) (size : NumberedValue) → x ≡ bare class.Text (Some p) → p ≡ string_prototype → fixed ≡ (name, size) ∷ [] → name_in t name ≡ length_name → value_in t size ≡ whole (length (text_in t id))
      → object_in t (record x { primitive = values.Text id; fixed = fixed }) ≡ wrapper_of (String (text_in t id))
  text_wrapper_is id fixed name size xe pe fe ne se =
      ap (λ (y : Object). object_in t (record y { primitive = values.Text id; fixed = fixed })) xe
      ∙ ap (λ (q : ObjId). object_in t (record (bare class.Text (Some q)) { primitive = values.Text id; fixed = fixed })) pe
      ∙ ap (λ (fs : List (Name × NumberedValue)). object_in t (record (bare class.Text (Some string_prototype)) { primitive = values.Text id; fixed = fs })) fe
      ∙ (λ i. record (object_of class.Text (Some string_prototype)) { primitive = String (text_in t id); fixed = (ne i, se i) ∷ [] })

  pub fault_is : (fixed : List (Name × NumberedValue)) (trouble : Trouble) (name message : Text) → x ≡ bare class.Fault (Some p) → p ≡ prototype_of trouble → under_in t (value_in t) fixed ≡ (message_name, String message) ∷ fixed_name trouble → message ≡ message_of trouble name
      → object_in t (record x { fixed = fixed }) ≡ error_of trouble name
  fault_is fixed trouble name message xe pe fe me =
      ap (λ (y : Object). object_in t (record y { fixed = fixed })) xe
      ∙ ap (λ (q : ObjId). object_in t (record (bare class.Fault (Some q)) { fixed = fixed })) pe
      ∙ ap (λ (fs : List (Text × Value)). record (object_of class.Fault (Some (prototype_of trouble))) { fixed = fs }) (fe ∙ ap (λ (said : Text). (message_name, String said) ∷ fixed_name trouble) me)

  pub world_object_is : (w : WorldId) → x ≡ bare class.World (Some p) → p ≡ world_prototype → object_in t (record x { world = Some w }) ≡ world_object_of w
  world_object_is w xe pe =
      ap (λ (y : Object). object_in t (record y { world = Some w })) xe
      ∙ ap (λ (q : ObjId). object_in t (record (bare class.World (Some q)) { world = Some w })) pe

-- only the error of a commit has a name of its own
pub other_fixed : (trouble : Trouble) → (trouble ≡ troubles.CommitFailed → ⊥) → fixed_name trouble ≡ []
other_fixed troubles.CommitFailed h = absurd (h refl)
other_fixed trouble h = refl

pub take_short : (xs l : List ℕ) → xs ≡ take longest l → length xs ≤ longest
take_short xs l e = subst (λ (ys : List ℕ). length ys ≤ longest) (sym e) (omega (arith, length-take longest l))

-- a number is no text and no object
pub number_there : (texts t : Table) (arena : Objects) (v : NumberedValue) (n : ℕ) → value_in t v ≡ whole n → HasValue texts arena v
number_there texts t arena values.Undefined n e = tt
number_there texts t arena values.Null n e = tt
number_there texts t arena (values.Bool b) n e = tt
number_there texts t arena (values.Number x) n e = tt
number_there texts t arena (values.Text id) n e = absurd (cc)
number_there texts t arena (values.Object o) n e = absurd (cc)

-- what is named is there
module _ (texts : Table) (arena : Objects) (x : Object) (kind : Class) (p : Option ObjId) (xe : x ≡ bare kind p) where
  pub flagged_named : (flags : List (Name × Flags)) → Holds (λ e. IsName texts e.0) flags → HasNamed texts arena (record x { flags = flags })
  flagged_named flags h = subst (λ (y : Object). HasNamed texts arena (record y { flags = flags })) (sym xe) (record { primitive = tt; fixed = tt; flags = h })

  pub holding_named : (v : NumberedValue) (fixed : List (Name × NumberedValue)) → HasValue texts arena v → Holds (λ e. IsName texts e.0 × HasValue texts arena e.1) fixed → HasNamed texts arena (record x { primitive = v; fixed = fixed })
  holding_named v fixed hv hf = subst (λ (y : Object). HasNamed texts arena (record y { primitive = v; fixed = fixed })) (sym xe) (record { primitive = hv; fixed = hf; flags = tt })

  pub fixed_named : (fixed : List (Name × NumberedValue)) → Holds (λ e. IsName texts e.0 × HasValue texts arena e.1) fixed → HasNamed texts arena (record x { fixed = fixed })
  fixed_named fixed hf = subst (λ (y : Object). HasNamed texts arena (record y { fixed = fixed })) (sym xe) (record { primitive = tt; fixed = hf; flags = tt })

  pub primitive_named : (v : NumberedValue) → HasValue texts arena v → HasNamed texts arena (record x { primitive = v })
  primitive_named v hv = subst (λ (y : Object). HasNamed texts arena (record y { primitive = v })) (sym xe) (record { primitive = hv; fixed = tt; flags = tt })

  pub world_named : (w : Option WorldId) → HasNamed texts arena (record x { world = w })
  world_named w = subst (λ (y : Object). HasNamed texts arena (record y { world = w })) (sym xe) (record { primitive = tt; fixed = tt; flags = tt })

-- and near
module _ (apart : List ℕ) (x : Object) (kind : Class) (p : Option ObjId) (xe : x ≡ bare kind p) (hp : NearIf apart p) where
  pub near_bare : NamesNear apart x
  near_bare = subst (NamesNear apart) (sym xe) (record { prototype = hp; scope = tt; primitive = tt; fixed = tt })

  pub near_flagged : (flags : List (Name × Flags)) → NamesNear apart (record x { flags = flags })
  near_flagged flags = subst (λ (y : Object). NamesNear apart (record y { flags = flags })) (sym xe) (record { prototype = hp; scope = tt; primitive = tt; fixed = tt })

  pub near_scope : (outer : ObjId) → IsNear apart outer → NamesNear apart (record x { scope = Some outer; all_kept = true })
  near_scope outer h = subst (λ (y : Object). NamesNear apart (record y { scope = Some outer; all_kept = true })) (sym xe) (record { prototype = hp; scope = h; primitive = tt; fixed = tt })

  pub near_holding : (v : NumberedValue) (fixed : List (Name × NumberedValue)) → NearValue apart v → Holds (λ e. NearValue apart e.1) fixed → NamesNear apart (record x { primitive = v; fixed = fixed })
  near_holding v fixed hv hf = subst (λ (y : Object). NamesNear apart (record y { primitive = v; fixed = fixed })) (sym xe) (record { prototype = hp; scope = tt; primitive = hv; fixed = hf })

  pub near_fixed : (fixed : List (Name × NumberedValue)) → Holds (λ e. NearValue apart e.1) fixed → NamesNear apart (record x { fixed = fixed })
  near_fixed fixed hf = subst (λ (y : Object). NamesNear apart (record y { fixed = fixed })) (sym xe) (record { prototype = hp; scope = tt; primitive = tt; fixed = hf })

  pub near_primitive : (v : NumberedValue) → NearValue apart v → NamesNear apart (record x { primitive = v })
  near_primitive v hv = subst (λ (y : Object). NamesNear apart (record y { primitive = v })) (sym xe) (record { prototype = hp; scope = tt; primitive = hv; fixed = tt })

  pub near_world : (w : Option WorldId) → NamesNear apart (record x { world = w })
  near_world w = subst (λ (y : Object). NamesNear apart (record y { world = w })) (sym xe) (record { prototype = hp; scope = tt; primitive = tt; fixed = tt })

-- a number names no object
pub number_near : (apart : List ℕ) (t : Table) (v : NumberedValue) (n : ℕ) → value_in t v ≡ whole n → NearValue apart v
number_near apart t values.Undefined n e = tt
number_near apart t values.Null n e = tt
number_near apart t (values.Bool b) n e = tt
number_near apart t (values.Number x) n e = tt
number_near apart t (values.Text id) n e = tt
number_near apart t (values.Object o) n e = absurd (cc)

module _ {S : Type 0} (meaning : S → Meaning) where
  -- something is found without a deed, and then an object is made
  pub made_after : {A : Type 0} (said : Table → A) (shown : Table → A) (internals : Table → Internals) (o : ObjId) (old mid new : Config S) → Does meaning (λ t go. go (said t)) shown old mid → Later meaning old mid
      → Does meaning (λ t go. Do (Create mid.owner (internals t)) go) (λ t. o) mid new → Does meaning (λ t go. Do (Create old.owner (internals t)) go) (λ t. o) old new
  made_after said shown internals o old mid new n l d = record {
    by = λ go later r h.
        let t = later.heap.texts in
        n.by (λ x. Do (Create old.owner (internals t)) go) later r (subst (λ owner. OnOk r (Follows meaning (Do (Create owner (internals t)) go) mid later)) l.owner (d.by go later r h));
  }
