-- The objects of functions, by content.
use Rattle.std.proofs.Common.{◌≡◌, ℕ, List, [], ◌∷◌, Some, sym, ap, ◌∙◌, subst}
use Rattle.wjs_base.specs.declared.ids.ObjId.{ObjId}
use Rattle.wjs_base.specs.declared.ids.NodeId.{NodeId}
use Rattle.wjs_base.specs.declared.values.Name.{Name}
use Rattle.wjs_base.specs.declared.values.Value.{Value as NumberedValue}
use Rattle.wjs_base.specs.Spelling.{IsName}
use Rattle.wjs_base.specs.Text.{Table}
use Rattle.wjs_arena.specs.declared.class.Class.TheVariants as class
use Rattle.wjs_arena.specs.declared.object.Code.TheVariants as code
use Rattle.wjs_arena.specs.declared.object.Flags.{Flags}
use Rattle.wjs_arena.specs.declared.object.Object.{Object}
use Rattle.wjs_arena.specs.Entries.{Objects}
use Rattle.wjs_by_content.specs.Values.{Text, whole}
use Rattle.wjs_by_content.specs.Names.{length_name, prototype_name, constructor_name}
use Rattle.wjs_by_content.specs.Objects.{object_of, hidden_flags, kept_flags}
use Rattle.wjs_by_content.specs.Tables.{name_in, value_in, object_in}
use Rattle.wjs_heap.specs.Heap.{HasNamed}
use Rattle.wjs_meaning.specs.Builtins.{object_prototype, function_prototype}
use Rattle.wjs_meaning.specs.Functions.{prototype_object, function_object}
use Rattle.wjs_model.specs.Apart.{IsNear, NamesNear}
use Rattle.wjs_heap_steps.proofs.Making.{bare, number_there, number_near}

pub prototype_is : (t : Table) (x : Object) (p : ObjId) (flags : List (Name × Flags)) (name : Name) → x ≡ bare class.Plain (Some p) → p ≡ object_prototype → flags ≡ (name, hidden_flags) ∷ [] → name_in t name ≡ constructor_name → object_in t (record x { flags = flags }) ≡ prototype_object
prototype_is t x p flags name ex ep ef en =
    ap (λ (y : Object). object_in t (record y { flags = flags })) ex
    ∙ ap (λ (q : ObjId). object_in t (record (bare class.Plain (Some q)) { flags = flags })) ep
    ∙ ap (λ (fs : List (Name × Flags)). object_in t (record (bare class.Plain (Some object_prototype)) { flags = fs })) ef
    ∙ ap (λ (n : Text). record (object_of class.Plain (Some object_prototype)) { flags = (n, hidden_flags) ∷ [] }) en

-- a Function object as it is filled
abbrev pub filled : Object → ObjId → ℕ → NodeId → List (Name × NumberedValue) → List (Name × Flags) → Object
filled x scope tree body fixed flags = record x { scope = Some scope; code = code.Script tree body; fixed = fixed; flags = flags }

pub function_is : (t : Table) (x : Object) (p scope : ObjId) (tree body n : ℕ) (fixed : List (Name × NumberedValue)) (flags : List (Name × Flags)) (length prototype : Name) (count : NumberedValue)
    → x ≡ bare class.Function (Some p) → p ≡ function_prototype → fixed ≡ (length, count) ∷ [] → flags ≡ (prototype, kept_flags) ∷ [] → name_in t length ≡ length_name → name_in t prototype ≡ prototype_name → value_in t count ≡ whole n
    → object_in t (filled x scope tree (record { 0 = body }) fixed flags) ≡ function_object tree body n scope
function_is t x p scope tree body n fixed flags length prototype count ex ep ef eg el em ev =
    let at : NodeId = record { 0 = body } in
    ap (λ (y : Object). object_in t (filled y scope tree at fixed flags)) ex
    ∙ ap (λ (q : ObjId). object_in t (filled (bare class.Function (Some q)) scope tree at fixed flags)) ep
    ∙ ap (λ (fs : List (Name × NumberedValue)). object_in t (filled (bare class.Function (Some function_prototype)) scope tree at fs flags)) ef
    ∙ ap (λ (fs : List (Name × Flags)). object_in t (filled (bare class.Function (Some function_prototype)) scope tree at ((length, count) ∷ []) fs)) eg
    ∙ (λ i. record (object_of class.Function (Some function_prototype)) { scope = Some scope; code = code.Script tree at; fixed = (el i, ev i) ∷ []; flags = (em i, kept_flags) ∷ [] })

pub function_named : (texts : Table) (arena : Objects) (x : Object) (p scope : ObjId) (tree : ℕ) (body : NodeId) (n : ℕ) (fixed : List (Name × NumberedValue)) (flags : List (Name × Flags)) (length prototype : Name) (count : NumberedValue)
    → x ≡ bare class.Function (Some p) → fixed ≡ (length, count) ∷ [] → flags ≡ (prototype, kept_flags) ∷ [] → IsName texts length → IsName texts prototype → value_in texts count ≡ whole n
    → HasNamed texts arena (filled x scope tree body fixed flags)
function_named texts arena x p scope tree body n fixed flags length prototype count ex ef eg hl hp ev =
    subst (λ (y : Object). HasNamed texts arena (filled y scope tree body fixed flags)) (sym ex) (
    subst (λ (fs : List (Name × NumberedValue)). HasNamed texts arena (filled (bare class.Function (Some p)) scope tree body fs flags)) (sym ef) (
    subst (λ (fs : List (Name × Flags)). HasNamed texts arena (filled (bare class.Function (Some p)) scope tree body ((length, count) ∷ []) fs)) (sym eg) (
    record { primitive = tt; fixed = ((hl, number_there texts texts arena count n ev), tt); flags = (hp, tt) })))

-- and near
pub function_near : (apart : List ℕ) (texts : Table) (x : Object) (p scope : ObjId) (tree : ℕ) (body : NodeId) (n : ℕ) (fixed : List (Name × NumberedValue)) (flags : List (Name × Flags)) (length : Name) (count : NumberedValue)
    → x ≡ bare class.Function (Some p) → fixed ≡ (length, count) ∷ [] → value_in texts count ≡ whole n → IsNear apart p → IsNear apart scope → NamesNear apart (filled x scope tree body fixed flags)
function_near apart texts x p scope tree body n fixed flags length count ex ef ev hp hs =
    subst (λ (y : Object). NamesNear apart (filled y scope tree body fixed flags)) (sym ex) (
    subst (λ (fs : List (Name × NumberedValue)). NamesNear apart (filled (bare class.Function (Some p)) scope tree body fs flags)) (sym ef) (
    record { prototype = hp; scope = hs; primitive = tt; fixed = (number_near apart texts count n ev, tt) }))
