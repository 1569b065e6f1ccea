-- An object of which one field was looked up: the whole object with that field, as the arena has it.
use Rattle.std.proofs.Common.{◌≡◌, false, refl, List, Option, None, Some, IsTrue, is_some}
use Rattle.std.specs.Prelude.{IfSome}
use Rattle.std.specs.Option.{option_map_or}
use Rattle.wjs_base.specs.declared.ids.ObjId.{ObjId}
use Rattle.wjs_base.specs.declared.ids.WorldId.{WorldId}
use Rattle.wjs_base.specs.declared.values.Name.{Name}
use Rattle.wjs_base.specs.declared.values.Value.{Value}
use Rattle.wjs_arena.specs.declared.class.Class.{Class}
use Rattle.wjs_arena.specs.declared.object.Code.{Code}
use Rattle.wjs_arena.specs.declared.object.Object.{Object}
use Rattle.wjs_arena.specs.Entries.{Entry}
use Rattle.wjs_arena.specs.Chains.{flags_in, object_in}

-- the object of an entry, with one field as it was found
abbrev pub classed : Option Entry → Class → Object
classed r x = record (object_in r) { class = x }

abbrev pub prototyped : Option Entry → Option ObjId → Object
prototyped r x = record (object_in r) { prototype = x }

abbrev pub scoped : Option Entry → Option ObjId → Object
scoped r x = record (object_in r) { scope = x }

abbrev pub coded : Option Entry → Code → Object
coded r x = record (object_in r) { code = x }

abbrev pub holding : Option Entry → Value → Object
holding r x = record (object_in r) { primitive = x }

abbrev pub standing : Option Entry → Option WorldId → Object
standing r x = record (object_in r) { world = x }

-- ---- each is the entry's object

pub classed_is : (r : Option Entry) (x : Class) → IfSome r (λ (e : Entry). x ≡ e.object.class) → IfSome r (λ (e : Entry). classed r x ≡ e.object)
classed_is None x h = tt
classed_is (Some e) x h = λ i. record e.object { class = h i }

pub prototyped_is : (r : Option Entry) (x : Option ObjId) → IfSome r (λ (e : Entry). x ≡ e.object.prototype) → IfSome r (λ (e : Entry). prototyped r x ≡ e.object)
prototyped_is None x h = tt
prototyped_is (Some e) x h = λ i. record e.object { prototype = h i }

pub scoped_is : (r : Option Entry) (x : Option ObjId) → IfSome r (λ (e : Entry). x ≡ e.object.scope) → IfSome r (λ (e : Entry). scoped r x ≡ e.object)
scoped_is None x h = tt
scoped_is (Some e) x h = λ i. record e.object { scope = h i }

pub coded_is : (r : Option Entry) (x : Code) → IfSome r (λ (e : Entry). x ≡ e.object.code) → IfSome r (λ (e : Entry). coded r x ≡ e.object)
coded_is None x h = tt
coded_is (Some e) x h = λ i. record e.object { code = h i }

pub holding_is : (r : Option Entry) (x : Value) → IfSome r (λ (e : Entry). x ≡ e.object.primitive) → IfSome r (λ (e : Entry). holding r x ≡ e.object)
holding_is None x h = tt
holding_is (Some e) x h = λ i. record e.object { primitive = h i }

pub standing_is : (r : Option Entry) (x : Option WorldId) → IfSome r (λ (e : Entry). x ≡ e.object.world) → IfSome r (λ (e : Entry). standing r x ≡ e.object)
standing_is None x h = tt
standing_is (Some e) x h = λ i. record e.object { world = h i }

-- ---- lists that were found

pub fixed_found : (r : Option Entry) (found : List (Name × Value)) → IsTrue (is_some r) → IfSome r (λ (e : Entry). found ≡ e.object.fixed) → found ≡ (object_in r).fixed
fixed_found None found there h = cc
fixed_found (Some e) found there h = h

-- the attributes of a name are those that the object has for it
pub flags_object : (r : Option Entry) (n : Name) → option_map_or (λ (e : Entry). flags_in e.object n) r (record { hidden = false; kept = false }) ≡ flags_in (object_in r) n
flags_object None n = refl
flags_object (Some e) n = refl
