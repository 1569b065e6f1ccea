-- What `new` makes its object on.
use Rattle.std.proofs.Common.{◌≡◌, List, refl}
use Rattle.wjs_base.specs.declared.ids.ObjId.{ObjId}
use Rattle.wjs_base.specs.declared.values.Value.{Value}
use Rattle.wjs_base.specs.declared.values.Value.TheVariants as values
use Rattle.wjs_base.specs.Text.{Table}
use Rattle.wjs_by_content.specs.Tables.{value_in}
use Rattle.wjs_by_content.specs.Values.{Value as Said}
use Rattle.wjs_meaning.specs.Builtins.{object_prototype}
use Rattle.wjs_meaning.specs.Constructions.{new_prototype, new_on}
use Rattle.wjs_meaning.specs.Deeds.{Env}

-- a `prototype` that is no object counts as that of plain objects
pub plain_prototype : (t : Table) (v : Value) (f : ObjId) (vs : List Said) (env : Env) → ((o : ObjId) → v ≡ values.Object o → ⊥) → new_prototype f vs env (value_in t v) ≡ new_on object_prototype f vs env
plain_prototype t values.Undefined f vs env h = refl
plain_prototype t values.Null f vs env h = refl
plain_prototype t (values.Bool b) f vs env h = refl
plain_prototype t (values.Number x) f vs env h = refl
plain_prototype t (values.Text id) f vs env h = refl
plain_prototype t (values.Object o) f vs env h = absurd (h o refl)
