-- A store to a member of a primitive does nothing.
use Rattle.std.proofs.Common.{◌≡◌, refl}
use Rattle.wjs_base.specs.declared.ids.ObjId.{ObjId}
use Rattle.wjs_base.specs.declared.values.Name.{Name}
use Rattle.wjs_base.specs.declared.values.Value.{Value}
use Rattle.wjs_base.specs.declared.values.Value.TheVariants as values
use Rattle.wjs_base.specs.Text.{Table}
use Rattle.wjs_by_content.specs.Values.{Value as Said}
use Rattle.wjs_meaning.specs.Deeds.{Env, Act}
use Rattle.wjs_meaning.specs.References.{store}
use Rattle.wjs_model.specs.declared.frame.Reference.TheVariants as references
use Rattle.wjs_model.specs.Contents.{reference_in}

pub store_stays : (t : Table) (base : Value) (name : Name) (v : Said) (env : Env) (act : Act) → ((o : ObjId) → base ≡ values.Object o → ⊥) → store (reference_in t (references.Member base name)) v env act ≡ act
store_stays t values.Undefined name v env act h = refl
store_stays t values.Null name v env act h = refl
store_stays t (values.Bool b) name v env act h = refl
store_stays t (values.Number x) name v env act h = refl
store_stays t (values.Text id) name v env act h = refl
store_stays t (values.Object o) name v env act h = absurd (h o refl)
