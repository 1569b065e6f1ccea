-- The slots of the first world, as the code has them.
use Rattle.std.specs.Prelude.{List, [], ◌∷◌, ◌++◌, None, codes}
use Rattle.wjs_by_content.specs.Values.{Value, Undefined, Number, String, Object, whole}
use Rattle.wjs_by_content.specs.Names.{slot, length_name}
use Rattle.wjs_meaning.specs.Builtins.{global_object, array_prototype, error_prototype, type_error_prototype, range_error_prototype, reference_error_prototype, math_object}
use Rattle.wjs_meaning.specs.Start.{Property, property, kept_property, error_properties}
use Rattle.wjs_start.specs.declared.properties.Given.{Given}
use Rattle.wjs_start.specs.declared.properties.Given.TheVariants as given
use Rattle.wjs_start.specs.declared.properties.Property.{Property as CodeProperty}

abbrev pub given_in : Given → Value
given_in given.Undefined = Undefined
given_in given.NotANumber = Number None
given_in given.Zero = whole 0
given_in (given.Text t) = String t.now
given_in (given.Object o) = Object o

abbrev pub property_in : CodeProperty → Property
property_in p = record { at = slot p.object p.name.now; value = given_in p.value; kept = p.kept }

-- those that are neither an error's nor a native
abbrev pub first_values : List Property
first_values =
    kept_property global_object (codes "NaN") (Number None) ∷
    kept_property global_object (codes "undefined") Undefined ∷
    property global_object (codes "Math") (Object math_object) ∷
    kept_property array_prototype length_name (whole 0) ∷
    []

-- those of the errors' prototype objects
abbrev pub error_values : List Property
error_values =
    error_properties error_prototype (codes "Error") ++
    error_properties type_error_prototype (codes "TypeError") ++
    error_properties range_error_prototype (codes "RangeError") ++
    error_properties reference_error_prototype (codes "ReferenceError")
