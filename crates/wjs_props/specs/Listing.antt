-- Sets of names, and the visits of one object, by the numbers of texts.
use Rattle.std.specs.Prelude.{◌≡◌, Bool, not, ◌||◌, List, map as each, filter}
use Rattle.std.specs.BTreeSet.{BTreeSet, contains}
use Rattle.std.specs.List.{list_any}
use Rattle.std.specs.Ordering.{eq_by_cmp}
use Rattle.wjs_base.specs.declared.ids.ObjId.{ObjId}
use Rattle.wjs_base.specs.declared.values.Name.{Name}
use Rattle.wjs_base.specs.Order.{name_cmp}
use Rattle.wjs_props.specs.declared.visits.Visit.{Visit}

-- whether the name is in the set
abbrev pub is_in : BTreeSet Name → Name → Bool
is_in set n = contains name_cmp set n

-- whether the name is in the list
abbrev pub is_among : List Name → Name → Bool
is_among names n = list_any (eq_by_cmp name_cmp n) names

-- the names that stand first
abbrev pub names_under : {A : Type 0} → List (Name × A) → List Name
names_under xs = each (λ x. x.0) xs

-- the set got these names
abbrev pub Adds : BTreeSet Name → BTreeSet Name → List Name → Type 0
Adds old new names = (n : Name) → is_in new n ≡ (is_among names n || is_in old n)

-- a visit of an object's name
abbrev pub visit_of : ObjId → Name → Visit
visit_of o n = record { object = o; name = n }

-- of these names of an object those that are in neither set
abbrev pub visits_of : ObjId → (Name → Bool) → (Name → Bool) → List Name → List Visit
visits_of o hidden seen names = each (visit_of o) (filter (λ n. not (hidden n || seen n)) names)
