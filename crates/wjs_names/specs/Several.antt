-- Several rows of one object are put in.
use Rattle.std.specs.Prelude.{List, fold}
use Rattle.std.specs.FinMap as map
use Rattle.std.specs.FinMap.{FinMap}
use Rattle.std.specs.FinMap.Entries.{put}
use Rattle.wjs_base.specs.declared.values.Name.{Name}
use Rattle.wjs_base.specs.Order.{name_cmp}

-- one after another
abbrev pub with_rows : {V : Type 0} → List (Name × V) → FinMap name_cmp V → FinMap name_cmp V
with_rows rows m = fold (λ n row. map.insert n row.0 row.1) m rows

-- the same of a list in the order of names
abbrev pub put_all : {V : Type 0} → List (Name × V) → List (Name × V) → List (Name × V)
put_all rows es = fold (λ fs row. put name_cmp row.0 row.1 fs) es rows
