-- What stands around a statement, as the code keeps it.
use Rattle.std.specs.Prelude.{List, [], ◌∷◌}
use Rattle.wjs_base.specs.declared.ids.TextId.{TextId}
use Rattle.wjs_tree.specs.Jumps.{Around, if_loop}
use Rattle.wjs_labels.specs.declared.around.Labels.{Labels, Outermost, Within'}
use Rattle.wjs_labels.specs.declared.around.Around.{Around as Kept}

-- the labels
abbrev pub labels_of : Labels → List TextId
labels_of Outermost = []
labels_of (Within' x is_loop place outer) = x ∷ labels_of outer

-- those of them whose statement is a loop
abbrev pub loops_of : Labels → List TextId
loops_of Outermost = []
loops_of (Within' x is_loop place outer) = if_loop is_loop x (loops_of outer)

abbrev pub around_of : Kept → Around
around_of a = record { function = a.function; loop = a.in_loop; switch = a.in_switch; labels = labels_of a.labels.now; loops = loops_of a.labels.now }
