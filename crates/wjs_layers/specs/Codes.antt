-- How contents and rows are told apart.
use Rattle.std.specs.Prelude.{Bool, Option, refl}
use Rattle.std.specs.Coded.{Coded, code_by, coded×, coded_bool, coded_option}
use Rattle.wjs_base.specs.contracts.values.Content as content
use Rattle.wjs_base.specs.declared.values.Content.{Content}
use Rattle.wjs_layers.specs.declared.maps.Row.{Row}

abbrev pub coded_content : Coded Content
coded_content = (content.the_row).coded

abbrev pub coded_row : Coded Row
coded_row = code_by (Option Content × (Content × Bool)) (coded× (coded_option coded_content) (coded× coded_content coded_bool)) (λ w. (w.read, (w.now, w.written))) (λ p. record { read = p.0; now = p.1.0; written = p.1.1 }) (λ _. refl)
