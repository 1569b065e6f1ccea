use Rattle.std.proofs.Common.{◌≡◌, ◌-◌, length}
use Rattle.std.specs.Prelude.{map}
use Rattle.wjs_by_content.specs.Tables.{value_in}
use Rattle.wjs_frames.specs.Parts.{env_in}
use Rattle.wjs_natives.specs.Kinds.{conversions}
use Rattle.wjs_natives.specs.Converting.{converting}
use Rattle.wjs_natives.proofs.Coming.{Reached}
use Rattle.wjs_natives.proofs.conversions.convert_rest.Given as goal

abbrev pub invariant-values : goal.invariant-values
invariant-values g l =
    let m = g.S.WorldStore.meaning in
    (l.frame ≡ l.initial.frame) × Reached m l.native l.by_new l.initial.frame l.given (λ t. converting l.native l.by_new l.given (map (value_in t) l.initial.values.items) l.initial.at (env_in m l.initial.config t l.initial.frame)) l.initial.config l.config l.values.items l.at

abbrev pub decreases-values : goal.decreases-values
decreases-values g l = length (conversions l.native l.given) - l.at
