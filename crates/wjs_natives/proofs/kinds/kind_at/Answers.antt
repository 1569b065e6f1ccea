use Rattle.std.proofs.Common.{◌-◌, sym, ap, ◌∙◌, arith}
use Rattle.std.specs.Prelude.{Some, slice_get}
use Rattle.wjs_meaning.specs.Kinds.{kinds_of}
use Rattle.wjs_meaning.specs.Natives.{kinds, kind_of_this}
use Rattle.wjs_meaning.specs.Table.{Row}
use Rattle.wjs_natives.specs.Kinds.{conversions}
use Rattle.wjs_natives.proofs.Tables.{get_past}
use Rattle.wjs_natives.proofs.kinds.kind_at.Goals as goal

pub returns-then-at-eq0 : goal.returns-then-at-eq0
returns-then-at-eq0 c =
    ap (λ (r : Row). Some r.this) c.row_of-row.ensures ∙ ap (slice_get (conversions c.args.native c.args.given)) (sym c.if-at-eq0.true)

pub returns-else-at-eq0 : goal.returns-else-at-eq0
returns-else-at-eq0 c =
    c.argument_kind.ensures
    ∙ ap (λ (r : Row). slice_get (kinds_of r.arguments c.args.given) (c.args.at - 1)) c.row_of-row.ensures
    ∙ get_past (kind_of_this c.args.native) (kinds c.args.native c.args.given) c.args.at (omega (arith, c.if-at-eq0.false))
