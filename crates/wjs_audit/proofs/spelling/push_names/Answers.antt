use Rattle.std.specs.String.{string_bytes}
use Rattle.wjs_audit.specs.Logs.{FitsName}
use Rattle.wjs_audit.proofs.Pushes.{names_more, All-next}
use Rattle.wjs_audit.proofs.spelling.push_names.Goals as goal

pub loop-place-preserved : goal.loop-place-preserved
loop-place-preserved c = (
  names_more (string_bytes c.args.out.now) (string_bytes c.loop-place.out) (string_bytes c.push_name.new.out) c.args.names.now c.loop-place.place c.at.result c.loop-place.invariant.0 c.in_ok-push_name.ensures.text c.at.ensures,
  All-next FitsName c.args.names.now c.loop-place.place c.at.result c.at.ensures c.loop-place.invariant.1 c.in_ok-push_name.ensures.fits,
)
