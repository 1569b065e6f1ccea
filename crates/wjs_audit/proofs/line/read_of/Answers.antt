use Rattle.wjs_audit.proofs.Said.{no_read}
use Rattle.wjs_audit.proofs.line.read_of.Goals as goal

pub returns-in_err-row : goal.returns-in_err-row
returns-in_err-row c = rw c.from_residual.ensures (λ parts are e. no_read c.args.known.now parts (c.in_err-row.ensures parts are e))
