use Rattle.wjs_audit.proofs.Said.{no_write}
use Rattle.wjs_audit.proofs.line.write_of.Goals as goal

pub returns-in_err-row : goal.returns-in_err-row
returns-in_err-row c = rw c.from_residual.ensures (λ parts are e. no_write c.args.known.now parts (c.in_err-row.ensures parts are e))
