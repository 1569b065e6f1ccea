use Rattle.wjs_audit.proofs.Readings.{front_is, entries_one, reads_or_breaks, breaks_one, reads_or_breaks_some, spelled_is_read}
use Rattle.wjs_audit.proofs.laws.one_reading.Goals as goal

pub returns : goal.returns
returns c = record { front = front_is; entries = entries_one; either = reads_or_breaks; line = breaks_one; some = reads_or_breaks_some; spelled = spelled_is_read }
