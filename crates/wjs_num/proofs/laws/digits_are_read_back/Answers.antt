use Rattle.wjs_num.proofs.ReadBack.{radix_reads_back, decimal_reads_back}
use Rattle.wjs_num.proofs.laws.digits_are_read_back.Goals as goal

pub returns : goal.returns
returns c = record { radix = radix_reads_back; decimal = decimal_reads_back }
