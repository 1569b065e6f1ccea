use Rattle.std.proofs.Common.{ap, sym, ◌∙◌}
use Rattle.std.specs.FinMap as map
use Rattle.wjs_layers.specs.Marks.{reads_in, writes_in, has_written}
use Rattle.wjs_layers.proofs.Shapes.{rows_first}
use Rattle.wjs_layers.proofs.Tables.{first_reads, first_writes, first_unwritten}
use Rattle.wjs_layers.proofs.layer.Layer.is_first.Goals as goal

pub returns-in-First-clause-reads : goal.returns-in-First-clause-reads
returns-in-First-clause-reads c = λ e. ap (λ m. reads_in (map.entries m)) (sym (rows_first c.self.inside c.args.self.now c.self.view_is c.in-First.field-0 c.in-First.is)) ∙ first_reads c.in-First.field-0

pub returns-in-First-clause-writes : goal.returns-in-First-clause-writes
returns-in-First-clause-writes c = λ e. ap (λ m. writes_in (map.entries m)) (sym (rows_first c.self.inside c.args.self.now c.self.view_is c.in-First.field-0 c.in-First.is)) ∙ first_writes c.in-First.field-0

pub returns-in-First-clause-written : goal.returns-in-First-clause-written
returns-in-First-clause-written c = λ e slot. ap (λ m. has_written m slot) (sym (rows_first c.self.inside c.args.self.now c.self.view_is c.in-First.field-0 c.in-First.is)) ∙ first_unwritten c.in-First.field-0 slot
