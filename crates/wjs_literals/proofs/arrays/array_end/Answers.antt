use Rattle.wjs_by_content.specs.Values.{Object}
use Rattle.wjs_meaning.specs.Deeds.{give}
use Rattle.wjs_literals.proofs.arrays.array_end.Goals as goal

pub returns : goal.returns
returns g c = c.in_ok-write_length.ensures.does.by (give (Object c.args.array)) c.finish.new.config c.finish.result c.finish.ensures
