use Rattle.wjs_by_content.proofs.Fixed.{fixed_same, flags_same, puttable_same}
use Rattle.wjs_by_content.proofs.arenas.names_by_content.Goals as goal

pub returns : goal.returns
returns c = λ texts objects k o n l. record { fixed_values = fixed_same texts objects k o n l; attributes = flags_same texts objects k o n l; puttable = puttable_same texts objects k o n l }
