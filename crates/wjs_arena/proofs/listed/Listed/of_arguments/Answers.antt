use Rattle.wjs_arena.specs.Hidden.{hidden_all}
use Rattle.wjs_arena.proofs.listed.Listed.of_arguments.Goals as goal

pub returns-in-Some-short_text : goal.returns-in-Some-short_text
returns-in-Some-short_text c = λ i. hidden_all (c.in-Some.ensures i) (c.in-Some-short_text.ensures i) c.args.count
