use Rattle.std.proofs.Common.{◌∙◌}
use Rattle.wjs_names.proofs.Tiny.{name_ranked}
use Rattle.wjs_names.proofs.tiny_name.TinyName.new.Goals as goal

pub returns : goal.returns
returns c = name_ranked c.in_ok-rank.rank c.name.result c.in_ok-rank.ensures ∙ c.name.ensures
