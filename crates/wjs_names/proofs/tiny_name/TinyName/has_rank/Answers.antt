use Rattle.std.proofs.Common.{◌∙◌, ap, arith}
use Rattle.std.specs.Ordering.{is_eq}
use Rattle.wjs_base.specs.Order.{name_cmp}
use Rattle.wjs_names.proofs.Tiny.{is_rank, rank_tells}
use Rattle.wjs_names.proofs.tiny_name.TinyName.has_rank.Goals as goal

pub returns : goal.returns
returns c = λ name e.
    c.eq.ensures ∙ ap (is_rank c.self.inside.rank) e ∙ rank_tells c.self.inside.rank name (omega arith) ∙ ap (λ x. is_eq (name_cmp name x)) c.self.view_is
