use Rattle.std.proofs.Common.{◌≡◌, ◌∙◌, None, ap, sym, subst}
use Rattle.std.specs.FinMap.Entries.{find, put}
use Rattle.wjs_base.specs.Order.{name_cmp}
use Rattle.wjs_names.specs.Kept.{rows_of, is_past_three}
use Rattle.wjs_names.specs.Lists.{IsInOrder}
use Rattle.wjs_names.proofs.Shorts.{if_some}
use Rattle.wjs_names.proofs.kept.Kept.with_fourth.Goals as goal

pub new-requires-clause-ordered : goal.new-requires-clause-ordered
new-requires-clause-ordered g c = subst (λ k. IsInOrder name_cmp (rows_of k)) c.in-Three.is c.requires.ordered

pub new-requires-clause-none : goal.new-requires-clause-none
new-requires-clause-none g c = subst (λ k. find name_cmp c.args.row.0 (rows_of k) ≡ None) c.in-Three.is (c.requires.absent (ap is_past_three c.in-Three.is))

pub returns-in-Three-clause-put : goal.returns-in-Three-clause-put
returns-in-Three-clause-put g c = if_some c.new.result (λ four e. e ∙ ap (λ k. put name_cmp c.args.row.0 c.args.row.1 (rows_of k)) (sym c.in-Three.is)) c.new.ensures

pub returns-in-Three-clause-none : goal.returns-in-Three-clause-none
returns-in-Three-clause-none g c = if_some c.new.result (λ four e. c.requires.absent (ap is_past_three c.in-Three.is)) c.new.ensures
