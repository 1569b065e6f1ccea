use Rattle.std.proofs.Common.{◌∙◌, is_some, ap, sym, subst}
use Rattle.std.specs.FinMap.Entries.{find}
use Rattle.wjs_base.specs.Order.{name_cmp}
use Rattle.wjs_names.specs.Lists.{IsInOrder, without}
use Rattle.wjs_names.specs.Kept.{rows_of}
use Rattle.wjs_names.proofs.Lists.{nothing_without}
use Rattle.wjs_names.proofs.kept.Kept.remove_of_four.Goals as goal

pub without-requires : goal.without-requires
without-requires g c = subst (IsInOrder name_cmp) (sym c.requires.four) c.requires.ordered

pub returns-in-None-clause-removed : goal.returns-in-None-clause-removed
returns-in-None-clause-removed g c = sym (nothing_without name_cmp c.args.name (rows_of c.args.self.now) (ap (find name_cmp c.args.name) (sym c.requires.four) ∙ c.in-None.ensures))

pub returns-in-None-clause-found : goal.returns-in-None-clause-found
returns-in-None-clause-found g c = sym (ap is_some (ap (find name_cmp c.args.name) (sym c.requires.four) ∙ c.in-None.ensures))

pub returns-in-Some-clause-removed : goal.returns-in-Some-clause-removed
returns-in-Some-clause-removed g c = c.kept_of.ensures ∙ c.in-Some.ensures.0 ∙ ap (without name_cmp c.args.name) c.requires.four

pub returns-in-Some-clause-found : goal.returns-in-Some-clause-found
returns-in-Some-clause-found g c = sym (ap (λ rows. is_some (find name_cmp c.args.name rows)) (sym c.requires.four) ∙ c.in-Some.ensures.1)
