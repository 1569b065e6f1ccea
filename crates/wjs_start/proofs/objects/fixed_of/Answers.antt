use Rattle.std.proofs.Common.{List, [], sym, subst, refl}
use Rattle.wjs_base.specs.declared.values.Name.{Name}
use Rattle.wjs_base.specs.declared.values.Value.{Value as NumberedValue}
use Rattle.wjs_start.specs.Blueprints.{length_part}
use Rattle.wjs_start.specs.Flags.{IsFixed}
use Rattle.wjs_start.proofs.objects.fixed_of.Goals as goal

pub returns : goal.returns
returns c = λ t arena knows there.
    let none : IsFixed t arena [] [] = record { there = tt; are = refl } in
    let first = subst (λ (l : List (Name × NumberedValue)). IsFixed t arena l []) (sym c.new-fixed.ensures.items) none in
    c.in_ok-add_prototype.ensures t arena (length_part c.args.blueprint.length) knows there (c.in_ok-add_length.ensures t arena [] knows first)
