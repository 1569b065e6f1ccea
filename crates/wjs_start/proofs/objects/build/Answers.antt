use Rattle.std.proofs.Common.{List, ◌++◌, None, false, sym, subst}
use Rattle.wjs_base.specs.declared.values.Name.{Name}
use Rattle.wjs_base.specs.declared.values.Value.{Value as NumberedValue}
use Rattle.wjs_arena.specs.declared.object.Flags.{Flags}
use Rattle.wjs_meaning.specs.Start.{fixed_prototype, flags_on}
use Rattle.wjs_start.specs.Blueprints.{length_part, keeping, further_flags}
use Rattle.wjs_start.specs.Known.{declared_in}
use Rattle.wjs_start.specs.Flags.{IsFixed, IsFlagged}
use Rattle.wjs_start.proofs.objects.build.Goals as goal

pub returns-clause-built : goal.returns-clause-built
returns-clause-built c = λ t arena knows there.
    let b = c.args.blueprint in
    let declared = declared_in t c.args.known.now in
    let p = c.primitive_of.ensures.is t knows in
    let fixed = subst (λ (l : List (Name × NumberedValue)). IsFixed t arena l (length_part b.length ++ fixed_prototype b.constructs)) (sym c.from_vec.ensures) (c.in_ok-fixed.ensures t arena knows there) in
    let flags = subst (λ (l : List (Name × Flags)). IsFlagged t l (flags_on c.args.number (keeping b.further declared) ++ further_flags b.further declared)) (sym c.from_vec-2.ensures) (c.in_ok-flags.ensures t knows) in
    record {
      is = λ i. record { class = b.class; prototype = b.prototype; scope = None; code = b.code; primitive = p.is i; world = b.world; fixed = fixed.are i; flags = flags.are i; all_kept = false };
      named = record { primitive = c.primitive_of.ensures.no_object t arena knows; fixed = fixed.there; flags = flags.there };
    }
