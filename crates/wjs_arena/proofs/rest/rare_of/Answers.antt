use Rattle.std.proofs.Common.{ap, ◌∙◌}
use Rattle.wjs_arena.specs.declared.rare.Rare.{Rare}
use Rattle.wjs_arena.specs.Packed.{few_from, few_of, wide_of}
use Rattle.wjs_arena.proofs.rest.rare_of.Goals as goal

pub returns-clause-few : goal.returns-clause-few
returns-clause-few c = ap few_from c.in_ok-rare.ensures.ok ∙ (λ i. record (few_of c.args.object) { world = c.requires i })

pub returns-clause-wide : goal.returns-clause-wide
returns-clause-wide c = ap (λ (r : Rare). wide_of r.beside) c.in_ok-rare.ensures.ok
