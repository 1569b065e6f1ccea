use Rattle.std.proofs.Common.{◌∙◌}
use Rattle.wjs_audit.proofs.Pieces.{first_cut}
use Rattle.wjs_audit.proofs.cuts.first_part.Goals as goal

pub returns-clause-parts : goal.returns-clause-parts
returns-clause-parts c = λ part parts lacks e.
    let both = first_cut c.args.line.now part parts c.place_of.result c.place_of.ensures.before lacks e c.place_of.ensures.found in
    (c.split_at.ensures.front ∙ both.0, c.split_at.ensures.back ∙ both.1)
