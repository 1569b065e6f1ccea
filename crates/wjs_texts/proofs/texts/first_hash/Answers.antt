use Rattle.std.proofs.Common.{ap, ◌∙◌}
use Rattle.wjs_texts.specs.Hash.{hash_of}
use Rattle.wjs_texts.proofs.texts.first_hash.Goals as goal

pub returns-then-key-eq0 : goal.returns-then-key-eq0
returns-then-key-eq0 c = c.requires ∙ ap (λ t. hash_of t c.args.units.now) c.if-key-eq0.true
