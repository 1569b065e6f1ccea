use Rattle.wjs_texts.proofs.Finding.{kept_grown}
use Rattle.wjs_texts.proofs.texts.Texts.intern.Goals as goal

pub invariant_of-self-2 : goal.invariant_of-self-2
invariant_of-self-2 c = (c.put.ensures.found, kept_grown _ _ _ c.put.ensures.grows c.self.invariant.1)
