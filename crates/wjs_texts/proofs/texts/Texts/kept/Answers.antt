use Rattle.std.proofs.Common.{subst}
use Rattle.wjs_base.specs.Text.{Table, Denotes}
use Rattle.wjs_texts.specs.Known.{text_of}
use Rattle.wjs_texts.proofs.Letters.{kept_at}
use Rattle.wjs_texts.proofs.texts.Texts.kept.Goals as goal

pub returns : goal.returns
returns c =
    kept_at c.self.inside.known c.place.result _
    (λ id at. subst (λ (ts : Table). Denotes ts id (text_of c.args.known)) c.self.view_is (c.self.invariant.1 c.place.result id (text_of c.args.known) at c.place.ensures))
