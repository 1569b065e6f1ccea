-- A deed's answer is shown as it is meant.
use Rattle.std.proofs.Common.{◌≡◌, refl, ap}
use Rattle.wjs_store.specs.declared.action.Answer.TheVariants as answer
use Rattle.wjs_store.specs.Run.{answer_of}
use Rattle.wjs_store.proofs.RunLaws.{shown_again, verdict_again, names_again}
use Rattle.wjs_audit.specs.declared.deed.Deed.{Deed}
use Rattle.wjs_audit.specs.declared.deed.Deed.TheVariants.{Read, Write, List as ListOf, Sprout, Commit}
use Rattle.wjs_audit.specs.Deeds.{answer_of_deed, reply_of_deed}

pub shown_deed : (d : Deed) → answer_of (reply_of_deed d) ≡ answer_of_deed d
shown_deed (Read w s c) = ap answer.Found (shown_again c)
shown_deed (Write w s c) = refl
shown_deed (ListOf w o names) = ap answer.Listed (names_again o names)
shown_deed (Sprout w owner strict child) = refl
shown_deed (Commit w v) = ap answer.Committed (verdict_again v)
