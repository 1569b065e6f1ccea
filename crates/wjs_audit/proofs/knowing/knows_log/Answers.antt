use Rattle.std.proofs.Common.{length, refl, sym, subst, List, ◌∙◌}
use Rattle.std.proofs.lemmas.List.{take_all}
use Rattle.std.proofs.lemmas.Option.{slice_get_read, slice_get_within, get_or_from_slice_get}
use Rattle.wjs_base.specs.Text.{Has}
use Rattle.wjs_audit.specs.declared.deed.Entry.{Entry}
use Rattle.wjs_audit.specs.Logs.{KnowsDeed, KnowsLog}
use Rattle.wjs_audit.proofs.Pushes.{All-next}
use Rattle.wjs_audit.proofs.knowing.knows_log.Goals as goal

pub loop-entry-preserved : goal.loop-entry-preserved
loop-entry-preserved c =
    let entries = c.entries-entries.result.now in
    let i = c.loop-entry.entry-index in
    let e = c.entry-item.result in
    let at = slice_get_read entries (length entries) i e refl c.loop-entry-test.true c.entry-item.is in
    All-next (λ (x : Entry). KnowsDeed (Has c.args.texts.now) x.deed) entries i e at c.loop-entry.invariant (c.knows_deed.ensures.0 c.if-not-knows_deed.false)
