use Rattle.std.proofs.Common.{length, take, refl, sym, subst, List}
use Rattle.std.proofs.lemmas.Option.{slice_get_read}
use Rattle.wjs_base.proofs.Lists.{take_next}
use Rattle.wjs_audit.specs.declared.deed.Entry.{Entry}
use Rattle.wjs_audit.specs.Right.{WrongAt}
use Rattle.wjs_audit.proofs.Machine.{Audited, audited_fresh, audited_more, wrong_at}
use Rattle.wjs_audit.proofs.auditing.audit_in.Goals as goal

pub loop-entry-init : goal.loop-entry-init
loop-entry-init g c = audited_fresh (g.S.WorldStore.meaning c.args.store) c.requires.fresh c.requires.works

pub loop-entry-preserved : goal.loop-entry-preserved
loop-entry-preserved g c =
    let m = g.S.WorldStore.meaning in
    let entries = c.entries-entries.result.now in
    let i = c.loop-entry.entry-index in
    let e = c.entry-item.result in
    let at = slice_get_read entries (length entries) i e refl c.loop-entry-test.true c.entry-item.is in
    subst (Audited (m c.judge.new.store)) (sym (take_next entries i e at)) (audited_more (m c.loop-entry.store) (m c.judge.new.store) (take i entries) e c.loop-entry.invariant c.in-Ok.ensures.right)

pub returns-in-Err-clause-wrong : goal.returns-in-Err-clause-wrong
returns-in-Err-clause-wrong g c = λ n is.
    let entries = c.entries-entries.result.now in
    let i = c.loop-entry.entry-index in
    let e = c.entry-item.result in
    let at = slice_get_read entries (length entries) i e refl c.loop-entry-test.true c.entry-item.is in
    subst (λ (es : List Entry). WrongAt es n) c.entries-entries.ensures.entries (wrong_at (g.S.WorldStore.meaning c.loop-entry.store) entries i e n at c.loop-entry.invariant (c.in-Err.ensures.line n is) (c.in-Err.ensures.wrong n is))
