use Rattle.std.proofs.Common.{sym, ap, ◌∙◌, true, false}
use Rattle.std.specs.Prelude.{is_some, is_none}
use Rattle.wjs_store.specs.Shown.{content_of}
use Rattle.wjs_heap.specs.Means.{parts}
use Rattle.wjs_props.proofs.Deleting.{delete_fixed, delete_kept, delete_other}
use Rattle.wjs_props.proofs.writes.delete.Goals as goal

pub returns-then-is_some : goal.returns-then-is_some
returns-then-is_some g c =
    let p = parts g.S.WorldStore.meaning in
    delete_fixed c.args.world c.args.object c.args.name (p c.args.heap.now) c.requires.heap c.requires.name (ap is_some (sym c.fixed.ensures.fixed) ∙ sym c.is_some.ensures ∙ c.if-is_some.true)

pub returns-in-Absent : goal.returns-in-Absent
returns-in-Absent g c =
    let p = parts g.S.WorldStore.meaning in
    delete_kept c.args.world c.args.object c.args.name (p c.args.heap.now) c.requires.heap c.requires.name (p c.read.new.heap) c.in_ok-read.field-0 true (ap is_some (sym c.fixed.ensures.fixed) ∙ sym c.is_some.ensures ∙ c.if-is_some.false) (ap (λ f. f.kept) (sym c.flags.ensures) ∙ c.if-flags.true) (ap (λ x. is_none (content_of x)) c.in-Absent.is) c.in_ok-read.ensures.reads

pub returns-in-Present : goal.returns-in-Present
returns-in-Present g c =
    let p = parts g.S.WorldStore.meaning in
    delete_kept c.args.world c.args.object c.args.name (p c.args.heap.now) c.requires.heap c.requires.name (p c.read.new.heap) c.in_ok-read.field-0 false (ap is_some (sym c.fixed.ensures.fixed) ∙ sym c.is_some.ensures ∙ c.if-is_some.false) (ap (λ f. f.kept) (sym c.flags.ensures) ∙ c.if-flags.true) (ap (λ x. is_none (content_of x)) c.in-Present.is) c.in_ok-read.ensures.reads

pub returns : goal.returns
returns g c =
    let p = parts g.S.WorldStore.meaning in
    delete_other c.args.world c.args.object c.args.name (p c.args.heap.now) c.requires.heap c.requires.name (p c.write.new.heap) (ap is_some (sym c.fixed.ensures.fixed) ∙ sym c.is_some.ensures ∙ c.if-is_some.false) (ap (λ f. f.kept) (sym c.flags.ensures) ∙ c.if-flags.false) c.in_ok-write.ensures
