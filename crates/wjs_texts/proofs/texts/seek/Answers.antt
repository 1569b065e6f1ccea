use Rattle.std.proofs.Common.{◌++◌, Some, sym, ap, ◌∙◌, true≢false}
use Rattle.wjs_texts.specs.Spans.{units_in}
use Rattle.wjs_texts.proofs.Finding.{text_at, free_here, none_at_all, one_more}
use Rattle.wjs_texts.proofs.texts.seek.Goals as goal

pub returns-in_default : goal.returns-in_default
returns-in_default c =
    let buffers = c.args.buffers.now in
    let units = units_in buffers c.args.front ++ c.args.back.now in
    free_here buffers c.args.spans.now.entries units c.loop-turn.turn c.requires.found c.len-count.ensures.unique c.loop-turn.invariant c.hash_at.result c.hash_at.ensures c.loop-turn-test.true (sym c.in_default.ensures.value)

pub holds-requires-clause-span : goal.holds-requires-clause-span
holds-requires-clause-span c = (c.requires.found.entry c.in-Some.entry.0 (c.in-Some.entry.1.now, c.in-Some.entry.2.now) c.in-Some.ensures.entry).within

pub returns-then-holds : goal.returns-then-holds
returns-then-holds c =
    text_at c.args.buffers.now c.args.spans.now.entries c.in-Some.entry.0 (c.in-Some.entry.1.now, c.in-Some.entry.2.now) c.in-Some.ensures.entry ∙ ap Some (c.holds.ensures.0 c.if-holds.true)

pub loop-turn-preserved : goal.loop-turn-preserved
loop-turn-preserved c =
    let buffers = c.args.buffers.now in
    let units = units_in buffers c.args.front ++ c.args.back.now in
    one_more buffers c.args.spans.now.entries units c.loop-turn.turn c.requires.found c.len-count.ensures.unique c.loop-turn.invariant c.hash_at.result c.hash_at.ensures c.in-Some.entry.2.now (sym c.in-Some.ensures.value)
    (λ e. true≢false (sym (c.holds.ensures.1 e) ∙ c.if-holds.false))

pub returns : goal.returns
returns c =
    let buffers = c.args.buffers.now in
    let units = units_in buffers c.args.front ++ c.args.back.now in
    none_at_all buffers c.args.spans.now.entries units c.loop-turn.turn c.requires.found c.len-count.ensures.unique c.loop-turn.invariant c.loop-turn-test.false
