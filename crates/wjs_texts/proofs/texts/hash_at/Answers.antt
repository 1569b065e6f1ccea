use Rattle.std.proofs.Common.{◌++◌, sym, ap, ◌∙◌}
use Rattle.wjs_texts.specs.Hash.{hash_behind, hash_of}
use Rattle.wjs_texts.specs.Spans.{units_in}
use Rattle.wjs_texts.proofs.Hashes.{hash_append}
use Rattle.wjs_texts.proofs.texts.hash_at.Goals as goal

pub returns-then-turn-eq0 : goal.returns-then-turn-eq0
returns-then-turn-eq0 c =
    let units = units_in c.args.buffers.now c.args.front ++ c.args.back.now in
    c.requires.first ∙ ap (λ t. hash_of t units) (sym c.if-turn-eq0.true)

pub returns : goal.returns
returns c =
    let front = units_in c.args.buffers.now c.args.front in
    let factor = c.factor-odd.result in
    c.hash_behind.ensures
    ∙ ap (λ h. hash_behind factor h c.args.back.now) (c.hash_behind-before.ensures ∙ ap (hash_behind factor 2166136261) c.units.ensures)
    ∙ sym (hash_append factor 2166136261 front c.args.back.now)
    ∙ ap (λ f. hash_behind f 2166136261 (front ++ c.args.back.now)) c.factor-odd.ensures
