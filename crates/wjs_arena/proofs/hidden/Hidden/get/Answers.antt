use Rattle.std.proofs.Common.{◌==◌, cond, None, Some, sym, ap, ◌∙◌}
use Rattle.wjs_arena.specs.AtName.{at_name}
use Rattle.wjs_arena.specs.Hidden.{hidden, hidden_list}
use Rattle.wjs_arena.proofs.HiddenNames.{index_get, text_get}
use Rattle.wjs_arena.proofs.hidden.Hidden.get.Goals as goal

pub returns-in-Index : goal.returns-in-Index
returns-in-Index c =
    let h = c.args.self.now in
    c.hidden_if.ensures
    ∙ index_get h.count c.in-Index.index
    ∙ ap (at_name (hidden_list h)) (sym c.in-Index.is)

pub returns-in-Text : goal.returns-in-Text
returns-in-Text c =
    let h = c.args.self.now in
    let t = c.in-Text.text in
    c.hidden_if-in-Text.ensures
    ∙ ap (λ b. cond b (Some hidden) None) c.has_text.ensures
    ∙ text_get h.count (h.callee == t.0) (h.length == t.0) t
    ∙ ap (at_name (hidden_list h)) (sym c.in-Text.is)
