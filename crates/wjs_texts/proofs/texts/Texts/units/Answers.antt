use Rattle.std.proofs.Common.{Some, sym, ap, ◌∙◌}
use Rattle.wjs_texts.specs.Keys.{texts_in}
use Rattle.wjs_texts.proofs.Finding.{text_at}
use Rattle.wjs_base.proofs.TextLaws.{Denotes-IsText}
use Rattle.wjs_texts.proofs.texts.Texts.units.Goals as goal

pub units-requires : goal.units-requires
units-requires c = (c.self.invariant.0.entry c.args.id.0 c.entry_at.result c.entry_at.ensures).within

pub returns-clause-text : goal.returns-clause-text
returns-clause-text c =
    rw (← c.self.view_is) (text_at c.self.inside.buffers c.self.inside.spans.entries c.args.id.0 c.entry_at.result c.entry_at.ensures ∙ ap Some (sym c.units.ensures))

pub returns-clause-is_text : goal.returns-clause-is_text
returns-clause-is_text c =
    let buffers = c.self.inside.buffers in
    let entries = c.self.inside.spans.entries in
    Denotes-IsText (texts_in buffers entries) c.args.id c.units.result.now c.self.invariant.0.table (text_at buffers entries c.args.id.0 c.entry_at.result c.entry_at.ensures ∙ ap Some (sym c.units.ensures))
