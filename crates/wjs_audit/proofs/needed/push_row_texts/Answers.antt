use Rattle.std.proofs.Common.{◌∙◌}
use Rattle.std.specs.String.{string_bytes}
use Rattle.wjs_audit.specs.Tables.{name_ids, content_ids}
use Rattle.wjs_audit.proofs.Pushes.{puts_then}
use Rattle.wjs_audit.proofs.needed.push_row_texts.Goals as goal

pub push_content_text-requires-clause-long : goal.push_content_text-requires-clause-long
push_content_text-requires-clause-long c = c.in_ok-push_name_text.ensures.long ∙ c.requires.long

pub returns : goal.returns
returns c =
    puts_then c.args.texts.now (name_ids c.args.slot.name) (content_ids c.args.content)
    (string_bytes c.args.out.now) (string_bytes c.push_name_text.new.out) (string_bytes c.push_content_text.new.out)
    c.args.marks.now.items c.push_name_text.new.marks.items c.push_content_text.new.marks.items
    c.in_ok-push_name_text.ensures c.in_ok-push_content_text.ensures
