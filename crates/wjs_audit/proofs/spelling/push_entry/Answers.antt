use Rattle.std.specs.String.{string_bytes}
use Rattle.wjs_audit.proofs.Pushes.{puts_deed}
use Rattle.wjs_audit.proofs.spelling.push_entry.Goals as goal

pub returns-clause-puts : goal.returns-clause-puts
returns-clause-puts c =
    puts_deed c.args.texts.now c.args.deed.now (string_bytes c.args.out.now) (string_bytes c.push_texts_of.new.out) (string_bytes c.push_deed.new.out) c.args.marks.now.items c.push_texts_of.new.marks.items
    c.in_ok-push_texts_of.ensures c.in_ok-push_deed.ensures.text
