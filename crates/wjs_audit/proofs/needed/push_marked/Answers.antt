use Rattle.std.proofs.Common.{◌≡◌, ◌<◌, ◌++◌, Bool, false, length, get_or, refl, ◌∙◌, ap, arith}
use Rattle.std.proofs.lemmas.List.{get_or_read}
use Rattle.std.specs.String.{string_bytes}
use Rattle.wjs_audit.specs.Spelling.{log_text}
use Rattle.wjs_audit.specs.Tables.{text_line}
use Rattle.wjs_audit.proofs.Pushes.{puts_one}
use Rattle.wjs_audit.proofs.needed.push_marked.Goals as goal

pub returns : goal.returns
returns c =
    let within : c.args.id.0 < length c.args.marks.now.items = omega (arith, c.requires.has, c.requires.long) in
    let read : c.index.result.now ≡ get_or c.args.marks.now.items c.args.id.0 false = get_or_read c.args.marks.now.items c.args.id.0 c.index.result.now within c.index.ensures false in
    puts_one c.args.texts.now c.args.id (string_bytes c.args.out.now) (string_bytes c.push_line.new.out) c.args.marks.now.items _
    (c.in_ok-push_line.ensures ∙ ap (λ (b : Bool). string_bytes c.args.out.now ++ log_text (text_line c.args.texts.now b c.args.id)) read) refl
