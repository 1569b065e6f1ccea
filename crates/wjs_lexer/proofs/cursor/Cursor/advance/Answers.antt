use Rattle.std.proofs.Common.{refl, get_or}
use Rattle.std.proofs.lemmas.Option.{slice_get-get_or}
use Rattle.wjs_lexer.proofs.Places.{advanced}
use Rattle.wjs_lexer.proofs.cursor.Cursor.advance.Goals as goal

pub returns : goal.returns
returns c =
    advanced c.args.self.now _ (get_or c.args.self.now.chars.now c.args.self.now.at 0) c.lines_here-lines.result c.requires.placed c.requires.more (slice_get-get_or _ _ 0 c.requires.more) (rw (← c.len_utf8.ensures.value) c.len_utf8.ensures.upper_bound)
    c.lines_here-lines.ensures.value c.lines_here-lines.ensures.small refl refl (rw c.len_utf8.ensures.value refl) refl
