-- The kind of a character, by which the reader of a piece is chosen.
use Rattle.std.specs.Prelude.{ℕ, ◌||◌, ◌==◌, if◌then◌else◌}
use Rattle.wjs_lexer.specs.declared.characters.Kind.{Kind}
use Rattle.wjs_lexer.specs.declared.characters.Kind.TheVariants as kinds
use Rattle.wjs_lexer.specs.Characters.{is_blank, is_line_end, starts_name, is_decimal}

-- the kind of a character, which tells the kinds of piece that may begin with it
abbrev pub kind_of : ℕ → Kind
kind_of c =
    if is_blank c then kinds.Space else (if is_line_end c then kinds.LineEnd else (if starts_name c then kinds.Letter else (if is_decimal c then kinds.Digit else (
    if c == 47 then kinds.Slash else (if (c == 34) || (c == 39) then kinds.Quote else kinds.Mark)))))
