-- The kinds of characters. A text is a list of characters, each by its code point.
use Rattle.std.specs.Prelude.{ℕ, Bool, ◌||◌, ◌==◌}
use Rattle.std.specs.Int.{is_in_range}
use Rattle.unicode_ident.specs.Ident.{is_xid_start, is_xid_continue}

-- white space: TAB, VT, FF, the space and the spaces of Unicode (ECMA-262, 3rd edition, section
-- 7.2)
abbrev pub is_blank : ℕ → Bool
is_blank c = (c == 9) || ((c == 11) || ((c == 12) || ((c == 32) || ((c == 0xA0) || ((c == 0x1680) || (is_in_range 0x2000 0x200A c || ((c == 0x202F) || ((c == 0x205F) || (c == 0x3000)))))))))

-- line terminators: LF, CR, U+2028 and U+2029 (section 7.3)
abbrev pub is_line_end : ℕ → Bool
is_line_end c = (c == 10) || ((c == 13) || ((c == 0x2028) || (c == 0x2029)))

-- what an identifier may start with: `$`, `_` or a start of Unicode's (section 7.6)
unfoldable pub starts_name : ℕ → Bool
starts_name c = (c == 36) || ((c == 95) || is_xid_start c)

-- what it may go on with: `$` or what goes on by Unicode's rule, as `_` and digits do (section 7.6)
unfoldable pub continues_name : ℕ → Bool
continues_name c = (c == 36) || is_xid_continue c

-- `0` to `9`
abbrev pub is_decimal : ℕ → Bool
is_decimal c = is_in_range 48 57 c
