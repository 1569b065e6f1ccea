-- A name spells an index exactly where it is that index's name.
use Rattle.std.specs.Prelude.{◌≡◌, ℕ, ◌≤◌, Bool, true, false, ◌&&◌, nat_le, if◌then◌else◌, None, Some, refl}
use Rattle.std.specs.Str.Parse.{digits_value}
use Rattle.std.proofs.Common.{ap, ◌∙◌, arith}
use Rattle.std.proofs.lemmas.Bool.{and_parts, and_from, leb-true, le-leb}
use Rattle.std.proofs.lemmas.Fmt.{decimal_is_IsNumeral}
use Rattle.wjs_base.specs.Spelling.{greatest_index}
use Rattle.wjs_by_content.specs.Values.{Text, same_text, text_Decides}
use Rattle.wjs_by_content.specs.Names.{index_name, index_of}

pub index_again : (n : ℕ) → n ≤ greatest_index → index_of (index_name n) ≡ Some n
index_again n small =
    let value = (decimal_is_IsNumeral n (omega arith)).1 in
    let test : (nat_le n greatest_index && same_text (index_name n) (index_name n)) ≡ true = and_from _ _ (le-leb n greatest_index small) ((text_Decides (index_name n) (index_name n)).1 refl) in
    ap (λ m. if nat_le m greatest_index && same_text (index_name n) (index_name m) then Some m else None) value
    ∙ ap (λ b. if b then Some n else None) test

tested : (b : Bool) (m n : ℕ) → (if b then Some m else None) ≡ Some n → (b ≡ true) × (m ≡ n)
tested true m n e = (refl, cc)
tested false m n e = cc

pub index_spells : (name : Text) (n : ℕ) → index_of name ≡ Some n → (n ≤ greatest_index) × (name ≡ index_name n)
index_spells name n e =
    let m = digits_value 10 name in
    let t = tested (nat_le m greatest_index && same_text name (index_name m)) m n e in
    let p = and_parts (nat_le m greatest_index) (same_text name (index_name m)) t.0 in
    let small = leb-true m greatest_index p.0 in
    (omega (arith, small, t.1), (text_Decides name (index_name m)).0 p.1 ∙ ap index_name t.1)
