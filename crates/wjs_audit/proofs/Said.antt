-- What parts spell no deed, by the first of them.
use Rattle.std.proofs.Common.{◌≡◌, ◌≢◌, ℕ, List, ◌∷◌, refl, ap, sym, ◌∙◌, arith}
use Rattle.std.specs.Prelude.{codes}
use Rattle.wjs_audit.specs.declared.deed.Deed.{Deed}
use Rattle.wjs_audit.specs.declared.deed.Deed.TheVariants.{Read, Write, List as ListOf, Sprout, Commit}
use Rattle.wjs_audit.specs.declared.known.KnownTexts.{KnownTexts}
use Rattle.wjs_audit.specs.declared.line.Row.{Row}
use Rattle.wjs_audit.specs.Spelling.{deed_parts}
use Rattle.wjs_audit.specs.Reading.{row_parts, RowMay, DeedMay}
use Rattle.wjs_audit.proofs.Spellings.{lead, tail_is}

-- parts that begin with different bytes
differ : (m n : ℕ) → m ≢ n → (ps qs : List (List ℕ)) → ps ≡ qs → lead ps ≡ m → lead qs ≡ n → ⊥
differ m n ne ps qs e f g = ne (sym f ∙ ap lead e ∙ g)

module _ (s : KnownTexts) (parts : List (List ℕ)) where
  pub no_read : ((r : Row) → RowMay s r → parts ≡ row_parts r → ⊥) → (d : Deed) → DeedMay s d → codes "read" ∷ parts ≡ deed_parts d → ⊥
  no_read none (Read w sl c) m e =
      let r : Row = record { world = w; slot = sl; content = c } in
      none r (m.0.0, (m.0.1, (m.0.2, m.1.0)), (m.0.3, m.1.1)) (tail_is (codes "read") (codes "read") parts (row_parts r) e)
  no_read none (Write w sl c) m e = differ 114 119 (λ same. omega arith) (codes "read" ∷ parts) (deed_parts (Write w sl c)) e refl refl
  no_read none (ListOf w o ns) m e = differ 114 108 (λ same. omega arith) (codes "read" ∷ parts) (deed_parts (ListOf w o ns)) e refl refl
  no_read none (Sprout w o k c) m e = differ 114 115 (λ same. omega arith) (codes "read" ∷ parts) (deed_parts (Sprout w o k c)) e refl refl
  no_read none (Commit w v) m e = differ 114 99 (λ same. omega arith) (codes "read" ∷ parts) (deed_parts (Commit w v)) e refl refl

  pub no_write : ((r : Row) → RowMay s r → parts ≡ row_parts r → ⊥) → (d : Deed) → DeedMay s d → codes "write" ∷ parts ≡ deed_parts d → ⊥
  no_write none (Read w sl c) m e = differ 119 114 (λ same. omega arith) (codes "write" ∷ parts) (deed_parts (Read w sl c)) e refl refl
  no_write none (Write w sl c) m e =
      let r : Row = record { world = w; slot = sl; content = c } in
      none r (m.0.0, (m.0.1, (m.0.2, m.1.0)), (m.0.3, m.1.1)) (tail_is (codes "write") (codes "write") parts (row_parts r) e)
  no_write none (ListOf w o ns) m e = differ 119 108 (λ same. omega arith) (codes "write" ∷ parts) (deed_parts (ListOf w o ns)) e refl refl
  no_write none (Sprout w o k c) m e = differ 119 115 (λ same. omega arith) (codes "write" ∷ parts) (deed_parts (Sprout w o k c)) e refl refl
  no_write none (Commit w v) m e = differ 119 99 (λ same. omega arith) (codes "write" ∷ parts) (deed_parts (Commit w v)) e refl refl

-- no deed is spelled as a text is
pub no_text : (parts : List (List ℕ)) (d : Deed) → codes "text" ∷ parts ≡ deed_parts d → ⊥
no_text parts (Read w sl x) e = differ 116 114 (λ same. omega arith) (codes "text" ∷ parts) (deed_parts (Read w sl x)) e refl refl
no_text parts (Write w sl x) e = differ 116 119 (λ same. omega arith) (codes "text" ∷ parts) (deed_parts (Write w sl x)) e refl refl
no_text parts (ListOf w o ns) e = differ 116 108 (λ same. omega arith) (codes "text" ∷ parts) (deed_parts (ListOf w o ns)) e refl refl
no_text parts (Sprout w o k x) e = differ 116 115 (λ same. omega arith) (codes "text" ∷ parts) (deed_parts (Sprout w o k x)) e refl refl
no_text parts (Commit w v) e = differ 116 99 (λ same. omega arith) (codes "text" ∷ parts) (deed_parts (Commit w v)) e refl refl
