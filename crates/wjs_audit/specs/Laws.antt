-- Laws of logs, each promised by a public function.
use Rattle.std.specs.Prelude.{◌≡◌, ℕ, List, ◌++◌}
use Rattle.wjs_base.specs.Text.{Table}
use Rattle.wjs_audit.specs.declared.deed.Entry.{Entry}
use Rattle.wjs_audit.specs.Spelling.{Line, log_text}
use Rattle.wjs_audit.specs.Deeds.{deeds_of}
use Rattle.wjs_audit.specs.Logs.{Known, IsLogFrom, Reads, BreaksAt, Spells}
use Rattle.wjs_audit.specs.Right.{AreRight, WrongAt}

-- bytes have one reading: a log that begins as another one does begins with its lines; so bytes that are a log have one list of entries and no line that breaks the form, and others have one such line. That one of both stands is said without a parser: not neither
pub record OneReading : Type 0 where
  pub front : (known : Known) (ls ks : List Line) (rest : List ℕ) → IsLogFrom known ls → IsLogFrom known ks → log_text ks ≡ log_text ls ++ rest → (more : List Line) × (ks ≡ ls ++ more) × (rest ≡ log_text more)
  pub entries : (bytes : List ℕ) (es fs : List Entry) → Reads bytes es → Reads bytes fs → es ≡ fs
  pub either : (bytes : List ℕ) (es : List Entry) (n : ℕ) → Reads bytes es → ¬ (BreaksAt bytes n)
  pub line : (bytes : List ℕ) (m n : ℕ) → BreaksAt bytes m → BreaksAt bytes n → m ≡ n
  pub some : (bytes : List ℕ) → ((es : List Entry) → ¬ (Reads bytes es)) → ((n : ℕ) → ¬ (BreaksAt bytes n)) → ⊥
  -- what is read from bytes that spell a log are its deeds
  pub spelled : (bytes : List ℕ) (entries : List Entry) (texts : Table) → Spells bytes entries texts → (es : List Entry) × Reads bytes es × (deeds_of es ≡ deeds_of entries)

-- a log whose answers are right has no wrong one, and another has one first: not neither
pub record OneJudgement : Type 0 where
  pub either : (entries : List Entry) (n : ℕ) → AreRight entries → ¬ (WrongAt entries n)
  pub line : (entries : List Entry) (m n : ℕ) → WrongAt entries m → WrongAt entries n → m ≡ n
  pub some : (entries : List Entry) → ¬ (AreRight entries) → ((n : ℕ) → ¬ (WrongAt entries n)) → ⊥
