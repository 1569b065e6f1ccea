-- What is said of bytes that are to be a log.
use Rattle.std.specs.Prelude.{◌≡◌, ℕ, List}
use Rattle.wjs_audit.specs.declared.fault.AuditFault.{AuditFault}
use Rattle.wjs_audit.specs.declared.fault.AuditFault.TheVariants.{NotALog, NotTheAnswer, OutOfMemory}
use Rattle.wjs_audit.specs.declared.deed.Entry.{Entry}
use Rattle.wjs_audit.specs.Logs.{Reads, BreaksAt}
use Rattle.wjs_audit.specs.Right.{AreRight, WrongAt}

-- they are a log, and its answers are the full-copy machine's from the fresh state on
pub record IsRight (bytes : List ℕ) : Type 0 where
  pub entries : List Entry
  pub reads : Reads bytes entries
  pub right : AreRight entries

-- they are a log, and the entry on this line is the first whose answer is another
pub record IsWrongAt (bytes : List ℕ) (n : ℕ) : Type 0 where
  pub entries : List Entry
  pub reads : Reads bytes entries
  pub wrong : WrongAt entries n

-- what is wrong with the bytes
abbrev pub HasFault : List ℕ → AuditFault → Type 0
HasFault bytes (NotALog n) = BreaksAt bytes n
HasFault bytes (NotTheAnswer n) = IsWrongAt bytes n
HasFault bytes OutOfMemory = ⊥

-- what a refusal says of the bytes: its fault, and of want of memory nothing
abbrev pub Blames : List ℕ → AuditFault → Type 0
Blames bytes (NotALog n) = HasFault bytes (NotALog n)
Blames bytes (NotTheAnswer n) = HasFault bytes (NotTheAnswer n)
Blames bytes OutOfMemory = Unit {0}

-- bytes are judged in one way
pub record OneVerdict : Type 0 where
  pub either : (bytes : List ℕ) (fault : AuditFault) → IsRight bytes → ¬ (HasFault bytes fault)
  pub fault : (bytes : List ℕ) (f g : AuditFault) → HasFault bytes f → HasFault bytes g → f ≡ g
