-- Bytes that are read and judged, and that this is done in one way.
use Rattle.std.proofs.Common.{◌≡◌, ℕ, List, Result, Ok, Err, OnOk, IfErr, IsErrOf, refl, ap, subst}
use Rattle.wjs_audit.specs.declared.fault.AuditFault.{AuditFault}
use Rattle.wjs_audit.specs.declared.fault.AuditFault.TheVariants.{NotALog, NotTheAnswer, OutOfMemory}
use Rattle.wjs_audit.specs.declared.deed.Entry.{Entry}
use Rattle.wjs_audit.specs.Logs.{Reads, BreaksAt}
use Rattle.wjs_audit.specs.Right.{AreRight, WrongAt}
use Rattle.wjs_audit.specs.Laws.{OneReading, OneJudgement}
use Rattle.wjs_logs.specs.Judging.{IsRight, IsWrongAt, HasFault, Blames}

-- ---- what was read was audited

pub right_by : (bytes : List ℕ) (entries : List Entry) (r : Result (Unit {0}) AuditFault) → Reads bytes entries → OnOk r (AreRight entries) → OnOk r (IsRight bytes)
right_by bytes entries (Ok u) reads right = record { entries = entries; reads = reads; right = right }
right_by bytes entries (Err f) reads right = tt

pub blamed_by : (bytes : List ℕ) (entries : List Entry) (r : Result (Unit {0}) AuditFault) → Reads bytes entries → ((n : ℕ) → IsErrOf r (NotTheAnswer n) → WrongAt entries n) → ((n : ℕ) → ¬ (IsErrOf r (NotALog n))) → IfErr r (Blames bytes)
blamed_by bytes entries (Ok u) reads wrong never = tt
blamed_by bytes entries (Err (NotALog n)) reads wrong never = absurd (never n refl)
blamed_by bytes entries (Err (NotTheAnswer n)) reads wrong never = record { entries = entries; reads = reads; wrong = wrong n refl }
blamed_by bytes entries (Err OutOfMemory) reads wrong never = tt

-- ---- what was not read

abbrev NotRead : AuditFault → Result (List Entry) AuditFault
NotRead fault = Err fault

pub blamed_unread : (bytes : List ℕ) (fault : AuditFault) → ((n : ℕ) → IsErrOf (NotRead fault) (NotALog n) → BreaksAt bytes n) → ((n : ℕ) → ¬ (IsErrOf (NotRead fault) (NotTheAnswer n))) → Blames bytes fault
blamed_unread bytes (NotALog n) breaks never = breaks n refl
blamed_unread bytes (NotTheAnswer n) breaks never = absurd (never n refl)
blamed_unread bytes OutOfMemory breaks never = tt

-- ---- one verdict

module _ (reading : OneReading) (judgement : OneJudgement) where
  right_or_wrong : (bytes : List ℕ) (n : ℕ) → IsRight bytes → IsWrongAt bytes n → ⊥
  right_or_wrong bytes n a b = judgement.either b.entries n (subst AreRight (reading.entries bytes a.entries b.entries a.reads b.reads) a.right) b.wrong

  pub right_or_fault : (bytes : List ℕ) (fault : AuditFault) → IsRight bytes → ¬ (HasFault bytes fault)
  right_or_fault bytes (NotALog n) a b = reading.either bytes a.entries n a.reads b
  right_or_fault bytes (NotTheAnswer n) a b = right_or_wrong bytes n a b
  right_or_fault bytes OutOfMemory a b = b

  pub one_fault : (bytes : List ℕ) (f g : AuditFault) → HasFault bytes f → HasFault bytes g → f ≡ g
  one_fault bytes (NotALog m) (NotALog n) a b = ap (λ (k : ℕ). NotALog k) (reading.line bytes m n a b)
  one_fault bytes (NotALog m) (NotTheAnswer n) a b = absurd (reading.either bytes b.entries m b.reads a)
  one_fault bytes (NotALog m) OutOfMemory a b = absurd b
  one_fault bytes (NotTheAnswer m) (NotALog n) a b = absurd (reading.either bytes a.entries n a.reads b)
  one_fault bytes (NotTheAnswer m) (NotTheAnswer n) a b =
      ap (λ (k : ℕ). NotTheAnswer k) (judgement.line b.entries m n (subst (λ (es : List Entry). WrongAt es m) (reading.entries bytes a.entries b.entries a.reads b.reads) a.wrong) b.wrong)
  one_fault bytes (NotTheAnswer m) OutOfMemory a b = absurd b
  one_fault bytes OutOfMemory g a b = absurd a
