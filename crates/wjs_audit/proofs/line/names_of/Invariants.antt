use Rattle.std.proofs.Common.{◌≡◌, ℕ, List, ◌++◌, length, All}
use Rattle.wjs_base.specs.Order.{name_cmp}
use Rattle.wjs_store.specs.Ascends.{Ascends}
use Rattle.wjs_audit.specs.Parts.{AreParts}
use Rattle.wjs_audit.specs.Spelling.{spaced}
use Rattle.wjs_audit.specs.Logs.{FitsName, KnowsName}
use Rattle.wjs_audit.specs.Reading.{Numbered, names_parts}
use Rattle.wjs_audit.proofs.line.names_of.Given as goal

-- the names so far are those of the parts in front of the rest
abbrev pub invariant-loop-part : goal.invariant-loop-part
invariant-loop-part l = record {
  follow : (parts : List (List ℕ)) → AreParts parts → l.fn.tail ≡ spaced parts → (more : List (List ℕ)) × AreParts more × (parts ≡ names_parts l.names ++ more) × (l.rest ≡ spaced more);
  fits : All FitsName l.names;
  knows : All (KnowsName (Numbered l.known)) l.names;
  ascends : Ascends name_cmp l.names;
}

abbrev pub decreases-loop-part : goal.decreases-loop-part
decreases-loop-part l = length l.rest
