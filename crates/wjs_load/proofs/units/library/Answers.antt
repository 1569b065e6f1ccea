use Rattle.std.proofs.Common.{List, ℕ, subst}
use Rattle.wjs_load.specs.declared.tokens.LoadFault.{LoadFault}
use Rattle.wjs_load.specs.Loading.{Refuses, IsRefused}
use Rattle.wjs_load.proofs.units.library.Goals as goal

pub returns-in-Err-Refused-clause-ok : goal.returns-in-Err-Refused-clause-ok
returns-in-Err-Refused-clause-ok c =
    let P : LoadFault → Type 0 = λ fault. IsRefused c.as_bytes.result.now fault in
    let refused = subst P c.in-Err-Refused.field-0-is c.in-Err-Refused.ensures.err in
    (c.in-Err-Refused.field-0-0, subst (λ (bytes : List ℕ). Refuses bytes c.in-Err-Refused.field-0-0) c.as_bytes.ensures.value refused)
