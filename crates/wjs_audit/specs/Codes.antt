-- How logs, and stores with their logs, are stored.
use Rattle.std.specs.Prelude.{Bool, List, refl}
use Rattle.std.specs.Coded.{Coded, code_by, coded×, coded_bool, coded_list}
use Rattle.wjs_audit.specs.contracts.deed.Entry as entry
use Rattle.wjs_audit.specs.declared.deed.Entry.{Entry}
use Rattle.wjs_audit.specs.Recorded.{Recorded}

abbrev pub coded_entries : Coded (List Entry)
coded_entries = coded_list (entry.the_row).coded

abbrev pub coded_recorded : {Store : Type 0} → Coded Store → Coded (Recorded Store)
coded_recorded {Store} coded =
    code_by (Store × (List Entry × Bool)) (coded× coded (coded× coded_entries coded_bool)) (λ r. (r.inner, (r.log, r.spent))) (λ p. record { inner = p.0; log = p.1.0; spent = p.1.1 }) (λ _. refl)
