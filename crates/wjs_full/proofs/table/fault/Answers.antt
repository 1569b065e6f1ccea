use Rattle.std.proofs.Common.{◌≡◌, sym, subst, IfSome}
use Rattle.std.proofs.lemmas.Result.{IfOk-weaker}
use Rattle.wjs_store.specs.Naming.{plain}
use Rattle.wjs_store.specs.State.{World, fault_in}
use Rattle.wjs_full.proofs.Tables.{worlds_at_read}
use Rattle.wjs_full.proofs.table.fault.Goals as goal

pub returns : goal.returns
returns c = IfOk-weaker c.fault.result _ _ (λ f h. subst (λ o. IfSome o (λ (e : World plain × World plain). f ≡ fault_in e.0 e.1)) (sym (worlds_at_read c.args.table.now c.args.place c.args.above c.index-table-place.result c.index-table-above.result c.requires.place c.requires.above c.index-table-place.is c.index-table-above.is)) h) c.fault.ensures
