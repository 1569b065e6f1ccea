use Rattle.wjs_by_content.proofs.Carrying.{carries_read, carries_write, carries_list}
use Rattle.wjs_by_content.proofs.laws.stores_carry_plans.Goals as goal

pub returns : goal.returns
returns c = λ texts w old new v h k. record {
  reads = λ s content d l. carries_read texts w s content old new d v h k l;
  writes = λ s content d l m. carries_write texts w s content old new d v h k l m;
  lists = λ o names d. carries_list texts w o names old new d v h k;
}
