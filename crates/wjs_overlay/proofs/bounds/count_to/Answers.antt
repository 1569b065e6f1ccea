use Rattle.std.proofs.Common.{ap, ◌∙◌, sym, arith, rules, nat_le}
use Rattle.std.proofs.lemmas.List.Sorted.{IsPartitionPoint-from_clause, IsPartitionedBy-leb}
use Rattle.std.proofs.lemmas.Option.{slice_get_within}
use Rattle.wjs_base.proofs.Numbers.{le_of, not_le}
use Rattle.wjs_overlay.specs.declared.bounds.Bound.{Bound}
use Rattle.wjs_overlay.proofs.Covering.{got, rising_places}
use Rattle.wjs_overlay.proofs.bounds.count_to.Goals as goal

pub returns : goal.returns
returns c =
    let bs = c.args.bounds.now in
    let parted = IsPartitionedBy-leb (λ (b : Bound). b.place) bs c.args.place (rising_places bs c.requires) in
    let point = IsPartitionPoint-from_clause (λ (b : Bound). nat_le b.place c.args.place) bs c.partition_point.result c.partition_point.ensures.partitioned parted (λ a r q k. search rules) in
    record {
      within = c.partition_point.ensures.bound;
      before = λ k b l s. le_of b.place c.args.place (ap (λ (d : Bound). nat_le d.place c.args.place) (sym (got bs k b s)) ∙ point.0 k b (omega arith) l);
      after = λ k b l s. not_le b.place c.args.place (ap (λ (d : Bound). nat_le d.place c.args.place) (sym (got bs k b s)) ∙ point.1 k b l (slice_get_within bs k b s));
    }
