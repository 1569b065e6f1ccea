use Rattle.std.proofs.Common.{◌≤◌, ◌∙◌, List, length, Some, ap, sym, arith}
use Rattle.std.proofs.lemmas.List.{drop_all}
use Rattle.wjs_base.specs.declared.values.Name.{Name}
use Rattle.wjs_base.specs.declared.values.Value.{Value}
use Rattle.wjs_store.specs.State.{write_all}
use Rattle.wjs_store.specs.Meaning.{entries_of}
use Rattle.wjs_layers.specs.Sparse.{full_of, place_of}
use Rattle.wjs_layers.proofs.SettleLaws.{write_places}
use Rattle.wjs_layers.proofs.Several.{rows_more}
use Rattle.wjs_layers.proofs.layers.write_each_on.Goals as goal

pub loop-row-preserved : goal.loop-row-preserved
loop-row-preserved g c =
    let a = c.in_ok-write.ensures.after in
    let w = c.args.world.world in
    let o = c.args.object in
    let row = c.row-item.result in
    record {
      sparse = a.sparse;
      there = ap (λ F. place_of F w) a.full ∙ write_places (full_of c.loop-row.layers) w (record { object = o; name = row.0 }) (Some row.1) w ∙ c.loop-row.invariant.there;
      rest = rows_more w o c.args.rows.now c.loop-row.row-index row (full_of c.loop-row.layers) (full_of c.write.new.layers) _ (omega arith) c.row-item.is a.full c.loop-row.invariant.rest;
    }

pub returns : goal.returns
returns g c =
    let rows = c.args.rows.now in
    let i = c.loop-row.row-index in
    let past : length rows ≤ i = omega (arith, c.loop-row-test.false) in
    record {
      after = record {
        full = ap (λ (l : List (Name × Value)). write_all c.args.world.world (entries_of c.args.object l) (full_of c.loop-row.layers)) (sym (drop_all i rows past)) ∙ c.loop-row.invariant.rest;
        sparse = c.loop-row.invariant.sparse;
      };
    }
