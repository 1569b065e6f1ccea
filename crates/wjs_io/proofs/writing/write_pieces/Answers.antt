use Rattle.std.proofs.Common.{◌∙◌, ◌++◌, sym}
use Rattle.std.proofs.lemmas.List.{take-append-drop}
use Rattle.wjs_io.proofs.Written.{written_stops, written_more}
use Rattle.wjs_io.proofs.writing.write_pieces.Goals as goal

pub returns-in-Err-clause-err : goal.returns-in-Err-clause-err
returns-in-Err-clause-err g c =
    let seen = g.O.Sink.seen in
    let split = sym (take-append-drop c.min.result c.loop-rest.rest.now) ∙ (λ i. sym c.split_at.ensures.front i ++ sym c.split_at.ensures.back i) in
    written_stops (seen c.args.out.now).bytes (seen c.loop-rest.out).bytes (seen c.write_all_of.new.sink).bytes (seen c.args.out.now).faults
    (seen c.loop-rest.out).faults (seen c.write_all_of.new.sink).faults
    c.args.bytes.now c.loop-rest.rest.now c.split_at.result.0.now c.split_at.result.1.now c.in-Err._stopped.gone c.loop-rest.invariant split c.in-Err.ensures.few c.in-Err.ensures.gone c.in-Err.ensures.cause.rises

pub loop-rest-preserved : goal.loop-rest-preserved
loop-rest-preserved g c =
    let seen = g.O.Sink.seen in
    let split = sym (take-append-drop c.min.result c.loop-rest.rest.now) ∙ (λ i. sym c.split_at.ensures.front i ++ sym c.split_at.ensures.back i) in
    written_more (seen c.args.out.now).bytes (seen c.loop-rest.out).bytes (seen c.write_all_of.new.sink).bytes (seen c.args.out.now).faults
    (seen c.loop-rest.out).faults (seen c.write_all_of.new.sink).faults
    c.args.bytes.now c.loop-rest.rest.now c.split_at.result.0.now c.split_at.result.1.now c.loop-rest.invariant split c.in-Ok.ensures.ok c.in-Ok.ensures.cause.never_falls
