use Rattle.std.proofs.Common.{◌≡◌, ◌+◌, ◌++◌, ◌<◌, List, ℕ, length, refl, sym, ap, ◌∙◌, append-nil, arith}
use Rattle.std.proofs.lemmas.Bool.{eqb-true, eqb-false}
use Rattle.std.proofs.lemmas.List.{nil_from_length}
use Rattle.wjs_audit.specs.Spelling.{log_text}
use Rattle.wjs_audit.proofs.Taking.{read_more, breaks}
use Rattle.wjs_audit.proofs.reading.read_log.Goals as goal

pub loop-rest-preserved : goal.loop-rest-preserved
loop-rest-preserved c =
    let t = rw c.in-Ok-Some.field-0-is at c.in-Ok-Some.ensures in
    read_more c.args.bytes.now c.loop-rest.rest.now c.in-Ok-Some.behind.now c.loop-rest.line (c.loop-rest.line + 1) c.loop-rest.reading c.take_line.new.self t.0 c.loop-rest.invariant refl t.1 t.2

pub returns-in-Ok-None-clause-breaks : goal.returns-in-Ok-None-clause-breaks
returns-in-Ok-None-clause-breaks c = λ n is.
    let rest = c.loop-rest.rest.now in
    let none = eqb-false (length rest) 0 (sym c.is_empty.ensures ∙ c.loop-rest-test.true) in
    let some : 0 < length rest = omega (arith, none) in
    let number : n ≡ c.loop-rest.line + 1 = cc in
    breaks c.args.bytes.now rest c.loop-rest.line n c.loop-rest.reading c.loop-rest.invariant some number (rw c.in-Ok-None.field-0-is at c.in-Ok-None.ensures)

pub returns-clause-reads : goal.returns-clause-reads
returns-clause-reads c =
    let h = c.loop-rest.invariant in
    let end = nil_from_length c.loop-rest.rest.now (eqb-true (length c.loop-rest.rest.now) 0 (sym c.is_empty.ensures ∙ c.loop-rest-test.false)) in
    record {
      lines = h.lines;
      is_log = h.is_log;
      text = h.whole ∙ ap (λ (bs : List ℕ). log_text h.lines ++ bs) end ∙ append-nil (log_text h.lines);
      entries = h.entries;
    }
