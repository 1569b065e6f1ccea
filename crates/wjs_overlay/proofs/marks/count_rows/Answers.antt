use Rattle.std.proofs.Common.{◌≡◌, ℕ, ◌<◌, ◌≤◌, length, take, cond, is_some, refl, sym, ap, ◌∙◌, arith}
use Rattle.std.specs.FinMap as map
use Rattle.std.specs.Map.{lookup_entry}
use Rattle.std.proofs.lemmas.List.{take_all}
use Rattle.std.proofs.lemmas.Option.{slice_get_within}
use Rattle.wjs_base.specs.Order.{slot_cmp, slot_total}
use Rattle.wjs_base.proofs.Lists.{get_past, take_next}
use Rattle.wjs_rows.specs.Order.{is_from}
use Rattle.wjs_slots.specs.Least.{first_slot}
use Rattle.wjs_layers.specs.Marks.{reads_in, writes_in}
use Rattle.wjs_layers.proofs.Entries.{after_is, from_is, all_slots}
use Rattle.wjs_layers.proofs.Works.{one_most}
use Rattle.wjs_overlay.proofs.MarkLaws.{reads_push, writes_push}
use Rattle.wjs_overlay.proofs.marks.count_rows.Goals as goal

pub marks-init : goal.marks-init
marks-init g c = record {
  next = c.next_from-next.ensures.least ∙ ap (λ k. lookup_entry (is_from slot_cmp k) (map.entries c.args.layer.now.rows)) c.least_slot.ensures ∙ from_is (is_from slot_cmp first_slot) (map.entries c.args.layer.now.rows) all_slots;
  reads = refl;
  writes = refl;
  some = omega arith;
  few_reads = omega arith;
  few_writes = omega arith;
}

pub prove-unreachable-requires : goal.prove-unreachable-requires
prove-unreachable-requires g c =
    let l : c.marks.seen < length (map.entries c.args.layer.now.rows) = slice_get_within (map.entries c.args.layer.now.rows) c.marks.seen (c.in-Some.slot, c.in-Some.row) (sym c.marks.invariant.next ∙ c.in-Some.is) in
    let t : c.len-total.result ≡ length (map.entries c.args.layer.now.rows) = c.len-total.ensures in
    let n : c.len-total.result ≤ c.marks.seen = c.if-prove.true in
    omega arith

pub marks-preserved : goal.marks-preserved
marks-preserved g c =
    let s = sym c.marks.invariant.next ∙ c.in-Some.is in
    let l : c.marks.seen < length (map.entries c.args.layer.now.rows) = slice_get_within (map.entries c.args.layer.now.rows) c.marks.seen (c.in-Some.slot, c.in-Some.row) s in
    let more = take_next (map.entries c.args.layer.now.rows) c.marks.seen (c.in-Some.slot, c.in-Some.row) s in
    let r = ap reads_in more ∙ reads_push (take c.marks.seen (map.entries c.args.layer.now.rows)) (c.in-Some.slot, c.in-Some.row) in
    let q = ap writes_in more ∙ writes_push (take c.marks.seen (map.entries c.args.layer.now.rows)) (c.in-Some.slot, c.in-Some.row) in
    let a : c.one_if-reads.result ≡ cond (is_some c.in-Some.row.read) 1 0 = c.one_if-reads.ensures ∙ ap (λ b. cond {A = ℕ} b 1 0) c.is_some.ensures in
    let b : c.one_if-writes.result ≡ cond c.in-Some.row.written 1 0 = c.one_if-writes.ensures in
    let am = one_most (is_some c.in-Some.row.read) in
    let bm = one_most c.in-Some.row.written in
    record {
      next = c.next_after-next.ensures.least ∙ after_is slot_total c.args.layer.now.rows c.marks.seen (c.in-Some.slot, c.in-Some.row) s;
      reads = omega (arith, r, a, c.marks.invariant.reads);
      writes = omega (arith, q, b, c.marks.invariant.writes);
      some = omega (arith, l);
      few_reads = omega (arith, a, am, c.marks.invariant.few_reads);
      few_writes = omega (arith, b, bm, c.marks.invariant.few_writes);
    }

pub returns-clause-reads : goal.returns-clause-reads
returns-clause-reads g c =
    let l : length (map.entries c.args.layer.now.rows) ≤ c.marks.seen = get_past (map.entries c.args.layer.now.rows) c.marks.seen (sym c.marks.invariant.next ∙ c.in_default.is) in
    c.marks.invariant.reads ∙ ap reads_in (take_all c.marks.seen (map.entries c.args.layer.now.rows) l)

pub returns-clause-writes : goal.returns-clause-writes
returns-clause-writes g c =
    let l : length (map.entries c.args.layer.now.rows) ≤ c.marks.seen = get_past (map.entries c.args.layer.now.rows) c.marks.seen (sym c.marks.invariant.next ∙ c.in_default.is) in
    c.marks.invariant.writes ∙ ap writes_in (take_all c.marks.seen (map.entries c.args.layer.now.rows) l)
