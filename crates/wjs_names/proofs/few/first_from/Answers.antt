use Rattle.std.proofs.Common.{◌≡◌, ◌∙◌, ◌+◌, ◌-◌, ◌<◌, ◌/◌, suc, refl, ap, sym, length, drop, arith}
use Rattle.std.specs.Ordering.{is_gt}
use Rattle.std.proofs.lemmas.Option.{slice_get_read, same_Some}
use Rattle.wjs_base.specs.Order.{name_cmp, name_total}
use Rattle.wjs_names.specs.Lists.{seek}
use Rattle.wjs_names.proofs.Basics.{greater_is}
use Rattle.wjs_names.proofs.Seeks.{seek_past}
use Rattle.wjs_names.proofs.few.first_from.Goals as goal

pub loop-low-preserved-then-is_before : goal.loop-low-preserved-then-is_before
loop-low-preserved-then-is_before g c =
    let n = c.loop-low.low + (c.loop-low.high - c.loop-low.low) / 2 in
    let l : n < length c.args.few.now = omega (arith, c.loop-low-test.true, c.loop-low.invariant.upto) in
    let s : suc n ≡ n + 1 = omega arith in
    let z : 0 + suc n ≡ n + 1 = omega arith in
    record {
      within = omega (arith, c.loop-low-test.true);
      upto = c.loop-low.invariant.upto;
      before = seek_past name_total c.args.name 0 c.args.few.now n c.index-few-middle.result c.requires l (greater_is _ (sym c.is_before.ensures ∙ c.if-is_before.true))
          ∙ ap (λ j. seek name_cmp c.args.name j (drop (suc n) c.args.few.now)) z
          ∙ ap (λ j. seek name_cmp c.args.name (n + 1) (drop j c.args.few.now)) s;
      after = c.loop-low.invariant.after;
    }

pub loop-low-preserved : goal.loop-low-preserved
loop-low-preserved g c =
    let n = c.loop-low.low + (c.loop-low.high - c.loop-low.low) / 2 in
    let l : n < length c.args.few.now = omega (arith, c.loop-low-test.true, c.loop-low.invariant.upto) in
    record {
      within = omega arith;
      upto = omega (arith, l);
      before = c.loop-low.invariant.before;
      after = λ row e.
          let same : c.index-few-middle.result ≡ row = same_Some c.index-few-middle.result row (sym (slice_get_read c.args.few.now (length c.args.few.now) n c.index-few-middle.result refl l c.index-few-middle.is) ∙ e) in
          ap (λ r. is_gt (name_cmp c.args.name r.0)) (sym same ∙ c.index-few-middle.is) ∙ sym c.is_before.ensures ∙ c.if-is_before.false;
    }
