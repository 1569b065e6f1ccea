use Rattle.std.proofs.Common.{◌≡◌, ◌∙◌, ◌+◌, ◌∷◌, [], ap, arith, length, length-append}
use Rattle.std.specs.FinMap as map
use Rattle.wjs_slots.proofs.Changes.{more_bare}
use Rattle.wjs_slots.proofs.near.Near.reach_place.Goals as goal

pub more-preserved : goal.more-preserved
more-preserved g c =
    let old = c.args.self.now.objects.items in
    let now = c.more.self.objects.items in
    let new = c.push.new.self.items in
    let i = c.more.invariant in
    let n : length new ≡ length now + 1 = ap length c.in_ok-push.ensures.items ∙ length-append now (c.new.result ∷ []) in
    record {
      owner = i.owner;
      first = i.first;
      same = more_bare old now new c.new.result map.empty i.same i.more c.in_ok-push.ensures.items c.new.ensures;
      reach = omega (arith, n, c.more-test.true, c.len.ensures, c.more.self.objects.ok.0);
      more = omega (arith, n, i.more);
    }
