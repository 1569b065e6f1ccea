use Rattle.std.proofs.Common.{◌≡◌, length, min, rules}
use Rattle.wjs_strings.proofs.Standing.{last_empty}
use Rattle.wjs_strings.proofs.search.last_place.Goals as goal

pub returns-then-is_empty : goal.returns-then-is_empty
returns-then-is_empty c =
    let e : length c.args.pattern.now ≡ 0 = search rules in
    let n : c.min.result ≡ min c.args.limit (length c.args.text.now) = search rules in
    last_empty c.args.pattern.now c.args.limit c.args.text.now c.min.result e n
