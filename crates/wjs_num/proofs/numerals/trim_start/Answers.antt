use Rattle.std.proofs.Common.{◌≡◌, length, take, ◌∙◌, rules, tests}
use Rattle.std.proofs.lemmas.Iterator.{YieldsList-from_slice}
use Rattle.std.proofs.lemmas.Iterator.Consumers.{count_from_yields_List, YieldsList-at}
use Rattle.std.proofs.lemmas.Iterator.Search.{YieldsList-from_take_while}
use Rattle.std.proofs.lemmas.List.Folds.{length-prefix_len}
use Rattle.std.specs.List.{prefix_len}
use Rattle.wjs_num.specs.Numerals.{is_blank}
use Rattle.wjs_num.proofs.Runs.{rest_of}
use Rattle.wjs_num.proofs.numerals.trim_start.Goals as goal

pub returns : goal.returns
returns c =
    let xs = c.args.units.now in
    let blanks : c.count-blanks.result ≡ length (take (prefix_len is_blank xs) xs) =
    count_from_yields_List c.take_while.result c.count-blanks.result c.count-blanks.ensures.ran
    (YieldsList-from_take_while _ is_blank (YieldsList-at c.take_while.ensures.source (YieldsList-from_slice xs cc)) c.take_while.ensures.closure c.take_while.ensures.done (λ x b q k. search (rules, tests))) in
    rest_of xs c.count-blanks.result (prefix_len is_blank xs) (blanks ∙ length-prefix_len is_blank xs)
