-- Ends by their runs.
use Rattle.std.proofs.Common.{◌≡◌, List, [], ◌∷◌, Option, refl, sym, ap, ◌∙◌}
use Rattle.std.specs.Option.{option_map_or}
use Rattle.wjs_alone.specs.Serial.{End, runs_of, outcomes_of, tries_of, outcomes_by}
use Rattle.wjs_alone.specs.Playing.{Activity, try_of, next_try, turn_of_try}
use Rattle.wjs_alone.specs.Laws.{OrderDecides, EndedTakeNoTurn}

same_ends : (one two : List End) → runs_of one ≡ runs_of two → outcomes_of one ≡ outcomes_of two → tries_of one ≡ tries_of two → one ≡ two
same_ends [] [] r o t = refl
same_ends [] (y ∷ ys) r o t = absurd (cc)
same_ends (x ∷ xs) [] r o t = absurd (cc)
same_ends (x ∷ xs) (y ∷ ys) r o t =
    let run : x.run ≡ y.run = cc in
    let outcome : x.outcome ≡ y.outcome = cc in
    let tries : x.tries ≡ y.tries = cc in
    let runs : runs_of xs ≡ runs_of ys = cc in
    let outcomes : outcomes_of xs ≡ outcomes_of ys = cc in
    let more : tries_of xs ≡ tries_of ys = cc in
    let first : x ≡ y = λ i. record { run = run i; outcome = outcome i; tries = tries i } in
    let rest = same_ends xs ys runs outcomes more in
    λ i. first i ∷ rest i

pub order_lem : OrderDecides
order_lem library parts budget copy arena one two a b runs tries =
    same_ends one two runs (a.outcomes ∙ ap (outcomes_by library parts budget copy) runs ∙ sym b.outcomes) tries

pub left_lem : EndedTakeNoTurn
left_lem library parts budget s t none =
    ap (λ (o : Option Activity). option_map_or (λ (a : Activity). turn_of_try library parts budget (next_try library parts budget) t.steps a (try_of a s) s) o s) none
