-- Where a text has its first line feed.
use Rattle.std.proofs.Common.{◌≡◌, ◌<◌, ◌==◌, ℕ, true, false, List, length, refl, arith}
use Rattle.std.specs.List.{before_first, position_or_len, slice_index_or}
use Rattle.std.proofs.lemmas.List.{get_or-take, length-take}
use Rattle.std.proofs.lemmas.List.Sums.{fails_before_first}
use Rattle.wjs_options.specs.Lines.{HasNoLineFeed}

-- an element that passes no test for a line feed is none
no_feed : (b : ℕ) → (b == 10) ≡ false → b ≡ 10 → ⊥
no_feed b differs is = let same : (b == 10) ≡ true = rw is refl in cc

pub none_before : (text : List ℕ) → HasNoLineFeed (before_first (λ b. b == 10) text)
none_before text k d inside is =
    let n = position_or_len (λ b. b == 10) text in
    let low : k < n = omega (arith, length-take {A = ℕ} n text) in
    no_feed (slice_index_or text k d) (fails_before_first (λ b. b == 10) text k d low) (rw get_or-take at is)

pub none_at_all : (text : List ℕ) → position_or_len (λ b. b == 10) text ≡ length text → HasNoLineFeed text
none_at_all text all k d inside is =
    let low : k < position_or_len (λ b. b == 10) text = omega arith in
    no_feed (slice_index_or text k d) (fails_before_first (λ b. b == 10) text k d low) is
