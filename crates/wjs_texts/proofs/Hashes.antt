-- The hash of units goes on from those in front.
use Rattle.std.proofs.Common.{◌≡◌, ℕ, [], ◌∷◌, ◌++◌, refl}
use Rattle.wjs_texts.specs.Hash.{hash_more, hash_behind}
use Rattle.wjs_base.specs.Text.{Units}

pub hash_append : (factor hash : ℕ) (front back : Units) → hash_behind factor hash (front ++ back) ≡ hash_behind factor (hash_behind factor hash front) back
hash_append factor hash [] back = refl
hash_append factor hash (unit ∷ units) back = hash_append factor (hash_more factor hash unit) units back
