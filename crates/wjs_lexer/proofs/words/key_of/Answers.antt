use Rattle.std.proofs.Common.{◌≡◌, ℕ, ◌+◌, ◌<◌, ◌⊎◌, inl, inr, Some, List, sym, ap, ◌∙◌, arith, get_or}
use Rattle.std.specs.Prelude.{slice_get}
use Rattle.std.proofs.lemmas.Bool.{cases_order}
use Rattle.std.proofs.lemmas.Option.{get_or_from_slice_get}
use Rattle.wjs_tree.specs.declared.keys.Key.{Key}
use Rattle.wjs_tree.specs.declared.keys.Key.TheVariants as keys
use Rattle.wjs_tree.specs.Keys.{spelling}
use Rattle.wjs_lexer.proofs.words.key_of.Goals as goal

next_not : (ks : List Key) (w : List ℕ) (n j : ℕ) (k : Key) → ((i : ℕ) (q : Key) → i < n → slice_get ks i ≡ Some q → w ≡ spelling q → ⊥) → (w ≡ spelling (get_or ks n keys.Break) → ⊥) → j < n + 1 → slice_get ks j ≡ Some k → w ≡ spelling k → (j ≡ n) ⊎ ((j < n) ⊎ (n < j)) → ⊥
next_not ks w n j k b f lt g e (inl h) = f (e ∙ ap spelling (sym (get_or_from_slice_get ks j k keys.Break g)) ∙ ap (λ (x : ℕ). spelling (get_or ks x keys.Break)) h)
next_not ks w n j k b f lt g e (inr (inl h)) = b j k h g e
next_not ks w n j k b f lt g e (inr (inr h)) = absurd (omega arith)

pub loop-key-preserved : goal.loop-key-preserved
loop-key-preserved c = λ j k lt g e. next_not c.keys_from-key-items.result.now c.args.word.now c.loop-key.key-index j k c.loop-key.invariant (λ s. let a = c.is_key.ensures.1 s in let b = c.if-is_key.false in cc) lt g e (cases_order j c.loop-key.key-index)
