-- How many rows a map has.
use Rattle.std.proofs.Common.{◌≡◌, ℕ, zero, suc, ◌+◌, ◌-◌, ◌≤◌, Bool, true, false, not, cond, is_some, refl, ap, sym, ◌∙◌, arith}
use Rattle.std.specs.FinMap as map
use Rattle.std.specs.FinMap.{FinMap}
use Rattle.std.proofs.lemmas.Bool.{false≢true}
use Rattle.wjs_base.specs.declared.values.Slot.{Slot}
use Rattle.wjs_base.specs.Order.{slot_cmp, slot_total}

zero_or_more : {P : Type 0} (n : ℕ) → (n ≡ 0 → P) → (1 ≤ n → P) → P
zero_or_more zero f g = f refl
zero_or_more (suc n) f g = g (omega arith)

module _ {V : Type 0} (m : FinMap slot_cmp V) (slot : Slot) where
  pub some_counted : map.contains_key m slot ≡ true → 1 ≤ map.len m
  some_counted h = zero_or_more (map.len m)
      (λ z. absurd (false≢true (sym (ap is_some (ap (λ n. map.get n slot) (map.empty_of_len m z) ∙ map.get-empty slot_cmp slot)) ∙ h)))
      (λ l. l)

  pub one_less : (n : FinMap slot_cmp V) → n ≡ map.remove m slot → map.contains_key m slot ≡ true → map.len m - 1 ≡ map.len n
  one_less n e h = sym (ap map.len e ∙ map.len-remove slot_total m slot ∙ ap (λ b. cond b (map.len m - 1) (map.len m)) h)

  pub none_less : (n : FinMap slot_cmp V) → n ≡ map.remove m slot → map.contains_key m slot ≡ false → map.len m ≡ map.len n
  none_less n e h = sym (ap map.len e ∙ map.len-remove slot_total m slot ∙ ap (λ b. cond b (map.len m - 1) (map.len m)) h)

  pub one_more : (v : V) (n : FinMap slot_cmp V) → n ≡ map.insert m slot v → true ≡ not (map.contains_key m slot) → map.len m + 1 ≡ map.len n
  one_more v n e h = sym (ap map.len e ∙ map.len-insert slot_total m slot v ∙ ap (λ b. cond b (map.len m) (map.len m + 1)) (not_false (map.contains_key m slot) h))
    where
      not_false : (b : Bool) → true ≡ not b → b ≡ false
      not_false true h = h
      not_false false h = refl

  pub none_more : (v : V) (n : FinMap slot_cmp V) → n ≡ map.insert m slot v → false ≡ not (map.contains_key m slot) → map.len m ≡ map.len n
  none_more v n e h = sym (ap map.len e ∙ map.len-insert slot_total m slot v ∙ ap (λ b. cond b (map.len m) (map.len m + 1)) (not_true (map.contains_key m slot) h))
    where
      not_true : (b : Bool) → false ≡ not b → b ≡ true
      not_true true h = refl
      not_true false h = h
