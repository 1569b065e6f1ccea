use Rattle.std.proofs.Common.{◌≡◌, ℕ, zero, suc, ◌+◌, ◌*◌, ◌<◌, ◌≤◌, ◌^◌, true, List, ap, ◌∙◌, subst, arith, get_or, take, length}
use Rattle.std.specs.Prelude.{nat_lt}
use Rattle.std.specs.List.{list_all}
use Rattle.std.specs.Char.{is_digit, digit_value}
use Rattle.std.specs.Str.Parse.{digits_value}
use Rattle.std.proofs.lemmas.Bool.{and_from}
use Rattle.std.proofs.lemmas.Bool.Decides.{nat_tests}
use Rattle.std.proofs.lemmas.List.{get_or_default}
use Rattle.std.proofs.lemmas.List.Folds.{list_all_more}
use Rattle.std.proofs.lemmas.Int.Digits.{digits_value_more}
use Rattle.wjs_lexer.proofs.strings.hex_value.Goals as goal

record Grown (k v d : ℕ) : Type 0 where
  next : v * 16 + d < 16 ^ (k + 1)
  small : v * 16 + d < 65536

-- at most four digits fit 16 bits
grow : (k v d : ℕ) → k < 4 → v < 16 ^ k → d < 16 → Grown k v d
grow zero v d l h e = record { next = omega arith; small = omega arith }
grow (suc zero) v d l h e = record { next = omega arith; small = omega arith }
grow (suc (suc zero)) v d l h e = record { next = omega arith; small = omega arith }
grow (suc (suc (suc zero))) v d l h e = record { next = omega arith; small = omega arith }
grow (suc (suc (suc (suc k)))) v d l h e = absurd (omega arith)

small : (k v : ℕ) → k ≤ 4 → v < 16 ^ k → v < 65536
small zero v l h = omega arith
small (suc zero) v l h = omega arith
small (suc (suc zero)) v l h = omega arith
small (suc (suc (suc zero))) v l h = omega arith
small (suc (suc (suc (suc zero)))) v l h = omega arith
small (suc (suc (suc (suc (suc k))))) v l h = absurd (omega arith)

below : (a b : ℕ) → a < b → nat_lt a b ≡ true
below a b h = grind (arith, nat_tests)

more_all : (ds : List ℕ) (k x : ℕ) → k < length ds → x ≡ get_or ds k x → list_all (λ c. is_digit c 16) (take k ds) ≡ true → digit_value x < 16 → list_all (λ c. is_digit c 16) (take (k + 1) ds) ≡ true
more_all ds k x l e a d = list_all_more (λ c. is_digit c 16) ds k x l ∙ and_from _ _ a (subst (λ (y : ℕ). is_digit y 16 ≡ true) e (below (digit_value x) 16 d))

same_default : (ds : List ℕ) (k x : ℕ) → k < length ds → get_or ds k x ≡ get_or ds k 0
same_default ds k x l = get_or_default ds k x 0 l

more_value : (ds : List ℕ) (k x v d : ℕ) → k < length ds → x ≡ get_or ds k x → v ≡ digits_value 16 (take k ds) → d ≡ digit_value x → v * 16 + d ≡ digits_value 16 (take (k + 1) ds)
more_value ds k x v d l e f g = rw (digits_value_more 16 ds k l, f, g) (ap (λ (y : ℕ). digits_value 16 (take k ds) * 16 + digit_value y) (e ∙ same_default ds k x l))

pub overflow_mul-value : goal.overflow_mul-value
overflow_mul-value c =
    let l = c.loop-digit.invariant in let t = c.loop-digit-test.true in let r = c.requires in
    let g = grow c.loop-digit.digit-index c.loop-digit.value 0 (omega (arith, t, r)) l.small (omega arith) in
    let s = g.small in
    omega (arith, s)

pub overflow_add-value : goal.overflow_add-value
overflow_add-value c =
    let l = c.loop-digit.invariant in let t = c.loop-digit-test.true in let r = c.requires in
    let v = c.in-Some.ensures.value in let v0 = v.0 in let v1 = v.1 in
    let g = grow c.loop-digit.digit-index c.loop-digit.value c.in-Some.digit (omega (arith, t, r)) l.small (omega (arith, v0, v1)) in
    let s = g.small in
    omega (arith, s)

pub loop-digit-preserved : goal.loop-digit-preserved
loop-digit-preserved c =
    let l = c.loop-digit.invariant in let t = c.loop-digit-test.true in let r = c.requires in
    let v = c.in-Some.ensures.value in let v0 = v.0 in let v1 = v.1 in
    let g = grow c.loop-digit.digit-index c.loop-digit.value c.in-Some.digit (omega (arith, t, r)) l.small (omega (arith, v0, v1)) in
    record {
      all = more_all c.args.digits.now c.loop-digit.digit-index c.digit-item.result t c.digit-item.is l.all v.0;
      value = more_value c.args.digits.now c.loop-digit.digit-index c.digit-item.result c.loop-digit.value c.in-Some.digit t c.digit-item.is l.value v.1;
      small = g.next;
    }

pub overflow_cast-result : goal.overflow_cast-result
overflow_cast-result c =
    let l = c.loop-digit.invariant in let e = c.loop-digit.auto.digit-index-end in let r = c.requires in
    let s = small c.loop-digit.digit-index c.loop-digit.value (omega (arith, e, r)) l.small in
    omega (arith, s)
