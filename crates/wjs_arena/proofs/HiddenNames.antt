-- What is listed under a name, where all names are hidden.
use Rattle.std.proofs.Common.{◌≡◌, ℕ, zero, suc, ◌+◌, ◌<◌, ◌≤◌, ◌==◌, ◌||◌, Bool, true, false, cond, ltb, ltb-true, ltb-false, Option, None, Some, refl, sym, ap, ◌∙◌, arith}
use Rattle.std.proofs.lemmas.Bool.Decides.{nat_tests}
use Rattle.wjs_base.specs.declared.ids.TextId.{TextId}
use Rattle.wjs_base.specs.declared.values.Name.TheVariants.{Index, Text}
use Rattle.wjs_base.proofs.Booleans.{by_bool}
use Rattle.wjs_arena.specs.declared.object.Flags.{Flags}
use Rattle.wjs_arena.specs.AtName.{at_name}
use Rattle.wjs_arena.specs.Hidden.{hidden, hidden_from}
use Rattle.wjs_arena.proofs.Owners.{owner_apart}

past_it : (i k : ℕ) → (i == k) ≡ false → i ≤ k → i + 1 ≤ k
past_it i k f l = grind (arith, nat_tests)

there : (i n k : ℕ) → i ≤ k → k < i + n → at_name (hidden_from i n) (Index k) ≡ Some hidden
there i zero k l m = absurd (omega arith)
there i (suc n) k l m = by_bool (i == k)
    (λ t. ap (λ b. cond b (Some hidden) (at_name (hidden_from (i + 1) n) (Index k))) t)
    (λ f.
    let l' = past_it i k f l in
    let m' : k < (i + 1) + n = omega arith in
    ap (λ b. cond b (Some hidden) (at_name (hidden_from (i + 1) n) (Index k))) f ∙ there (i + 1) n k l' m')

gone : (i n k : ℕ) → i + n ≤ k → at_name (hidden_from i n) (Index k) ≡ None
gone i zero k l = refl
gone i (suc n) k l =
    let l' : (i + 1) + n ≤ k = omega arith in
    ap (λ b. cond b (Some hidden) (at_name (hidden_from (i + 1) n) (Index k))) (owner_apart i k (λ e. omega arith)) ∙ gone (i + 1) n k l'

no_text : (i n : ℕ) (t : TextId) → at_name (hidden_from i n) (Text t) ≡ None
no_text i zero t = refl
no_text i (suc n) t = no_text (i + 1) n t

-- an index is there where it is below the count
pub index_get : (n k : ℕ) → cond (ltb k n) (Some hidden) None ≡ at_name (hidden_from 0 n) (Index k)
index_get n k = by_bool (ltb k n)
    (λ t. let l = ltb-true k n t in let z : 0 ≤ k = omega arith in let m : k < 0 + n = omega arith in ap (λ b. cond b (Some hidden) None) t ∙ sym (there 0 n k z m))
    (λ f. let l = ltb-false k n f in let m : 0 + n ≤ k = omega arith in ap (λ b. cond b (Some hidden) None) f ∙ sym (gone 0 n k m))

either : (a b : Bool) (r : Option Flags) → r ≡ None → cond (a || b) (Some hidden) None ≡ cond a (Some hidden) (cond b (Some hidden) r)
either true b r h = refl
either false true r h = refl
either false false r h = sym h

-- a text is there where it is one of the two
pub text_get : (n : ℕ) (a b : Bool) (t : TextId) → cond (a || b) (Some hidden) None ≡ cond a (Some hidden) (cond b (Some hidden) (at_name (hidden_from 0 n) (Text t)))
text_get n a b t = either a b (at_name (hidden_from 0 n) (Text t)) (no_text 0 n t)
