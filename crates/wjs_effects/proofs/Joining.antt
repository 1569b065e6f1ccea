-- Texts that are joined (ECMA-262, 3rd edition, section 11.6.1).
use Rattle.std.proofs.Common.{◌≡◌, ℕ, ◌+◌, ◌≤◌, Bool, true, false, Option, None, Some, [], ◌++◌, ◌||◌, length, sym, ap, ◌∙◌, subst, arith, le-ltb, length-append, append_assoc, append-nil}
use Rattle.wjs_base.specs.declared.ids.TextId.{TextId}
use Rattle.wjs_base.specs.declared.values.Value.{Value as Numbered}
use Rattle.wjs_base.specs.declared.values.Value.TheVariants as values
use Rattle.wjs_base.specs.Text.{Table, longest}
use Rattle.wjs_num.specs.Exact.{sum}
use Rattle.wjs_tree.specs.declared.operators.BinaryOperator.TheVariants as binary
use Rattle.wjs_by_content.specs.Conversions.{is_object, is_text, primitive_number, primitive_text}
use Rattle.wjs_by_content.specs.Tables.{text_in}
use Rattle.wjs_by_content.specs.Values.{Text, Value, String}
use Rattle.wjs_meaning.specs.declared.trouble.Trouble.TheVariants.{TextTooLong}
use Rattle.wjs_meaning.specs.Deeds.{Env, give}
use Rattle.wjs_meaning.specs.Errors.{throw, give_result, give_text}
use Rattle.wjs_meaning.specs.Operators.{operate, add_values}
use Rattle.wjs_frames.specs.Shortening.{Shortens}
use Rattle.wjs_quick.proofs.Operations.{add_shortens}
use Rattle.wjs_effects.specs.declared.effect.Pieces.{Pieces}
use Rattle.wjs_effects.specs.Making.{spelled, spelled_if, joined}

-- a text on either side joins the texts of both; one that is not too long is given
pub join_gives : (a b : Value) (env : Env) (t : Text) → is_object a ≡ false → is_object b ≡ false → (is_text a || is_text b) ≡ true → t ≡ primitive_text a ++ primitive_text b → length t ≤ longest → Shortens (operate binary.Add a b env) (give (String t))
join_gives a b env t p q text is short =
    let whole : Text = primitive_text a ++ primitive_text b in
    let P : Bool → Type 0 = λ x. Shortens (add_values a b env) (elim x [ true ↦ give_text whole env | false ↦ give_result (sum (primitive_number a) (primitive_number b)) env ]) in
    let Q : Bool → Type 0 = λ x. Shortens (add_values a b env) (elim x [ true ↦ throw TextTooLong env | false ↦ give (String whole) ]) in
    let few : length whole ≤ longest = subst (λ (u : Text). length u ≤ longest) is short in
    subst (λ (u : Text). Shortens (add_values a b env) (give (String u))) (sym is) (subst Q (le-ltb longest (length whole) few) (subst P text (add_shortens a b env p q)))

-- ---- pieces

-- two
pub two_joined : (a b : Text) → ((a ++ b) ++ []) ++ [] ≡ a ++ b
two_joined a b = append-nil ((a ++ b) ++ []) ∙ append-nil (a ++ b)

module _ (t : Table) where
  -- one more behind two, and behind three
  pub behind_two : (a v : Text) (third fourth : Option Numbered) → third ≡ None → fourth ≡ None → (a ++ v) ++ [] ≡ ((a ++ spelled_if t third) ++ spelled_if t fourth) ++ v
  behind_two a v third fourth e f =
      subst (λ (o : Option Numbered). (a ++ v) ++ [] ≡ ((a ++ spelled_if t o) ++ spelled_if t fourth) ++ v) (sym e)
      (subst (λ (o : Option Numbered). (a ++ v) ++ [] ≡ ((a ++ []) ++ spelled_if t o) ++ v) (sym f) (append-nil (a ++ v) ∙ ap (λ (u : Text). u ++ v) (sym (append-nil (a ++ []) ∙ append-nil a))))

  pub behind_three : (a v : Text) (third fourth : Option Numbered) (x : Numbered) → third ≡ Some x → fourth ≡ None → (a ++ spelled t x) ++ v ≡ ((a ++ spelled_if t third) ++ spelled_if t fourth) ++ v
  behind_three a v third fourth x e f =
      subst (λ (o : Option Numbered). (a ++ spelled t x) ++ v ≡ ((a ++ spelled_if t o) ++ spelled_if t fourth) ++ v) (sym e)
      (subst (λ (o : Option Numbered). (a ++ spelled t x) ++ v ≡ ((a ++ spelled t x) ++ spelled_if t o) ++ v) (sym f) (ap (λ (u : Text). u ++ v) (sym (append-nil (a ++ spelled t x)))))

  -- one more before three at most
  pub before_three : (v a b : Text) (third fourth : Option Numbered) → fourth ≡ None → ((v ++ a) ++ b) ++ spelled_if t third ≡ v ++ (((a ++ b) ++ spelled_if t third) ++ spelled_if t fourth)
  before_three v a b third fourth f =
      let x = spelled_if t third in
      subst (λ (o : Option Numbered). ((v ++ a) ++ b) ++ x ≡ v ++ (((a ++ b) ++ x) ++ spelled_if t o)) (sym f)
      (ap (λ (u : Text). u ++ x) (append_assoc v a b) ∙ append_assoc v (a ++ b) x ∙ ap (λ (u : Text). v ++ u) (sym (append-nil ((a ++ b) ++ x))))

  -- the first is a text, and the others stand behind it
  pub behind_front : (p : Pieces) (front : TextId) (units : Text) → p.first ≡ values.Text front → units ≡ (spelled t p.second ++ spelled_if t p.third) ++ spelled_if t p.fourth → text_in t front ++ units ≡ joined t p
  behind_front p front units e is =
      let b = spelled t p.second in
      let c = spelled_if t p.third in
      let d = spelled_if t p.fourth in
      let a = text_in t front in
      ap (λ (u : Text). a ++ u) is ∙ sym (ap (λ (u : Text). u ++ d) (append_assoc a b c) ∙ append_assoc a (b ++ c) d) ∙ sym (ap (λ (v : Numbered). ((spelled t v ++ b) ++ c) ++ d) e)

-- how long they are
pub all_short : (a b c d : Text) (m n k l : ℕ) → length a ≤ m → length b ≤ n → length c ≤ k → length d ≤ l → (m + n) + (k + l) ≤ longest → length (((a ++ b) ++ c) ++ d) ≤ longest
all_short a b c d m n k l p q r s e =
    let one = length-append ((a ++ b) ++ c) d in
    let two = length-append (a ++ b) c in
    let three = length-append a b in
    omega (arith, one, two, three, p, q, r, s, e)
