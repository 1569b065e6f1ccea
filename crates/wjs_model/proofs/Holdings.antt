-- The latest of each kind of what is held.
use Rattle.std.proofs.Common.{◌≡◌, ℕ, zero, suc, ◌+◌, ◌-◌, ◌<◌, ◌≤◌, List, [], ◌∷◌, ◌++◌, length, take, refl, sym, ap, ◌∙◌, arith}
use Rattle.std.specs.Prelude.{slice_index_or}
use Rattle.std.proofs.Math.Seq.{take-suc}
use Rattle.wjs_base.specs.declared.values.Value.{Value}
use Rattle.wjs_base.specs.declared.ids.ObjId.{ObjId}
use Rattle.wjs_model.specs.declared.frame.Reference.{Reference}
use Rattle.wjs_model.specs.declared.frame.Completion.{Completion}
use Rattle.wjs_model.specs.declared.frame.Held.{Held}
use Rattle.wjs_model.specs.declared.frame.Held.TheVariants as holds
use Rattle.wjs_model.specs.Frames.{latest_first, earliest_first}
use Rattle.wjs_model.specs.Contents.{value_held, values_held, reference_held, callee_held, elements_held, earlier_held}
use Rattle.wjs_model.proofs.Latest.{latest-snoc}

-- the latest of the first so many
back_take : (xs : List Held) (i : ℕ) (d : Held) → 0 < i → i ≤ length xs → latest_first (take i xs) ≡ slice_index_or xs (i - 1) d ∷ latest_first (take (i - 1) xs)
back_take xs zero d h k = absurd (omega arith)
back_take xs (suc j) d h k =
    let e : suc j - 1 ≡ j = omega arith in
    let lt : j < length xs = omega arith in
    ap latest_first (take-suc xs j d lt) ∙ latest-snoc (take j xs) (slice_index_or xs j d) ∙ sym (ap (λ m. slice_index_or xs m d ∷ latest_first (take m xs)) e)

-- what a look back has come to
pub found : {A : Type 0} (f : List Held → A) (xs : List Held) (i : ℕ) (d x : Held) → 0 < i → i ≤ length xs → slice_index_or xs (i - 1) d ≡ x → f (latest_first (take i xs)) ≡ f (latest_first xs) → f (x ∷ latest_first (take (i - 1) xs)) ≡ f (latest_first xs)
found f xs i d x h k e s = sym (ap f (back_take xs i d h k ∙ ap (λ y. y ∷ latest_first (take (i - 1) xs)) e)) ∙ s

pub skip_value : (x : Held) (xs : List Held) → ((v : Value) → x ≡ holds.Value v → ⊥) → value_held (x ∷ xs) ≡ value_held xs
skip_value (holds.Value v) xs h = absurd (h v refl)
skip_value (holds.Reference r) xs h = refl
skip_value (holds.Callee f this) xs h = refl
skip_value (holds.Elements o count) xs h = refl
skip_value (holds.Earlier c) xs h = refl
skip_value (holds.Visit s) xs h = refl

pub skip_reference : (x : Held) (xs : List Held) → ((r : Reference) → x ≡ holds.Reference r → ⊥) → reference_held (x ∷ xs) ≡ reference_held xs
skip_reference (holds.Value v) xs h = refl
skip_reference (holds.Reference r) xs h = absurd (h r refl)
skip_reference (holds.Callee f this) xs h = refl
skip_reference (holds.Elements o count) xs h = refl
skip_reference (holds.Earlier c) xs h = refl
skip_reference (holds.Visit s) xs h = refl

pub skip_callee : (x : Held) (xs : List Held) → ((f this : Value) → x ≡ holds.Callee f this → ⊥) → callee_held (x ∷ xs) ≡ callee_held xs
skip_callee (holds.Value v) xs h = refl
skip_callee (holds.Reference r) xs h = refl
skip_callee (holds.Callee f this) xs h = absurd (h f this refl)
skip_callee (holds.Elements o count) xs h = refl
skip_callee (holds.Earlier c) xs h = refl
skip_callee (holds.Visit s) xs h = refl

pub skip_elements : (x : Held) (xs : List Held) → ((o : ObjId) (count : ℕ) → x ≡ holds.Elements o count → ⊥) → elements_held (x ∷ xs) ≡ elements_held xs
skip_elements (holds.Value v) xs h = refl
skip_elements (holds.Reference r) xs h = refl
skip_elements (holds.Callee f this) xs h = refl
skip_elements (holds.Elements o count) xs h = absurd (h o count refl)
skip_elements (holds.Earlier c) xs h = refl
skip_elements (holds.Visit s) xs h = refl

pub skip_earlier : (x : Held) (xs : List Held) → ((c : Completion) → x ≡ holds.Earlier c → ⊥) → earlier_held (x ∷ xs) ≡ earlier_held xs
skip_earlier (holds.Value v) xs h = refl
skip_earlier (holds.Reference r) xs h = refl
skip_earlier (holds.Callee f this) xs h = refl
skip_earlier (holds.Elements o count) xs h = refl
skip_earlier (holds.Earlier c) xs h = absurd (h c refl)
skip_earlier (holds.Visit s) xs h = refl

append_nil : {A : Type 0} (xs : List A) → xs ≡ xs ++ []
append_nil [] = refl
append_nil (x ∷ xs) = ap (λ l. x ∷ l) (append_nil xs)

-- one more that is held
snoc_alone : (x : Held) (l : List Held) → earliest_first (values_held (x ∷ l)) ≡ earliest_first (values_held l) ++ values_held (x ∷ [])
snoc_alone (holds.Value v) l = refl
snoc_alone (holds.Reference r) l = append_nil _
snoc_alone (holds.Callee f this) l = append_nil _
snoc_alone (holds.Elements o count) l = append_nil _
snoc_alone (holds.Earlier c) l = append_nil _
snoc_alone (holds.Visit s) l = append_nil _

pub values_take : (xs : List Held) (i : ℕ) (x : Held) → i < length xs → x ≡ slice_index_or xs i x → earliest_first (values_held (latest_first (take (i + 1) xs))) ≡ earliest_first (values_held (latest_first (take i xs))) ++ values_held (x ∷ [])
values_take xs i x lt e =
    let e1 : i + 1 ≡ suc i = omega arith in
    ap (λ l. earliest_first (values_held (latest_first l))) (ap (λ m. take m xs) e1 ∙ take-suc xs i x lt ∙ ap (λ y. take i xs ++ y ∷ []) (sym e))
    ∙ ap (λ l. earliest_first (values_held l)) (latest-snoc (take i xs) x)
    ∙ snoc_alone x (latest_first (take i xs))
