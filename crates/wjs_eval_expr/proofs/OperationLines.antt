-- The operation of an assignment with an operator, on the values that are held (ECMA-262, 3rd edition, section 11.13.2).
use Rattle.std.proofs.Common.{◌≡◌, ℕ, zero, suc, List, [], ◌∷◌, ◌++◌, refl, sym, ap, ◌∙◌, subst}
use Rattle.std.specs.Prelude.{map as each, slice_index_or, All}
use Rattle.std.proofs.lemmas.List.Elements.{All-head, All-tail}
use Rattle.std.proofs.lemmas.List.{map-append}
use Rattle.wjs_base.specs.declared.values.Value.{Value as NumberedValue}
use Rattle.wjs_base.specs.declared.values.Value.TheVariants as values
use Rattle.wjs_base.specs.Text.{Table}
use Rattle.wjs_tree.specs.declared.operators.BinaryOperator.{BinaryOperator}
use Rattle.wjs_by_content.specs.Values.{Undefined}
use Rattle.wjs_by_content.specs.Tables.{value_in}
use Rattle.wjs_meaning.specs.Deeds.{Env}
use Rattle.wjs_meaning.specs.NativesOfObjects.{value_at}
use Rattle.wjs_model.specs.Frames.{earliest_first}
use Rattle.wjs_model.specs.declared.config.Config.{Config}
use Rattle.wjs_model.specs.declared.frame.Held.{Held}
use Rattle.wjs_model.specs.Contents.{values_held}
use Rattle.wjs_model.specs.Soundness.{HasItems, HasValue}
use Rattle.wjs_frames.proofs.Held.{values_there}
use Rattle.wjs_meaning.specs.Operators.{operate}

-- ---- the values that are held

each_earliest : {A B : Type 0} (f : A → B) (xs : List A) → each f (earliest_first xs) ≡ earliest_first (each f xs)
each_earliest f [] = refl
each_earliest f (x ∷ xs) = map-append f (earliest_first xs) (x ∷ []) ∙ ap (λ l. l ++ f x ∷ []) (each_earliest f xs)

each_index : {A B : Type 0} (f : A → B) (xs : List A) (i : ℕ) (d : A) → f (slice_index_or xs i d) ≡ slice_index_or (each f xs) i (f d)
each_index f [] i d = refl
each_index f (x ∷ xs) zero d = refl
each_index f (x ∷ xs) (suc i) d = each_index f xs i d

-- the value of a number, under a table
value_is : (t : Table) (held found : List NumberedValue) (i : ℕ) (v : NumberedValue) → found ≡ earliest_first held → v ≡ slice_index_or found i values.Undefined → value_in t v ≡ value_at (earliest_first (each (value_in t) held)) i
value_is t held found i v ef ev =
    ap (value_in t) (ev ∙ ap (λ l. slice_index_or l i values.Undefined) ef)
    ∙ each_index (value_in t) (earliest_first held) i values.Undefined
    ∙ ap (λ l. slice_index_or l i Undefined) (each_earliest (value_in t) held)

pub operates_on : (t : Table) (held one two : List NumberedValue) (a b : NumberedValue) (op : BinaryOperator) (env : Env) → one ≡ earliest_first held → two ≡ earliest_first held → a ≡ slice_index_or one 0 values.Undefined → b ≡ slice_index_or two 1 values.Undefined
    → operate op (value_in t a) (value_in t b) env ≡ operate op (value_at (earliest_first (each (value_in t) held)) 0) (value_at (earliest_first (each (value_in t) held)) 1) env
operates_on t held one two a b op env e1 e2 ea eb = λ i. operate op (value_is t held one 0 a e1 ea i) (value_is t held two 1 b e2 eb i) env

index_there : {A : Type 0} (P : A → Type 0) (xs : List A) (i : ℕ) (d : A) → All P xs → P d → P (slice_index_or xs i d)
index_there P [] i d h k = k
index_there P (x ∷ xs) zero d h k = All-head P x xs h
index_there P (x ∷ xs) (suc i) d h k = index_there P xs i d (All-tail P x xs h) k

-- it is there
pub value_there : {S : Type 0} (c : Config S) (held : List Held) (found : List NumberedValue) (i : ℕ) (v : NumberedValue) → HasItems c held → found ≡ earliest_first (values_held held) → v ≡ slice_index_or found i values.Undefined → HasValue c v
value_there c held found i v h ef ev = subst (HasValue c) (sym (ev ∙ ap (λ l. slice_index_or l i values.Undefined) ef)) (index_there (HasValue c) (earliest_first (values_held held)) i values.Undefined (values_there c held h) tt)
