-- Whether contents are one.
use Rattle.std.proofs.Common.{◌≡◌, Bool, ap, sym, ◌∙◌, IsTrue}
use Rattle.wjs_base.specs.declared.values.Value.{Value}
use Rattle.wjs_base.specs.declared.values.Content.{Content}
use Rattle.wjs_base.specs.declared.values.Content.TheVariants.{Present}
use Rattle.wjs_base.specs.Same.{same_value, value_Decides}

inner : (x y : Value) → Present x ≡ Present y → x ≡ y
inner x y e = cc

pub content_decides : (c d : Content) (x y : Value) (r : Bool) → c ≡ Present x → d ≡ Present y → r ≡ same_value x y → (IsTrue r → c ≡ d) × (c ≡ d → IsTrue r)
content_decides c d x y r p q e =
    let v = value_Decides x y in
    (λ t. p ∙ ap Present (v.0 (sym e ∙ t)) ∙ sym q, λ s. e ∙ v.1 (inner x y (sym p ∙ s ∙ q)))
