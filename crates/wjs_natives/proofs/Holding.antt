-- What a frame holds while a value is converted: the values, in order.
use Rattle.std.proofs.Common.{◌≡◌, ℕ, ◌+◌, ◌<◌, ◌≤◌, List, [], ◌∷◌, ◌++◌, length, get_or, take, refl, ap, sym, ◌∙◌, subst}
use Rattle.std.specs.Prelude.{All}
use Rattle.std.proofs.lemmas.List.{take_more, take_all}
use Rattle.std.proofs.lemmas.List.Elements.{All-get_or}
use Rattle.wjs_base.specs.declared.values.Value.{Value}
use Rattle.wjs_model.specs.declared.config.Config.{Config}
use Rattle.wjs_model.specs.declared.frame.Held.{Held}
use Rattle.wjs_model.specs.declared.frame.Held.TheVariants as holds
use Rattle.wjs_model.specs.Frames.{earliest_first}
use Rattle.wjs_model.specs.Contents.{values_held}
use Rattle.wjs_model.specs.Soundness.{HasValue, HasItems}

-- the first values are held
pub record Holds {S : Type 0} (c : Config S) (values : List Value) (items : List Held) (i : ℕ) : Type 0 where
  pub said : earliest_first (values_held items) ≡ take i values
  pub found : HasItems c items

module _ {S : Type 0} (c : Config S) (values : List Value) where
  pub holds_none : Holds c values [] 0
  holds_none = record { said = refl; found = tt }

  pub holds_more : (items : List Held) (i : ℕ) (v : Value) → Holds c values items i → All (HasValue c) values → i < length values → v ≡ get_or values i v → Holds c values (holds.Value v ∷ items) (i + 1)
  holds_more items i v h all below e = record {
    said = ap (λ l. l ++ v ∷ []) h.said ∙ ap (λ x. take i values ++ x ∷ []) e ∙ sym (take_more values i v below);
    found = (subst (λ (x : Value). HasValue c x) (sym e) (All-get_or (HasValue c) values i v below all), h.found);
  }

  pub holds_all : (items : List Held) (i : ℕ) → Holds c values items i → length values ≤ i → earliest_first (values_held items) ≡ values
  holds_all items i h past = h.said ∙ take_all i values past
