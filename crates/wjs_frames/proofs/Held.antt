-- What is held is there, by kind.
use Rattle.std.proofs.Common.{List, [], ◌∷◌, arith}
use Rattle.std.specs.Prelude.{All}
use Rattle.std.proofs.lemmas.List.Elements.{All-nil, All-cons, All-head, All-tail, All-push}
use Rattle.wjs_base.specs.declared.values.Value.{Value}
use Rattle.wjs_model.specs.declared.config.Config.{Config}
use Rattle.wjs_model.specs.declared.frame.Held.{Held}
use Rattle.wjs_model.specs.declared.frame.Held.TheVariants as holds
use Rattle.wjs_model.specs.Frames.{earliest_first}
use Rattle.wjs_model.specs.Contents.{value_held, values_held, reference_held, callee_held, elements_held, earlier_held, visits_held}
use Rattle.wjs_model.specs.Soundness.{HasObject, HasValue, HasSlot, HasReference, HasCompletion, HasItems}
use Rattle.wjs_meaning.specs.Builtins.{object_prototype}

module _ {S : Type 0} (c : Config S) where
  pub value_there : (held : List Held) → HasItems c held → HasValue c (value_held held)
  value_there [] has = tt
  value_there (holds.Value v ∷ held) has = has.0
  value_there (holds.Reference r ∷ held) has = value_there held has.1
  value_there (holds.Callee f this ∷ held) has = value_there held has.1
  value_there (holds.Elements o count ∷ held) has = value_there held has.1
  value_there (holds.Earlier e ∷ held) has = value_there held has.1
  value_there (holds.Visit s ∷ held) has = value_there held has.1

  latest_values_there : (held : List Held) → HasItems c held → All (HasValue c) (values_held held)
  latest_values_there [] has = All-nil (HasValue c)
  latest_values_there (holds.Value v ∷ held) has = All-cons (HasValue c) v (values_held held) has.0 (latest_values_there held has.1)
  latest_values_there (holds.Reference r ∷ held) has = latest_values_there held has.1
  latest_values_there (holds.Callee f this ∷ held) has = latest_values_there held has.1
  latest_values_there (holds.Elements o count ∷ held) has = latest_values_there held has.1
  latest_values_there (holds.Earlier e ∷ held) has = latest_values_there held has.1
  latest_values_there (holds.Visit s ∷ held) has = latest_values_there held has.1

  pub reference_there : (held : List Held) → HasItems c held → HasReference c (reference_held held)
  reference_there [] has = (tt, omega arith)
  reference_there (holds.Value v ∷ held) has = reference_there held has.1
  reference_there (holds.Reference r ∷ held) has = has.0
  reference_there (holds.Callee f this ∷ held) has = reference_there held has.1
  reference_there (holds.Elements o count ∷ held) has = reference_there held has.1
  reference_there (holds.Earlier e ∷ held) has = reference_there held has.1
  reference_there (holds.Visit s ∷ held) has = reference_there held has.1

  pub callee_there : (held : List Held) → HasItems c held → HasValue c (callee_held held).0 × HasValue c (callee_held held).1
  callee_there [] has = (tt, tt)
  callee_there (holds.Value v ∷ held) has = callee_there held has.1
  callee_there (holds.Reference r ∷ held) has = callee_there held has.1
  callee_there (holds.Callee f this ∷ held) has = has.0
  callee_there (holds.Elements o count ∷ held) has = callee_there held has.1
  callee_there (holds.Earlier e ∷ held) has = callee_there held has.1
  callee_there (holds.Visit s ∷ held) has = callee_there held has.1

  -- where none is held it is an object that was there before the first step
  pub elements_there : (held : List Held) → HasItems c held → HasObject c object_prototype → HasObject c (elements_held held).0
  elements_there [] has first = first
  elements_there (holds.Value v ∷ held) has first = elements_there held has.1 first
  elements_there (holds.Reference r ∷ held) has first = elements_there held has.1 first
  elements_there (holds.Callee f this ∷ held) has first = elements_there held has.1 first
  elements_there (holds.Elements o count ∷ held) has first = has.0
  elements_there (holds.Earlier e ∷ held) has first = elements_there held has.1 first
  elements_there (holds.Visit s ∷ held) has first = elements_there held has.1 first

  pub earlier_there : (held : List Held) → HasItems c held → HasCompletion c (earlier_held held)
  earlier_there [] has = tt
  earlier_there (holds.Value v ∷ held) has = earlier_there held has.1
  earlier_there (holds.Reference r ∷ held) has = earlier_there held has.1
  earlier_there (holds.Callee f this ∷ held) has = earlier_there held has.1
  earlier_there (holds.Elements o count ∷ held) has = earlier_there held has.1
  earlier_there (holds.Earlier e ∷ held) has = has.0
  earlier_there (holds.Visit s ∷ held) has = earlier_there held has.1

  visits_there : (held : List Held) → HasItems c held → All (HasSlot c) (visits_held held)
  visits_there [] has = All-nil (HasSlot c)
  visits_there (holds.Value v ∷ held) has = visits_there held has.1
  visits_there (holds.Reference r ∷ held) has = visits_there held has.1
  visits_there (holds.Callee f this ∷ held) has = visits_there held has.1
  visits_there (holds.Elements o count ∷ held) has = visits_there held has.1
  visits_there (holds.Earlier e ∷ held) has = visits_there held has.1
  visits_there (holds.Visit s ∷ held) has = All-cons (HasSlot c) s (visits_held held) has.0 (visits_there held has.1)

  all_earliest : (vs : List Value) → All (HasValue c) vs → All (HasValue c) (earliest_first vs)
  all_earliest [] has = All-nil (HasValue c)
  all_earliest (v ∷ vs) has = All-push (HasValue c) (earliest_first vs) v (all_earliest vs (All-tail (HasValue c) v vs has)) (All-head (HasValue c) v vs has)

  -- the values in the order in which they came
  pub values_there : (held : List Held) → HasItems c held → All (HasValue c) (earliest_first (values_held held))
  values_there held has = all_earliest (values_held held) (latest_values_there held has)
