-- What the frame of a call holds, and what is there of it.
use Rattle.std.proofs.Common.{◌≡◌, ℕ, ◌+◌, ◌<◌, List, [], ◌∷◌, ◌++◌, length, take, get_or, refl, sym, ap, ◌∙◌, subst, append-nil, append_assoc}
use Rattle.std.specs.Prelude.{All, map as each}
use Rattle.std.proofs.lemmas.List.{take_more}
use Rattle.std.proofs.lemmas.List.Elements.{All-head, All-tail}
use Rattle.wjs_base.specs.declared.ids.NodeId.{NodeId}
use Rattle.wjs_base.specs.Text.{Table}
use Rattle.wjs_base.specs.declared.values.Value.{Value as Numbered}
use Rattle.wjs_by_content.specs.Tables.{value_in}
use Rattle.wjs_model.specs.declared.config.Config.{Config}
use Rattle.wjs_model.specs.declared.frame.Activation.{Activation as Frame}
use Rattle.wjs_model.specs.declared.frame.Held.{Held}
use Rattle.wjs_model.specs.declared.frame.Held.TheVariants as holds
use Rattle.wjs_model.specs.Frames.{earliest_first, latest_first}
use Rattle.wjs_model.specs.Contents.{values_held, callee_held}
use Rattle.wjs_model.specs.Soundness.{HasValue, HasItems}
use Rattle.wjs_model.proofs.Latest.{latest-snoc}
use Rattle.wjs_frames.proofs.Frames.{each_snoc}
use Rattle.wjs_stopping.specs.Waiting.{at_node}
use Rattle.wjs_direct_lines.specs.Deeds.{call_held}

-- values of arguments, the latest first, above what was held before them
abbrev above : List Numbered → List Held → List Held
above vs under = latest_first (each (λ v. holds.Value v) vs) ++ under

-- the first of them is held before the others
above_next : (v : Numbered) (vs : List Numbered) (under : List Held) → above (v ∷ vs) under ≡ above vs (holds.Value v ∷ under)
above_next v vs under = append_assoc (latest_first (each (λ x. holds.Value x) vs)) (holds.Value v ∷ []) under

-- ---- by kind

callee_above : (vs : List Numbered) (under : List Held) → callee_held (above vs under) ≡ callee_held under
callee_above [] under = refl
callee_above (v ∷ vs) under = ap callee_held (above_next v vs under) ∙ callee_above vs (holds.Value v ∷ under)

values_above : (t : Table) (vs : List Numbered) (under : List Held) → earliest_first (each (value_in t) (values_held (above vs under))) ≡ earliest_first (each (value_in t) (values_held under)) ++ each (value_in t) vs
values_above t [] under = sym (append-nil (earliest_first (each (value_in t) (values_held under))))
values_above t (v ∷ vs) under =
    ap (λ l. earliest_first (each (value_in t) (values_held l))) (above_next v vs under)
    ∙ values_above t vs (holds.Value v ∷ under)
    ∙ append_assoc (earliest_first (each (value_in t) (values_held under))) (value_in t v ∷ []) (each (value_in t) vs)

module _ (callee this : Numbered) (vs : List Numbered) where
  pub callee_of_call : callee_held (call_held callee this vs) ≡ (callee, this)
  callee_of_call = callee_above vs (holds.Callee callee this ∷ [])

  pub values_of_call : (t : Table) → earliest_first (each (value_in t) (values_held (call_held callee this vs))) ≡ each (value_in t) vs
  values_of_call t = values_above t vs (holds.Callee callee this ∷ [])

-- one more value is held
call_more : (callee this : Numbered) (vs : List Numbered) (v : Numbered) → call_held callee this (vs ++ v ∷ []) ≡ holds.Value v ∷ call_held callee this vs
call_more callee this vs v =
    ap (λ l. latest_first l ++ holds.Callee callee this ∷ []) (each_snoc (λ x. holds.Value x) vs v)
    ∙ ap (λ l. l ++ holds.Callee callee this ∷ []) (latest-snoc (each (λ x. holds.Value x) vs) (holds.Value v))

-- so that of the first so many one more is held
call_taken : (callee this : Numbered) (vs : List Numbered) (i : ℕ) (v : Numbered) → i < length vs → v ≡ get_or vs i v → holds.Value v ∷ call_held callee this (take i vs) ≡ call_held callee this (take (i + 1) vs)
call_taken callee this vs i v below e =
    sym (call_more callee this (take i vs) v) ∙ ap (λ x. call_held callee this (take i vs ++ x ∷ [])) e ∙ ap (call_held callee this) (sym (take_more vs i v below))

pub holding_more : (f : Frame) (node : NodeId) (callee this : Numbered) (vs : List Numbered) (i : ℕ) (v : Numbered) (inner new : Frame) → i < length vs → v ≡ get_or vs i v
    → inner ≡ at_node f node (call_held callee this (take i vs)) → new ≡ record inner { held = holds.Value v ∷ inner.held } → new ≡ at_node f node (call_held callee this (take (i + 1) vs))
holding_more f node callee this vs i v inner new below e is more =
    more ∙ ap (λ (g : Frame). record g { held = holds.Value v ∷ g.held }) is ∙ ap (at_node f node) (call_taken callee this vs i v below e)

-- ---- what is there

module _ {S : Type 0} (c : Config S) where
  items_above : (vs : List Numbered) (under : List Held) → All (HasValue c) vs → HasItems c under → HasItems c (above vs under)
  items_above [] under h k = k
  items_above (v ∷ vs) under h k =
      subst (HasItems c) (sym (above_next v vs under)) (items_above vs (holds.Value v ∷ under) (All-tail (HasValue c) v vs h) (All-head (HasValue c) v vs h, k))

  pub call_there : (callee this : Numbered) (vs : List Numbered) → HasValue c callee → HasValue c this → All (HasValue c) vs → HasItems c (call_held callee this vs)
  call_there callee this vs f o h = items_above vs (holds.Callee callee this ∷ []) h ((f, o), tt)
