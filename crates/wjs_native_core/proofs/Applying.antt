-- What is left of `apply` is a step for each element, and then the call.
use Rattle.std.proofs.Common.{◌≡◌, ℕ, zero, suc, ◌+◌, ◌-◌, ◌<◌, Bool, true, false, List, [], ◌∷◌, ◌++◌, sym, ap, ◌∙◌, arith}
use Rattle.wjs_base.specs.declared.ids.ObjId.{ObjId}
use Rattle.wjs_base.specs.declared.values.Value.{Value as NumberedValue}
use Rattle.wjs_base.specs.declared.values.Value.TheVariants as values
use Rattle.wjs_base.specs.Text.{Table}
use Rattle.wjs_by_content.specs.Values.{Value}
use Rattle.wjs_by_content.specs.Names.{index_name, length_name}
use Rattle.wjs_by_content.specs.Tables.{value_in}
use Rattle.wjs_meaning.specs.Deeds.{Env, Act, Tick}
use Rattle.wjs_meaning.specs.Properties.{get_value}
use Rattle.wjs_meaning.specs.declared.trouble.Trouble.TheVariants.{NotAnObject}
use Rattle.wjs_meaning.specs.Errors.{throw}
use Rattle.wjs_meaning.specs.NativesOfObjects as line
use Rattle.wjs_model.specs.declared.frame.Held.{Held}
use Rattle.wjs_model.specs.declared.frame.Held.TheVariants as holds
use Rattle.wjs_model.specs.Contents.{holding_in, callee_held, elements_held}
use Rattle.wjs_model.specs.Rest.{apply_next, apply_next_to}

one_less : (count read : ℕ) → read < count → suc (count - (read + 1)) ≡ count - read
one_less count read h = omega (arith, h)

module _ (t : Table) (held : List Held) where
  -- a step is due
  pub apply_due : (f : ObjId) (this : NumberedValue) (read : ℕ) (env : Env) → callee_held held ≡ (values.Object f, this) → read < (elements_held held).1
      → Tick (apply_next read (holding_in t held) env) ≡ line.apply_from ((elements_held held).1 - read) read (holding_in t held).values (elements_held held).0 f (value_in t this) env
  apply_due f this read env ec less =
      let o = (elements_held held).0 in
      let count = (elements_held held).1 in
      let vs = (holding_in t held).values in
      ap (λ (c : NumberedValue × NumberedValue). Tick (apply_next_to read (value_in t c.0) (value_in t c.1) vs o count env)) ec
      ∙ ap (λ k. line.apply_from k read vs o f (value_in t this) env) (one_less count read less)

  -- the next element is read
  pub apply_begins : (i : ℕ) (f : ObjId) (this : NumberedValue) (env : Env) → callee_held held ≡ (values.Object f, this)
      → get_value (elements_held held).0 (index_name i) env (λ v. line.apply_from ((elements_held held).1 - (i + 1)) (i + 1) ((holding_in t held).values ++ v ∷ []) (elements_held held).0 f (value_in t this) env) ≡ apply_next i (holding_in t held) env
  apply_begins i f this env ec =
      ap (λ (c : NumberedValue × NumberedValue). apply_next_to i (value_in t c.0) (value_in t c.1) (holding_in t held).values (elements_held held).0 (elements_held held).1 env) (sym ec)

  -- and held
  pub apply_onward : (items : List Held) (v : NumberedValue) (callee this : NumberedValue) (elements : ObjId × ℕ) (f : ObjId) (x : Value) (read i : ℕ) (env : Env) → items ≡ holds.Callee callee this ∷ holds.Elements elements.0 elements.1 ∷ holds.Value v ∷ held → elements ≡ elements_held held → read ≡ i + 1
      → line.apply_from ((elements_held items).1 - read) read (holding_in t items).values (elements_held items).0 f x env ≡ line.apply_from ((elements_held held).1 - (i + 1)) (i + 1) ((holding_in t held).values ++ value_in t v ∷ []) (elements_held held).0 f x env
  apply_onward items v callee this elements f x read i env e same ep =
      let vs = (holding_in t held).values ++ value_in t v ∷ [] in
      ap (λ (l : List Held). line.apply_from ((elements_held l).1 - read) read (holding_in t l).values (elements_held l).0 f x env) e
      ∙ ap (λ (k : ObjId × ℕ). line.apply_from (k.1 - read) read vs k.0 f x env) same
      ∙ ap (λ n. line.apply_from ((elements_held held).1 - n) n vs (elements_held held).0 f x env) ep

none_yet : (count : ℕ) → count - zero ≡ count
none_yet count = omega arith

-- none is read yet
pub apply_starts : (t : Table) (items : List Held) (o f : ObjId) (this : NumberedValue) (count : ℕ) (env : Env) → items ≡ holds.Callee (values.Object f) this ∷ holds.Elements o count ∷ []
    → line.apply_from ((elements_held items).1 - 0) 0 (holding_in t items).values (elements_held items).0 f (value_in t this) env ≡ line.apply_from count 0 [] o f (value_in t this) env
apply_starts t items o f this count env e =
    ap (λ (l : List Held). line.apply_from ((elements_held l).1 - 0) 0 (holding_in t l).values (elements_held l).0 f (value_in t this) env) e
    ∙ ap (λ k. line.apply_from k 0 [] o f (value_in t this) env) (none_yet count)

-- what `apply` does with an object, by whether it is a list
abbrev pub if_list : ObjId → Value → ObjId → Env → Bool → Act
if_list f this o env is = elim is as (λ b. Act) [
  | true ↦ get_value o length_name env (λ v. line.apply_from (line.apply_length v) 0 [] o f this env)
  | false ↦ throw NotAnObject env
]
