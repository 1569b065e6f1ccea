-- Scopes that are filled, slot by slot.
use Rattle.std.proofs.Common.{◌≡◌, ℕ, zero, suc, ◌+◌, ◌<◌, ◌≤◌, List, [], ◌∷◌, ◌++◌, Some, length, drop, refl, sym, ap, ◌∙◌, subst, arith}
use Rattle.std.specs.Prelude.{map as each, slice_get, slice_index_or, unwrap_or, All}
use Rattle.std.proofs.lemmas.List.Elements.{All-head, All-tail}
use Rattle.wjs_base.specs.declared.ids.ObjId.{ObjId}
use Rattle.wjs_base.specs.declared.ids.TextId.{TextId}
use Rattle.wjs_base.specs.declared.ids.WorldId.{WorldId}
use Rattle.wjs_base.specs.declared.values.Name.{Name}
use Rattle.wjs_base.specs.declared.values.Name.TheVariants as names
use Rattle.wjs_base.specs.declared.values.Value.{Value as NumberedValue}
use Rattle.wjs_base.specs.declared.values.Value.TheVariants as values
use Rattle.wjs_base.specs.Spelling.{IsName}
use Rattle.wjs_base.specs.Text.{Table}
use Rattle.wjs_by_content.specs.Renamed.{Holds}
use Rattle.wjs_arena.specs.declared.class.Class.TheVariants as class
use Rattle.wjs_arena.specs.declared.object.Flags.{Flags}
use Rattle.wjs_arena.specs.declared.object.Object.{Object}
use Rattle.wjs_arena.specs.Entries.{Objects}
use Rattle.wjs_by_content.specs.Names.{Slot, slot, index_name, callee_name, length_name}
use Rattle.wjs_by_content.specs.Objects.{object_of, hidden_flags}
use Rattle.wjs_by_content.specs.Values.{Value}
use Rattle.wjs_by_content.specs.Tables.{text_in, name_in, value_in, under_in, object_in}
use Rattle.wjs_heap.specs.Heap.{HasNamed}
use Rattle.wjs_meaning.specs.Builtins.{object_prototype}
use Rattle.wjs_meaning.specs.Deeds.{Env, Act, Do, Write, write_all}
use Rattle.wjs_meaning.specs.Functions.{arguments_object, hidden_indices, formal_slots, declare_variables}
use Rattle.wjs_heap_steps.proofs.Making.{bare, flagged_named}
use Rattle.wjs_calls.proofs.Elements.{left_here}
use Rattle.wjs_arena.specs.Hidden.{hidden_from}
use Rattle.wjs_variables.specs.Filling.{undefined_slots, variable_declared}

-- ---- Arguments objects

indices_hidden : (t : Table) (i : ℕ) (vs : List NumberedValue) → under_in t (λ (f : Flags). f) (hidden_from i (length vs)) ≡ hidden_indices i (each (value_in t) vs)
indices_hidden t i [] = refl
indices_hidden t i (v ∷ vs) = ap (λ l. (index_name i, hidden_flags) ∷ l) (indices_hidden t (i + 1) vs)

pub arguments_is : (t : Table) (x : Object) (p : ObjId) (flags : List (Name × Flags)) (callee size : Name) (vs : List NumberedValue) → x ≡ bare class.Arguments (Some p) → p ≡ object_prototype
    → flags ≡ (callee, hidden_flags) ∷ (size, hidden_flags) ∷ hidden_from 0 (length vs) → name_in t callee ≡ callee_name → name_in t size ≡ length_name → object_in t (record x { flags = flags }) ≡ arguments_object (each (value_in t) vs)
arguments_is t x p flags callee size vs ex ep ef ec es =
    ap (λ (y : Object). object_in t (record y { flags = flags })) ex
    ∙ ap (λ (q : ObjId). object_in t (record (bare class.Arguments (Some q)) { flags = flags })) ep
    ∙ ap (λ (fs : List (Name × Flags)). object_in t (record (bare class.Arguments (Some object_prototype)) { flags = fs })) ef
    ∙ (λ i. record (object_of class.Arguments (Some object_prototype)) { flags = (ec i, hidden_flags) ∷ (es i, hidden_flags) ∷ indices_hidden t 0 vs i })

indices_named : (texts : Table) (i n : ℕ) → i + n ≤ 4294967295 → Holds (λ e. IsName texts e.0) (hidden_from i n)
indices_named texts i zero h = tt
indices_named texts i (suc n) h = (omega arith, indices_named texts (i + 1) n (omega arith))

pub arguments_named : (texts : Table) (arena : Objects) (x : Object) (p : ObjId) (flags : List (Name × Flags)) (callee size : Name) (n : ℕ) → x ≡ bare class.Arguments (Some p) → flags ≡ (callee, hidden_flags) ∷ (size, hidden_flags) ∷ hidden_from 0 n
    → n ≤ 4294967295 → IsName texts callee → IsName texts size → HasNamed texts arena (record x { flags = flags })
arguments_named texts arena x p flags callee size n ex ef small hc hs =
    flagged_named texts arena x class.Arguments (Some p) ex flags (subst (λ (fs : List (Name × Flags)). Holds (λ e. IsName texts e.0) fs) (sym ef) (hc, (hs, indices_named texts 0 n (let s : 0 + n ≤ 4294967295 = omega arith in s))))

hidden_more : (i n : ℕ) → hidden_from i n ++ hidden_from (i + n) 1 ≡ hidden_from i (suc n)
hidden_more i zero = let e : i + 0 ≡ i = omega arith in ap (λ (k : ℕ). hidden_from k 1) e
hidden_more i (suc n) =
    let e : i + suc n ≡ (i + 1) + n = omega arith in
    ap (λ l. (names.Index i, hidden_flags) ∷ l) (ap (λ k. hidden_from (i + 1) n ++ hidden_from k 1) e ∙ hidden_more (i + 1) n)

-- one index more
pub hidden_next : (n : ℕ) → hidden_from 0 n ++ hidden_from n 1 ≡ hidden_from 0 (n + 1)
hidden_next n =
    let e : n ≡ 0 + n = omega arith in
    let s : suc n ≡ n + 1 = omega arith in
    ap (λ (k : ℕ). hidden_from 0 n ++ hidden_from k 1) e ∙ hidden_more 0 n ∙ ap (hidden_from 0) s

-- ---- slots in order

module _ (t : Table) (w : WorldId) (s : ObjId) where
  -- the first of the variables, and those after it
  pub undefined_left : (ns : List TextId) (i : ℕ) (other : TextId) (act : Act) → i < length ns
      → write_all w (undefined_slots s (each (text_in t) (drop i ns))) act ≡ Do (Write w (slot s (text_in t (slice_index_or ns i other))) (Some (value_in t values.Undefined))) (λ done. write_all w (undefined_slots s (each (text_in t) (drop (i + 1) ns))) act)
  undefined_left ns i other act lt = ap (λ (l : List TextId). write_all w (undefined_slots s (each (text_in t) l)) act) (left_here ns i other lt)

-- the argument of a number
abbrev pub argument : List NumberedValue → ℕ → NumberedValue
argument vs i = unwrap_or (slice_get vs i) values.Undefined

module _ (t : Table) (s : ObjId) where
  pub formal_first : (k : TextId) (rest : List TextId) (vs : List NumberedValue) (i : ℕ)
      → formal_slots s (each (text_in t) (k ∷ rest)) (each (value_in t) (drop i vs)) ≡ (slot s (text_in t k), value_in t (argument vs i)) ∷ formal_slots s (each (text_in t) rest) (each (value_in t) (drop (suc i) vs))
  formal_first k rest [] zero = refl
  formal_first k rest [] (suc i) = refl
  formal_first k rest (v ∷ vs) zero = refl
  formal_first k rest (v ∷ vs) (suc i) = formal_first k rest vs i

  -- the first of the formals, and those after it
  pub formal_left : (ns : List TextId) (vs : List NumberedValue) (i : ℕ) (other : TextId) (v : NumberedValue) → i < length ns → v ≡ argument vs i
      → formal_slots s (each (text_in t) (drop i ns)) (each (value_in t) (drop i vs))
      ≡ (slot s (text_in t (slice_index_or ns i other)), value_in t v) ∷ formal_slots s (each (text_in t) (drop (i + 1) ns)) (each (value_in t) (drop (i + 1) vs))
  formal_left ns vs i other v lt e =
      let x = slice_index_or ns i other in
      let rest = drop (i + 1) ns in
      let next : suc i ≡ i + 1 = omega arith in
      ap (λ (l : List TextId). formal_slots s (each (text_in t) l) (each (value_in t) (drop i vs))) (left_here ns i other lt)
      ∙ formal_first x rest vs i
      ∙ ap (λ (k : ℕ). (slot s (text_in t x), value_in t (argument vs i)) ∷ formal_slots s (each (text_in t) rest) (each (value_in t) (drop k vs))) next
      ∙ ap (λ (u : NumberedValue). (slot s (text_in t x), value_in t u) ∷ formal_slots s (each (text_in t) rest) (each (value_in t) (drop (i + 1) vs))) (sym e)

  -- without arguments all are undefined
  pub formals_undefined : (ns : List TextId) → formal_slots s (each (text_in t) ns) [] ≡ undefined_slots s (each (text_in t) ns)
  formals_undefined [] = refl
  formals_undefined (n ∷ ns) = ap (λ l. (slot s (text_in t n), value_in t values.Undefined) ∷ l) (formals_undefined ns)

pub argument_there : (P : NumberedValue → Type 0) → P values.Undefined → (vs : List NumberedValue) (i : ℕ) → All P vs → P (unwrap_or (slice_get vs i) values.Undefined)
argument_there P none [] i h = none
argument_there P none (v ∷ vs) zero h = All-head P v vs h
argument_there P none (v ∷ vs) (suc i) h = argument_there P none vs i (All-tail P v vs h)

-- ---- few formals

module _ {A : Type 0} where
  pub none_there : (xs : List A) → length xs < 1 → xs ≡ []
  none_there [] less = refl
  none_there (x ∷ xs) less = absurd (omega arith)

  pub one_there : (xs : List A) (other : A) → 1 ≤ length xs → length xs < 2 → xs ≡ slice_index_or xs 0 other ∷ []
  one_there [] other least less = absurd (omega arith)
  one_there (x ∷ []) other least less = refl
  one_there (x ∷ y ∷ xs) other least less = absurd (omega arith)

  pub two_there : (xs : List A) (other : A) → 2 ≤ length xs → length xs < 3 → xs ≡ slice_index_or xs 0 other ∷ slice_index_or xs 1 other ∷ []
  two_there [] other least less = absurd (omega arith)
  two_there (x ∷ []) other least less = absurd (omega arith)
  two_there (x ∷ y ∷ []) other least less = refl
  two_there (x ∷ y ∷ z ∷ xs) other least less = absurd (omega arith)

  pub three_there : (xs : List A) (other : A) → 3 ≤ length xs → length xs < 4 → xs ≡ slice_index_or xs 0 other ∷ slice_index_or xs 1 other ∷ slice_index_or xs 2 other ∷ []
  three_there [] other least less = absurd (omega arith)
  three_there (x ∷ []) other least less = absurd (omega arith)
  three_there (x ∷ y ∷ []) other least less = absurd (omega arith)
  three_there (x ∷ y ∷ z ∷ []) other least less = refl
  three_there (x ∷ y ∷ z ∷ u ∷ xs) other least less = absurd (omega arith)

  -- the same of elements that were read
  pub one_read : (xs : List A) (x : A) → 1 ≤ length xs → length xs < 2 → x ≡ slice_index_or xs 0 x → xs ≡ x ∷ []
  one_read [] x least less is = absurd (omega arith)
  one_read (y ∷ []) x least less is = ap (λ z. z ∷ []) (sym is)
  one_read (y ∷ z ∷ xs) x least less is = absurd (omega arith)

  pub two_read : (xs : List A) (x y : A) → 2 ≤ length xs → length xs < 3 → x ≡ slice_index_or xs 0 x → y ≡ slice_index_or xs 1 y → xs ≡ x ∷ y ∷ []
  two_read [] x y least less first second = absurd (omega arith)
  two_read (a ∷ []) x y least less first second = absurd (omega arith)
  two_read (a ∷ b ∷ []) x y least less first second = λ i. sym first i ∷ sym second i ∷ []
  two_read (a ∷ b ∷ c ∷ xs) x y least less first second = absurd (omega arith)

module _ (t : Table) (s : ObjId) (vs : List NumberedValue) where
  -- the slot of a formal, whose number says its argument
  abbrev pub formal_slot : TextId → ℕ → Slot × Value
  formal_slot k i = (slot s (text_in t k), value_in t (argument vs i))

  pub one_formal : (a : TextId) → formal_slots s (each (text_in t) (a ∷ [])) (each (value_in t) vs) ≡ formal_slot a 0 ∷ []
  one_formal a = formal_first t s a [] vs 0

  pub two_formals : (a b : TextId) → formal_slots s (each (text_in t) (a ∷ b ∷ [])) (each (value_in t) vs) ≡ formal_slot a 0 ∷ formal_slot b 1 ∷ []
  two_formals a b = formal_first t s a (b ∷ []) vs 0 ∙ ap (λ l. formal_slot a 0 ∷ l) (formal_first t s b [] vs 1)

  pub three_formals : (a b c : TextId) → formal_slots s (each (text_in t) (a ∷ b ∷ c ∷ [])) (each (value_in t) vs) ≡ formal_slot a 0 ∷ formal_slot b 1 ∷ formal_slot c 2 ∷ []
  three_formals a b c =
      formal_first t s a (b ∷ c ∷ []) vs 0
      ∙ ap (λ l. formal_slot a 0 ∷ l) (formal_first t s b (c ∷ []) vs 1 ∙ ap (λ l. formal_slot b 1 ∷ l) (formal_first t s c [] vs 2))

-- the first of the variables of a program, and those after it
pub variable_left : (t : Table) (env : Env) (ns : List TextId) (i : ℕ) (other : TextId) (act : Act) → i < length ns
    → declare_variables (each (text_in t) (drop i ns)) env act ≡ variable_declared (text_in t (slice_index_or ns i other)) env (declare_variables (each (text_in t) (drop (i + 1) ns)) env act)
variable_left t env ns i other act lt = ap (λ (l : List TextId). declare_variables (each (text_in t) l) env act) (left_here ns i other lt)
