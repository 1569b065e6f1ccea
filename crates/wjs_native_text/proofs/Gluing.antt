-- One slot of `glue` after another.
use Rattle.std.proofs.Common.{◌≡◌, ℕ, suc, ◌+◌, ◌-◌, ◌<◌, List, [], ◌∷◌, ◌++◌, length, get_or, take, drop, sym, ap, ◌∙◌, subst, arith, inl, inr}
use Rattle.std.specs.Prelude.{map, All}
use Rattle.std.proofs.lemmas.Bool.{cases_lt}
use Rattle.std.proofs.lemmas.List.{append-nil, append_assoc, drop-map, length-drop, take_all, get_or_past}
use Rattle.std.proofs.lemmas.List.Elements.{All-get_or}
use Rattle.wjs_base.specs.declared.ids.ObjId.{ObjId}
use Rattle.wjs_base.specs.declared.values.Value.{Value as NumberedValue}
use Rattle.wjs_base.specs.declared.values.Value.TheVariants as values
use Rattle.wjs_base.specs.Text.{Table}
use Rattle.wjs_by_content.specs.Names.{slot, index_name}
use Rattle.wjs_by_content.specs.Tables.{value_in}
use Rattle.wjs_by_content.specs.Values.{Text, Value, value_or_undefined}
use Rattle.wjs_meaning.specs.Deeds.{Env, Act, Tick, Do, Read}
use Rattle.wjs_meaning.specs.NativesOfObjects.{text_of}
use Rattle.wjs_meaning.specs.NativesOfTexts.{glue_from, glued, joined}
use Rattle.wjs_model.specs.declared.frame.Activation.{Activation as Frame}
use Rattle.wjs_model.specs.declared.frame.Held.{Held}
use Rattle.wjs_model.specs.declared.frame.Held.TheVariants as holds
use Rattle.wjs_model.specs.Contents.{Holding, holding_in, value_held, values_held, elements_held}
use Rattle.wjs_model.specs.Frames.{earliest_first}
use Rattle.wjs_natives.proofs.Waiting.{earliest-map}
use Rattle.wjs_native_text.proofs.Joining.{joined-append}
use Rattle.wjs_model.specs.declared.config.Config.{Config}
use Rattle.wjs_model.specs.Soundness.{HasValue}
use Rattle.wjs_model.specs.Rest.{glue_next}

-- what is done with the value of a slot
abbrev pub glue_rest : ℕ → Holding → Env → Value → Act
glue_rest i held env v = glue_from (held.elements.1 - (i + 1)) (i + 1) (joined (drop 1 (held.values ++ v ∷ []))) (text_of held.value) held.elements.0 env

-- the next slot is read by a step of its own, where what is held then joins the text so far
glue_due : (t : Table) (held : List Held) (i : ℕ) (so_far : Text) (env : Env) → i < (elements_held held).1
    → ((w : Value) → joined (drop 1 ((holding_in t held).values ++ w ∷ [])) ≡ glued i so_far (text_of (value_in t (value_held held))) (text_of w))
    → Tick (glue_next i (holding_in t held) env) ≡ glue_from ((elements_held held).1 - i) i so_far (text_of (value_in t (value_held held))) (elements_held held).0 env
glue_due t held i so_far env less joins =
    let o = (elements_held held).0 in
    let left = (elements_held held).1 - (i + 1) in
    let separator = text_of (value_in t (value_held held)) in
    let n : suc left ≡ (elements_held held).1 - i = omega (arith, less) in
    (λ j. Tick (Do (Read env.world (slot o (index_name i))) (λ found. glue_from left (i + 1) (joins (value_or_undefined found) j) separator o env)))
    ∙ ap (λ k. glue_from k i so_far separator o env) n

-- what is held once the object is held over the separator
pub held_over : (frame under f : Frame) (held : List Held) (separator : NumberedValue) (o : ObjId) (count : ℕ) → frame ≡ record under { held = holds.Elements o count ∷ holds.Value separator ∷ under.held } → under ≡ record f { held = held } → frame ≡ record f { held = holds.Elements o count ∷ holds.Value separator ∷ held }
held_over frame under f held separator o count e eu = e ∙ ap (λ (q : Frame). record q { held = holds.Elements o count ∷ holds.Value separator ∷ q.held }) eu

pub held_first : (frame under f : Frame) (held : List Held) (separator : NumberedValue) (o : ObjId) (count : ℕ) → frame ≡ record under { held = holds.Elements o count ∷ holds.Value separator ∷ under.held } → under ≡ record f { held = held } → held ≡ [] → frame ≡ record f { held = holds.Elements o count ∷ holds.Value separator ∷ [] }
held_first frame under f held separator o count e eu none =
    held_over frame under f held separator o count e eu
    ∙ ap (λ (l : List Held). let all : Frame = record f { held = holds.Elements o count ∷ holds.Value separator ∷ l } in all) none

-- the first slot: nothing but the separator is held
pub glue_first : (t : Table) (separator : NumberedValue) (o : ObjId) (count : ℕ) (env : Env) → ¬ (count ≡ 0)
    → Tick (glue_next 0 (holding_in t (holds.Elements o count ∷ holds.Value separator ∷ [])) env) ≡ glue_from count 0 [] (text_of (value_in t separator)) o env
glue_first t separator o count env some =
    let items = holds.Elements o count ∷ holds.Value separator ∷ [] in
    let all : count - 0 ≡ count = omega arith in
    glue_due t items 0 [] env (omega (arith, some)) (λ w. append-nil (text_of w))
    ∙ ap (λ k. glue_from k 0 [] (text_of (value_in t separator)) o env) all

-- a further piece, and the separator before it
joined_more : (us : List Value) (v s w : Value) → joined (drop 1 (((us ++ v ∷ []) ++ s ∷ []) ++ w ∷ [])) ≡ joined (drop 1 (us ++ v ∷ [])) ++ text_of s ++ text_of w
joined_more [] v s w = ap (λ l. text_of s ++ l) (append-nil (text_of w))
joined_more (u ∷ us) v s w =
    let read = us ++ v ∷ [] in
    ap joined (append_assoc read (s ∷ []) (w ∷ []))
    ∙ joined-append read (s ∷ w ∷ [])
    ∙ ap (λ l. joined read ++ (text_of s ++ l)) (append-nil (text_of w))
    ∙ sym (append_assoc (joined read) (text_of s) (text_of w))

-- the slot behind one that was read
pub glue_onward : (t : Table) (held : List Held) (next i : ℕ) (piece separator : NumberedValue) (elements : ObjId × ℕ) (env : Env) → next ≡ i + 1 → separator ≡ value_held held → elements ≡ elements_held held → next < elements.1
    → Tick (glue_next next (holding_in t (holds.Elements elements.0 elements.1 ∷ holds.Value separator ∷ holds.Value piece ∷ held)) env) ≡ glue_rest i (holding_in t held) env (value_in t piece)
glue_onward t held next i piece separator elements env en es same less =
    let now = holds.Elements elements.0 elements.1 ∷ holds.Value separator ∷ holds.Value piece ∷ held in
    let vs = (holding_in t held).values in
    let so_far = joined (drop 1 (vs ++ value_in t piece ∷ [])) in
    let after : next ≡ suc i = omega (arith, en) in
    let one : suc i ≡ i + 1 = omega arith in
    let there : suc i < elements.1 = omega (arith, en, less) in
    ap (λ n. Tick (glue_next n (holding_in t now) env)) after
    ∙ glue_due t now (suc i) so_far env there (joined_more vs (value_in t piece) (value_in t separator))
    ∙ ap (λ (k : ObjId × ℕ). glue_from (k.1 - suc i) (suc i) so_far (text_of (value_in t separator)) k.0 env) same
    ∙ ap (λ (s : NumberedValue). glue_from ((elements_held held).1 - suc i) (suc i) so_far (text_of (value_in t s)) (elements_held held).0 env) es
    ∙ ap (λ n. glue_from ((elements_held held).1 - n) n so_far (text_of (value_in t (value_held held))) (elements_held held).0 env) one

pub behind_first : {A : Type 0} (xs : List A) → take (length xs - 1) (drop 1 xs) ≡ drop 1 xs
behind_first xs = let n = length-drop 1 xs in take_all (length xs - 1) (drop 1 xs) (omega (arith, n))

-- all pieces, behind the separator that was held first
pub all_pieces : (t : Table) (held items : List Held) (piece : NumberedValue) (found : List NumberedValue) → items ≡ holds.Value piece ∷ held → found ≡ earliest_first (values_held items)
    → joined (map (value_in t) (take (length found - 1) (drop 1 found))) ≡ joined (drop 1 ((holding_in t held).values ++ value_in t piece ∷ []))
all_pieces t held items piece found e is =
    ap (λ (l : List NumberedValue). joined (map (value_in t) l)) (behind_first found)
    ∙ ap joined (sym (drop-map (value_in t) 1 found))
    ∙ ap (λ (l : List NumberedValue). joined (drop 1 (map (value_in t) l))) is
    ∙ ap (λ (l : List Value). joined (drop 1 l)) (sym (earliest-map (value_in t) (values_held items)))
    ∙ ap (λ (l : List Held). joined (drop 1 (holding_in t l).values)) e

-- an argument is there
pub argument_there : {S : Type 0} (c : Config S) (vs : List NumberedValue) (i : ℕ) (v : NumberedValue) → All (HasValue c) vs → v ≡ get_or vs i values.Undefined → HasValue c v
argument_there c vs i v all e = subst (λ (x : NumberedValue). HasValue c x) (sym e) (elim (cases_lt i (length vs)) [
  | inl below ↦ All-get_or (HasValue c) vs i values.Undefined below all
  | inr past ↦ subst (λ (x : NumberedValue). HasValue c x) (sym (get_or_past vs i values.Undefined past)) tt
])
