-- Bytes tell one list.
use Rattle.std.proofs.Common.{◌≡◌, ◌≢◌, ℕ, ◌+◌, Bool, true, false, ◌==◌, ◌||◌, inl, inr, List, [], ◌∷◌, ◌++◌, map as each, slice_get, Some, refl, ap, sym, subst, ◌∙◌, append-nil, IsTrue, All}
use Rattle.std.specs.Prelude.{unwrap_or}
use Rattle.std.specs.Option.{option_map}
use Rattle.std.proofs.lemmas.Bool.{ne_eqb, cases_eq, true≢false}
use Rattle.std.proofs.lemmas.List.Elements.{All-head, All-tail}
use Rattle.wjs_base.specs.declared.ids.ObjId.{ObjId}
use Rattle.wjs_base.specs.declared.ids.TextId.{TextId}
use Rattle.wjs_base.specs.declared.values.Name.{Name}
use Rattle.wjs_base.specs.declared.values.Name.TheVariants.{Index, Text as Named}
use Rattle.wjs_base.specs.declared.values.Slot.{Slot}
use Rattle.wjs_base.specs.declared.values.Value.{Value}
use Rattle.wjs_base.specs.declared.values.Value.TheVariants.{Undefined, Null, Bool as Truth, Number, Text, Object}
use Rattle.wjs_base.specs.declared.values.Content.{Content}
use Rattle.wjs_base.specs.declared.values.Content.TheVariants.{Absent, Present}
use Rattle.wjs_base.specs.Text.{Units, Table, Denotes}
use Rattle.wjs_store.specs.declared.action.Action.{Action}
use Rattle.wjs_store.specs.declared.action.Answer.{Answer}
use Rattle.wjs_store.specs.Shown.{content_of, slots_of}
use Rattle.wjs_store.specs.State.{read, write}
use Rattle.wjs_store.specs.Run.{answers_in}
use Rattle.wjs_store.specs.Fixed.{fresh}
use Rattle.wjs_store.specs.Meaning.{PlainAct, PlainReply}
use Rattle.wjs_by_content.specs.Values as content
use Rattle.wjs_by_content.specs.Names as names
use Rattle.wjs_by_content.specs.Plans.{Told, Found, Listed, Wrote}
use Rattle.wjs_by_content.specs.Tables.{text_in, name_in, value_in, slot_in}
use Rattle.wjs_by_content.specs.Worlds.{told_in, in_order}
use Rattle.wjs_audit.specs.declared.deed.Deed.{Deed}
use Rattle.wjs_audit.specs.declared.deed.Deed.TheVariants.{Read, Write, List as ListOf, Sprout, Commit}
use Rattle.wjs_audit.specs.declared.deed.Entry.{Entry}
use Rattle.wjs_audit.specs.Deeds.{action_of, answer_of_deed, deeds_of, actions_of, answers_of, told_of, told_of_deed}
use Rattle.wjs_audit.specs.Spelling.{Line, text, done, line_parts, joined, log_text}
use Rattle.wjs_audit.specs.Logs.{KnowsName, KnowsValue, KnowsContent, KnowsDeed, Known, is_named, IsLogFrom, entries_from, deeds_in, IsNamedBy, Spells}
use Rattle.wjs_audit.specs.Right.{AreRight}
use Rattle.wjs_audit.specs.Laws.{OneReading}
use Rattle.wjs_logs.specs.Judging.{IsRight}
use Rattle.wjs_logs.specs.Telling.{Tells}

-- ---- what lines have named

or_by : (b p q : Bool) → (p ≡ true → q ≡ true) → (b || p) ≡ true → (b || q) ≡ true
or_by true p q f h = refl
or_by false p q f h = f h

-- another number than the last one was named before
named_before : (known : Known) (n : ℕ) (units : Units) (m : ℕ) → n ≢ m → is_named (known ++ (n, units) ∷ []) m ≡ true → is_named known m ≡ true
named_before [] n units m ne h = absurd (true≢false (sym h ∙ ap (λ b. b || false) (ne_eqb n m ne)))
named_before (e ∷ known) n units m ne h = or_by (e.0 == m) (is_named (known ++ (n, units) ∷ []) m) (is_named known m) (named_before known n units m ne) h

-- ---- two tables that have the same texts under the numbers of a log tell the same of it

module _ (t u : Table) where
  -- the tables have one text under each number that is named
  abbrev Agree : Known → Type 0
  Agree known = (id : TextId) → IsTrue (is_named known id.0) → text_in t id ≡ text_in u id

  one_text : (n : ℕ) (units : Units) (id : TextId) → n ≡ id.0 → Denotes t (record { 0 = n }) units → Denotes u (record { 0 = n }) units → text_in t id ≡ text_in u id
  one_text n units id e at there =
      ap (λ k. unwrap_or (slice_get t k) []) (sym e) ∙ ap (λ o. unwrap_or o []) (at ∙ sym there) ∙ ap (λ k. unwrap_or (slice_get u k) []) e

  agree_more : (known : Known) (n : ℕ) (units : Units) → Agree known → Denotes t (record { 0 = n }) units → Denotes u (record { 0 = n }) units → Agree (known ++ (n, units) ∷ [])
  agree_more known n units agree at there id named = elim (cases_eq n id.0) [
    | inl e ↦ one_text n units id e at there
    | inr ne ↦ agree id (named_before known n units id.0 ne named)
  ]

  module _ (known : Known) (agree : Agree known) where
    abbrev Knows : TextId → Type 0
    Knows id = IsTrue (is_named known id.0)

    name_same : (n : Name) → KnowsName Knows n → name_in t n ≡ name_in u n
    name_same (Index index) k = refl
    name_same (Named id) k = agree id k

    slot_same : (s : Slot) → KnowsName Knows s.name → slot_in t s ≡ slot_in u s
    slot_same s k = ap (names.slot s.object) (name_same s.name k)

    value_same : (v : Value) → KnowsValue Knows v → value_in t v ≡ value_in u v
    value_same Undefined k = refl
    value_same Null k = refl
    value_same (Truth truth) k = refl
    value_same (Number x) k = refl
    value_same (Text id) k = ap (λ x. content.String x) (agree id k)
    value_same (Object o) k = refl

    content_same : (c : Content) → KnowsContent Knows c → option_map (value_in t) (content_of c) ≡ option_map (value_in u) (content_of c)
    content_same Absent k = refl
    content_same (Present v) k = ap (λ (x : content.Value). Some x) (value_same v k)

    slots_same : (o : ObjId) (ns : List Name) → All (KnowsName Knows) ns → each (slot_in t) (slots_of o ns) ≡ each (slot_in u) (slots_of o ns)
    slots_same o [] k = refl
    slots_same o (n ∷ ns) k =
        let first = slot_same (record { object = o; name = n }) (All-head (KnowsName Knows) n ns k) in
        let later = slots_same o ns (All-tail (KnowsName Knows) n ns k) in
        λ i. first i ∷ later i

    deed_same : (d : Deed) → KnowsDeed Knows d → told_in t (told_of_deed d) ≡ told_in u (told_of_deed d)
    deed_same (Read w s c) k = let a = slot_same s k.0 in let b = content_same c k.1 in λ i. (read w (a i), Found (b i))
    deed_same (Write w s c) k = let a = slot_same s k.0 in let b = content_same c k.1 in λ i. (write w (a i) (b i), Wrote)
    deed_same (ListOf w o ns) k = ap (λ (ss : List names.Slot). ((told_in t (told_of_deed (ListOf w o ns))).0, Listed (each (λ (s : names.Slot). s.name) (in_order ss)))) (slots_same o ns k)
    deed_same (Sprout w owner strict child) k = refl
    deed_same (Commit w v) k = refl

  lines_same : (n : ℕ) (known : Known) (lines : List Line) → Agree known → IsLogFrom known lines → All (IsNamedBy t) lines → All (IsNamedBy u) lines → each (told_in t) (told_of (entries_from n lines)) ≡ each (told_in u) (told_of (entries_from n lines))
  lines_same n known [] agree log a b = refl
  lines_same n known (text number units ∷ lines) agree log a b =
      lines_same (n + 1) (known ++ (number, units) ∷ []) lines
      (agree_more known number units agree (All-head (IsNamedBy t) (text number units) lines a) (All-head (IsNamedBy u) (text number units) lines b))
      log.1 (All-tail (IsNamedBy t) (text number units) lines a) (All-tail (IsNamedBy u) (text number units) lines b)
  lines_same n known (done d ∷ lines) agree log a b =
      let first = deed_same known agree d (log.0).knows in
      let later = lines_same (n + 1) known lines agree log.1 (All-tail (IsNamedBy t) (done d) lines a) (All-tail (IsNamedBy u) (done d) lines b) in
      λ i. first i ∷ later i

-- ---- what entries say by their deeds alone

told_deeds : (es : List Entry) → told_of es ≡ each told_of_deed (deeds_of es)
told_deeds [] = refl
told_deeds (e ∷ es) = ap (λ (l : List (PlainAct × PlainReply)). told_of_deed e.deed ∷ l) (told_deeds es)

actions_deeds : (es : List Entry) → actions_of es ≡ each action_of (deeds_of es)
actions_deeds [] = refl
actions_deeds (e ∷ es) = ap (λ (l : List Action). action_of e.deed ∷ l) (actions_deeds es)

answers_deeds : (es : List Entry) → answers_of es ≡ each answer_of_deed (deeds_of es)
answers_deeds [] = refl
answers_deeds (e ∷ es) = ap (λ (l : List Answer). answer_of_deed e.deed ∷ l) (answers_deeds es)

told_alike : (es fs : List Entry) → deeds_of es ≡ deeds_of fs → told_of es ≡ told_of fs
told_alike es fs e = told_deeds es ∙ ap (each told_of_deed) e ∙ sym (told_deeds fs)

right_alike : (es fs : List Entry) → deeds_of es ≡ deeds_of fs → AreRight fs → AreRight es
right_alike es fs e right =
    ap (answers_in fresh) (actions_deeds es ∙ ap (each action_of) e ∙ sym (actions_deeds fs))
    ∙ right
    ∙ (answers_deeds fs ∙ ap (each answer_of_deed) (sym e) ∙ sym (answers_deeds es))

-- ---- the laws

no_bytes : (xs ys : List ℕ) → [] ≡ (xs ++ 10 ∷ []) ++ ys → ⊥
no_bytes [] ys e = cc
no_bytes (x ∷ xs) ys e = cc

no_lines : (lines : List Line) → [] ≡ log_text lines → lines ≡ []
no_lines [] e = refl
no_lines (l ∷ lines) e = absurd (no_bytes (joined (line_parts l)) (log_text lines) e)

module _ (reading : OneReading) where
  -- bytes that are a log with the texts of two tables have both under the same lines
  named_too : (bytes : List ℕ) (es fs : List Entry) (t u : Table) → Spells bytes es t → (b : Spells bytes fs u) → All (IsNamedBy t) b.lines
  named_too bytes es fs t u a b =
      let more = reading.front [] a.lines b.lines [] a.is_log b.is_log (sym b.text ∙ a.text ∙ sym (append-nil (log_text a.lines))) in
      let same : b.lines ≡ a.lines = more.1 ∙ ap (λ (l : List Line). a.lines ++ l) (no_lines more.0 more.2) ∙ append-nil a.lines in
      subst (λ (l : List Line). All (IsNamedBy t) l) (sym same) a.named

  -- two tables with the texts of a log's lines
  tables_same : (es : List Entry) (t u : Table) (lines : List Line) → IsLogFrom [] lines → deeds_in lines ≡ deeds_of es → All (IsNamedBy t) lines → All (IsNamedBy u) lines → each (told_in t) (told_of es) ≡ each (told_in u) (told_of es)
  tables_same es t u lines log deeds a b =
      let same = told_alike (entries_from 1 lines) es deeds in
      ap (each (told_in t)) (sym same)
      ∙ lines_same t u 1 [] lines (λ id named. absurd (true≢false (sym named))) log a b
      ∙ ap (each (told_in u)) same

  pub one_telling : (bytes : List ℕ) (a b : List Told) → Tells bytes a → Tells bytes b → a ≡ b
  one_telling bytes a b x y =
      let read = reading.spelled bytes x.entries x.texts x.spells in
      let again = reading.spelled bytes y.entries y.texts y.spells in
      let deeds = sym read.2 ∙ ap deeds_of (reading.entries bytes read.0 again.0 read.1 again.1) ∙ again.2 in
      sym x.is
      ∙ ap (each (told_in x.texts)) (told_alike x.entries y.entries deeds)
      ∙ tables_same y.entries x.texts y.texts (y.spells).lines (y.spells).is_log (y.spells).deeds (named_too bytes x.entries y.entries x.texts y.texts x.spells y.spells) (y.spells).named
      ∙ y.is

  pub tells_right : (bytes : List ℕ) (told : List Told) → Tells bytes told → IsRight bytes
  tells_right bytes told h =
      let read = reading.spelled bytes h.entries h.texts h.spells in
      record { entries = read.0; reads = read.1; right = right_alike read.0 h.entries read.2 h.right }
