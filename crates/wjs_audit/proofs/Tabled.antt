-- The lines that are written for deeds and the texts that they need are a log.
use Rattle.std.proofs.Common.{◌≡◌, ℕ, ◌+◌, ◌^◌, ◌<◌, ◌≤◌, Bool, true, false, ◌==◌, ◌||◌, ◌⊎◌, inl, inr, List, [], ◌∷◌, ◌++◌, length, get_or, set, slice_get, Option, None, Some, refl, ap, sym, subst, ◌∙◌, append_assoc, arith, IsTrue, All, length-set, get_or-set_same, get_or-set_other}
use Rattle.std.specs.Prelude.{option_map}
use Rattle.std.specs.List.{flat_map, list_any}
use Rattle.std.proofs.lemmas.Bool.{ne_eqb, eq-eqb, cases_eq, cases_lt, true≢false}
use Rattle.std.proofs.lemmas.List.{length-replicate, get_or-replicate, get_or_past}
use Rattle.std.proofs.lemmas.List.Elements.{All-nil, All-cons, All-append, All-head, All-tail, All-push}
use Rattle.std.proofs.lemmas.List.Folds.{list_any_at}
use Rattle.std.proofs.lemmas.Option.{slice_get_within, get_or_from_slice_get, slice_get-map}
use Rattle.std.proofs.Math.Bool.{or-false, or-true}
use Rattle.wjs_base.specs.declared.ids.TextId.{TextId}
use Rattle.wjs_base.specs.declared.values.Name.{Name}
use Rattle.wjs_base.specs.declared.values.Name.TheVariants.{Index, Text as Named}
use Rattle.wjs_base.specs.declared.values.Value.{Value}
use Rattle.wjs_base.specs.declared.values.Value.TheVariants.{Undefined, Null, Bool as Truth, Number, Text, Object}
use Rattle.wjs_base.specs.declared.values.Content.{Content}
use Rattle.wjs_base.specs.declared.values.Content.TheVariants.{Absent, Present}
use Rattle.wjs_base.specs.Spelling.{units_of}
use Rattle.wjs_base.specs.Text.{Units, Table, Has, IsTable, Denotes}
use Rattle.wjs_base.proofs.TextLaws.{Has-Denotes, Denotes-IsText}
use Rattle.wjs_store.specs.declared.store.Verdict.{Verdict}
use Rattle.wjs_store.specs.declared.store.Verdict.TheVariants.{Moved, Disagrees, NoParent}
use Rattle.wjs_audit.specs.declared.deed.Deed.{Deed}
use Rattle.wjs_audit.specs.declared.deed.Deed.TheVariants.{Read, Write, List as ListOf, Sprout, Commit}
use Rattle.wjs_audit.specs.declared.deed.Entry.{Entry}
use Rattle.wjs_audit.specs.Deeds.{InOrder, AreInOrder, deeds_of}
use Rattle.wjs_audit.specs.Spelling.{Line, text, done, log_text}
use Rattle.wjs_audit.specs.Logs.{FitsDeed, KnowsName, KnowsValue, KnowsContent, KnowsVerdict, KnowsDeed, KnowsLog, Known, is_named, TextMayFollow, with_line, known_after, IsLogFrom, entries_from, IsNamedBy, Spells}
use Rattle.wjs_audit.specs.Tables.{name_ids, value_ids, content_ids, verdict_ids, deed_ids, text_line, lines_for, marks_after, lines_from, no_marks, needed_lines, NamesText, AreNeeded}

pub named_more : (known : Known) (n : ℕ) (units : Units) (m : ℕ) → is_named (known ++ (n, units) ∷ []) m ≡ (is_named known m || n == m)
named_more [] n units m = by (n == m)
  where
    by : (t : Bool) → (t || false) ≡ (false || t)
    by true = refl
    by false = refl
named_more (e ∷ known) n units m = ap (λ t. e.0 == m || t) (named_more known n units m) ∙ by (e.0 == m) (is_named known m) (n == m)
  where
    by : (p q r : Bool) → (p || (q || r)) ≡ ((p || q) || r)
    by true q r = refl
    by false q r = refl

-- ---- lines one after another

pub log_more : (known : Known) (front back : List Line) → IsLogFrom known front → IsLogFrom (known_after known front) back → IsLogFrom known (front ++ back)
log_more known [] back h k = k
log_more known (line ∷ front) back h k = (h.0, log_more (with_line known line) front back h.1 k)

known_more : (known : Known) (front back : List Line) → known_after known (front ++ back) ≡ known_after (known_after known front) back
known_more known [] back = refl
known_more known (line ∷ front) back = known_more (with_line known line) front back

-- what lines say was done doesn't hang on their numbers
deeds_any : (j k : ℕ) (lines : List Line) → deeds_of (entries_from j lines) ≡ deeds_of (entries_from k lines)
deeds_any j k [] = refl
deeds_any j k (text n units ∷ lines) = deeds_any (j + 1) (k + 1) lines
deeds_any j k (done d ∷ lines) = ap (λ (ds : List Deed). d ∷ ds) (deeds_any (j + 1) (k + 1) lines)

-- ---- what is known of texts is known of deeds

module _ (P Q : TextId → Type 0) (f : (id : TextId) → P id → Q id) where
  name_more : (name : Name) → KnowsName P name → KnowsName Q name
  name_more (Index index) h = h
  name_more (Named id) h = f id h

  value_more : (v : Value) → KnowsValue P v → KnowsValue Q v
  value_more Undefined h = tt
  value_more Null h = tt
  value_more (Truth truth) h = tt
  value_more (Number x) h = tt
  value_more (Text id) h = f id h
  value_more (Object o) h = tt

  content_more : (c : Content) → KnowsContent P c → KnowsContent Q c
  content_more Absent h = tt
  content_more (Present v) h = value_more v h

  verdict_more : (v : Verdict) → KnowsVerdict P v → KnowsVerdict Q v
  verdict_more Moved h = tt
  verdict_more (Disagrees s) h = name_more s.name h
  verdict_more NoParent h = tt

  pub deed_more : (d : Deed) → KnowsDeed P d → KnowsDeed Q d
  deed_more (Read w s c) h = (name_more s.name h.0, content_more c h.1)
  deed_more (Write w s c) h = (name_more s.name h.0, content_more c h.1)
  deed_more (ListOf w o names) h = λ k d l. name_more (get_or names k d) (h k d l)
  deed_more (Sprout w owner strict child) h = tt
  deed_more (Commit w v) h = verdict_more v h

-- ---- the texts that a deed names

-- each of them
abbrev pub Each : (TextId → Type 0) → List TextId → Type 0
Each P [] = Unit {0}
Each P (id ∷ ids) = P id × Each P ids

module _ (P : TextId → Type 0) where
  each_append : (xs ys : List TextId) → Each P xs → Each P ys → Each P (xs ++ ys)
  each_append [] ys h k = k
  each_append (x ∷ xs) ys h k = (h.0, each_append xs ys h.1 k)

  each_front : (xs ys : List TextId) → Each P (xs ++ ys) → Each P xs
  each_front [] ys h = tt
  each_front (x ∷ xs) ys h = (h.0, each_front xs ys h.1)

  each_back : (xs ys : List TextId) → Each P (xs ++ ys) → Each P ys
  each_back [] ys h = h
  each_back (x ∷ xs) ys h = each_back xs ys h.1

  -- they are known where the deed is

  ids_of_name : (n : Name) → KnowsName P n → Each P (name_ids n)
  ids_of_name (Index index) k = tt
  ids_of_name (Named id) k = (k, tt)

  ids_of_value : (v : Value) → KnowsValue P v → Each P (value_ids v)
  ids_of_value Undefined k = tt
  ids_of_value Null k = tt
  ids_of_value (Truth truth) k = tt
  ids_of_value (Number x) k = tt
  ids_of_value (Text id) k = (k, tt)
  ids_of_value (Object o) k = tt

  ids_of_content : (c : Content) → KnowsContent P c → Each P (content_ids c)
  ids_of_content Absent k = tt
  ids_of_content (Present v) k = ids_of_value v k

  ids_of_names : (ns : List Name) → All (KnowsName P) ns → Each P (flat_map name_ids ns)
  ids_of_names [] k = tt
  ids_of_names (n ∷ ns) k = each_append (name_ids n) (flat_map name_ids ns) (ids_of_name n (All-head (KnowsName P) n ns k)) (ids_of_names ns (All-tail (KnowsName P) n ns k))

  ids_of_verdict : (v : Verdict) → KnowsVerdict P v → Each P (verdict_ids v)
  ids_of_verdict Moved k = tt
  ids_of_verdict (Disagrees s) k = ids_of_name s.name k
  ids_of_verdict NoParent k = tt

  ids_of_deed : (d : Deed) → KnowsDeed P d → Each P (deed_ids d)
  ids_of_deed (Read w s c) k = each_append (name_ids s.name) (content_ids c) (ids_of_name s.name k.0) (ids_of_content c k.1)
  ids_of_deed (Write w s c) k = each_append (name_ids s.name) (content_ids c) (ids_of_name s.name k.0) (ids_of_content c k.1)
  ids_of_deed (ListOf w o names) k = ids_of_names names k
  ids_of_deed (Sprout w owner strict child) k = tt
  ids_of_deed (Commit w v) k = ids_of_verdict v k

-- a deed that is known by its table is known by what holds of each text that it names
module _ (Q P : TextId → Type 0) where
  name_by : (n : Name) → KnowsName Q n → Each P (name_ids n) → KnowsName P n
  name_by (Index index) k e = k
  name_by (Named id) k e = e.0

  value_by : (v : Value) → Each P (value_ids v) → KnowsValue P v
  value_by Undefined e = tt
  value_by Null e = tt
  value_by (Truth truth) e = tt
  value_by (Number x) e = tt
  value_by (Text id) e = e.0
  value_by (Object o) e = tt

  content_by : (c : Content) → Each P (content_ids c) → KnowsContent P c
  content_by Absent e = tt
  content_by (Present v) e = value_by v e

  names_by : (ns : List Name) → All (KnowsName Q) ns → Each P (flat_map name_ids ns) → All (KnowsName P) ns
  names_by [] k e = All-nil (KnowsName P)
  names_by (n ∷ ns) k e =
      All-cons (KnowsName P) n ns
      (name_by n (All-head (KnowsName Q) n ns k) (each_front P (name_ids n) (flat_map name_ids ns) e))
      (names_by ns (All-tail (KnowsName Q) n ns k) (each_back P (name_ids n) (flat_map name_ids ns) e))

  verdict_by : (v : Verdict) → KnowsVerdict Q v → Each P (verdict_ids v) → KnowsVerdict P v
  verdict_by Moved k e = tt
  verdict_by (Disagrees s) k e = name_by s.name k e
  verdict_by NoParent k e = tt

  deed_by : (d : Deed) → KnowsDeed Q d → Each P (deed_ids d) → KnowsDeed P d
  deed_by (Read w s c) k e = (name_by s.name k.0 (each_front P (name_ids s.name) (content_ids c) e), content_by c (each_back P (name_ids s.name) (content_ids c) e))
  deed_by (Write w s c) k e = (name_by s.name k.0 (each_front P (name_ids s.name) (content_ids c) e), content_by c (each_back P (name_ids s.name) (content_ids c) e))
  deed_by (ListOf w o names) k e = names_by names k e
  deed_by (Sprout w owner strict child) k e = tt
  deed_by (Commit w v) k e = verdict_by v k e

-- ---- marks

marked_stays : (marks : List Bool) (ids : List TextId) (n : ℕ) → n < length marks → get_or marks n false ≡ true → get_or (marks_after marks ids) n false ≡ true
marked_stays marks [] n within h = h
marked_stays marks (id ∷ ids) n within h =
    marked_stays (set marks id.0 true) ids n (let long = length-set marks id.0 true in omega (arith, long, within)) (elim (cases_eq n id.0) [
      | inl e ↦ ap (λ k. get_or (set marks k true) n false) (sym e) ∙ get_or-set_same marks n true false within
      | inr ne ↦ get_or-set_other marks id.0 n true false ne ∙ h
    ])

all_marked : (marks : List Bool) (ids : List TextId) → Each (λ id. id.0 < length marks) ids → Each (λ id. get_or (marks_after marks ids) id.0 false ≡ true) ids
all_marked marks [] h = tt
all_marked marks (id ∷ ids) h =
    let long = length-set marks id.0 true in (
      marked_stays (set marks id.0 true) ids id.0 (let within = h.0 in omega (arith, long, within)) (get_or-set_same marks id.0 true false h.0),
      all_marked (set marks id.0 true) ids (subst (λ (n : ℕ). Each (λ (i : TextId). i.0 < n) ids) (sym long) h.1),
    )

-- ---- lines of texts

module _ (texts : Table) (table : IsTable texts) (few : length texts < 2 ^ 64) where
  -- the texts that are named are the table's, and they are those that are marked
  record Stands (known : Known) (marks : List Bool) : Type 0 where
    names : (n : ℕ) → is_named known n ≡ get_or marks n false
    are : All (λ (e : ℕ × Units). Denotes texts (record { 0 = e.0 }) e.1) known
    long : length marks ≡ length texts

  -- a text that is named has its number
  named_by_text : (known : Known) (marks : List Bool) (id : TextId) (units : Units) (k : ℕ) (o : Option (ℕ × Units)) → Stands known marks → Denotes texts id units → slice_get known k ≡ o → option_map (λ e. e.1) o ≡ Some units → is_named known id.0 ≡ true
  named_by_text known marks id units k None h at q e = absurd (cc)
  named_by_text known marks id units k (Some x) h at q e =
      let within = slice_get_within known k x q in
      let here = get_or_from_slice_get known k x x q in
      let same : x.1 ≡ units = cc in
      let there : Denotes texts (record { 0 = x.0 }) x.1 = subst (λ (y : ℕ × Units). Denotes texts (record { 0 = y.0 }) y.1) here (h.are k x within) in
      let number : x.0 ≡ id.0 = ap (λ (i : TextId). i.0) (table.one_number (record { 0 = x.0 }) id units (subst (λ (us : Units). Denotes texts (record { 0 = x.0 }) us) same there) at) in
      list_any_at (λ (y : ℕ × Units). y.0 == id.0) known k x within (eq-eqb _ _ (ap (λ (y : ℕ × Units). y.0) here ∙ number))

  text_follows : (known : Known) (marks : List Bool) (id : TextId) (units : Units) → Stands known marks → Denotes texts id units → Has texts id → get_or marks id.0 false ≡ false → TextMayFollow known id.0 units
  text_follows known marks id units h at has free = record {
    fits = omega (arith, has, few);
    is_text = Denotes-IsText texts id units table at;
    new_number = h.names id.0 ∙ free;
    new_text = λ i there.
        true≢false (sym (named_by_text known marks id units i.0 (slice_get known i.0) h at refl (sym (slice_get-map (λ (e : ℕ × Units). e.1) known i.0) ∙ there)) ∙ h.names id.0 ∙ free);
  }

  set_names : (known : Known) (marks : List Bool) (id : TextId) (units : Units) (n : ℕ) → Stands known marks → id.0 < length marks → is_named (known ++ (id.0, units) ∷ []) n ≡ get_or (set marks id.0 true) n false
  set_names known marks id units n h within = named_more known id.0 units n ∙ elim (cases_eq n id.0) [
    | inl e ↦ ap (λ b. is_named known n || b) (eq-eqb id.0 n (sym e)) ∙ or-true (is_named known n) ∙ sym (ap (λ k. get_or (set marks k true) n false) (sym e) ∙ get_or-set_same marks n true false (let w = within in omega (arith, e, w)))
    | inr ne ↦ ap (λ b. is_named known n || b) (ne_eqb id.0 n (λ e. ne (sym e))) ∙ or-false (is_named known n) ∙ h.names n ∙ sym (get_or-set_other marks id.0 n true false ne)
  ]

  stands_more : (known : Known) (marks : List Bool) (id : TextId) (units : Units) → Stands known marks → Denotes texts id units → Has texts id → Stands (known ++ (id.0, units) ∷ []) (set marks id.0 true)
  stands_more known marks id units h at has = record {
    names = λ n. set_names known marks id units n h (let long = h.long in omega (arith, long, has));
    are = All-push (λ (e : ℕ × Units). Denotes texts (record { 0 = e.0 }) e.1) known (id.0, units) h.are at;
    long = length-set marks id.0 true ∙ h.long;
  }

  stands_still : (known : Known) (marks : List Bool) (id : TextId) → Stands known marks → id.0 < length marks → get_or marks id.0 false ≡ true → Stands known (set marks id.0 true)
  stands_still known marks id h within marked = record {
    names = λ n. h.names n ∙ elim (cases_eq n id.0) [
      | inl e ↦ ap (λ k. get_or marks k false) e ∙ marked ∙ sym (ap (λ k. get_or (set marks k true) n false) (sym e) ∙ get_or-set_same marks n true false (let w = within in omega (arith, e, w)))
      | inr ne ↦ sym (get_or-set_other marks id.0 n true false ne)
    ];
    are = h.are;
    long = length-set marks id.0 true ∙ h.long;
  }

  -- lines that are a log behind what is known, and leave these marks
  record Follows (known : Known) (lines : List Line) (after : List Bool) : Type 0 where
    is_log : IsLogFrom known lines
    named : All (IsNamedBy texts) lines
    stands : Stands (known_after known lines) after

  follows_more : (known : Known) (front back : List Line) (mid after : List Bool) → Follows known front mid → Follows (known_after known front) back after → Follows known (front ++ back) after
  follows_more known front back mid after f b = record {
    is_log = log_more known front back f.is_log b.is_log;
    named = All-append (IsNamedBy texts) front back f.named b.named;
    stands = subst (λ (k : Known). Stands k after) (sym (known_more known front back)) b.stands;
  }

  one_line : (known : Known) (marks : List Bool) (id : TextId) (b : Bool) → get_or marks id.0 false ≡ b → Stands known marks → Has texts id → Follows known (text_line texts b id) (set marks id.0 true)
  one_line known marks id true e h has = record {
    is_log = tt;
    named = All-nil (IsNamedBy texts);
    stands = stands_still known marks id h (let long = h.long in omega (arith, long, has)) e;
  }
  one_line known marks id false e h has =
      let units = units_of texts (Named id) in
      let at = Has-Denotes texts id has in
      record {
        is_log = (text_follows known marks id units h at has e, tt);
        named = All-cons (IsNamedBy texts) (text id.0 units) [] at (All-nil (IsNamedBy texts));
        stands = stands_more known marks id units h at has;
      }

  lines_follow : (known : Known) (marks : List Bool) (ids : List TextId) → Stands known marks → Each (Has texts) ids → Follows known (lines_for texts marks ids) (marks_after marks ids)
  lines_follow known marks [] h has = record { is_log = tt; named = All-nil (IsNamedBy texts); stands = h }
  lines_follow known marks (id ∷ ids) h has =
      let b = get_or marks id.0 false in
      let first = one_line known marks id b refl h has.0 in
      follows_more known (text_line texts b id) (lines_for texts (set marks id.0 true) ids) (set marks id.0 true) (marks_after (set marks id.0 true) ids) first
      (lines_follow (known_after known (text_line texts b id)) (set marks id.0 true) ids first.stands has.1)

  -- ---- a deed, and all of them

  deed_follows : (known : Known) (marks : List Bool) (d : Deed) → Stands known marks → KnowsDeed (Has texts) d → FitsDeed d → InOrder d → Follows known (lines_for texts marks (deed_ids d) ++ done d ∷ []) (marks_after marks (deed_ids d))
  deed_follows known marks d h has fits order =
      let ids = deed_ids d in
      let there = ids_of_deed (Has texts) d has in
      let lines = lines_follow known marks ids h there in
      let marked = all_marked marks ids (subst (λ (n : ℕ). Each (λ (i : TextId). i.0 < n) ids) (sym h.long) there) in
      let mid = known_after known (lines_for texts marks ids) in
      let knows = deed_by (Has texts) (λ id. IsTrue (is_named mid id.0)) d has (marked_named mid (marks_after marks ids) ids lines.stands marked) in
      follows_more known (lines_for texts marks ids) (done d ∷ []) (marks_after marks ids) (marks_after marks ids) lines (record {
        is_log = (record { fits = fits; knows = knows; in_order = order }, tt);
        named = All-cons (IsNamedBy texts) (done d) [] tt (All-nil (IsNamedBy texts));
        stands = lines.stands;
      })
    where
      marked_named : (known : Known) (marks : List Bool) (ids : List TextId) → Stands known marks → Each (λ id. get_or marks id.0 false ≡ true) ids → Each (λ id. IsTrue (is_named known id.0)) ids
      marked_named known marks [] h m = tt
      marked_named known marks (id ∷ ids) h m = (h.names id.0 ∙ m.0, marked_named known marks ids h m.1)

  all_follow : (known : Known) (marks : List Bool) (entries : List Entry) → Stands known marks → KnowsLog texts entries → AreInOrder entries → All (λ (e : Entry). FitsDeed e.deed) entries → (after : List Bool) × Follows known (lines_from texts marks entries) after
  all_follow known marks [] h has order fits = (marks, record { is_log = tt; named = All-nil (IsNamedBy texts); stands = h })
  all_follow known marks (e ∷ entries) h has order fits =
      let K : Entry → Type 0 = λ x. KnowsDeed (Has texts) x.deed in
      let O : Entry → Type 0 = λ x. InOrder x.deed in
      let F : Entry → Type 0 = λ x. FitsDeed x.deed in
      let lines = lines_for texts marks (deed_ids e.deed) in
      let mid = marks_after marks (deed_ids e.deed) in
      let first = deed_follows known marks e.deed h (All-head K e entries has) (All-head F e entries fits) (All-head O e entries order) in
      let later = all_follow (known_after known (lines ++ done e.deed ∷ [])) mid entries first.stands (All-tail K e entries has) (All-tail O e entries order) (All-tail F e entries fits) in
      let both = follows_more known (lines ++ done e.deed ∷ []) (lines_from texts mid entries) mid later.0 first later.1 in
      (later.0, subst (λ (ls : List Line). Follows known ls later.0) (append_assoc lines (done e.deed ∷ []) (lines_from texts mid entries)) both)

  -- ---- what was done

  no_deeds_line : (j k : ℕ) (b : Bool) (id : TextId) (rest : List Line) → deeds_of (entries_from j (text_line texts b id ++ rest)) ≡ deeds_of (entries_from k rest)
  no_deeds_line j k true id rest = deeds_any j k rest
  no_deeds_line j k false id rest = deeds_any (j + 1) k rest

  no_deeds : (j k : ℕ) (marks : List Bool) (ids : List TextId) (rest : List Line) → deeds_of (entries_from j (lines_for texts marks ids ++ rest)) ≡ deeds_of (entries_from k rest)
  no_deeds j k marks [] rest = deeds_any j k rest
  no_deeds j k marks (id ∷ ids) rest =
      let line = text_line texts (get_or marks id.0 false) id in
      let later = lines_for texts (set marks id.0 true) ids in
      ap (λ (ls : List Line). deeds_of (entries_from j ls)) (append_assoc line later rest)
      ∙ no_deeds_line j k (get_or marks id.0 false) id (later ++ rest)
      ∙ no_deeds k k (set marks id.0 true) ids rest

  all_deeds : (j : ℕ) (marks : List Bool) (entries : List Entry) → deeds_of (entries_from j (lines_from texts marks entries)) ≡ deeds_of entries
  all_deeds j marks [] = refl
  all_deeds j marks (e ∷ entries) =
      no_deeds j j marks (deed_ids e.deed) (done e.deed ∷ lines_from texts (marks_after marks (deed_ids e.deed)) entries)
      ∙ ap (λ (ds : List Deed). e.deed ∷ ds) (all_deeds (j + 1) (marks_after marks (deed_ids e.deed)) entries)

  -- ---- each text stands where it is needed

  in_all : (ids : List TextId) → Each (λ id. IsTrue (list_any (λ (i : TextId). i.0 == id.0) ids)) ids
  in_all ids = from [] ids
    where
      more : (x : TextId) (ids : List TextId) (id : TextId) → IsTrue (list_any (λ (i : TextId). i.0 == id.0) ids) → IsTrue (list_any (λ (i : TextId). i.0 == id.0) (x ∷ ids))
      more x ids id h = ap (λ b. x.0 == id.0 || b) h ∙ or-true (x.0 == id.0)

      behind : (front : List TextId) (x : TextId) (ids : List TextId) → IsTrue (list_any (λ (i : TextId). i.0 == x.0) (front ++ x ∷ ids))
      behind [] x ids = ap (λ b. b || list_any (λ (i : TextId). i.0 == x.0) ids) (eq-eqb x.0 x.0 refl)
      behind (y ∷ front) x ids = more y (front ++ x ∷ ids) x (behind front x ids)

      from : (front ids : List TextId) → Each (λ id. IsTrue (list_any (λ (i : TextId). i.0 == id.0) (front ++ ids))) ids
      from front [] = tt
      from front (x ∷ ids) = (behind front x ids, subst (λ (l : List TextId). Each (λ id. IsTrue (list_any (λ (i : TextId). i.0 == id.0) l)) ids) (append_assoc front (x ∷ []) ids) (from (front ++ x ∷ []) ids))

  line_needed : (numbers : List ℕ) (b : Bool) (id : TextId) (rest : List Line) (d : Deed) → All (NamesText d) numbers → NamesText d id.0 → ((more : List ℕ) → All (NamesText d) more → AreNeeded more rest) → AreNeeded numbers (text_line texts b id ++ rest)
  line_needed numbers true id rest d above named go = go numbers above
  line_needed numbers false id rest d above named go = go (id.0 ∷ numbers) (All-cons (NamesText d) id.0 numbers named above)

  lines_needed : (marks : List Bool) (ids : List TextId) (d : Deed) (rest : List Line) → Each (λ id. NamesText d id.0) ids → AreNeeded [] rest → (numbers : List ℕ) → All (NamesText d) numbers → AreNeeded numbers (lines_for texts marks ids ++ done d ∷ rest)
  lines_needed marks [] d rest named later numbers above = (above, later)
  lines_needed marks (id ∷ ids) d rest named later numbers above =
      let line = text_line texts (get_or marks id.0 false) id in
      let more = lines_for texts (set marks id.0 true) ids in
      subst (AreNeeded numbers) (sym (append_assoc line more (done d ∷ rest)))
      (line_needed numbers (get_or marks id.0 false) id (more ++ done d ∷ rest) d above named.0 (lines_needed (set marks id.0 true) ids d rest named.1 later))

  all_needed : (marks : List Bool) (entries : List Entry) → AreNeeded [] (lines_from texts marks entries)
  all_needed marks [] = refl
  all_needed marks (e ∷ entries) =
      let ids = deed_ids e.deed in
      lines_needed marks ids e.deed (lines_from texts (marks_after marks ids) entries) (in_all ids) (all_needed (marks_after marks ids) entries) [] (All-nil (NamesText e.deed))

  none_stands : Stands [] (no_marks texts)
  none_stands = record { names = λ n. sym (none n (cases_within n)); are = All-nil (λ (e : ℕ × Units). Denotes texts (record { 0 = e.0 }) e.1); long = length-replicate (length texts) false }
    where
      none : (n : ℕ) → (n < length texts) ⊎ (length texts ≤ n) → get_or (no_marks texts) n false ≡ false
      none n (inl within) = get_or-replicate (length texts) n false false within
      none n (inr far) = get_or_past (no_marks texts) n false (let long = length-replicate (length texts) false in omega (arith, long, far))

      cases_within : (n : ℕ) → (n < length texts) ⊎ (length texts ≤ n)
      cases_within n = cases_lt n (length texts)

  -- what is written for entries is a log of them
  pub spells : (entries : List Entry) (bytes : List ℕ) → KnowsLog texts entries → AreInOrder entries → All (λ (e : Entry). FitsDeed e.deed) entries → bytes ≡ log_text (needed_lines texts entries) → Spells bytes entries texts
  spells entries bytes has order fits e =
      let all = all_follow [] (no_marks texts) entries none_stands has order fits in
      record {
        lines = needed_lines texts entries;
        is_log = (all.1).is_log;
        text = e;
        deeds = all_deeds 1 (no_marks texts) entries;
        named = (all.1).named;
        needed = all_needed (no_marks texts) entries;
      }
