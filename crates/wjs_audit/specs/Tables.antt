-- The lines of a log's deeds, and of the texts that they need, as `spell_log` writes them.
use Rattle.std.specs.Prelude.{◌≡◌, ℕ, ◌==◌, Bool, true, false, if◌then◌else◌, List, [], ◌∷◌, ◌++◌, length, replicate, set, get_or, IsTrue, All}
use Rattle.std.specs.List.{flat_map, list_any}
use Rattle.wjs_base.specs.declared.ids.TextId.{TextId}
use Rattle.wjs_base.specs.declared.values.Name.{Name}
use Rattle.wjs_base.specs.declared.values.Name.TheVariants.{Index, Text as Named}
use Rattle.wjs_base.specs.declared.values.Value.{Value}
use Rattle.wjs_base.specs.declared.values.Value.TheVariants.{Undefined, Null, Bool as Truth, Number, Text, Object}
use Rattle.wjs_base.specs.declared.values.Content.{Content}
use Rattle.wjs_base.specs.declared.values.Content.TheVariants.{Absent, Present}
use Rattle.wjs_base.specs.Spelling.{units_of}
use Rattle.wjs_base.specs.Text.{Table}
use Rattle.wjs_store.specs.declared.store.Verdict.{Verdict}
use Rattle.wjs_store.specs.declared.store.Verdict.TheVariants.{Moved, Disagrees, NoParent}
use Rattle.wjs_audit.specs.declared.deed.Deed.{Deed}
use Rattle.wjs_audit.specs.declared.deed.Deed.TheVariants.{Read, Write, List as ListOf, Sprout, Commit}
use Rattle.wjs_audit.specs.declared.deed.Entry.{Entry}
use Rattle.wjs_audit.specs.Spelling.{Line, text, done, log_text}

-- ---- the texts that a deed names, in their order

abbrev pub name_ids : Name → List TextId
name_ids (Index index) = []
name_ids (Named id) = id ∷ []

abbrev pub value_ids : Value → List TextId
value_ids Undefined = []
value_ids Null = []
value_ids (Truth truth) = []
value_ids (Number x) = []
value_ids (Text id) = id ∷ []
value_ids (Object o) = []

abbrev pub content_ids : Content → List TextId
content_ids Absent = []
content_ids (Present v) = value_ids v

abbrev pub verdict_ids : Verdict → List TextId
verdict_ids Moved = []
verdict_ids (Disagrees s) = name_ids s.name
verdict_ids NoParent = []

abbrev pub deed_ids : Deed → List TextId
deed_ids (Read w s c) = name_ids s.name ++ content_ids c
deed_ids (Write w s c) = name_ids s.name ++ content_ids c
deed_ids (ListOf w o names) = flat_map name_ids names
deed_ids (Sprout w owner strict child) = []
deed_ids (Commit w v) = verdict_ids v

-- ---- their lines; a table's texts are marked that have one

-- the line of a text, where it has none yet
abbrev pub text_line : Table → Bool → TextId → List Line
text_line texts stands id = if stands then [] else text id.0 (units_of texts (Named id)) ∷ []

abbrev pub lines_for : Table → List Bool → List TextId → List Line
lines_for texts marks [] = []
lines_for texts marks (id ∷ ids) = text_line texts (get_or marks id.0 false) id ++ lines_for texts (set marks id.0 true) ids

abbrev pub marks_after : List Bool → List TextId → List Bool
marks_after marks [] = marks
marks_after marks (id ∷ ids) = marks_after (set marks id.0 true) ids

-- each deed, below the lines of the texts that it names and that have none yet
abbrev pub lines_from : Table → List Bool → List Entry → List Line
lines_from texts marks [] = []
lines_from texts marks (e ∷ entries) = lines_for texts marks (deed_ids e.deed) ++ done e.deed ∷ lines_from texts (marks_after marks (deed_ids e.deed)) entries

abbrev pub no_marks : Table → List Bool
no_marks texts = replicate (length texts) false

-- the lines of a log: a text stands where it is first needed, and one that no deed names stands nowhere
abbrev pub needed_lines : Table → List Entry → List Line
needed_lines texts entries = lines_from texts (no_marks texts) entries

-- ---- a text stands where it is first needed

-- the deed names the text of this number
abbrev pub NamesText : Deed → ℕ → Type 0
NamesText d number = IsTrue (list_any (λ (id : TextId). id.0 == number) (deed_ids d))

-- each text's line, also those of these numbers that stand above, has below it only others of texts and then a deed that names it
abbrev pub AreNeeded : List ℕ → List Line → Type 0
AreNeeded numbers [] = numbers ≡ []
AreNeeded numbers (text number units ∷ lines) = AreNeeded (number ∷ numbers) lines
AreNeeded numbers (done d ∷ lines) = All (NamesText d) numbers × AreNeeded [] lines

-- ---- what a call writes

-- the lines of these texts were put behind the bytes, where they had none
pub record Puts (texts : Table) (ids : List TextId) (old new : List ℕ) (marks after : List Bool) : Type 0 where
  pub text : new ≡ old ++ log_text (lines_for texts marks ids)
  pub marked : after ≡ marks_after marks ids
  pub long : length after ≡ length marks

-- the line of a deed was put there too
pub record PutsDeed (texts : Table) (d : Deed) (old new : List ℕ) (marks after : List Bool) : Type 0 where
  pub text : new ≡ old ++ log_text (lines_for texts marks (deed_ids d) ++ done d ∷ [])
  pub marked : after ≡ marks_after marks (deed_ids d)
  pub long : length after ≡ length marks
