-- Which lines are a log, and which bytes it has.
use Rattle.std.specs.Prelude.{◌≡◌, ℕ, ◌+◌, ◌<◌, ◌≤◌, ◌^◌, ◌==◌, Bool, false, List, [], ◌∷◌, ◌++◌, map as each, length, IsTrue, ⊤, All}
use Rattle.std.specs.List.{list_any}
use Rattle.wjs_base.specs.declared.ids.TextId.{TextId}
use Rattle.wjs_base.specs.declared.ids.ObjId.{ObjId}
use Rattle.wjs_base.specs.declared.ids.WorldId.{WorldId}
use Rattle.wjs_base.specs.declared.values.Name.{Name}
use Rattle.wjs_base.specs.declared.values.Name.TheVariants.{Index, Text as Named}
use Rattle.wjs_base.specs.declared.values.Value.{Value}
use Rattle.wjs_base.specs.declared.values.Value.TheVariants.{Undefined, Null, Bool as Truth, Number, Text, Object}
use Rattle.wjs_base.specs.declared.values.Content.{Content}
use Rattle.wjs_base.specs.declared.values.Content.TheVariants.{Absent, Present}
use Rattle.wjs_base.specs.Spelling.{greatest_index}
use Rattle.wjs_base.specs.Text.{Units, Table, Has, IsText, Denotes}
use Rattle.wjs_store.specs.declared.store.Verdict.{Verdict}
use Rattle.wjs_store.specs.declared.store.Verdict.TheVariants.{Moved, Disagrees, NoParent}
use Rattle.wjs_audit.specs.declared.deed.Deed.{Deed}
use Rattle.wjs_audit.specs.declared.deed.Deed.TheVariants.{Read, Write, List as ListOf, Sprout, Commit}
use Rattle.wjs_audit.specs.declared.deed.Entry.{Entry}
use Rattle.wjs_audit.specs.Deeds.{InOrder, deeds_of}
use Rattle.wjs_audit.specs.Spelling.{Line, text, done, line_text, log_text}
use Rattle.wjs_audit.specs.Tables.{AreNeeded}

-- ---- ranges of the types

abbrev pub FitsPair : ℕ → ℕ → Type 0
FitsPair owner serial = (owner < 2 ^ 32) × (serial < 2 ^ 64)

abbrev pub FitsWorld : WorldId → Type 0
FitsWorld w = FitsPair w.owner w.serial

abbrev pub FitsObject : ObjId → Type 0
FitsObject o = FitsPair o.owner o.serial

-- an index is in range where it is known
abbrev pub FitsName : Name → Type 0
FitsName (Index index) = ⊤
FitsName (Named id) = id.0 < 2 ^ 64

-- a number of the language is in range by itself
abbrev pub FitsValue : Value → Type 0
FitsValue Undefined = ⊤
FitsValue Null = ⊤
FitsValue (Truth truth) = ⊤
FitsValue (Number x) = ⊤
FitsValue (Text id) = id.0 < 2 ^ 64
FitsValue (Object o) = FitsObject o

abbrev pub FitsContent : Content → Type 0
FitsContent Absent = ⊤
FitsContent (Present v) = FitsValue v

abbrev pub FitsVerdict : Verdict → Type 0
FitsVerdict Moved = ⊤
FitsVerdict (Disagrees s) = FitsObject s.object × FitsName s.name
FitsVerdict NoParent = ⊤

abbrev pub FitsDeed : Deed → Type 0
FitsDeed (Read w s c) = FitsWorld w × FitsObject s.object × FitsName s.name × FitsContent c
FitsDeed (Write w s c) = FitsWorld w × FitsObject s.object × FitsName s.name × FitsContent c
FitsDeed (ListOf w o names) = FitsWorld w × FitsObject o × All FitsName names
FitsDeed (Sprout w owner strict child) = FitsWorld w × (owner < 2 ^ 32) × FitsWorld child
FitsDeed (Commit w v) = FitsWorld w × FitsVerdict v

-- ---- texts that are known

-- each text's number is known, and each index is one
module _ (knows : TextId → Type 0) where
  abbrev pub KnowsName : Name → Type 0
  KnowsName (Index index) = index ≤ greatest_index
  KnowsName (Named id) = knows id

  abbrev pub KnowsValue : Value → Type 0
  KnowsValue Undefined = ⊤
  KnowsValue Null = ⊤
  KnowsValue (Truth truth) = ⊤
  KnowsValue (Number x) = ⊤
  KnowsValue (Text id) = knows id
  KnowsValue (Object o) = ⊤

  abbrev pub KnowsContent : Content → Type 0
  KnowsContent Absent = ⊤
  KnowsContent (Present v) = KnowsValue v

  abbrev pub KnowsVerdict : Verdict → Type 0
  KnowsVerdict Moved = ⊤
  KnowsVerdict (Disagrees s) = KnowsName s.name
  KnowsVerdict NoParent = ⊤

  abbrev pub KnowsDeed : Deed → Type 0
  KnowsDeed (Read w s c) = KnowsName s.name × KnowsContent c
  KnowsDeed (Write w s c) = KnowsName s.name × KnowsContent c
  KnowsDeed (ListOf w o names) = All KnowsName names
  KnowsDeed (Sprout w owner strict child) = ⊤
  KnowsDeed (Commit w v) = KnowsVerdict v

-- each text's number of an entry is the table's
abbrev pub KnowsLog : Table → List Entry → Type 0
KnowsLog texts entries = All (λ (e : Entry). KnowsDeed (Has texts) e.deed) entries

-- ---- lines one after another

-- the texts so far, each with the number that names it
abbrev pub Known : Type 0
Known = List (ℕ × Units)

abbrev pub is_named : Known → ℕ → Bool
is_named known number = list_any (λ e. e.0 == number) known

abbrev pub texts_of : Known → Table
texts_of known = each (λ e. e.1) known

-- a new number for a new text
pub record TextMayFollow (known : Known) (number : ℕ) (units : Units) : Type 0 where
  pub fits : number < 2 ^ 64
  pub is_text : IsText units
  pub new_number : is_named known number ≡ false
  pub new_text : (id : TextId) → ¬ (Denotes (texts_of known) id units)

-- it speaks of texts that were named above
pub record DeedMayFollow (known : Known) (d : Deed) : Type 0 where
  pub fits : FitsDeed d
  pub knows : KnowsDeed (λ id. IsTrue (is_named known id.0)) d
  pub in_order : InOrder d

abbrev pub MayFollow : Known → Line → Type 0
MayFollow known (text number units) = TextMayFollow known number units
MayFollow known (done d) = DeedMayFollow known d

abbrev pub with_line : Known → Line → Known
with_line known (text number units) = known ++ (number, units) ∷ []
with_line known (done d) = known

abbrev pub known_after : Known → List Line → Known
known_after known [] = known
known_after known (line ∷ lines) = known_after (with_line known line) lines

abbrev pub IsLogFrom : Known → List Line → Type 0
IsLogFrom known [] = ⊤
IsLogFrom known (line ∷ lines) = MayFollow known line × IsLogFrom (with_line known line) lines

-- ---- bytes

-- the entries of lines of which the first has this number
abbrev pub entries_from : ℕ → List Line → List Entry
entries_from n [] = []
entries_from n (text number units ∷ lines) = entries_from (n + 1) lines
entries_from n (done d ∷ lines) = record { deed = d; line = n } ∷ entries_from (n + 1) lines

-- the bytes are a log with these entries, whose lines are counted from 1
pub record Reads (bytes : List ℕ) (es : List Entry) : Type 0 where
  pub lines : List Line
  pub is_log : IsLogFrom [] lines
  pub text : bytes ≡ log_text lines
  pub entries : es ≡ entries_from 1 lines

-- the line of this number is the first that breaks the form: the lines above it are a log, and what follows begins with no line that may follow them
pub record BreaksAt (bytes : List ℕ) (n : ℕ) : Type 0 where
  pub lines : List Line
  pub rest : List ℕ
  pub whole : bytes ≡ log_text lines ++ rest
  pub is_log : IsLogFrom [] lines
  pub number : n ≡ length lines + 1
  pub some : 0 < length rest
  pub none : (line : Line) (behind : List ℕ) → rest ≡ line_text line ++ behind → ¬ (MayFollow (known_after [] lines) line)

-- what the lines say was done
abbrev pub deeds_in : List Line → List Deed
deeds_in lines = deeds_of (entries_from 1 lines)

-- a text that a line names is the table's
abbrev pub IsNamedBy : Table → Line → Type 0
IsNamedBy texts (text number units) = Denotes texts (record { 0 = number }) units
IsNamedBy texts (done d) = ⊤

-- the bytes are a log of these deeds, with the table's texts under their numbers, each where it is first needed
pub record Spells (bytes : List ℕ) (entries : List Entry) (texts : Table) : Type 0 where
  pub lines : List Line
  pub is_log : IsLogFrom [] lines
  pub text : bytes ≡ log_text lines
  pub deeds : deeds_in lines ≡ deeds_of entries
  pub named : All (IsNamedBy texts) lines
  pub needed : AreNeeded [] lines
