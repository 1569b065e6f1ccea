-- What the readers of a log's parts and lines give.
use Rattle.std.specs.Prelude.{◌≡◌, ℕ, ◌<◌, ◌^◌, ◌==◌, Bool, false, ◌||◌, nat_lt, List, [], ◌∷◌, ◌++◌, map as each, Option, None, Some, decimal, IsTrue, MatchBool, ⊤, All}
use Rattle.std.specs.BTreeSet.{contains}
use Rattle.std.specs.Ordering.{nat_cmp}
use Rattle.wjs_base.specs.declared.ids.TextId.{TextId}
use Rattle.wjs_base.specs.declared.values.Name.{Name}
use Rattle.wjs_base.specs.declared.values.Slot.{Slot}
use Rattle.wjs_base.specs.declared.values.Value.{Value}
use Rattle.wjs_base.specs.declared.values.Value.TheVariants.{Undefined, Null, Bool as Truth, Number, Text, Object}
use Rattle.wjs_base.specs.declared.values.Content.{Content}
use Rattle.wjs_base.specs.Order.{name_cmp}
use Rattle.wjs_base.specs.Text.{Units, IsText, Denotes}
use Rattle.wjs_store.specs.declared.store.Verdict.{Verdict}
use Rattle.wjs_store.specs.Ascends.{Ascends}
use Rattle.wjs_audit.specs.declared.deed.Deed.{Deed}
use Rattle.wjs_audit.specs.declared.known.KnownTexts.{KnownTexts}
use Rattle.wjs_audit.specs.declared.line.Row.{Row}
use Rattle.wjs_audit.specs.declared.reading.Reading.{Reading}
use Rattle.wjs_audit.specs.Deeds.{InOrder}
use Rattle.wjs_audit.specs.Parts.{AreParts}
use Rattle.wjs_audit.specs.Spelling.{Line, text, done, world_text, object_text, name_text, content_text, deed_parts, hex_parts, spaced}
use Rattle.wjs_audit.specs.Logs.{FitsWorld, FitsObject, FitsName, FitsValue, FitsContent, FitsVerdict, FitsDeed, KnowsName, KnowsValue, KnowsContent, KnowsVerdict, KnowsDeed, Known, is_named, texts_of, entries_from}

-- ---- readers

-- what bytes or parts are read as: the one thing in range that is spelled so, and none where there is none
abbrev pub IsReadAs : {B X : Type 0} → (X → B) → (X → Type 0) → B → Option X → Type 0
IsReadAs {B} {X} spelling fits part None = (x : X) → fits x → ¬ (part ≡ spelling x)
IsReadAs {B} {X} spelling fits part (Some x) = fits x × (part ≡ spelling x)

-- the same of the parts that follow another one
abbrev pub FollowsAs : {X : Type 0} → (X → List (List ℕ)) → (X → Type 0) → List ℕ → Option X → Type 0
FollowsAs spelling fits tail found = (parts : List (List ℕ)) → AreParts parts → tail ≡ spaced parts → IsReadAs spelling fits parts found

-- ---- the texts so far

-- whether the number names a text
abbrev pub numbers : KnownTexts → ℕ → Bool
numbers known n = nat_lt n known.below || contains nat_cmp known.others n

abbrev pub Numbered : KnownTexts → TextId → Type 0
Numbered known id = IsTrue (numbers known id.0)

-- these texts with these numbers are known
abbrev pub Holds : KnownTexts → Known → Type 0
Holds known all = ((n : ℕ) → is_named all n ≡ numbers known n) × (known.texts ≡ texts_of all)

-- one text more
abbrev pub Named : KnownTexts → ℕ → Units → KnownTexts → Type 0
Named old number units new = (new.texts ≡ old.texts ++ units ∷ []) × ((m : ℕ) → numbers new m ≡ (numbers old m || number == m))

-- ---- what may stand in a line

abbrev pub IdMay : KnownTexts → TextId → Type 0
IdMay known id = (id.0 < 2 ^ 64) × Numbered known id

abbrev pub NameMay : KnownTexts → Name → Type 0
NameMay known n = FitsName n × KnowsName (Numbered known) n

abbrev pub SlotMay : KnownTexts → Slot → Type 0
SlotMay known s = FitsObject s.object × NameMay known s.name

abbrev pub ValueMay : KnownTexts → Value → Type 0
ValueMay known v = FitsValue v × KnowsValue (Numbered known) v

abbrev pub ContentMay : KnownTexts → Content → Type 0
ContentMay known c = FitsContent c × KnowsContent (Numbered known) c

-- a value that is spelled by one letter
abbrev pub IsConstant : Value → Type 0
IsConstant Undefined = ⊤
IsConstant Null = ⊤
IsConstant (Truth truth) = ⊤
IsConstant (Number x) = ⊥
IsConstant (Text id) = ⊥
IsConstant (Object o) = ⊥

abbrev pub slot_parts : Slot → List (List ℕ)
slot_parts s = object_text s.object ∷ name_text s.name ∷ []

abbrev pub row_parts : Row → List (List ℕ)
row_parts r = world_text r.world ∷ object_text r.slot.object ∷ name_text r.slot.name ∷ content_text r.content ∷ []

abbrev pub RowMay : KnownTexts → Row → Type 0
RowMay known r = FitsWorld r.world × SlotMay known r.slot × ContentMay known r.content

abbrev pub names_parts : List Name → List (List ℕ)
names_parts = each name_text

abbrev pub NamesMay : KnownTexts → List Name → Type 0
NamesMay known names = All FitsName names × All (KnowsName (Numbered known)) names × Ascends name_cmp names

abbrev pub VerdictMay : KnownTexts → Verdict → Type 0
VerdictMay known v = FitsVerdict v × KnowsVerdict (Numbered known) v

abbrev pub DeedMay : KnownTexts → Deed → Type 0
DeedMay known d = FitsDeed d × KnowsDeed (Numbered known) d × InOrder d

-- a new number for a new text
abbrev pub TextMay : KnownTexts → ℕ → Units → Type 0
TextMay known number units = (number < 2 ^ 64) × IsText units × (numbers known number ≡ false) × ((id : TextId) → ¬ (Denotes known.texts id units))

abbrev pub LineMay : KnownTexts → Line → Type 0
LineMay known (text number units) = TextMay known number units
LineMay known (done d) = DeedMay known d

-- ---- lines

-- the deed of a line with this word, by what follows the word
abbrev pub IsDeedOf : KnownTexts → List ℕ → List ℕ → Option Deed → Type 0
IsDeedOf known word tail found = (parts : List (List ℕ)) → AreParts parts → tail ≡ spaced parts → IsReadAs deed_parts (DeedMay known) (word ∷ parts) found

-- whether what follows `text` names a text that may be named, and how it is named then
abbrev pub AddsText : KnownTexts → List ℕ → KnownTexts → Bool → Type 0
AddsText old tail new adds =
    (parts : List (List ℕ)) → AreParts parts → tail ≡ spaced parts
    → MatchBool adds
    ((number : ℕ) × (units : Units) × (parts ≡ decimal number ∷ hex_parts units) × TextMay old number units × Named old number units new)
    ((number : ℕ) (units : Units) → TextMay old number units → ¬ (parts ≡ decimal number ∷ hex_parts units))

-- what is known below a line
abbrev pub Below : KnownTexts → Line → KnownTexts → Type 0
Below old (text number units) new = Named old number units new
Below old (done d) new = new ≡ old

-- the line of this number was taken in
abbrev pub Takes : Reading → ℕ → Line → Reading → Type 0
Takes old number line new = LineMay old.known line × Below old.known line new.known × (new.log ≡ old.log ++ entries_from number (line ∷ []))
