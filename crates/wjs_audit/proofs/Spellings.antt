-- Each part of a line is a word, and has one meaning.
use Rattle.std.proofs.Common.{◌≡◌, ℕ, suc, ◌+◌, ◌*◌, ◌/◌, ◌%◌, ◌^◌, ◌<◌, ◌≤◌, Bool, true, false, cond, ◌==◌, ◌⊎◌, inl, inr, List, [], ◌∷◌, ◌++◌, map as each, get_or, take, drop, Some, None, refl, ap, sym, ◌∙◌, arith, All}
use Rattle.std.specs.Prelude.{codes, decimal, ℤ, pos, negsuc, Option}
use Rattle.std.specs.Fmt.{digits, digit_glyph}
use Rattle.std.proofs.lemmas.Bool.{cases_lt, lt-ltb, le-ltb}
use Rattle.std.proofs.lemmas.Int.{ints}
use Rattle.std.proofs.lemmas.Fmt.{decimal_injective, decimal_nonempty, hex_one_digit}
use Rattle.std.proofs.lemmas.List.Elements.{All-nil, All-cons, All-head, All-tail, All-append, All-get_or}
use Rattle.wjs_base.specs.declared.ids.TextId.{TextId}
use Rattle.wjs_base.specs.declared.ids.ObjId.{ObjId}
use Rattle.wjs_base.specs.declared.ids.WorldId.{WorldId}
use Rattle.wjs_base.specs.declared.values.Name.{Name}
use Rattle.wjs_base.specs.declared.values.Name.TheVariants.{Index, Text as Named}
use Rattle.wjs_base.specs.declared.values.Slot.{Slot}
use Rattle.wjs_base.specs.declared.values.Value.{Value}
use Rattle.wjs_base.specs.declared.values.Value.TheVariants.{Undefined, Null, Bool as Truth, Number, Text, Object}
use Rattle.wjs_base.specs.declared.values.Content.{Content}
use Rattle.wjs_base.specs.declared.values.Content.TheVariants.{Absent, Present}
use Rattle.wjs_base.specs.Range.{InRange, IsInRange}
use Rattle.wjs_base.specs.Same.{whole_same}
use Rattle.wjs_base.specs.Text.{Units}
use Rattle.wjs_store.specs.declared.store.Verdict.{Verdict}
use Rattle.wjs_store.specs.declared.store.Verdict.TheVariants.{Moved, Disagrees, NoParent}
use Rattle.wjs_audit.specs.Parts.{AreUnits}
use Rattle.wjs_audit.specs.Spelling.{pair_text, world_text, object_text, name_text, number_text, value_text, content_text, kind_text, verdict_parts, unit_text, hex, hex_parts}
use Rattle.wjs_audit.specs.Logs.{FitsPair, FitsWorld, FitsObject, FitsName, FitsValue, FitsContent, FitsVerdict, KnowsName, KnowsVerdict}
use Rattle.wjs_audit.proofs.Words.{IsWord, AreWords, word_by, decimal_word, decimal_lacks, decimal_digits, cut_one, digit_word}

-- from equal lists, equal parts
pub head_is : {A : Type 0} (x y : A) (xs ys : List A) → x ∷ xs ≡ y ∷ ys → x ≡ y
head_is x y xs ys e = cc

pub tail_is : {A : Type 0} (x y : A) (xs ys : List A) → x ∷ xs ≡ y ∷ ys → xs ≡ ys
tail_is x y xs ys e = cc

-- the first byte, and 0 where there is none
abbrev pub initial : List ℕ → ℕ
initial bytes = get_or bytes 0 0

-- ---- pairs

pub pair_word : (owner serial : ℕ) → FitsPair owner serial → IsWord (pair_text owner serial)
pair_word owner serial fits =
    All-append (λ b. 32 < b) (decimal owner) (46 ∷ decimal serial) (decimal_word owner (omega (arith, fits.0))) (All-cons (λ b. 32 < b) 46 (decimal serial) (omega arith) (decimal_word serial fits.1))

pair_one : (a b c d : ℕ) → FitsPair a b → FitsPair c d → pair_text a b ≡ pair_text c d → (a ≡ c) × (b ≡ d)
pair_one a b c d f g e =
    let p = cut_one 46 (decimal a) (decimal b) (decimal c) (decimal d) (decimal_lacks a 46 (omega (arith, f.0)) (omega arith)) (decimal_lacks c 46 (omega (arith, g.0)) (omega arith)) e in
    (decimal_injective a c (omega (arith, f.0)) (omega (arith, g.0)) p.0, decimal_injective b d f.1 g.1 p.1)

pub world_one : (v w : WorldId) → FitsWorld v → FitsWorld w → world_text v ≡ world_text w → v ≡ w
world_one v w f g e = let p = pair_one v.owner v.serial w.owner w.serial f g e in λ i. record { owner = p.0 i; serial = p.1 i }

pub object_one : (o p : ObjId) → FitsObject o → FitsObject p → object_text o ≡ object_text p → o ≡ p
object_one o p f g e = let q = pair_one o.owner o.serial p.owner p.serial f g e in λ i. record { owner = q.0 i; serial = q.1 i }

-- ---- names

id_one : (a b : TextId) → a.0 < 2 ^ 64 → b.0 < 2 ^ 64 → decimal a.0 ≡ decimal b.0 → a ≡ b
id_one a b f g e = let p = decimal_injective a.0 b.0 f g e in λ i. record { 0 = p i }

module _ (knows : TextId → Type 0) where
  pub name_word : (n : Name) → FitsName n → KnowsName knows n → IsWord (name_text n)
  name_word (Index index) f k = All-cons (λ b. 32 < b) 35 (decimal index) (omega arith) (decimal_word index (omega arith))
  name_word (Named id) f k = All-cons (λ b. 32 < b) 36 (decimal id.0) (omega arith) (decimal_word id.0 f)

  pub name_one : (m n : Name) → FitsName m → KnowsName knows m → FitsName n → KnowsName knows n → name_text m ≡ name_text n → m ≡ n
  name_one (Index a) (Index b) f h g k e = ap Index (decimal_injective a b (omega arith) (omega arith) (tail_is 35 35 (decimal a) (decimal b) e))
  name_one (Index a) (Named b) f h g k e = absurd (let i : ◌≡◌ {A = ℕ} 35 36 = ap initial e in omega arith)
  name_one (Named a) (Index b) f h g k e = absurd (let i : ◌≡◌ {A = ℕ} 36 35 = ap initial e in omega arith)
  name_one (Named a) (Named b) f h g k e = ap Named (id_one a b f g (tail_is 36 36 (decimal a.0) (decimal b.0) e))

  pub names_word : (ns : List Name) → All FitsName ns → All (KnowsName knows) ns → AreWords (each name_text ns)
  names_word [] f k = All-nil IsWord
  names_word (n ∷ ns) f k =
      All-cons IsWord (name_text n) (each name_text ns) (name_word n (All-head FitsName n ns f) (All-head (KnowsName knows) n ns k)) (names_word ns (All-tail FitsName n ns f) (All-tail (KnowsName knows) n ns k))

  pub names_one : (ms ns : List Name) → All FitsName ms → All (KnowsName knows) ms → All FitsName ns → All (KnowsName knows) ns → each name_text ms ≡ each name_text ns → ms ≡ ns
  names_one [] [] f h g k e = refl
  names_one [] (n ∷ ns) f h g k e = cc
  names_one (m ∷ ms) [] f h g k e = cc
  names_one (m ∷ ms) (n ∷ ns) f h g k e =
      let first = name_one m n (All-head FitsName m ms f) (All-head (KnowsName knows) m ms h) (All-head FitsName n ns g) (All-head (KnowsName knows) n ns k) (head_is (name_text m) (name_text n) (each name_text ms) (each name_text ns) e) in
      let later = names_one ms ns (All-tail FitsName m ms f) (All-tail (KnowsName knows) m ms h) (All-tail FitsName n ns g) (All-tail (KnowsName knows) n ns k) (tail_is (name_text m) (name_text n) (each name_text ms) (each name_text ns) e) in
      λ i. first i ∷ later i

-- ---- numbers of the language

small_pos : (n : ℕ) → InRange (pos n) → n < 2 ^ 63
small_pos n h = omega (arith, ints, h.1)

small_neg : (n : ℕ) → InRange (negsuc n) → suc n < 2 ^ 63
small_neg n h = omega (arith, ints, h.0)

number_word : (x : Option ℤ) → IsInRange x → IsWord (number_text x)
number_word None h = word_by (codes "n") refl
number_word (Some (pos n)) h = decimal_word n (let s = small_pos n h in omega (arith, s))
number_word (Some (negsuc n)) h = All-cons (λ b. 32 < b) 45 (decimal (suc n)) (omega arith) (decimal_word (suc n) (let s = small_neg n h in omega (arith, s)))

-- decimal digits begin with one
pub digit_first : (n : ℕ) → n < 2 ^ 64 → (48 ≤ initial (decimal n)) × (initial (decimal n) ≤ 57)
digit_first n fits = All-get_or (λ b. (48 ≤ b) × (b ≤ 57)) (decimal n) 0 0 (decimal_nonempty n fits) (decimal_digits n fits)

number_one : (x y : Option ℤ) → IsInRange x → IsInRange y → number_text x ≡ number_text y → x ≡ y
number_one None None h k e = refl
number_one None (Some (pos n)) h k e = absurd (let d = digit_first n (let s = small_pos n k in omega (arith, s)) in let i : 110 ≡ initial (decimal n) = ap initial e in omega (arith, d.1))
number_one None (Some (negsuc n)) h k e = absurd (let i : ◌≡◌ {A = ℕ} 110 45 = ap initial e in omega arith)
number_one (Some (pos n)) None h k e = absurd (let d = digit_first n (let s = small_pos n h in omega (arith, s)) in let i : initial (decimal n) ≡ 110 = ap initial e in omega (arith, d.1))
number_one (Some (negsuc n)) None h k e = absurd (let i : ◌≡◌ {A = ℕ} 45 110 = ap initial e in omega arith)
number_one (Some (pos m)) (Some (pos n)) h k e =
    let s = small_pos m h in
    let t = small_pos n k in
    ap (λ j. Some (pos j)) (decimal_injective m n (omega (arith, s)) (omega (arith, t)) e)
number_one (Some (pos m)) (Some (negsuc n)) h k e = absurd (let d = digit_first m (let s = small_pos m h in omega (arith, s)) in let i : initial (decimal m) ≡ 45 = ap initial e in omega (arith, d.0))
number_one (Some (negsuc m)) (Some (pos n)) h k e = absurd (let d = digit_first n (let s = small_pos n k in omega (arith, s)) in let i : 45 ≡ initial (decimal n) = ap initial e in omega (arith, d.0))
number_one (Some (negsuc m)) (Some (negsuc n)) h k e =
    let s = small_neg m h in
    let t = small_neg n k in
    let p = decimal_injective (suc m) (suc n) (omega (arith, s)) (omega (arith, t)) (tail_is 45 45 (decimal (suc m)) (decimal (suc n)) e) in
    let q : m ≡ n = omega (arith, p) in
    ap (λ j. Some (negsuc j)) q

-- ---- contents

value_word : (v : Value) → FitsValue v → IsWord (value_text v)
value_word Undefined f = word_by (codes "u") refl
value_word Null f = word_by (codes "l") refl
value_word (Truth true) f = word_by (codes "t") refl
value_word (Truth false) f = word_by (codes "f") refl
value_word (Number x) f = All-cons (λ b. 32 < b) 100 (number_text x.number) (omega arith) (number_word x.number x.in_range)
value_word (Text id) f = All-cons (λ b. 32 < b) 36 (decimal id.0) (omega arith) (decimal_word id.0 f)
value_word (Object o) f = All-cons (λ b. 32 < b) 64 (object_text o) (omega arith) (pair_word o.owner o.serial f)

pub content_word : (c : Content) → FitsContent c → IsWord (content_text c)
content_word Absent f = word_by (codes "-") refl
content_word (Present v) f = value_word v f

truth_one : (a b : Bool) → value_text (Truth a) ≡ value_text (Truth b) → a ≡ b
truth_one true true e = refl
truth_one false false e = refl
truth_one true false e = absurd (let i : ◌≡◌ {A = ℕ} 116 102 = ap initial e in omega arith)
truth_one false true e = absurd (let i : ◌≡◌ {A = ℕ} 102 116 = ap initial e in omega arith)

-- the byte that a value's spelling begins with, where true and false count as one
abbrev shape : Value → ℕ
shape Undefined = 117
shape Null = 108
shape (Truth truth) = 102
shape (Number x) = 100
shape (Text id) = 36
shape (Object o) = 64

abbrev shape_of : List ℕ → ℕ
shape_of bytes = cond (initial bytes == 116) 102 (initial bytes)

shape_is : (v : Value) → shape_of (value_text v) ≡ shape v
shape_is Undefined = refl
shape_is Null = refl
shape_is (Truth true) = refl
shape_is (Truth false) = refl
shape_is (Number x) = refl
shape_is (Text id) = refl
shape_is (Object o) = refl

value_by : (v w : Value) → FitsValue v → FitsValue w → value_text v ≡ value_text w → shape v ≡ shape w → v ≡ w
value_by Undefined Undefined f g e s = refl
value_by Null Null f g e s = refl
value_by (Truth a) (Truth b) f g e s = ap (λ t. Truth t) (truth_one a b e)
value_by (Number x) (Number y) f g e s =
    ap (λ n. Number n) (whole_same x y (number_one x.number y.number x.in_range y.in_range (tail_is 100 100 (number_text x.number) (number_text y.number) e)))
value_by (Text a) (Text b) f g e s = ap (λ id. Text id) (id_one a b f g (tail_is 36 36 (decimal a.0) (decimal b.0) e))
value_by (Object o) (Object p) f g e s = ap (λ q. Object q) (object_one o p f g (tail_is 64 64 (object_text o) (object_text p) e))
value_by v w f g e s = absurd (omega arith)

-- no value begins with `-`
no_dash : (v : Value) → 45 ≡ shape v → ⊥
no_dash Undefined e = omega arith
no_dash Null e = omega arith
no_dash (Truth truth) e = omega arith
no_dash (Number x) e = omega arith
no_dash (Text id) e = omega arith
no_dash (Object o) e = omega arith

pub content_one : (c d : Content) → FitsContent c → FitsContent d → content_text c ≡ content_text d → c ≡ d
content_one Absent Absent f g e = refl
content_one Absent (Present w) f g e = absurd (no_dash w (ap shape_of e ∙ shape_is w))
content_one (Present v) Absent f g e = absurd (no_dash v (sym (ap shape_of e) ∙ shape_is v))
content_one (Present v) (Present w) f g e = ap Present (value_by v w f g e (sym (shape_is v) ∙ ap shape_of e ∙ shape_is w))

-- ---- kinds and verdicts

pub kind_word : (strict : Bool) → IsWord (kind_text strict)
kind_word true = word_by (codes "s") refl
kind_word false = word_by (codes "p") refl

pub kind_one : (a b : Bool) → kind_text a ≡ kind_text b → a ≡ b
kind_one true true e = refl
kind_one false false e = refl
kind_one true false e = absurd (let i : ◌≡◌ {A = ℕ} 115 112 = ap initial e in omega arith)
kind_one false true e = absurd (let i : ◌≡◌ {A = ℕ} 112 115 = ap initial e in omega arith)

-- the byte that parts begin with
abbrev pub lead : List (List ℕ) → ℕ
lead parts = initial (get_or parts 0 [])

module _ (knows : TextId → Type 0) where
  slot_words : (s : Slot) → FitsObject s.object × FitsName s.name → KnowsName knows s.name → AreWords (object_text s.object ∷ name_text s.name ∷ [])
  slot_words s f k = All-cons IsWord (object_text s.object) (name_text s.name ∷ []) (pair_word s.object.owner s.object.serial f.0) (All-cons IsWord (name_text s.name) [] (name_word knows s.name f.1 k) (All-nil IsWord))

  pub slot_one : (s t : Slot) → FitsObject s.object × FitsName s.name → KnowsName knows s.name → FitsObject t.object × FitsName t.name → KnowsName knows t.name → object_text s.object ≡ object_text t.object → name_text s.name ≡ name_text t.name → s ≡ t
  slot_one s t f h g k d e =
      let o = object_one s.object t.object f.0 g.0 d in
      let n = name_one knows s.name t.name f.1 h g.1 k e in
      λ i. record { object = o i; name = n i }

  pub verdict_words : (v : Verdict) → FitsVerdict v → KnowsVerdict knows v → AreWords (verdict_parts v)
  verdict_words Moved f k = All-cons IsWord (codes "moved") [] (word_by (codes "moved") refl) (All-nil IsWord)
  verdict_words (Disagrees s) f k = All-cons IsWord (codes "differs") (object_text s.object ∷ name_text s.name ∷ []) (word_by (codes "differs") refl) (slot_words s f k)
  verdict_words NoParent f k = All-cons IsWord (codes "none") [] (word_by (codes "none") refl) (All-nil IsWord)

  verdict_by : (v w : Verdict) → FitsVerdict v → KnowsVerdict knows v → FitsVerdict w → KnowsVerdict knows w → verdict_parts v ≡ verdict_parts w → lead (verdict_parts v) ≡ lead (verdict_parts w) → v ≡ w
  verdict_by Moved Moved f h g k e s = refl
  verdict_by (Disagrees a) (Disagrees b) f h g k e s =
      let o : object_text a.object ≡ object_text b.object = ap (λ ps. get_or ps 1 []) e in
      let n : name_text a.name ≡ name_text b.name = ap (λ ps. get_or ps 2 []) e in
      ap Disagrees (slot_one a b f h g k o n)
  verdict_by NoParent NoParent f h g k e s = refl
  verdict_by v w f h g k e s = absurd (omega arith)

  pub verdict_one : (v w : Verdict) → FitsVerdict v → KnowsVerdict knows v → FitsVerdict w → KnowsVerdict knows w → verdict_parts v ≡ verdict_parts w → v ≡ w
  verdict_one v w f h g k e = verdict_by v w f h g k e (ap lead e)

-- ---- code units

glyph_one : (a b : ℕ) → a < 16 → b < 16 → digit_glyph false a ≡ digit_glyph false b → a ≡ b
glyph_one a b f g e = by (cases_lt a 10) (cases_lt b 10)
  where
    small : (d : ℕ) → d < 10 → digit_glyph false d ≡ 48 + d
    small d l = ap (λ t. cond t (48 + d) (87 + d)) (lt-ltb d 10 l)

    large : (d : ℕ) → 10 ≤ d → digit_glyph false d ≡ 87 + d
    large d l = ap (λ t. cond t (48 + d) (87 + d)) (le-ltb d 10 l)

    by : (a < 10) ⊎ (10 ≤ a) → (b < 10) ⊎ (10 ≤ b) → a ≡ b
    by (inl p) (inl q) = let x = small a p in let y = small b q in omega (arith, x, y, e)
    by (inl p) (inr q) = let x = small a p in let y = large b q in omega (arith, x, y, e)
    by (inr p) (inl q) = let x = large a p in let y = small b q in omega (arith, x, y, e)
    by (inr p) (inr q) = let x = large a p in let y = large b q in omega (arith, x, y, e)

-- the four digits of a unit, each one byte
abbrev pub glyphs : ℕ → List ℕ
glyphs u = digit_glyph false (u / 4096) ∷ digit_glyph false (u / 256 % 16) ∷ digit_glyph false (u / 16 % 16) ∷ digit_glyph false (u % 16) ∷ []

module _ (u : ℕ) (fits : u < 2 ^ 16) where
  pub unit_glyphs : unit_text u ≡ glyphs u
  unit_glyphs = λ i.
      hex_one_digit false (u / 4096) (omega arith) i ++ (hex_one_digit false (u / 256 % 16) (omega arith) i ++ (hex_one_digit false (u / 16 % 16) (omega arith) i ++ hex_one_digit false (u % 16) (omega arith) i))

  unit_word : IsWord (unit_text u)
  unit_word =
      All-append (λ b. 32 < b) (digits 16 false (u / 4096)) (digits 16 false (u / 256 % 16) ++ (digits 16 false (u / 16 % 16) ++ digits 16 false (u % 16))) (digit_word (u / 4096) (omega arith))
      (All-append (λ b. 32 < b) (digits 16 false (u / 256 % 16)) (digits 16 false (u / 16 % 16) ++ digits 16 false (u % 16)) (digit_word (u / 256 % 16) (omega arith))
      (All-append (λ b. 32 < b) (digits 16 false (u / 16 % 16)) (digits 16 false (u % 16)) (digit_word (u / 16 % 16) (omega arith)) (digit_word (u % 16) (omega arith))))

unit_parts : (u : ℕ) → u < 2 ^ 16 → u ≡ 4096 * (u / 4096) + 256 * (u / 256 % 16) + 16 * (u / 16 % 16) + u % 16
unit_parts u fits = omega arith

unit_one : (u v : ℕ) → u < 2 ^ 16 → v < 2 ^ 16 → glyphs u ≡ glyphs v → u ≡ v
unit_one u v f g e =
    let a = glyph_one (u / 4096) (v / 4096) (omega arith) (omega arith) (ap (λ bs. get_or bs 0 0) e) in
    let b = glyph_one (u / 256 % 16) (v / 256 % 16) (omega arith) (omega arith) (ap (λ bs. get_or bs 1 0) e) in
    let c = glyph_one (u / 16 % 16) (v / 16 % 16) (omega arith) (omega arith) (ap (λ bs. get_or bs 2 0) e) in
    let d = glyph_one (u % 16) (v % 16) (omega arith) (omega arith) (ap (λ bs. get_or bs 3 0) e) in
    unit_parts u f ∙ (λ i. 4096 * a i + 256 * b i + 16 * c i + d i) ∙ sym (unit_parts v g)

hex_word : (units : Units) → AreUnits units → IsWord (hex units)
hex_word [] h = All-nil (λ b. 32 < b)
hex_word (u ∷ units) h =
    All-append (λ b. 32 < b) (unit_text u) (hex units) (unit_word u (All-head (λ v. v < 2 ^ 16) u units h)) (hex_word units (All-tail (λ v. v < 2 ^ 16) u units h))

hex_one : (us vs : Units) → AreUnits us → AreUnits vs → hex us ≡ hex vs → us ≡ vs
hex_one [] [] f g e = refl
hex_one [] (v ∷ vs) f g e =
    let p = unit_glyphs v (All-head (λ x. x < 2 ^ 16) v vs g) in
    let q : [] ≡ glyphs v ++ hex vs = e ∙ ap (λ bs. bs ++ hex vs) p in cc
hex_one (u ∷ us) [] f g e =
    let p = unit_glyphs u (All-head (λ x. x < 2 ^ 16) u us f) in
    let q : glyphs u ++ hex us ≡ [] = ap (λ bs. bs ++ hex us) (sym p) ∙ e in cc
hex_one (u ∷ us) (v ∷ vs) f g e =
    let fu = All-head (λ x. x < 2 ^ 16) u us f in
    let gv = All-head (λ x. x < 2 ^ 16) v vs g in
    let both : glyphs u ++ hex us ≡ glyphs v ++ hex vs = ap (λ bs. bs ++ hex us) (sym (unit_glyphs u fu)) ∙ e ∙ ap (λ bs. bs ++ hex vs) (unit_glyphs v gv) in
    let first = unit_one u v fu gv (ap (take 4) both) in
    let later = hex_one us vs (All-tail (λ x. x < 2 ^ 16) u us f) (All-tail (λ x. x < 2 ^ 16) v vs g) (ap (drop 4) both) in
    λ i. first i ∷ later i

pub hex_words : (units : Units) → AreUnits units → AreWords (hex_parts units)
hex_words [] h = All-nil IsWord
hex_words (u ∷ units) h = All-cons IsWord (hex (u ∷ units)) [] (hex_word (u ∷ units) h) (All-nil IsWord)

pub hex_parts_one : (us vs : Units) → AreUnits us → AreUnits vs → hex_parts us ≡ hex_parts vs → us ≡ vs
hex_parts_one [] [] f g e = refl
hex_parts_one [] (v ∷ vs) f g e = cc
hex_parts_one (u ∷ us) [] f g e = cc
hex_parts_one (u ∷ us) (v ∷ vs) f g e = hex_one (u ∷ us) (v ∷ vs) f g (ap (λ ps. get_or ps 0 []) e)
