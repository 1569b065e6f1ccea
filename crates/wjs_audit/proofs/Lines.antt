-- A line has one meaning, and its bytes end at their LF.
use Rattle.std.proofs.Common.{◌≡◌, ℕ, ◌^◌, ◌<◌, List, [], ◌∷◌, ◌++◌, map as each, length, get_or, drop, refl, ap, sym, ◌∙◌, append_assoc, arith, IsTrue}
use Rattle.std.specs.Prelude.{codes, decimal}
use Rattle.std.proofs.lemmas.Fmt.{decimal_injective}
use Rattle.std.proofs.lemmas.List.Elements.{All-nil, All-cons}
use Rattle.wjs_base.specs.declared.ids.TextId.{TextId}
use Rattle.wjs_base.specs.declared.values.Content.{Content}
use Rattle.wjs_base.specs.declared.values.Slot.{Slot}
use Rattle.wjs_base.specs.declared.ids.WorldId.{WorldId}
use Rattle.wjs_base.specs.Text.{Units, IsText}
use Rattle.wjs_audit.specs.declared.deed.Deed.{Deed}
use Rattle.wjs_audit.specs.declared.deed.Deed.TheVariants.{Read, Write, List as ListOf, Sprout, Commit}
use Rattle.wjs_audit.specs.Spelling.{Line, text, done, world_text, object_text, name_text, content_text, kind_text, verdict_parts, deed_parts, hex_parts, line_parts, joined, line_text}
use Rattle.wjs_audit.specs.Logs.{FitsWorld, FitsObject, FitsName, FitsContent, FitsDeed, KnowsName, KnowsDeed, Known, is_named, MayFollow}
use Rattle.wjs_audit.proofs.Words.{IsWord, AreWords, word_by, decimal_word, joined_lacks, joined_one, cut_one}
use Rattle.wjs_audit.proofs.Spellings.{lead, pair_word, world_one, object_one, name_word, names_word, names_one, content_word, content_one, kind_word, kind_one, slot_one, verdict_words, verdict_one, hex_words, hex_parts_one}

abbrev part_at : ℕ → List (List ℕ) → List ℕ
part_at n parts = get_or parts n []

module _ (knows : TextId → Type 0) where
  row_words : (w : WorldId) (s : Slot) (c : Content) → FitsWorld w × FitsObject s.object × FitsName s.name × FitsContent c → KnowsName knows s.name → AreWords (world_text w ∷ object_text s.object ∷ name_text s.name ∷ content_text c ∷ [])
  row_words w s c f k =
      All-cons IsWord (world_text w) (object_text s.object ∷ name_text s.name ∷ content_text c ∷ []) (pair_word w.owner w.serial f.0)
      (All-cons IsWord (object_text s.object) (name_text s.name ∷ content_text c ∷ []) (pair_word s.object.owner s.object.serial f.1)
      (All-cons IsWord (name_text s.name) (content_text c ∷ []) (name_word knows s.name f.2 k)
      (All-cons IsWord (content_text c) [] (content_word c f.3) (All-nil IsWord))))

  pub deed_words : (d : Deed) → FitsDeed d → KnowsDeed knows d → AreWords (deed_parts d)
  deed_words (Read w s c) f k =
      All-cons IsWord (codes "read") (world_text w ∷ object_text s.object ∷ name_text s.name ∷ content_text c ∷ []) (word_by (codes "read") refl) (row_words w s c f k.0)
  deed_words (Write w s c) f k =
      All-cons IsWord (codes "write") (world_text w ∷ object_text s.object ∷ name_text s.name ∷ content_text c ∷ []) (word_by (codes "write") refl) (row_words w s c f k.0)
  deed_words (ListOf w o names) f k =
      All-cons IsWord (codes "list") (world_text w ∷ object_text o ∷ each name_text names) (word_by (codes "list") refl)
      (All-cons IsWord (world_text w) (object_text o ∷ each name_text names) (pair_word w.owner w.serial f.0)
      (All-cons IsWord (object_text o) (each name_text names) (pair_word o.owner o.serial f.1) (names_word knows names f.2 k)))
  deed_words (Sprout w owner strict child) f k =
      All-cons IsWord (codes "sprout") (world_text w ∷ decimal owner ∷ kind_text strict ∷ world_text child ∷ []) (word_by (codes "sprout") refl)
      (All-cons IsWord (world_text w) (decimal owner ∷ kind_text strict ∷ world_text child ∷ []) (pair_word w.owner w.serial f.0)
      (All-cons IsWord (decimal owner) (kind_text strict ∷ world_text child ∷ []) (decimal_word owner (let low = f.1 in omega (arith, low)))
      (All-cons IsWord (kind_text strict) (world_text child ∷ []) (kind_word strict)
      (All-cons IsWord (world_text child) [] (pair_word child.owner child.serial f.2) (All-nil IsWord)))))
  deed_words (Commit w v) f k =
      All-cons IsWord (codes "commit") (world_text w ∷ verdict_parts v) (word_by (codes "commit") refl)
      (All-cons IsWord (world_text w) (verdict_parts v) (pair_word w.owner w.serial f.0) (verdict_words knows v f.1 k))

  row_one : (v w : WorldId) (s t : Slot) (c d : Content) → FitsWorld v × FitsObject s.object × FitsName s.name × FitsContent c → KnowsName knows s.name → FitsWorld w × FitsObject t.object × FitsName t.name × FitsContent d → KnowsName knows t.name → (p q : List ℕ)
      → p ∷ world_text v ∷ object_text s.object ∷ name_text s.name ∷ content_text c ∷ [] ≡ q ∷ world_text w ∷ object_text t.object ∷ name_text t.name ∷ content_text d ∷ [] → (v ≡ w) × (s ≡ t) × (c ≡ d)
  row_one v w s t c d f h g k p q e = (
    world_one v w f.0 g.0 (ap (part_at 1) e),
    slot_one knows s t (f.1, f.2) h (g.1, g.2) k (ap (part_at 2) e) (ap (part_at 3) e),
    content_one c d f.3 g.3 (ap (part_at 4) e),
  )

  deed_by : (c d : Deed) → FitsDeed c → KnowsDeed knows c → FitsDeed d → KnowsDeed knows d → deed_parts c ≡ deed_parts d → lead (deed_parts c) ≡ lead (deed_parts d) → c ≡ d
  deed_by (Read v s a) (Read w t b) f h g k e l =
      let r = row_one v w s t a b f h.0 g k.0 (codes "read") (codes "read") e in
      λ i. Read (r.0 i) (r.1 i) (r.2 i)
  deed_by (Write v s a) (Write w t b) f h g k e l =
      let r = row_one v w s t a b f h.0 g k.0 (codes "write") (codes "write") e in
      λ i. Write (r.0 i) (r.1 i) (r.2 i)
  deed_by (ListOf v o ms) (ListOf w p ns) f h g k e l =
      let x = world_one v w f.0 g.0 (ap (part_at 1) e) in
      let y = object_one o p f.1 g.1 (ap (part_at 2) e) in
      let z = names_one knows ms ns f.2 h g.2 k (ap (drop 3) e) in
      λ i. ListOf (x i) (y i) (z i)
  deed_by (Sprout v m a x) (Sprout w n b y) f h g k e l =
      let low = f.1 in
      let high = g.1 in
      let p = world_one v w f.0 g.0 (ap (part_at 1) e) in
      let q = decimal_injective m n (omega (arith, low)) (omega (arith, high)) (ap (part_at 2) e) in
      let r = kind_one a b (ap (part_at 3) e) in
      let t = world_one x y f.2 g.2 (ap (part_at 4) e) in
      λ i. Sprout (p i) (q i) (r i) (t i)
  deed_by (Commit v a) (Commit w b) f h g k e l =
      let p = world_one v w f.0 g.0 (ap (part_at 1) e) in
      let q = verdict_one knows a b f.1 h g.1 k (ap (drop 2) e) in
      λ i. Commit (p i) (q i)
  deed_by c d f h g k e l = absurd (omega arith)

-- ---- lines

abbrev knows_in : Known → TextId → Type 0
knows_in known id = IsTrue (is_named known id.0)

-- the parts of a text's line
pub text_words : (n : ℕ) (units : Units) → n < 2 ^ 64 → IsText units → AreWords (line_parts (text n units))
text_words n units fits is =
    All-cons IsWord (codes "text") (decimal n ∷ hex_parts units) (word_by (codes "text") refl)
    (All-cons IsWord (decimal n) (hex_parts units) (decimal_word n fits) (hex_words units is.sixteen_bits))

line_words : (known : Known) (l : Line) → MayFollow known l → AreWords (line_parts l)
line_words known (text n units) h = text_words n units h.fits h.is_text
line_words known (done d) h = deed_words (knows_in known) d h.fits h.knows

line_by : (known : Known) (l m : Line) → MayFollow known l → MayFollow known m → line_parts l ≡ line_parts m → lead (line_parts l) ≡ lead (line_parts m) → l ≡ m
line_by known (text a us) (text b vs) h k e i =
    let p = decimal_injective a b h.fits k.fits (ap (part_at 1) e) in
    let q = hex_parts_one us vs h.is_text.sixteen_bits k.is_text.sixteen_bits (ap (drop 2) e) in
    λ j. text (p j) (q j)
line_by known (done c) (done d) h k e i = ap done (deed_by (knows_in known) c d h.fits h.knows k.fits k.knows e i)
line_by known (text a us) (done (Read w s c)) h k e i = absurd (omega arith)
line_by known (text a us) (done (Write w s c)) h k e i = absurd (omega arith)
line_by known (text a us) (done (ListOf w o ns)) h k e i = absurd (omega arith)
line_by known (text a us) (done (Sprout w o s c)) h k e i = absurd (omega arith)
line_by known (text a us) (done (Commit w v)) h k e i = absurd (omega arith)
line_by known (done (Read w s c)) (text a us) h k e i = absurd (omega arith)
line_by known (done (Write w s c)) (text a us) h k e i = absurd (omega arith)
line_by known (done (ListOf w o ns)) (text a us) h k e i = absurd (omega arith)
line_by known (done (Sprout w o s c)) (text a us) h k e i = absurd (omega arith)
line_by known (done (Commit w v)) (text a us) h k e i = absurd (omega arith)

-- lines of the same parts are one
line_parts_one : (known : Known) (l m : Line) → MayFollow known l → MayFollow known m → line_parts l ≡ line_parts m → l ≡ m
line_parts_one known l m h k e = line_by known l m h k e (ap lead e)

joined_parts_one : (ps qs : List (List ℕ)) → 0 < length ps → 0 < length qs → AreWords ps → AreWords qs → joined ps ≡ joined qs → ps ≡ qs
joined_parts_one [] qs some more f g e = absurd (omega arith)
joined_parts_one (p ∷ ps) [] some more f g e = absurd (omega arith)
joined_parts_one (p ∷ ps) (q ∷ qs) some more f g e = let r = joined_one p ps q qs f g e in λ i. r.0 i ∷ r.1 i

pub some_parts : (l : Line) → 0 < length (line_parts l)
some_parts (text n units) = omega arith
some_parts (done (Read w s c)) = omega arith
some_parts (done (Write w s c)) = omega arith
some_parts (done (ListOf w o names)) = omega arith
some_parts (done (Sprout w owner strict child)) = omega arith
some_parts (done (Commit w v)) = omega arith

-- bytes that begin with lines begin with one line
pub line_one : (known : Known) (l m : Line) (r s : List ℕ) → MayFollow known l → MayFollow known m → line_text l ++ r ≡ line_text m ++ s → (l ≡ m) × (r ≡ s)
line_one known l m r s h k e =
    let f = line_words known l h in
    let g = line_words known m k in
    let whole : joined (line_parts l) ++ 10 ∷ r ≡ joined (line_parts m) ++ 10 ∷ s =
    sym (append_assoc (joined (line_parts l)) (10 ∷ []) r) ∙ e ∙ append_assoc (joined (line_parts m)) (10 ∷ []) s in
    let c = cut_one 10 (joined (line_parts l)) r (joined (line_parts m)) s (joined_lacks (line_parts l) f) (joined_lacks (line_parts m) g) whole in
    (line_parts_one known l m h k (joined_parts_one (line_parts l) (line_parts m) (some_parts l) (some_parts m) f g c.0), c.1)
