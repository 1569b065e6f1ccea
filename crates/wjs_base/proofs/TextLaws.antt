-- Laws of tables of texts and of names, for those who hold text numbers.
use Rattle.std.proofs.Common.{◌≡◌, [], ◌∷◌, ◌++◌, Some, length, slice_get, get_or, ⊎_elim, sym, ap, subst, ◌∙◌, append_assoc, append-nil, arith}
use Rattle.std.proofs.lemmas.List.{get_or_append_left, length-append}
use Rattle.std.proofs.lemmas.Option.{slice_get-get_or, slice_get_within, get_or_from_slice_get, unwrap_or-slice_get}
use Rattle.std.specs.Prelude.{decimal}
use Rattle.wjs_base.specs.declared.ids.TextId.{TextId}
use Rattle.wjs_base.specs.declared.values.Name.{Name}
use Rattle.wjs_base.specs.declared.values.Name.TheVariants.{Index, Text}
use Rattle.wjs_base.specs.Spelling.{IsNameOf, IsName, units_of}
use Rattle.wjs_base.specs.Text.{Units, Table, Has, Denotes, IsText, IsTable, Grows, Interns}

pub Denotes-Has : (texts : Table) (id : TextId) (units : Units) → Denotes texts id units → Has texts id
Denotes-Has texts id units at = slice_get_within texts id.0 units at

pub Has-Denotes : (texts : Table) (id : TextId) → Has texts id → Denotes texts id (units_of texts (Text id))
Has-Denotes texts id has = slice_get-get_or texts id.0 [] has ∙ ap Some (sym (unwrap_or-slice_get texts id.0 []))

pub Denotes-IsText : (texts : Table) (id : TextId) (units : Units) → IsTable texts → Denotes texts id units → IsText units
Denotes-IsText texts id units table at =
    subst IsText (get_or_from_slice_get texts id.0 units units at) (table.are_texts id.0 units (slice_get_within texts id.0 units at))

pub Denotes-unique : (texts : Table) (id : TextId) (units others : Units) → Denotes texts id units → Denotes texts id others → units ≡ others
Denotes-unique texts id units others at other = let e : Some units ≡ Some others = sym at ∙ other in cc

pub Grows-refl : (texts : Table) → Grows texts texts
Grows-refl texts = ([], sym (append-nil texts))

pub Grows-trans : (a b c : Table) → Grows a b → Grows b c → Grows a c
Grows-trans a b c g h = (g.0 ++ h.0, h.1 ∙ ap (λ (ts : Table). ts ++ h.0) g.1 ∙ append_assoc a g.0 h.0)

pub Grows-Has : (old new : Table) (id : TextId) → Grows old new → Has old id → Has new id
Grows-Has old new id g has = let long = ap (λ (ts : Table). length ts) g.1 ∙ length-append old g.0 in omega (arith, long, has)

-- a text that was there keeps its number
pub Grows-Denotes : (old new : Table) (id : TextId) (units : Units) → Grows old new → Denotes old id units → Denotes new id units
Grows-Denotes old new id units g at =
    let has = slice_get_within old id.0 units at in
    let all : slice_get (old ++ g.0) id.0 ≡ Some units =
    slice_get-get_or (old ++ g.0) id.0 units (let long = length-append old g.0 in omega (arith, long, has))
    ∙ ap Some (get_or_append_left old g.0 units id.0 has ∙ get_or_from_slice_get old id.0 units units at) in
    subst (λ (ts : Table). slice_get ts id.0 ≡ Some units) (sym g.1) all

-- and no other one
pub Grows-Denotes-back : (old new : Table) (id : TextId) (units : Units) → Grows old new → Has old id → Denotes new id units → Denotes old id units
Grows-Denotes-back old new id units g has at =
    let there = slice_get-get_or old id.0 units has in
    let kept = Grows-Denotes old new id (get_or old id.0 units) g there in
    there ∙ ap Some (Denotes-unique new id (get_or old id.0 units) units kept at)

Interns-Grows : (old new : Table) (units : Units) (id : TextId) → Interns old new units id → Grows old new
Interns-Grows old new units id h = ⊎_elim (λ e. ([], e ∙ sym (append-nil old))) (λ e. (units ∷ [], e)) h.table

pub Grows-IsName : (old new : Table) (name : Name) → Grows old new → IsName old name → IsName new name
Grows-IsName old new (Index index) g is = is
Grows-IsName old new (Text id) g is =
    (Grows-Has old new id g is.0, λ index small at. is.1 index small (Grows-Denotes-back old new id (decimal index) g is.0 at))

pub IsNameOf-IsName : (texts : Table) (id : TextId) (name : Name) → Has texts id → IsNameOf texts id name → IsName texts name
IsNameOf-IsName texts id (Index index) has is = is.0
IsNameOf-IsName texts id (Text itself) has is =
    (subst (Has texts) (sym is.0) has, λ index small at. is.1 index small (subst (λ (t : TextId). Denotes texts t (decimal index)) is.0 at))

-- the text of the name of a text is that text
pub text_again : (old new : Table) (units : Units) (id text : TextId) → IsTable new → Interns old new units id → Denotes old text units → id ≡ text
text_again old new units id text table interns at = table.one_number id text units interns.denotes (Grows-Denotes old new text units (Interns-Grows old new units id interns) at)
