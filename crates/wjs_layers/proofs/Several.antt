-- Several slots of one object are written in a world.
use Rattle.std.proofs.Common.{◌≡◌, ℕ, zero, suc, ◌+◌, ◌<◌, List, [], ◌∷◌, drop, get_or, length, set, None, Some, refl, ap, sym, ◌∙◌, subst}
use Rattle.std.specs.Prelude.{slice_get}
use Rattle.std.proofs.lemmas.List.{drop_more}
use Rattle.std.specs.FinMap as map
use Rattle.wjs_base.specs.declared.ids.ObjId.{ObjId}
use Rattle.wjs_base.specs.declared.ids.WorldId.{WorldId}
use Rattle.wjs_base.specs.declared.values.Content.TheVariants.{Present}
use Rattle.wjs_base.specs.declared.values.Name.{Name}
use Rattle.wjs_base.specs.declared.values.Slot.{Slot}
use Rattle.wjs_base.specs.declared.values.Value.{Value}
use Rattle.wjs_base.proofs.Lists.{get_set_same}
use Rattle.wjs_store.specs.Naming.{plain}
use Rattle.wjs_store.specs.State.{State, after_write, write_all}
use Rattle.wjs_store.specs.Meaning.{entries_of}
use Rattle.wjs_layers.specs.declared.layer.Spot.{Spot}
use Rattle.wjs_layers.specs.declared.layer.Layer.{Layer}
use Rattle.wjs_layers.specs.Several.{first_rows}
use Rattle.wjs_layers.specs.Sparse.{IsSparse, IsAt, StandFor, full_of, place_of}
use Rattle.wjs_layers.specs.Tables.{row_with}
use Rattle.wjs_layers.proofs.Looks.{below_at}
use Rattle.wjs_layers.proofs.Puts.{set_same}
use Rattle.wjs_layers.proofs.SettleLaws.{write_places}
use Rattle.wjs_layers.proofs.WriteLaws.{write_by, puts_first}

set_twice : {A : Type 0} (xs : List A) (i : ℕ) (a b : A) → set (set xs i a) i b ≡ set xs i b
set_twice [] i a b = refl
set_twice (x ∷ xs) zero a b = refl
set_twice (x ∷ xs) (suc i) a b = ap (λ rest. x ∷ rest) (set_twice xs i a b)

-- in the first world, where one layer stands for all of them
pub writes_first : (rows : List (Name × Value)) (layers : List Layer) (h : IsSparse layers) (at : Spot) (here : IsAt layers at) (r : Layer) (s : slice_get layers at.place ≡ Some r) (u : r.above ≡ None) (o : ObjId)
    → StandFor (set layers at.place (record r { rows = first_rows o rows r.rows })) (write_all at.world (entries_of o rows) (full_of layers))
writes_first [] layers h at here r s u o = subst (λ ls. StandFor ls (full_of layers)) (sym (set_same layers at.place r s)) (record { full = refl; sparse = h })
writes_first (row ∷ rows) layers h at here r s u o =
    let q : Slot = record { object = o; name = row.0 } in
    let next : Layer = record r { rows = map.insert r.rows q (row_with row.1) } in
    let last : Layer = record r { rows = first_rows o (row ∷ rows) r.rows } in
    let mid = set layers at.place next in
    let one : StandFor mid (after_write (full_of layers) at.world q (Some row.1)) = write_by layers h at here r s q (Some row.1) (Some (row_with row.1))
    (λ x f. puts_first (full_of layers) at.world r x q (Present row.1) h.reached f (h.kept.at at.world at.place x r here f s) u) in
    let there : IsAt mid at = ap (λ F. place_of F at.world) one.full ∙ write_places (full_of layers) at.world q (Some row.1) at.world ∙ here in
    let rest : StandFor (set mid at.place last) (write_all at.world (entries_of o rows) (full_of mid)) = writes_first rows mid one.sparse at there next (get_set_same layers at.place next (below_at layers at h here)) u o in
    subst (λ ls. StandFor ls (write_all at.world (entries_of o (row ∷ rows)) (full_of layers))) (set_twice layers at.place next last)
    (subst (λ (F : State plain). StandFor (set mid at.place last) (write_all at.world (entries_of o rows) F)) one.full rest)

-- one row of those that are left
pub rows_more : (w : WorldId) (o : ObjId) (rows : List (Name × Value)) (i : ℕ) (row : Name × Value) (F G Z : State plain) → i < length rows → row ≡ get_or rows i row → G ≡ after_write F w (record { object = o; name = row.0 }) (Some row.1)
    → write_all w (entries_of o (drop i rows)) F ≡ Z → write_all w (entries_of o (drop (i + 1) rows)) G ≡ Z
rows_more w o rows i row F G Z l is h k =
    ap (write_all w (entries_of o (drop (i + 1) rows))) h
    ∙ ap (λ (rs : List (Name × Value)). write_all w (entries_of o rs) F) (ap (λ d. d ∷ drop (i + 1) rows) is ∙ sym (drop_more rows i row l))
    ∙ k
