-- The programs of parts, one after another.
use Rattle.std.proofs.Common.{◌≡◌, ℕ, ◌+◌, ◌<◌, ◌≤◌, ◌⊎◌, inl, inr, Bool, true, false, cond, List, [], ◌∷◌, ◌++◌, length, take, get_or, Some, refl, sym, ap, ◌∙◌, subst, arith}
use Rattle.std.specs.Prelude.{All, map as each, option_map, slice_get}
use Rattle.std.specs.Str.{IsUtf8}
use Rattle.std.proofs.lemmas.List.{length-map, take_more, take_all, map-append}
use Rattle.std.proofs.lemmas.List.Elements.{All-nil, All-head, All-tail, All-push}
use Rattle.std.proofs.lemmas.Option.{slice_get-get_or, slice_get-map, get_or_from_slice_get}
use Rattle.wjs_base.specs.Text.{Table, Grows, IsTable}
use Rattle.wjs_base.proofs.TextLaws.{Grows-refl, Grows-trans}
use Rattle.wjs_meaning.specs.Trees.{Tree}
use Rattle.wjs_model.specs.declared.loaded.LoadedProgram.{LoadedProgram as Program}
use Rattle.wjs_model.specs.Texts.{KnowsUnit, PlacesUnit}
use Rattle.wjs_model.specs.Units.{unit_in}
use Rattle.wjs_model.proofs.Placed.{placed_stay}
use Rattle.wjs_frames.proofs.NodesGrow.{unit_grows}
use Rattle.wjs_heap_steps.proofs.Staying.{units_stay}
use Rattle.wjs_programs.specs.Programs.{IsProgram}
use Rattle.wjs_division.specs.declared.division.Piece.{Piece}
use Rattle.wjs_division.specs.declared.input.InputFault.{InputFault}
use Rattle.wjs_division.specs.declared.input.InputFault.TheVariants as faults
use Rattle.wjs_division.specs.Division.{Part, part_behind, divides, lines_of, divided, parts_of}
use Rattle.wjs_division.specs.Pieces.{piece_in, pieces_in}
use Rattle.wjs_division.specs.Inputs.{ArePrograms, IsNoInput, IsNoPart}
use Rattle.wjs_division.proofs.Texts.{part_texts}

-- ---- programs in order

programs_append : (ps qs : List Part) (ts us : List Tree) → ArePrograms ps ts → ArePrograms qs us → ArePrograms (ps ++ qs) (ts ++ us)
programs_append [] qs [] us h k = k
programs_append [] qs (t ∷ ts) us h k = absurd h
programs_append (p ∷ ps) qs [] us h k = absurd h
programs_append (p ∷ ps) qs (t ∷ ts) us h k = (h.0, programs_append ps qs ts us h.1 k)

-- ---- the part at a place

-- the part that is at a place of an input is that of the piece there
part_there : (bytes : List ℕ) (pieces : List Piece) (i : ℕ) (d : Piece) → pieces_in bytes pieces ≡ parts_of bytes → i < length pieces → slice_get (parts_of bytes) i ≡ Some (piece_in bytes (get_or pieces i d))
part_there bytes pieces i d same low =
    ap (λ (ps : List Part). slice_get ps i) (sym same)
    ∙ slice_get-map (piece_in bytes) pieces i
    ∙ (λ j. option_map (piece_in bytes) (slice_get-get_or pieces i d low j))

-- what stands before it is a text
pub front_there : (bytes : List ℕ) (pieces : List Piece) (i : ℕ) (d : Piece) → IsUtf8 bytes → pieces_in bytes pieces ≡ parts_of bytes → i < length pieces → IsUtf8 (take (get_or pieces i d).from bytes)
front_there bytes pieces i d utf8 same low = (part_texts bytes i (piece_in bytes (get_or pieces i d)) utf8 (part_there bytes pieces i d same low)).0

parts_more : (bytes : List ℕ) (pieces : List Piece) (i : ℕ) (d : Piece) → pieces_in bytes pieces ≡ parts_of bytes → i < length pieces → take (i + 1) (parts_of bytes) ≡ take i (parts_of bytes) ++ piece_in bytes (get_or pieces i d) ∷ []
parts_more bytes pieces i d same low =
    let part = piece_in bytes (get_or pieces i d) in
    let count : length (parts_of bytes) ≡ length pieces = sym (ap (λ (ps : List Part). length ps) same) ∙ length-map pieces (piece_in bytes) in
    let inside : i < length (parts_of bytes) = omega arith in
    let is : get_or (parts_of bytes) i part ≡ part = get_or_from_slice_get (parts_of bytes) i part part (part_there bytes pieces i d same low) in
    take_more (parts_of bytes) i part inside ∙ ap (λ (p : Part). take i (parts_of bytes) ++ p ∷ []) is

-- ---- a table that grows

trees_stay : (old new : Table) → Grows old new → (us : List Program) → All (KnowsUnit old) us → each (unit_in new) us ≡ each (unit_in old) us
trees_stay old new g [] known = refl
trees_stay old new g (u ∷ us) known = λ i. unit_grows old new g u (All-head (KnowsUnit old) u us known) i ∷ trees_stay old new g us (All-tail (KnowsUnit old) u us known) i

-- ---- what holds of the units so far

-- the units are those of the first parts, in a table that has grown
pub record Loaded (bytes : List ℕ) (place : ℕ) (first now : Table) (units : List Program) : Type 0 where
  pub grows : Grows first now
  pub programs : ArePrograms (take place (parts_of bytes)) (each (unit_in now) units)
  pub known : All (KnowsUnit now) units
  pub placed : All (PlacesUnit now) units
  pub table : (place ≡ 0) ⊎ IsTable now

-- one more was loaded
pub loaded_more : (bytes : List ℕ) (pieces : List Piece) (i : ℕ) (d : Piece) (first old new : Table) (units after : List Program) (u : Program) → pieces_in bytes pieces ≡ parts_of bytes → i < length pieces → Loaded bytes i first old units → Grows old new → IsTable new → IsProgram (piece_in bytes (get_or pieces i d)).bytes (unit_in new u) → KnowsUnit new u → PlacesUnit new u → after ≡ units ++ u ∷ []
    → Loaded bytes (i + 1) first new after
loaded_more bytes pieces i d first old new units after u same low h g table program knows places is = subst (λ (us : List Program). Loaded bytes (i + 1) first new us) (sym is) (record {
  grows = Grows-trans first old new h.grows g;
  programs =
      let before : ArePrograms (take i (parts_of bytes)) (each (unit_in new) units) = subst (ArePrograms (take i (parts_of bytes))) (sym (trees_stay old new g units h.known)) h.programs in
      let both = programs_append (take i (parts_of bytes)) (piece_in bytes (get_or pieces i d) ∷ []) (each (unit_in new) units) (unit_in new u ∷ []) before (program, tt) in
      subst (λ (ps : List Part). ArePrograms ps (each (unit_in new) (units ++ u ∷ []))) (sym (parts_more bytes pieces i d same low))
      (subst (ArePrograms (take i (parts_of bytes) ++ piece_in bytes (get_or pieces i d) ∷ [])) (sym (map-append (unit_in new) units (u ∷ []))) both);
  known = All-push (KnowsUnit new) units u (units_stay old new g units h.known) knows;
  placed = All-push (PlacesUnit new) units u (placed_stay old new g units h.known h.placed) places;
  table = inr table;
})

-- none was
pub loaded_none : (bytes : List ℕ) (first : Table) (units : List Program) → units ≡ [] → Loaded bytes 0 first first units
loaded_none bytes first units none = subst (λ (us : List Program). Loaded bytes 0 first first us) (sym none) (record {
  grows = Grows-refl first;
  programs = tt;
  known = All-nil (KnowsUnit first);
  placed = All-nil (PlacesUnit first);
  table = inl refl;
})

-- all were
pub loaded_all : (bytes : List ℕ) (pieces : List Piece) (i : ℕ) (first now : Table) (units : List Program) → pieces_in bytes pieces ≡ parts_of bytes → length pieces ≤ i → Loaded bytes i first now units → ArePrograms (parts_of bytes) (each (unit_in now) units)
loaded_all bytes pieces i first now units same past h =
    let count : length (parts_of bytes) ≡ length pieces = sym (ap (λ (ps : List Part). length ps) same) ∙ length-map pieces (piece_in bytes) in
    subst (λ (ps : List Part). ArePrograms ps (each (unit_in now) units)) (take_all i (parts_of bytes) (omega arith)) h.programs

-- there is a part
pub some_part : (front bytes : List ℕ) (lines : List (List ℕ)) → 0 < length (divided front bytes lines)
some_part front bytes [] = omega arith
some_part front bytes (line ∷ lines) = go (divides line) (some_part front (bytes ++ line) lines)
  where
    go : (t : Bool) → 0 < length (divided front (bytes ++ line) lines) → 0 < length (cond t (part_behind front bytes ∷ divided (front ++ (bytes ++ line)) [] lines) (divided front (bytes ++ line) lines))
    go true h = omega arith
    go false h = h

pub table_at_end : (bytes : List ℕ) (pieces : List Piece) (i : ℕ) (first now : Table) (units : List Program) → pieces_in bytes pieces ≡ parts_of bytes → length pieces ≤ i → Loaded bytes i first now units → IsTable now
table_at_end bytes pieces i first now units same past h =
    let count : length (parts_of bytes) ≡ length pieces = sym (ap (λ (ps : List Part). length ps) same) ∙ length-map pieces (piece_in bytes) in
    let some : 0 < length (parts_of bytes) = some_part [] [] (lines_of bytes) in
    elim h.table [
      | inl none ↦ absurd (omega arith)
      | inr table ↦ table
    ]

-- ---- faults

-- the first part that is no script makes the bytes no input
pub no_input : (bytes : List ℕ) (pieces : List Piece) (i : ℕ) (d : Piece) (first now : Table) (units : List Program) (fault : InputFault) → IsUtf8 bytes → pieces_in bytes pieces ≡ parts_of bytes → length pieces ≤ 1000 → i < length pieces → Loaded bytes i first now units → IsNoPart (piece_in bytes (get_or pieces i d)) fault → IsNoInput bytes fault
no_input bytes pieces i d first now units faults.NotUtf8 utf8 same few low h is = absurd is
no_input bytes pieces i d first now units faults.TooMany utf8 same few low h is = absurd is
no_input bytes pieces i d first now units faults.OutOfMemory utf8 same few low h is = tt
no_input bytes pieces i d first now units (faults.Refused told) utf8 same few low h is =
    let count : length (parts_of bytes) ≡ length pieces = sym (ap (λ (ps : List Part). length ps) same) ∙ length-map pieces (piece_in bytes) in (
      utf8,
      omega arith,
      record { place = i; part = piece_in bytes (get_or pieces i d); at = part_there bytes pieces i d same low; trees = each (unit_in now) units; before = h.programs; refuses = is },
    )
