-- The parts of an input, by their pieces as a slice.
use Rattle.std.proofs.Common.{◌≡◌, ℕ, suc, ◌<◌, ◌≤◌, List, [], ◌∷◌, length, Vec, Global, Result, IfOk, refl, sym, ap, ◌∙◌, subst, arith}
use Rattle.std.specs.Prelude.{All, map as each}
use Rattle.std.specs.Str.{IsUtf8}
use Rattle.std.proofs.lemmas.List.{length-map}
use Rattle.std.proofs.lemmas.Result.{IfOk-weaker}
use Rattle.wjs_base.specs.Text.{Table}
use Rattle.wjs_meaning.specs.Trees.{Tree}
use Rattle.wjs_model.specs.declared.loaded.LoadedProgram.{LoadedProgram as Program}
use Rattle.wjs_model.specs.Units.{unit_in}
use Rattle.wjs_division.specs.declared.division.Piece.{Piece}
use Rattle.wjs_division.specs.declared.input.InputFault.{InputFault}
use Rattle.wjs_division.specs.declared.input.InputFault.TheVariants as faults
use Rattle.wjs_division.specs.Division.{Part, lines_of, parts_of}
use Rattle.wjs_division.specs.Pieces.{IsInside, piece_in, pieces_in}
use Rattle.wjs_division.specs.Inputs.{ArePrograms, IsInput, IsNoInput}
use Rattle.wjs_division.proofs.Programs.{some_part}

pub same_pieces : (bytes : List ℕ) (pieces slice : List Piece) → pieces_in bytes pieces ≡ parts_of bytes → slice ≡ pieces → pieces_in bytes slice ≡ parts_of bytes
same_pieces bytes pieces slice parts same = ap (pieces_in bytes) same ∙ parts

pub same_inside : (bytes : List ℕ) (pieces slice : List Piece) → All (IsInside bytes) pieces → slice ≡ pieces → All (IsInside bytes) slice
same_inside bytes pieces slice inside same = subst (λ (ps : List Piece). All (IsInside bytes) ps) (sym same) inside

-- there are as many parts as pieces
count_parts : (bytes : List ℕ) (pieces : List Piece) → pieces_in bytes pieces ≡ parts_of bytes → length (parts_of bytes) ≡ length pieces
count_parts bytes pieces parts = sym (ap (λ (ps : List Part). length ps) parts) ∙ length-map pieces (piece_in bytes)

pub too_many : (bytes : List ℕ) (pieces slice : List Piece) → IsUtf8 bytes → pieces_in bytes pieces ≡ parts_of bytes → slice ≡ pieces → 1000 < length slice → IsNoInput bytes faults.TooMany
too_many bytes pieces slice utf8 parts same more =
    let count = count_parts bytes pieces parts in
    let long = ap (λ (ps : List Piece). length ps) same in
    (utf8, omega arith)

pub few_pieces : (pieces tested slice : List Piece) → tested ≡ pieces → slice ≡ pieces → length tested ≤ 1000 → length slice ≤ 1000
few_pieces pieces tested slice tested_is slice_is low =
    let same = ap (λ (ps : List Piece). length ps) (slice_is ∙ sym tested_is) in
    omega arith

pub is_input : (bytes : List ℕ) (pieces slice : List Piece) (texts : Table) (r : Result (Vec Program Global) InputFault) → IsUtf8 bytes → pieces_in bytes pieces ≡ parts_of bytes → slice ≡ pieces → length slice ≤ 1000 → IfOk r (λ units. ArePrograms (parts_of bytes) (each (unit_in texts) units.items)) → IfOk r (λ units. IsInput bytes (each (unit_in texts) units.items))
is_input bytes pieces slice texts r utf8 parts same few h =
    let count = count_parts bytes pieces parts in
    let long = ap (λ (ps : List Piece). length ps) same in
    let low : length (parts_of bytes) ≤ 1000 = omega arith in
    IfOk-weaker r _ _ (λ units programs. record { text = utf8; few = low; programs = programs }) h

-- ---- how many programs there are

programs_count : (ps : List Part) (ts : List Tree) → ArePrograms ps ts → length ts ≡ length ps
programs_count [] [] h = refl
programs_count [] (t ∷ ts) h = absurd h
programs_count (p ∷ ps) [] h = absurd h
programs_count (p ∷ ps) (t ∷ ts) h = ap suc (programs_count ps ts h.1)

units_count : (bytes : List ℕ) (texts : Table) (units : List Program) → ArePrograms (parts_of bytes) (each (unit_in texts) units) → length units ≡ length (parts_of bytes)
units_count bytes texts units programs = sym (length-map units (unit_in texts)) ∙ programs_count (parts_of bytes) (each (unit_in texts) units) programs

pub some_units : (bytes : List ℕ) (texts : Table) (r : Result (Vec Program Global) InputFault) → IfOk r (λ units. ArePrograms (parts_of bytes) (each (unit_in texts) units.items)) → IfOk r (λ units. 1 ≤ length units.items)
some_units bytes texts r h = IfOk-weaker r _ _ (λ units programs. let count = units_count bytes texts units.items programs in let some : 0 < length (parts_of bytes) = some_part [] [] (lines_of bytes) in omega arith) h

pub few_units : (bytes : List ℕ) (pieces slice : List Piece) (texts : Table) (r : Result (Vec Program Global) InputFault) → pieces_in bytes pieces ≡ parts_of bytes → slice ≡ pieces → length slice ≤ 1000 → IfOk r (λ units. ArePrograms (parts_of bytes) (each (unit_in texts) units.items)) → IfOk r (λ units. length units.items ≤ 1000)
few_units bytes pieces slice texts r parts same few h =
    let count = count_parts bytes pieces parts in
    let long = ap (λ (ps : List Piece). length ps) same in
    IfOk-weaker r _ _ (λ units programs. let all = units_count bytes texts units.items programs in omega arith) h
