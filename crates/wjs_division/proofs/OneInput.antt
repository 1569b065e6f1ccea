-- Bytes are the input of one list of programs, or none for one reason.
use Rattle.std.proofs.Common.{◌≡◌, ℕ, zero, suc, ◌<◌, inl, inr, List, [], ◌∷◌, take, Some, refl, sym, ap, ◌∙◌, subst, arith}
use Rattle.std.specs.Prelude.{slice_get}
use Rattle.std.proofs.lemmas.Bool.{cases_order}
use Rattle.std.proofs.lemmas.Option.{none-some, same_Some}
use Rattle.wjs_meaning.specs.Trees.{Tree}
use Rattle.wjs_programs.specs.Programs.{IsProgram}
use Rattle.wjs_programs.specs.Laws.{OneProgram}
use Rattle.wjs_load.specs.declared.tokens.Refusal.{Refusal}
use Rattle.wjs_load.specs.Laws.{OneRefusal, ProgramOrRefusal}
use Rattle.wjs_division.specs.declared.input.InputFault.TheVariants as faults
use Rattle.wjs_division.specs.Division.{Part, parts_of, lines_before}
use Rattle.wjs_division.specs.Inputs.{ArePrograms, moved_down, RefusesPart, IsRefusedAt}
use Rattle.wjs_division.specs.Laws.{OneInput, OneFault, InputOrFault}

module _ (one_program : OneProgram) where
  one_list : (ps : List Part) (ts us : List Tree) → ArePrograms ps ts → ArePrograms ps us → us ≡ ts
  one_list [] [] [] h k = refl
  one_list [] [] (u ∷ us) h k = absurd k
  one_list [] (t ∷ ts) us h k = absurd h
  one_list (p ∷ ps) [] us h k = absurd h
  one_list (p ∷ ps) (t ∷ ts) [] h k = absurd k
  one_list (p ∷ ps) (t ∷ ts) (u ∷ us) h k = λ i. one_program p.bytes t u h.0 k.0 i ∷ one_list ps ts us h.1 k.1 i

  pub one_input : OneInput
  one_input bytes ts us h k = one_list (parts_of bytes) ts us h.programs k.programs

module _ (one_refusal : OneRefusal) (either : ProgramOrRefusal) where
  -- a part among programs is a program
  among_programs : (ps : List Part) (ts : List Tree) (i : ℕ) (p : Part) → ArePrograms ps ts → slice_get ps i ≡ Some p → (t : Tree) × IsProgram p.bytes t
  among_programs [] ts i p h at = absurd (none-some p at)
  among_programs (q ∷ ps) [] i p h at = absurd h
  among_programs (q ∷ ps) (t ∷ ts) zero p h at = (t, subst (λ (r : Part). IsProgram r.bytes t) (same_Some q p at) h.0)
  among_programs (q ∷ ps) (t ∷ ts) (suc i) p h at = among_programs ps ts i p h.1 at

  -- one that stands before others is among the first
  among_first : (ps : List Part) (i n : ℕ) (p : Part) → i < n → slice_get ps i ≡ Some p → slice_get (take n ps) i ≡ Some p
  among_first [] i n p low at = absurd (none-some p at)
  among_first (q ∷ ps) i zero p low at = absurd (omega arith)
  among_first (q ∷ ps) zero (suc n) p low at = at
  among_first (q ∷ ps) (suc i) (suc n) p low at = among_first ps i n p (omega arith) at

  no_program : (p : Part) (told : Refusal) → RefusesPart p told → (t : Tree) × IsProgram p.bytes t → ⊥
  no_program p told h k = either p.bytes k.0 h.refusal k.1 h.why

  not_before : (bytes : List ℕ) (f g : Refusal) (x : IsRefusedAt bytes f) (y : IsRefusedAt bytes g) → x.place < y.place → ⊥
  not_before bytes f g x y low = no_program x.part f x.refuses (among_programs (take y.place (parts_of bytes)) y.trees x.place x.part y.before (among_first (parts_of bytes) x.place y.place x.part low x.at))

  same_refusal : (p : Part) (f g : Refusal) → RefusesPart p f → RefusesPart p g → g ≡ f
  same_refusal p f g x y = y.is ∙ ap (moved_down (lines_before p)) (one_refusal p.bytes x.refusal y.refusal x.why y.why) ∙ sym x.is

  same_place : (bytes : List ℕ) (f g : Refusal) (x : IsRefusedAt bytes f) (y : IsRefusedAt bytes g) → x.place ≡ y.place → g ≡ f
  same_place bytes f g x y same =
      let part : y.part ≡ x.part = same_Some y.part x.part (sym y.at ∙ ap (slice_get (parts_of bytes)) (sym same) ∙ x.at) in
      same_refusal x.part f g x.refuses (subst (λ (p : Part). RefusesPart p g) part y.refuses)

  one_part : (bytes : List ℕ) (f g : Refusal) → IsRefusedAt bytes f → IsRefusedAt bytes g → g ≡ f
  one_part bytes f g x y = elim (cases_order x.place y.place) [
    | inl same ↦ same_place bytes f g x y same
    | inr apart ↦ elim apart [
      | inl low ↦ absurd (not_before bytes f g x y low)
      | inr high ↦ absurd (not_before bytes g f y x high)
    ]
  ]

  pub one_fault : OneFault
  one_fault bytes faults.NotUtf8 faults.NotUtf8 h k = refl
  one_fault bytes faults.NotUtf8 faults.TooMany h k = absurd (h k.0)
  one_fault bytes faults.NotUtf8 (faults.Refused g) h k = absurd (h k.0)
  one_fault bytes faults.TooMany faults.NotUtf8 h k = absurd (k h.0)
  one_fault bytes faults.TooMany faults.TooMany h k = refl
  one_fault bytes faults.TooMany (faults.Refused g) h k = absurd (let more = h.1 in let few = k.1 in omega arith)
  one_fault bytes (faults.Refused f) faults.NotUtf8 h k = absurd (k h.0)
  one_fault bytes (faults.Refused f) faults.TooMany h k = absurd (let few = h.1 in let more = k.1 in omega arith)
  one_fault bytes (faults.Refused f) (faults.Refused g) h k = ap faults.Refused (one_part bytes f g h.2 k.2)
  one_fault bytes faults.OutOfMemory g h k = absurd h
  one_fault bytes f faults.OutOfMemory h k = absurd k

  pub input_or_fault : InputOrFault
  input_or_fault bytes ts faults.NotUtf8 h k = k h.text
  input_or_fault bytes ts faults.TooMany h k = let few = h.few in let more = k.1 in absurd (omega arith)
  input_or_fault bytes ts (faults.Refused f) h k = no_program (k.2).part f (k.2).refuses (among_programs (parts_of bytes) ts (k.2).place (k.2).part h.programs (k.2).at)
  input_or_fault bytes ts faults.OutOfMemory h k = absurd k
