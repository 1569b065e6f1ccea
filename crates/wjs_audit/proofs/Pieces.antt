-- How lines are cut into parts.
use Rattle.std.proofs.Common.{◌≡◌, ◌≢◌, ◌==◌, Bool, true, ℕ, ◌+◌, ◌<◌, ◌≤◌, ⊎_elim, List, [], ◌∷◌, ◌++◌, length, get_or, take, drop, refl, ap, sym, subst, ◌∙◌, append-nil, arith}
use Rattle.std.proofs.lemmas.Bool.{cases_lt, cases_eq, eqb-true}
use Rattle.std.proofs.lemmas.List.{take-append-drop, drop_more, take_all, drop_all, nil_from_length}
use Rattle.std.proofs.lemmas.List.Elements.{All-nil, All-cons, All-head, All-tail}
use Rattle.wjs_audit.specs.Parts.{Lacks, AreParts}
use Rattle.wjs_audit.specs.Spelling.{spaced}
use Rattle.wjs_audit.proofs.Words.{lacks_not, cut_one}

-- the bytes around the one at a place
cut_is : (bytes : List ℕ) (byte place : ℕ) → place < length bytes → get_or bytes place 0 ≡ byte → bytes ≡ take place bytes ++ byte ∷ drop (place + 1) bytes
cut_is bytes byte place within found =
    sym (take-append-drop place bytes) ∙ ap (λ (bs : List ℕ). take place bytes ++ bs) (drop_more bytes place 0 within ∙ ap (λ (b : ℕ). b ∷ drop (place + 1) bytes) found)

-- a line is cut at its first space
module _ (line part : List ℕ) (parts : List (List ℕ)) (place : ℕ) (before : Lacks 32 (take place line)) (lacks : Lacks 32 part) where
  cut_inside : (ps : List (List ℕ)) → line ≡ part ++ spaced ps → place < length line → get_or line place 0 ≡ 32 → (take place line ≡ part) × (drop place line ≡ spaced ps)
  cut_inside [] e within found =
      let cut = cut_is line 32 place within found in
      absurd (lacks_not 32 (take place line) (drop (place + 1) line) (subst (Lacks 32) (sym (append-nil part) ∙ sym e ∙ cut) lacks))
  cut_inside (p ∷ ps) e within found =
      let cut = cut_is line 32 place within found in
      let both = cut_one 32 (take place line) (drop (place + 1) line) part (p ++ spaced ps) before lacks (sym cut ∙ e) in
      (both.0, drop_more line place 0 within ∙ (λ i. found i ∷ both.1 i))

  cut_end : (ps : List (List ℕ)) → line ≡ part ++ spaced ps → length line ≤ place → (take place line ≡ part) × (drop place line ≡ spaced ps)
  cut_end [] e past = (take_all place line past ∙ e ∙ append-nil part, drop_all place line past)
  cut_end (p ∷ ps) e past = absurd (lacks_not 32 part (p ++ spaced ps) (subst (Lacks 32) (take_all place line past ∙ e) before))

  pub first_cut : line ≡ part ++ spaced parts → (place < length line → get_or line place 0 ≡ 32) → (take place line ≡ part) × (drop place line ≡ spaced parts)
  first_cut e found = ⊎_elim (λ within. cut_inside parts e within (found within)) (λ past. cut_end parts e past) (cases_lt place (length line))

-- each line has parts
pub record Cut (line : List ℕ) : Type 0 where
  pub part : List ℕ
  pub parts : List (List ℕ)
  pub lacks : Lacks 32 part
  pub are_parts : AreParts parts
  pub whole : line ≡ part ++ spaced parts

at_space : (byte : ℕ) (bytes : List ℕ) → byte ≡ 32 → Cut bytes → Cut (byte ∷ bytes)
at_space byte bytes e c = record {
  part = [];
  parts = c.part ∷ c.parts;
  lacks = All-nil (λ b. b ≢ 32);
  are_parts = All-cons (Lacks 32) c.part c.parts c.lacks c.are_parts;
  whole = λ i. e i ∷ c.whole i;
}

past_space : (byte : ℕ) (bytes : List ℕ) → byte ≢ 32 → Cut bytes → Cut (byte ∷ bytes)
past_space byte bytes ne c = record {
  part = byte ∷ c.part;
  parts = c.parts;
  lacks = All-cons (λ b. b ≢ 32) byte c.part ne c.lacks;
  are_parts = c.are_parts;
  whole = ap (λ (bs : List ℕ). byte ∷ bs) c.whole;
}

pub cut_of : (line : List ℕ) → Cut line
cut_of [] = record { part = []; parts = []; lacks = All-nil (λ b. b ≢ 32); are_parts = All-nil (Lacks 32); whole = refl }
cut_of (byte ∷ bytes) = ⊎_elim (λ e. at_space byte bytes e (cut_of bytes)) (λ ne. past_space byte bytes ne (cut_of bytes)) (cases_eq byte 32)

-- the first of the parts that follow
pub next_cut : (tail : List ℕ) (parts : List (List ℕ)) (first rest : List ℕ) → AreParts parts → tail ≡ spaced parts → 0 < length tail
    → ((part : List ℕ) (more : List (List ℕ)) → Lacks 32 part → drop 1 tail ≡ part ++ spaced more → (first ≡ part) × (rest ≡ spaced more))
    → (more : List (List ℕ)) × AreParts more × (parts ≡ first ∷ more) × (rest ≡ spaced more)
next_cut tail [] first rest are e some cut = absurd (let none = ap (λ (bs : List ℕ). length bs) e in omega (arith, none))
next_cut tail (p ∷ ps) first rest are e some cut =
    let c = cut p ps (All-head (Lacks 32) p ps are) (ap (drop 1) e) in
    (ps, All-tail (Lacks 32) p ps are, ap (λ (q : List ℕ). q ∷ ps) (sym c.0), c.1)

pub no_next : (tail : List ℕ) (parts : List (List ℕ)) → tail ≡ spaced parts → length tail ≡ 0 → length parts ≡ 0
no_next tail [] e none = refl
no_next tail (p ∷ ps) e none = absurd (let some = ap (λ (bs : List ℕ). length bs) e in omega (arith, some))

-- where nothing is left there is no further part
pub at_end : (rest : List ℕ) (more : List (List ℕ)) (empty : Bool) → empty ≡ (length rest == 0) → empty ≡ true → rest ≡ spaced more → more ≡ []
at_end rest more empty e is same = nil_from_length more (no_next rest more same (eqb-true (length rest) 0 (sym e ∙ is)))

pub no_rest : (rest : List ℕ) (more : List (List ℕ)) → rest ≡ spaced more → more ≡ [] → length rest ≡ 0
no_rest rest more e none = ap (λ (bs : List ℕ). length bs) e ∙ ap (λ (ps : List (List ℕ)). length (spaced ps)) none
