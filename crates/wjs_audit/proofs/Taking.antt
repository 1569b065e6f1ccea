-- What is read of a log's bytes, line by line.
use Rattle.std.proofs.Common.{◌≡◌, ℕ, ◌+◌, ◌^◌, ◌<◌, ◌≤◌, Bool, true, false, List, [], ◌∷◌, ◌++◌, length, None, Some, refl, ap, sym, subst, ◌∙◌, Result, append_assoc, append-nil, arith}
use Rattle.std.specs.Prelude.{codes, decimal, MatchBool, IfOk}
use Rattle.std.proofs.lemmas.Fmt.{decimal_injective}
use Rattle.std.proofs.lemmas.Result.{IfOk-weaker}
use Rattle.std.proofs.lemmas.List.{length_push, flat_map_more}
use Rattle.std.proofs.lemmas.List.Elements.{All-head, All-tail}
use Rattle.wjs_base.specs.declared.ids.OutOfMemory.{OutOfMemory}
use Rattle.wjs_base.specs.Text.{Units}
use Rattle.wjs_audit.specs.declared.deed.Deed.{Deed}
use Rattle.wjs_audit.specs.declared.deed.Entry.{Entry}
use Rattle.wjs_audit.specs.declared.known.KnownTexts.{KnownTexts}
use Rattle.wjs_audit.specs.declared.reading.Reading.{Reading}
use Rattle.wjs_audit.specs.Parts.{Lacks, AreParts, AreUnits}
use Rattle.wjs_audit.specs.Spelling.{Line, text, done, hex_parts, deed_parts, line_parts, spaced, joined, line_text, log_text}
use Rattle.wjs_audit.specs.Logs.{Known, with_line, known_after, IsLogFrom, entries_from, BreaksAt}
use Rattle.wjs_audit.specs.Reading.{Numbered, Holds, Named, TextMay, DeedMay, LineMay, IsReadAs, AddsText, Takes}
use Rattle.wjs_audit.proofs.Words.{AreWords, cut_one, joined_lacks, parts_one, are_parts}
use Rattle.wjs_audit.proofs.Lines.{text_words, deed_words, some_parts}
use Rattle.wjs_audit.proofs.Spellings.{head_is, tail_is, hex_parts_one}
use Rattle.wjs_audit.proofs.Tabled.{log_more}
use Rattle.wjs_audit.proofs.Pieces.{cut_of}
use Rattle.wjs_audit.proofs.Namings.{may_follow, may_stand, holds_below}
use Rattle.wjs_audit.proofs.Said.{no_text}
use Rattle.wjs_audit.proofs.Readings.{line_long}

-- ---- one line

may_words : (s : KnownTexts) (l : Line) → LineMay s l → AreWords (line_parts l)
may_words s (text n units) m = text_words n units m.0 m.1
may_words s (done d) m = deed_words (Numbered s) d m.0 m.1

-- parts that are joined to the same bytes are one
same_joined : (p : List ℕ) (ps qs : List (List ℕ)) → Lacks 32 p → AreParts ps → 0 < length qs → AreParts qs → p ++ spaced ps ≡ joined qs → p ∷ ps ≡ qs
same_joined p ps [] f h some k e = absurd (omega arith)
same_joined p ps (q ∷ qs) f h some k e =
    let r = parts_one p ps q qs f h (All-head (Lacks 32) q qs k) (All-tail (Lacks 32) q qs k) e in
    λ i. r.0 i ∷ r.1 i

same_parts : (s : KnownTexts) (line word : List ℕ) (parts : List (List ℕ)) (l : Line) → Lacks 32 word → AreParts parts → line ≡ word ++ spaced parts → LineMay s l → line ≡ joined (line_parts l) → word ∷ parts ≡ line_parts l
same_parts s line word parts l f h whole m e = same_joined word parts (line_parts l) f h (some_parts l) (are_parts (line_parts l) (may_words s l m)) (sym whole ∙ e)

-- a line by its first part, and by what follows
module _ (line word tail : List ℕ) (first : (part : List ℕ) (parts : List (List ℕ)) → Lacks 32 part → line ≡ part ++ spaced parts → (word ≡ part) × (tail ≡ spaced parts)) where
  pub is_cut : (parts : List (List ℕ)) × Lacks 32 word × AreParts parts × (tail ≡ spaced parts) × (line ≡ word ++ spaced parts)
  is_cut =
      let c = cut_of line in
      let both = first c.part c.parts c.lacks c.whole in
      (c.parts, subst (Lacks 32) (sym both.0) c.lacks, c.are_parts, both.1, c.whole ∙ ap (λ (p : List ℕ). p ++ spaced c.parts) (sym both.0))

  module _ (old new : Reading) (number : ℕ) where
    -- a deed
    pub deed_taken : (d : Deed) → new.known ≡ old.known → new.log ≡ old.log ++ record { deed = d; line = number } ∷ [] → ((parts : List (List ℕ)) → AreParts parts → tail ≡ spaced parts → IsReadAs deed_parts (DeedMay old.known) (word ∷ parts) (Some d)) → (l : Line) × (line ≡ joined (line_parts l)) × Takes old number l new
    deed_taken d same log said =
        let c = is_cut in
        let t = said c.0 c.2 c.3 in
        (done d, c.4 ∙ ap joined t.1, (t.0, same, log))

  module _ (s : KnownTexts) where
    pub no_deed_line : (word ≡ codes "text" → ⊥) → ((parts : List (List ℕ)) → AreParts parts → tail ≡ spaced parts → IsReadAs deed_parts (DeedMay s) (word ∷ parts) None) → (l : Line) → LineMay s l → line ≡ joined (line_parts l) → ⊥
    no_deed_line none said (text n units) m e =
        let c = is_cut in
        let same = same_parts s line word c.0 (text n units) c.1 c.2 c.4 m e in
        none (head_is word (codes "text") c.0 (decimal n ∷ hex_parts units) same)
    no_deed_line none said (done d) m e =
        let c = is_cut in
        said c.0 c.2 c.3 d m (same_parts s line word c.0 (done d) c.1 c.2 c.4 m e)

  -- a text
  module _ (old new : Reading) (number : ℕ) (is : word ≡ codes "text") (same : new.log ≡ old.log) where
    abbrev taken : Bool → Type 0
    taken adds = MatchBool adds ((l : Line) × (line ≡ joined (line_parts l)) × Takes old number l new) ((l : Line) → LineMay old.known l → ¬ (line ≡ joined (line_parts l)))

    takes : (adds : Bool) → AddsText old.known tail new.known adds → taken adds
    takes true h =
        let c = is_cut in
        let t = h c.0 c.2 c.3 in (
          text t.0 t.1,
          c.4 ∙ (λ i. is i ++ spaced (t.2 i)),
          (t.3, t.4, same ∙ sym (append-nil old.log)),
        )
    takes false h = by
      where
        by : (l : Line) → LineMay old.known l → ¬ (line ≡ joined (line_parts l))
        by (text n units) m e =
            let c = is_cut in
            let parts = same_parts old.known line word c.0 (text n units) c.1 c.2 c.4 m e in
            h c.0 c.2 c.3 n units m (tail_is word (codes "text") c.0 (decimal n ∷ hex_parts units) parts)
        by (done d) m e =
            let c = is_cut in
            no_text c.0 d (ap (λ (w : List ℕ). w ∷ c.0) (sym is) ∙ same_parts old.known line word c.0 (done d) c.1 c.2 c.4 m e)

    pub text_line : (found : Result Bool OutOfMemory) → IfOk found (AddsText old.known tail new.known) → IfOk found taken
    text_line found h = IfOk-weaker found (AddsText old.known tail new.known) taken takes h

-- ---- the line of a text, by what follows its word

module _ (old new : KnownTexts) (tail : List ℕ) (number : ℕ) (units : Units) (fits : number < 2 ^ 64) (are : AreUnits units) (said : (parts : List (List ℕ)) → AreParts parts → tail ≡ spaced parts → parts ≡ decimal number ∷ hex_parts units) where
  adds : (is_new : Bool) → MatchBool is_new (TextMay old number units × Named old number units new) (¬ (TextMay old number units)) → AddsText old tail new is_new
  adds true h = λ parts is e. (number, units, said parts is e, h.0, h.1)
  adds false h = λ parts is e n us may same.
      let both = sym (said parts is e) ∙ same in
      let first = decimal_injective number n fits may.0 (head_is (decimal number) (decimal n) (hex_parts units) (hex_parts us) both) in
      let later = hex_parts_one units us are may.1.sixteen_bits (tail_is (decimal number) (decimal n) (hex_parts units) (hex_parts us) both) in
      h (subst (λ (m : ℕ). TextMay old m units) (sym first) (subst (TextMay old n) (sym later) may))

  pub text_added : (found : Result Bool OutOfMemory) → IfOk found (λ is_new. MatchBool is_new (TextMay old number units × Named old number units new) (¬ (TextMay old number units))) → IfOk found (AddsText old tail new)
  text_added found h = IfOk-weaker found (λ is_new. MatchBool is_new (TextMay old number units × Named old number units new) (¬ (TextMay old number units))) (AddsText old tail new) adds h

-- ---- the first line of what is left

line_end : (l : Line) (behind : List ℕ) → line_text l ++ behind ≡ joined (line_parts l) ++ 10 ∷ behind
line_end l behind = append_assoc (joined (line_parts l)) (10 ∷ []) behind

pub no_first : (s : KnownTexts) (rest line after : List ℕ) → rest ≡ line ++ 10 ∷ after → Lacks 10 line → ((l : Line) → LineMay s l → line ≡ joined (line_parts l) → ⊥) → (l : Line) (behind : List ℕ) → LineMay s l → rest ≡ line_text l ++ behind → ⊥
no_first s rest line after cut lacks none l behind m e =
    none l m (cut_one 10 line after (joined (line_parts l)) behind lacks (joined_lacks (line_parts l) (may_words s l m)) (sym cut ∙ e ∙ line_end l behind)).0

-- ---- line after line

-- the lines above what is left are a log, and their entries and texts are those that were taken in
pub record IsRead (bytes rest : List ℕ) (line : ℕ) (r : Reading) : Type 0 where
  pub lines : List Line
  pub is_log : IsLogFrom [] lines
  pub whole : bytes ≡ log_text lines ++ rest
  pub number : line ≡ length lines
  pub entries : r.log ≡ entries_from 1 lines
  pub holds : Holds r.known (known_after [] lines)
  pub short : line + length rest ≤ length bytes

entries_push : (n : ℕ) (ls : List Line) (l : Line) (m : ℕ) → m ≡ n + length ls → entries_from n (ls ++ l ∷ []) ≡ entries_from n ls ++ entries_from m (l ∷ [])
entries_push n [] l m e = ap (λ k. entries_from k (l ∷ [])) (omega arith)
entries_push n (text number units ∷ ls) l m e = entries_push (n + 1) ls l m (omega arith)
entries_push n (done d ∷ ls) l m e = ap (λ (es : List Entry). record { deed = d; line = n } ∷ es) (entries_push (n + 1) ls l m (omega arith))

known_push : (known : Known) (ls : List Line) (l : Line) → known_after known (ls ++ l ∷ []) ≡ with_line (known_after known ls) l
known_push known [] l = refl
known_push known (k ∷ ls) l = known_push (with_line known k) ls l

pub read_more : (bytes rest behind : List ℕ) (line next : ℕ) (old new : Reading) (l : Line) → IsRead bytes rest line old → next ≡ line + 1 → rest ≡ line_text l ++ behind → Takes old next l new → IsRead bytes behind next new
read_more bytes rest behind line next old new l h n e t =
    let all = length_push h.lines l in
    let long = line_long l behind in
    let same = ap (λ (bs : List ℕ). length bs) e in
    let fewer = h.short in
    let number = h.number in
    record {
      lines = h.lines ++ l ∷ [];
      is_log = log_more [] h.lines (l ∷ []) h.is_log (may_follow old.known (known_after [] h.lines) h.holds l t.0, tt);
      whole =
          h.whole ∙ ap (λ (bs : List ℕ). log_text h.lines ++ bs) e
          ∙ sym (append_assoc (log_text h.lines) (line_text l) behind)
          ∙ ap (λ (bs : List ℕ). bs ++ behind) (flat_map_more line_text [] h.lines l);
      number = omega (arith, all, number, n);
      entries = t.2 ∙ ap (λ (es : List Entry). es ++ entries_from next (l ∷ [])) h.entries ∙ sym (entries_push 1 h.lines l next (omega (arith, number, n)));
      holds = subst (λ (known : Known). Holds new.known known) (sym (known_push [] h.lines l)) (holds_below old.known (known_after [] h.lines) l new.known h.holds t.1);
      short = omega (arith, long, same, fewer, n);
    }

pub breaks : (bytes rest : List ℕ) (line n : ℕ) (r : Reading) → IsRead bytes rest line r → 0 < length rest → n ≡ line + 1 → ((l : Line) (behind : List ℕ) → LineMay r.known l → rest ≡ line_text l ++ behind → ⊥) → BreaksAt bytes n
breaks bytes rest line n r h some e none =
    let number = h.number in
    record {
      lines = h.lines;
      rest = rest;
      whole = h.whole;
      is_log = h.is_log;
      number = omega (arith, number, e);
      some = some;
      none = λ l behind is may. none l behind (may_stand r.known (known_after [] h.lines) h.holds l may) is;
    }
