-- What is written piece by piece.
use Rattle.std.proofs.Common.{◌≡◌, ℕ, ◌+◌, ◌<◌, Bool, true, false, List, [], ◌∷◌, ◌++◌, map as each, length, get_or, set, take, slice_get, Some, refl, ap, sym, subst, ◌∙◌, append_assoc, append-nil, length-set, All}
use Rattle.std.specs.List.{flat_map}
use Rattle.std.proofs.lemmas.List.{take_more, flat_map_more, map_push, length-replicate}
use Rattle.std.proofs.lemmas.List.Concat.{flat_map-append}
use Rattle.std.proofs.lemmas.List.Elements.{All-more}
use Rattle.std.proofs.lemmas.Option.{slice_get_within, get_or_from_slice_get}
use Rattle.wjs_base.specs.declared.ids.TextId.{TextId}
use Rattle.wjs_base.specs.declared.values.Name.{Name}
use Rattle.wjs_base.specs.Text.{Units, Table}
use Rattle.wjs_base.proofs.Lists.{take_next}
use Rattle.wjs_audit.specs.declared.deed.Deed.{Deed}
use Rattle.wjs_audit.specs.declared.deed.Entry.{Entry}
use Rattle.wjs_audit.specs.Spelling.{Line, done, name_text, unit_text, hex, spaced, line_text, log_text}
use Rattle.wjs_audit.specs.Tables.{name_ids, deed_ids, text_line, lines_for, marks_after, lines_from, no_marks, needed_lines, Puts, PutsDeed}

-- one piece and then another
pub two : (before mid after a b : List ℕ) → mid ≡ before ++ a → after ≡ mid ++ b → after ≡ before ++ (a ++ b)
two before mid after a b e f = f ∙ ap (λ l. l ++ b) e ∙ append_assoc before a b

pub All-next : {X : Type 0} (P : X → Type 0) (xs : List X) (i : ℕ) (x : X) → slice_get xs i ≡ Some x → All P (take i xs) → P x → All P (take (i + 1) xs)
All-next P xs i x e h p = All-more P xs i x (slice_get_within xs i x e) h (subst P (sym (get_or_from_slice_get xs i x x e)) p)

module _ {X : Type 0} (f : X → List ℕ) where
  -- the pieces of a list's elements, one element on
  pieces_more : (before mid after : List ℕ) (xs : List X) (x : X) (ys : List X) → mid ≡ before ++ flat_map f xs → after ≡ mid ++ f x → ys ≡ xs ++ x ∷ [] → after ≡ before ++ flat_map f ys
  pieces_more before mid after xs x ys e g h = g ∙ ap (λ l. l ++ f x) e ∙ flat_map_more f before xs x ∙ ap (λ zs. before ++ flat_map f zs) (sym h)

pub names_more : (before mid after : List ℕ) (names : List Name) (i : ℕ) (n : Name) → mid ≡ before ++ spaced (each name_text (take i names)) → after ≡ mid ++ 32 ∷ name_text n → slice_get names i ≡ Some n → after ≡ before ++ spaced (each name_text (take (i + 1) names))
names_more before mid after names i n e f g =
    pieces_more (λ part. 32 ∷ part) before mid after (each name_text (take i names)) (name_text n) (each name_text (take (i + 1) names)) e f
    (ap (each name_text) (take_next names i n g) ∙ map_push name_text (take i names) n)

pub units_more : (before mid after : List ℕ) (units : Units) (i : ℕ) → mid ≡ before ++ hex (take i units) → after ≡ mid ++ unit_text (get_or units i 0) → i < length units → after ≡ before ++ hex (take (i + 1) units)
units_more before mid after units i e f within = pieces_more unit_text before mid after (take i units) (get_or units i 0) (take (i + 1) units) e f (take_more units i 0 within)

-- ---- the lines of texts that are needed

lines_append : (texts : Table) (marks : List Bool) (xs ys : List TextId) → lines_for texts marks (xs ++ ys) ≡ lines_for texts marks xs ++ lines_for texts (marks_after marks xs) ys
lines_append texts marks [] ys = refl
lines_append texts marks (x ∷ xs) ys =
    ap (λ (ls : List Line). text_line texts (get_or marks x.0 false) x ++ ls) (lines_append texts (set marks x.0 true) xs ys)
    ∙ sym (append_assoc (text_line texts (get_or marks x.0 false) x) (lines_for texts (set marks x.0 true) xs) (lines_for texts (marks_after (set marks x.0 true) xs) ys))

marks_append : (marks : List Bool) (xs ys : List TextId) → marks_after marks (xs ++ ys) ≡ marks_after (marks_after marks xs) ys
marks_append marks [] ys = refl
marks_append marks (x ∷ xs) ys = marks_append (set marks x.0 true) xs ys

module _ (texts : Table) where
  pub puts_none : (out : List ℕ) (marks : List Bool) → Puts texts [] out out marks marks
  puts_none out marks = record { text = sym (append-nil out); marked = refl; long = refl }

  pub puts_one : (id : TextId) (old new : List ℕ) (marks after : List Bool) → new ≡ old ++ log_text (text_line texts (get_or marks id.0 false) id) → after ≡ set marks id.0 true → Puts texts (id ∷ []) old new marks after
  puts_one id old new marks after e f = record {
    text = e ∙ ap (λ (ls : List Line). old ++ log_text ls) (sym (append-nil (text_line texts (get_or marks id.0 false) id)));
    marked = f;
    long = ap (λ (m : List Bool). length m) f ∙ length-set marks id.0 true;
  }

  pub puts_then : (xs ys : List TextId) (old mid new : List ℕ) (marks between after : List Bool) → Puts texts xs old mid marks between → Puts texts ys mid new between after → Puts texts (xs ++ ys) old new marks after
  puts_then xs ys old mid new marks between after a b = record {
    text =
        two old mid new (log_text (lines_for texts marks xs)) (log_text (lines_for texts (marks_after marks xs) ys)) a.text (b.text ∙ ap (λ (m : List Bool). mid ++ log_text (lines_for texts m ys)) a.marked)
        ∙ ap (λ (l : List ℕ). old ++ l) (sym (flat_map-append line_text (lines_for texts marks xs) (lines_for texts (marks_after marks xs) ys)) ∙ ap log_text (sym (lines_append texts marks xs ys)));
    marked = b.marked ∙ ap (λ (m : List Bool). marks_after m ys) a.marked ∙ sym (marks_append marks xs ys);
    long = b.long ∙ a.long;
  }

  -- one name more
  pub names_put : (names : List Name) (i : ℕ) (n : Name) (old mid new : List ℕ) (marks between after : List Bool) → slice_get names i ≡ Some n → Puts texts (flat_map name_ids (take i names)) old mid marks between → Puts texts (name_ids n) mid new between after → Puts texts (flat_map name_ids (take (i + 1) names)) old new marks after
  names_put names i n old mid new marks between after at a b =
      let ids : flat_map name_ids (take (i + 1) names) ≡ flat_map name_ids (take i names) ++ name_ids n =
      ap (λ (ns : List Name). flat_map name_ids ns) (take_next names i n at) ∙ flat_map-append name_ids (take i names) (n ∷ []) ∙ ap (λ (l : List TextId). flat_map name_ids (take i names) ++ l) (append-nil (name_ids n)) in
      subst (λ (is : List TextId). Puts texts is old new marks after) (sym ids) (puts_then (flat_map name_ids (take i names)) (name_ids n) old mid new marks between after a b)

  -- a deed below its texts
  pub puts_deed : (d : Deed) (old mid new : List ℕ) (marks after : List Bool) → Puts texts (deed_ids d) old mid marks after → new ≡ mid ++ line_text (done d) → PutsDeed texts d old new marks after
  puts_deed d old mid new marks after p e = record {
    text =
        two old mid new (log_text (lines_for texts marks (deed_ids d))) (line_text (done d)) p.text e
        ∙ ap (λ (l : List ℕ). old ++ (log_text (lines_for texts marks (deed_ids d)) ++ l)) (sym (append-nil (line_text (done d))))
        ∙ ap (λ (l : List ℕ). old ++ l) (sym (flat_map-append line_text (lines_for texts marks (deed_ids d)) (done d ∷ [])));
    marked = p.marked;
    long = p.long;
  }

  -- ---- entries one after another

  -- the marks that entries leave
  abbrev pub marks_of : List Bool → List Entry → List Bool
  marks_of marks [] = marks
  marks_of marks (e ∷ entries) = marks_of (marks_after marks (deed_ids e.deed)) entries

  lines_push : (marks : List Bool) (entries : List Entry) (e : Entry) → lines_from texts marks (entries ++ e ∷ []) ≡ lines_from texts marks entries ++ (lines_for texts (marks_of marks entries) (deed_ids e.deed) ++ done e.deed ∷ [])
  lines_push marks [] e = refl
  lines_push marks (x ∷ entries) e =
      let first = lines_for texts marks (deed_ids x.deed) in
      let mid = marks_after marks (deed_ids x.deed) in
      ap (λ (ls : List Line). first ++ done x.deed ∷ ls) (lines_push mid entries e)
      ∙ sym (append_assoc first (done x.deed ∷ lines_from texts mid entries) (lines_for texts (marks_of mid entries) (deed_ids e.deed) ++ done e.deed ∷ []))

  marks_push : (marks : List Bool) (entries : List Entry) (e : Entry) → marks_of marks (entries ++ e ∷ []) ≡ marks_after (marks_of marks entries) (deed_ids e.deed)
  marks_push marks [] e = refl
  marks_push marks (x ∷ entries) e = marks_push (marks_after marks (deed_ids x.deed)) entries e

  -- what is written of these entries, and the marks that they leave
  pub record Written (entries : List Entry) (out : List ℕ) (marks : List Bool) : Type 0 where
    pub text : out ≡ log_text (needed_lines texts entries)
    pub marked : marks ≡ marks_of (no_marks texts) entries
    pub long : length marks ≡ length texts

  pub written_none : (out : List ℕ) (marks : List Bool) → out ≡ [] → marks ≡ no_marks texts → Written [] out marks
  written_none out marks e f = record { text = e; marked = f; long = ap (λ (m : List Bool). length m) f ∙ length-replicate (length texts) false }

  pub written_more : (entries : List Entry) (i : ℕ) (e : Entry) (mid new : List ℕ) (between after : List Bool) → slice_get entries i ≡ Some e → Written (take i entries) mid between → PutsDeed texts e.deed mid new between after → Written (take (i + 1) entries) new after
  written_more entries i e mid new between after at w p =
      let front = take i entries in
      let next = take_next entries i e at in
      let lines = lines_for texts (marks_of (no_marks texts) front) (deed_ids e.deed) ++ done e.deed ∷ [] in
      record {
        text =
            p.text
            ∙ (λ i. w.text i ++ log_text (lines_for texts (w.marked i) (deed_ids e.deed) ++ done e.deed ∷ []))
            ∙ sym (flat_map-append line_text (needed_lines texts front) lines)
            ∙ ap log_text (sym (lines_push (no_marks texts) front e) ∙ ap (needed_lines texts) (sym next));
        marked = p.marked ∙ ap (λ (m : List Bool). marks_after m (deed_ids e.deed)) w.marked ∙ sym (marks_push (no_marks texts) front e) ∙ ap (λ (es : List Entry). marks_of (no_marks texts) es) (sym next);
        long = p.long ∙ w.long;
      }
