-- Texts that stand in buffers.
use Rattle.std.proofs.Common.{◌≡◌, ℕ, ◌+◌, ◌-◌, ◌^◌, ◌<◌, ◌≤◌, Bool, true, false, cond, List, [], ◌++◌, length, map, take, drop, set, get_or, refl, sym, ap, subst, ◌∙◌, ⊎_elim, arith, append-nil, length-append, length-drop, length-set, length-take-le, take-append-drop, take_all, take_at, drop_at, get_or-set_same, get_or-set_other, Fits, w16, Vec, Global}
use Rattle.std.proofs.lemmas.Bool.{cases_eq}
use Rattle.std.proofs.lemmas.List.{drop-append-le, get_or-map, length-map, map-set, take-append-le}
use Rattle.std.proofs.lemmas.List.Elements.{All-append, All-from_get_or}
use Rattle.std.proofs.Math.Facts.{Fits-lt-pow}
use Rattle.std.specs.Prelude.{slice_range}
use Rattle.wjs_texts.specs.declared.buffers.Span.{Span}
use Rattle.wjs_texts.specs.Spans.{buffer_of, units_in, IsWithin, IsLast, Stands}
use Rattle.wjs_base.specs.Text.{Units, Table, IsText, longest}

abbrev pub Owned : Type 0
Owned = Vec ℕ Global

-- the units of each buffer
abbrev pub contents : List Owned → Table
contents owned = map (λ buffer. buffer.items) owned

-- a part that ends within a list stays where the list grows
part_kept : (units more : Units) (start len : ℕ) → start + len ≤ length units → slice_range (units ++ more) start (start + len) ≡ slice_range units start (start + len)
part_kept units more start len within =
    let here : start ≤ length units = omega arith in
    let room : start + len - start ≤ length (drop start units) = omega (arith, length-drop start units) in
    ap (take (start + len - start)) (drop-append-le start units more here) ∙ take-append-le (start + len - start) (drop start units) more room

-- a part at a list's end
part_last : (units : Units) (start end : ℕ) → length units ≤ end → slice_range units start end ≡ drop start units
part_last units start end past = take_all (end - start) (drop start units) (omega (arith, length-drop start units))

module _ (buffers : Table) where
  pub length-units_in : (span : Span) → IsWithin buffers span → length (units_in buffers span) ≡ span.len
  length-units_in span w =
      let room : span.start + span.len - span.start ≤ length (drop span.start (buffer_of buffers span)) = omega (arith, length-drop span.start (buffer_of buffers span), w.units) in
      let same : span.start + span.len - span.start ≡ span.len = omega arith in
      length-take-le (span.start + span.len - span.start) (drop span.start (buffer_of buffers span)) room ∙ same

  pub stands_still : Stands buffers buffers
  stands_still = record { within = λ span w. w; units = λ span w. refl }

-- units put behind those of a buffer
module _ (buffers : Table) (place : ℕ) (more : Units) (there : place < length buffers) where
  abbrev longer : Table
  longer = set buffers place (get_or buffers place [] ++ more)

  -- a buffer has what it had, and maybe more
  grown : (other : ℕ) → (behind : Units) × (get_or longer other [] ≡ get_or buffers other [] ++ behind)
  grown other = ⊎_elim
      (λ e. (more, subst (λ (n : ℕ). get_or longer n [] ≡ get_or buffers n [] ++ more) (sym e) (get_or-set_same buffers place (get_or buffers place [] ++ more) [] there)))
      (λ ne. ([], get_or-set_other buffers place other (get_or buffers place [] ++ more) [] ne ∙ sym (append-nil (get_or buffers other []))))
      (cases_eq other place)

  append_stands : Stands buffers longer
  append_stands = record {
    within = λ span w.
        let g = grown span.buffer in
        let long = ap (λ (us : Units). length us) g.1 ∙ length-append (buffer_of buffers span) g.0 in
        record { buffer = omega (arith, length-set buffers place (get_or buffers place [] ++ more), w.buffer); units = omega (arith, long, w.units) };
    units = λ span w.
        let g = grown span.buffer in
        ap (λ (us : Units). slice_range us span.start (span.start + span.len)) g.1 ∙ part_kept (buffer_of buffers span) g.0 span.start span.len w.units;
  }

  -- the text at the end is longer by them
  module _ (span new : Span) (buffer : span.buffer ≡ place) (end : span.start + span.len ≡ length (get_or buffers place []))
      (same : new.buffer ≡ place) (start : new.start ≡ span.start) (len : new.len ≡ span.len + length more) where
    held : buffer_of longer new ≡ get_or buffers place [] ++ more
    held = ap (λ (n : ℕ). get_or longer n []) same ∙ get_or-set_same buffers place (get_or buffers place [] ++ more) [] there

    long : length (buffer_of longer new) ≡ span.start + span.len + length more
    long = ap (λ (us : Units). length us) held ∙ length-append (get_or buffers place []) more ∙ ap (λ (n : ℕ). n + length more) (sym end)

    append_within : IsWithin longer new
    append_within = record { buffer = omega (arith, length-set buffers place (get_or buffers place [] ++ more), same, there); units = omega (arith, long, start, len) }

    append_units : units_in longer new ≡ units_in buffers span ++ more
    append_units =
        let all : units_in longer new ≡ drop new.start (buffer_of longer new) = part_last (buffer_of longer new) new.start (new.start + new.len) (omega (arith, long, start, len)) in
        let old : units_in buffers span ≡ drop span.start (get_or buffers place []) =
        ap (λ (n : ℕ). slice_range (get_or buffers n []) span.start (span.start + span.len)) buffer ∙ part_last (get_or buffers place []) span.start (span.start + span.len) (omega (arith, end)) in
        all ∙ ap (drop new.start) held ∙ ap (λ (n : ℕ). drop n (get_or buffers place [] ++ more)) start
        ∙ drop-append-le span.start (get_or buffers place []) more (omega (arith, end)) ∙ ap (λ (us : Units). us ++ more) (sym old)

-- a list is a front and what is behind it
pub front_and_back : (units front back : Units) (len : ℕ) → length front ≡ len → (take len units ≡ front) → (drop len units ≡ back) → units ≡ front ++ back
front_and_back units front back len size one other = sym (take-append-drop len units) ∙ ap (λ (us : Units). us ++ drop len units) one ∙ ap (λ (us : Units). front ++ us) other

pub front_of : (units front back : Units) (len : ℕ) → length front ≡ len → units ≡ front ++ back → take len units ≡ front
front_of units front back len long e = ap (take len) e ∙ take_at front back len long

pub back_of : (units front back : Units) (len : ℕ) → length front ≡ len → units ≡ front ++ back → drop len units ≡ back
back_of units front back len long e = ap (drop len) e ∙ drop_at front back len long

-- the buffers as their owner has them
module _ (owned : List Owned) where
  -- the units of the buffer that a place has
  at_buffer : (place : ℕ) (buffer : Owned) → place < length owned → buffer ≡ get_or owned place buffer → get_or (contents owned) place [] ≡ buffer.items
  at_buffer place buffer there is = get_or-map (λ (b : Owned). b.items) owned place buffer [] there ∙ ap (λ (b : Owned). b.items) (sym is)

  pub contents_set : (place : ℕ) (buffer : Owned) → contents (set owned place buffer) ≡ set (contents owned) place buffer.items
  contents_set place buffer = map-set (λ (b : Owned). b.items) owned place buffer

count_is : (owned : List Owned) (buffers : Table) → contents owned ≡ buffers → length owned ≡ length buffers
count_is owned buffers e = sym (length-map owned (λ (b : Owned). b.items)) ∙ ap (λ (bs : Table). length bs) e

-- what a `Vec` holds after more is put behind, or after that failed
pub grown_by : (done : Bool) (new old back : Units) → new ≡ cond done (old ++ back) old → (more : Units) × (new ≡ old ++ more)
grown_by true new old back e = (back, e)
grown_by false new old back e = ([], e ∙ sym (append-nil old))

-- the buffers after units are put behind those of one
pub after : (owned : List Owned) (buffers : Table) (place : ℕ) (old new : Owned) (more : Units) → contents owned ≡ buffers → place < length buffers → old ≡ get_or owned place old → new.items ≡ old.items ++ more
    → contents (set owned place new) ≡ set buffers place (get_or buffers place [] ++ more)
after owned buffers place old new more view there is e =
    let within : place < length owned = omega (arith, count_is owned buffers view, there) in
    contents_set owned place new
    ∙ ap (λ (us : Units). set (contents owned) place us) (e ∙ ap (λ (us : Units). us ++ more) (sym (at_buffer owned place old within is)))
    ∙ ap (λ (bs : Table). set bs place (get_or bs place [] ++ more)) view

pub after_stands : (buffers view : Table) (place : ℕ) (more : Units) → view ≡ set buffers place (get_or buffers place [] ++ more) → place < length buffers → Stands buffers view
after_stands buffers view place more e there = subst (Stands buffers) (sym e) (append_stands buffers place more there)

module _ (buffers view : Table) (more : Units) (span new : Span) (e : view ≡ set buffers span.buffer (get_or buffers span.buffer [] ++ more)) (last : IsLast buffers span)
    (same : new.buffer ≡ span.buffer) (start : new.start ≡ span.start) (len : new.len ≡ span.len + length more) where
  pub after_within : IsWithin view new
  after_within = subst (λ (bs : Table). IsWithin bs new) (sym e) (append_within buffers span.buffer more last.buffer span new refl last.end same start len)

  pub after_units : units_in view new ≡ units_in buffers span ++ more
  after_units = subst (λ (bs : Table). units_in bs new ≡ units_in buffers span ++ more) (sym e) (append_units buffers span.buffer more last.buffer span new refl last.end same start len)

-- a text with units of a slice behind it that is not too long is a text
pub longer_text : (front back : Units) → IsText front → ((i : ℕ) → Fits w16 (get_or back i 0)) → length front + length back ≤ longest → IsText (front ++ back)
longer_text front back text fits short = record {
  sixteen_bits = All-append (λ unit. unit < 2 ^ 16) front back text.sixteen_bits (All-from_get_or (λ unit. unit < 2 ^ 16) back 0 (λ i _. Fits-lt-pow {w = w16} (fits i)));
  short = omega (arith, length-append front back, short);
}
