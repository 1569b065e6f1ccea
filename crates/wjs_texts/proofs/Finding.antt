-- Texts that are found by their keys.
use Rattle.std.proofs.Common.{◌≡◌, ℕ, suc, ◌+◌, ◌<◌, ◌≤◌, ◌⊎◌, ⊎_elim, inr, Bool, true, false, List, [], ◌∷◌, ◌++◌, Option, None, Some, length, slice_get, IsSome, is_some, refl, sym, ap, subst, ◌∙◌, true≢false, arith}
use Rattle.std.proofs.lemmas.Bool.{cases_Bool, cases_lt, cases_order}
use Rattle.std.proofs.lemmas.List.{length-map, map_push}
use Rattle.std.proofs.lemmas.List.Elements.{All-push}
use Rattle.std.proofs.lemmas.Map.Entries.{lookup_from_place, lookup_head, lookup_tail}
use Rattle.std.proofs.lemmas.Option.{none-some, slice_get-map}
use Rattle.std.specs.Cmp.{IsEquivalence, and_equiv, on_equiv, nat_eq_equiv}
use Rattle.std.specs.List.{IsDistinct}
use Rattle.std.specs.Map.{keys_of, lookup}
use Rattle.std.specs.Option.{option_map}
use Rattle.wjs_base.specs.declared.ids.TextId.{TextId}
use Rattle.wjs_texts.specs.declared.buffers.Span.{Span}
use Rattle.wjs_texts.specs.declared.keys.Key.{Key}
use Rattle.wjs_texts.specs.Hash.{hash_of}
use Rattle.wjs_texts.specs.Keys.{Entries, key_of, same_key, at_key, texts_in, past_turns, IsEntry, AreFound, HasNone, IsFree}
use Rattle.wjs_texts.specs.Known.{AreKept}
use Rattle.wjs_texts.specs.Spans.{units_in, IsWithin, Stands}
use Rattle.wjs_base.specs.Text.{Units, Table, Denotes, IsText, IsTable, Grows, Interns}
use Rattle.wjs_base.proofs.Lists.{get_last, get_pushed}
use Rattle.wjs_base.proofs.TextLaws.{Grows-Denotes}

same_key_laws : IsEquivalence same_key
same_key_laws = and_equiv (on_equiv (λ (k : Key). k.hash) nat_eq_equiv) (on_equiv (λ (k : Key). k.turn) nat_eq_equiv)

-- a key that is there is there with an entry more
some_more : (test : Key → Bool) (entries : Entries) (more : Entries) → IsSome (lookup test entries) → IsSome (lookup test (entries ++ more))
some_more test [] more is = cc
some_more test (e ∷ es) more is = ⊎_elim
    (λ t. ap is_some (lookup_head test e (es ++ more) t))
    (λ t. ap is_some (lookup_tail test e (es ++ more) t) ∙ some_more test es more (sym (ap is_some (lookup_tail test e es t)) ∙ is))
    (cases_Bool (test e.0))

-- a table with a text more, which it had not
table_more : (table : Table) (units : Units) → IsTable table → IsText units → ((id : TextId) → Denotes table id units → ⊥) → IsTable (table ++ units ∷ [])
table_more table units is text none = record {
  are_texts = All-push IsText table units is.are_texts text;
  one_number = λ a b us at other. ⊎_elim
      (λ x. ⊎_elim
      (λ y. is.one_number a b us x y)
      (λ y. absurd (none a (x ∙ ap Some (sym y.1))))
      (get_pushed table units b.0 us other))
      (λ x. ⊎_elim
      (λ y. absurd (none b (y ∙ ap Some (sym x.1))))
      (λ y i. record { 0 = (x.0 ∙ sym y.0) i })
      (get_pushed table units b.0 us other))
      (get_pushed table units a.0 us at);
}

module _ (buffers : Table) (entries : Entries) where
  -- the text of an entry
  pub text_at : (place : ℕ) (entry : Key × Span) → slice_get entries place ≡ Some entry → slice_get (texts_in buffers entries) place ≡ Some (units_in buffers entry.1)
  text_at place entry at = slice_get-map (λ (e : Key × Span). units_in buffers e.1) entries place ∙ ap (option_map (λ (e : Key × Span). units_in buffers e.1)) at

  -- the entry of a text
  entry_of : (place : ℕ) (units : Units) → slice_get (texts_in buffers entries) place ≡ Some units → (entry : Key × Span) × (slice_get entries place ≡ Some entry) × (units_in buffers entry.1 ≡ units)
  entry_of place units at = by (slice_get entries place) refl
    where
      by : (r : Option (Key × Span)) → slice_get entries place ≡ r → (entry : Key × Span) × (slice_get entries place ≡ Some entry) × (units_in buffers entry.1 ≡ units)
      by None e = absurd (none-some units (sym (slice_get-map (λ (e : Key × Span). units_in buffers e.1) entries place ∙ ap (option_map (λ (e : Key × Span). units_in buffers e.1)) e) ∙ at))
      by (Some entry) e =
          let h : Some (units_in buffers entry.1) ≡ Some units = sym (text_at place entry e) ∙ at in
          let same : units_in buffers entry.1 ≡ units = cc in
          (entry, e, same)

  -- the turns before this one are taken, by texts with other units
  abbrev pub AreOthers : Units → ℕ → Type 0
  AreOthers units turn = (t : ℕ) → t < turn → (span : Span) × (at_key entries (key_of units t) ≡ Some span) × (units_in buffers span ≡ units → ⊥)

  module _ (units : Units) (turn : ℕ) (found : AreFound buffers entries) (distinct : IsDistinct same_key (keys_of entries)) (others : AreOthers units turn) where
    -- a text with the units would have its turn here or later, and be found at its key
    later : (place : ℕ) → slice_get (texts_in buffers entries) place ≡ Some units
        → (entry : Key × Span) × (IsEntry buffers entries entry) × (at_key entries (key_of units entry.0.turn) ≡ Some entry.1) × (units_in buffers entry.1 ≡ units) × (turn ≤ entry.0.turn)
    later place at =
        let x = entry_of place units at in
        let e = found.entry place x.0 x.1 in
        let hashed : x.0.0.hash ≡ hash_of x.0.0.turn units = e.hash ∙ ap (hash_of x.0.0.turn) x.2 in
        let own : at_key entries x.0.0 ≡ Some x.0.1 = lookup_from_place same_key_laws entries place x.0.0 x.0.1 distinct x.1 in
        let here : at_key entries (key_of units x.0.0.turn) ≡ Some x.0.1 = ap (λ (h : ℕ). at_key entries (record { hash = h; turn = x.0.0.turn })) (sym hashed) ∙ own in
        let past : turn ≤ x.0.0.turn =
        ⊎_elim
        (λ before.
        let o = others x.0.0.turn before in
        let one : Some o.0 ≡ Some x.0.1 = sym o.1 ∙ here in
        let span : o.0 ≡ x.0.1 = cc in
        absurd (o.2 (ap (units_in buffers) span ∙ x.2)))
        (λ h. h)
        (cases_lt x.0.0.turn turn) in
        (x.0, e, here, x.2, past)

    -- where all turns are taken, no text has the units
    pub none_at_all : past_turns ≤ turn → HasNone buffers entries units
    none_at_all past = λ id at. let x = later id.0 at in omega (arith, past, x.4, x.1.few)

    module _ (hash : ℕ) (of : hash ≡ hash_of turn units) where
      -- what is at the key of this turn
      own_key : at_key entries (key_of units turn) ≡ at_key entries (record { hash = hash; turn = turn })
      own_key = ap (λ (h : ℕ). at_key entries (record { hash = h; turn = turn })) (sym of)

      -- where this turn isn't taken, the key is free
      pub free_here : turn < past_turns → at_key entries (record { hash = hash; turn = turn }) ≡ None → IsFree buffers entries units (record { hash = hash; turn = turn })
      free_here few absent = record {
        none = λ id at.
            let x = later id.0 at in
            ⊎_elim
            (λ e.
            let two : Some x.0.1 ≡ None = sym x.2 ∙ ap (λ (t : ℕ). at_key entries (key_of units t)) e ∙ own_key ∙ absent in
            cc)
            (λ r. ⊎_elim
            (λ b. omega (arith, b, x.4))
            (λ b.
            let taken = x.1.turns turn b in
            let gone : is_some (at_key entries (key_of (units_in buffers x.0.1) turn)) ≡ false = ap (λ (us : Units). is_some (at_key entries (key_of us turn))) x.3 ∙ ap is_some (own_key ∙ absent) in
            true≢false (sym taken ∙ gone))
            r)
            (cases_order x.0.0.turn turn);
        hash = of;
        few = few;
        absent = absent;
        turns = λ t before. ap is_some (others t before).1;
      }

      -- one turn more
      pub one_more : (span : Span) → at_key entries (record { hash = hash; turn = turn }) ≡ Some span → (units_in buffers span ≡ units → ⊥) → AreOthers units (turn + 1)
      one_more span at other = λ t before. ⊎_elim
          (λ e. (span, ap (λ (n : ℕ). at_key entries (key_of units n)) e ∙ own_key ∙ at, other))
          (λ r. ⊎_elim (λ b. others t b) (λ b. absurd (omega (arith, b, before))) r)
          (cases_order t turn)

-- the numbers of known texts stay when a table grows
pub kept_grown : (old new : Table) (kept : List (Option TextId)) → Grows old new → AreKept old kept → AreKept new kept
kept_grown old new kept more are = λ place id units at known. Grows-Denotes old new id units more (are place id units at known)

-- texts stay when what is in the buffers stays
module _ (old new : Table) (stands : Stands old new) where
  texts_stay : (entries : Entries) → ((place : ℕ) (entry : Key × Span) → slice_get entries place ≡ Some entry → IsWithin old entry.1) → texts_in new entries ≡ texts_in old entries
  texts_stay [] within = refl
  texts_stay (e ∷ es) within =
      let head = stands.units e.1 (within 0 e refl) in
      let rest = texts_stay es (λ place entry at. within (suc place) entry at) in
      cc

  module _ (entries : Entries) (found : AreFound old entries) where
    pub same_texts : texts_in new entries ≡ texts_in old entries
    same_texts = texts_stay entries (λ place entry at. (found.entry place entry at).within)

    pub still_found : AreFound new entries
    still_found = record {
      entry = λ place entry at.
          let i = found.entry place entry at in
          let same : units_in old entry.1 ≡ units_in new entry.1 = sym (stands.units entry.1 i.within) in
          record {
            within = stands.within entry.1 i.within;
            hash = i.hash ∙ ap (hash_of entry.0.turn) same;
            few = i.few;
            turns = λ t before. ap (λ (us : Units). is_some (at_key entries (key_of us t))) (sym same) ∙ i.turns t before;
          };
      table = subst IsTable (sym same_texts) found.table;
    }

    -- a text more, at a key that was free
    module _ (units : Units) (key : Key) (span : Span) (free : IsFree old entries units key) (within : IsWithin new span) (are : units_in new span ≡ units) where
      texts_more : texts_in new (entries ++ (key, span) ∷ []) ≡ texts_in old entries ++ units ∷ []
      texts_more =
          let e = map_push (λ (e : Key × Span). units_in new e.1) entries (key, span) in
          let s = same_texts in
          e ∙ ap (λ (us : Units). texts_in new entries ++ us ∷ []) are ∙ ap (λ (ts : Table). ts ++ units ∷ []) s

      pub grown : Grows (texts_in old entries) (texts_in new (entries ++ (key, span) ∷ []))
      grown = (units ∷ [], texts_more)

      kept_entry : (entry : Key × Span) → IsEntry new entries entry → IsEntry new (entries ++ (key, span) ∷ []) entry
      kept_entry entry i = record { within = i.within; hash = i.hash; few = i.few; turns = λ t before. some_more (same_key (key_of (units_in new entry.1) t)) entries ((key, span) ∷ []) (i.turns t before) }

      new_entry : IsEntry new (entries ++ (key, span) ∷ []) (key, span)
      new_entry = record {
        within = within;
        hash = free.hash ∙ ap (hash_of key.turn) (sym are);
        few = free.few;
        turns = λ t before.
            ap (λ (us : Units). is_some (at_key (entries ++ (key, span) ∷ []) (key_of us t))) are
            ∙ some_more (same_key (key_of units t)) entries ((key, span) ∷ []) (free.turns t before);
      }

      pub found_more : IsText units → AreFound new (entries ++ (key, span) ∷ [])
      found_more text = record {
        entry = λ place entry at. ⊎_elim
            (λ h. kept_entry entry (still_found.entry place entry h))
            (λ h. subst (IsEntry new (entries ++ (key, span) ∷ [])) h.1 new_entry)
            (get_pushed entries (key, span) place entry at);
        table = subst IsTable (sym texts_more) (table_more (texts_in old entries) units found.table text free.none);
      }

      pub interned : (id : TextId) → id.0 ≡ length entries → Interns (texts_in old entries) (texts_in new (entries ++ (key, span) ∷ [])) units id
      interned id number = record {
        denotes = subst (λ (ts : Table). slice_get ts id.0 ≡ Some units) (sym texts_more)
            (ap (slice_get (texts_in old entries ++ units ∷ [])) (number ∙ sym (length-map entries (λ (e : Key × Span). units_in old e.1))) ∙ get_last (texts_in old entries) units);
        table = inr texts_more;
      }
