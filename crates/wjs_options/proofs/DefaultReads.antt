-- What a caller reads of an argument that has a default.
use Rattle.std.proofs.Common.{◌≡◌, ◌∙◌, ◌<◌, ◌≤◌, ap, ℕ, Bool, true, false, List, [], ◌∷◌, length, is_some, Option, Some, None, refl, sym, subst, inl, inr, arith, zero, suc}
use Rattle.std.specs.List.{All, slice_index_or}
use Rattle.std.specs.Str.{bytes_eq}
use Rattle.std.specs.Prelude.{find, option_map, slice_get}
use Rattle.std.specs.Borrow.{Bor}
use Rattle.std.proofs.lemmas.Slice.Eq.{bytes_eq-Decides}
use Rattle.std.proofs.lemmas.List.Elements.{All-get_or}
use Rattle.clap.specs.Facts.{AllowsNone, IsCountArg, IsFilledEntry, args_of, groups_of, Entry, EntryPasses, HasId, PassesArg, HasReading, WantsDefault, least_values, parser_of, parser_of_value}
use Rattle.clap.specs.Built.{IsPlain, IsParsedFrom, IsAuto, SameRules}
use Rattle.clap.specs.Matches.{matched_of, first_value, one_text, found_of}
use Rattle.clap.specs.Walk.{Text}
use Rattle.clap.specs.declared.parser.matches.Found.{Found}
use Rattle.clap.specs.Values.{Accepts, read_as, reading_of}
use Rattle.clap.specs.declared.builder.value_parser.Reading.{Reading}
use Rattle.clap.proofs.CallerLemmas.{default_present, entry_by_id, same_rules_by_id}
use Rattle.clap.specs.declared.builder.action.ArgAction.TheVariants.{Count, Set}
use Rattle.clap.specs.declared.builder.arg.Arg.{Arg}
use Rattle.clap.specs.declared.builder.command.Command.{Command}
use Rattle.clap.specs.declared.builder.command.Command.TheViews.{out-Command}
use Rattle.clap.specs.declared.builder.value_parser.ValueParser.{ValueParser}
use Rattle.clap.specs.declared.parser.matches.ArgMatches.{ArgMatches}
use Rattle.clap.specs.declared.parser.matches.MatchedArg.{MatchedArg}

-- an argument with the id of the caller's argument is read as the caller's parser says
only_reading : (old : Command) (m : ArgMatches) (p : IsParsedFrom old m) (k : ℕ) (d : Arg) → k < length (args_of old)
    → ((j : ℕ) (e : Arg) → j < length (args_of old)
    → bytes_eq (slice_index_or (args_of old) j e).id.now (slice_index_or (args_of old) k d).id.now ≡ true → j ≡ k)
    → (IsAuto (slice_index_or (args_of old) k d) → ⊥)
    → (q : ValueParser) → (slice_index_or (args_of old) k d).value_parser ≡ Some q
    → (r : Reading) → HasReading p.built (slice_index_or (args_of old) k d).id.now r → r ≡ reading_of q
only_reading old m p k d lt unique own q parser r any =
    let s = same_rules_by_id old m p k d lt unique own any.0 any.1 any.2 any.3 any.4.0 in
    let is_q : parser_of any.1 ≡ q = ap parser_of_value (s.parser q parser) in
    sym any.4.1 ∙ ap reading_of is_q

accepts_of : (a y : Arg) (q : ValueParser) (t : List ℕ) → SameRules a y → a.value_parser ≡ Some q
    → Accepts y.ignore_case (parser_of y) t → Accepts a.ignore_case q t
accepts_of a y q t s parser read =
    let is_q : parser_of y ≡ q = ap parser_of_value (s.parser q parser) in
    let as_q : Accepts y.ignore_case q t = subst (λ (w : ValueParser). Accepts y.ignore_case w t) is_q read in
    subst (λ (b : Bool). Accepts b q t) s.ignore_case as_q

passes_read : (old : Command) (m : ArgMatches) (p : IsParsedFrom old m) (k : ℕ) (d : Arg) → k < length (args_of old)
    → ((j : ℕ) (e : Arg) → j < length (args_of old)
    → bytes_eq (slice_index_or (args_of old) j e).id.now (slice_index_or (args_of old) k d).id.now ≡ true → j ≡ k)
    → (IsAuto (slice_index_or (args_of old) k d) → ⊥)
    → (q : ValueParser) → (slice_index_or (args_of old) k d).value_parser ≡ Some q
    → (w : List ℕ) (v : Bor (List ℕ)) → w ≡ (slice_index_or (args_of old) k d).id.now → PassesArg p.built w v.now
    → Accepts (slice_index_or (args_of old) k d).ignore_case q v.now
passes_read old m p k d lt unique own q parser w v key pass =
    let same : bytes_eq pass.1.id.now (slice_index_or (args_of old) k d).id.now ≡ true =
    subst (λ (u : List ℕ). bytes_eq pass.1.id.now u ≡ true) key pass.4.0 in
    accepts_of _ pass.1 q v.now (same_rules_by_id old m p k d lt unique own pass.0 pass.1 pass.2 pass.3 same) parser pass.4.1

-- what a text that was read gives
abbrev pub Reads : Found → Text → Reading → (Text → Type 0) → Type 0
Reads f id how Q = (t : Text) × (first_value f id ≡ Some t) × (one_text f id ≡ Some (read_as how t)) × Q t

head_passes : (P : Bor Text → Type 0) (vs : List (Bor Text)) → 0 < length vs → All P vs
    → (v : Bor Text) × (slice_get vs 0 ≡ Some v) × P v
head_passes P [] some h = absurd (omega arith)
head_passes P (v ∷ vs) some h = (v, refl, All-get_or P (v ∷ vs) 0 v (omega arith) h)

reads_at : (f : Found) (id : Text) (x : MatchedArg) (how : Reading) (v : Bor Text) (Q : Text → Type 0) → matched_of f id ≡ Some x → x.reading ≡ how
    → slice_get x.vals.items 0 ≡ Some v → Q v.now → Reads f id how Q
reads_at f id x how v Q found is first holds = (v.now, rw (found, first) refl, rw (found, is, first) refl, holds)

-- an argument with the id of the caller's argument doesn't count, and takes a value
never_counts : (old : Command) (m : ArgMatches) (p : IsParsedFrom old m) (k : ℕ) (d : Arg) → k < length (args_of old)
    → ((j : ℕ) (e : Arg) → j < length (args_of old)
    → bytes_eq (slice_index_or (args_of old) j e).id.now (slice_index_or (args_of old) k d).id.now ≡ true → j ≡ k)
    → (IsAuto (slice_index_or (args_of old) k d) → ⊥)
    → (slice_index_or (args_of old) k d).action ≡ Some Set → IsCountArg p.built (slice_index_or (args_of old) k d).id.now → ⊥
never_counts old m p k d lt unique own set any =
    let s = same_rules_by_id old m p k d lt unique own any.0 any.1 any.2 any.3 any.4.0 in
    let is_set : any.1.action ≡ Some Set = s.action Set set in
    let bad : Set ≡ Count = rw is_set at any.4.1 in
    cc

never_empty : (old : Command) (m : ArgMatches) (p : IsParsedFrom old m) (k : ℕ) (d : Arg) → k < length (args_of old)
    → ((j : ℕ) (e : Arg) → j < length (args_of old)
    → bytes_eq (slice_index_or (args_of old) j e).id.now (slice_index_or (args_of old) k d).id.now ≡ true → j ≡ k)
    → (IsAuto (slice_index_or (args_of old) k d) → ⊥)
    → (slice_index_or (args_of old) k d).action ≡ Some Set → (slice_index_or (args_of old) k d).val_delim ≡ None
    → 1 ≤ least_values (slice_index_or (args_of old) k d) → AllowsNone p.built (slice_index_or (args_of old) k d).id.now → ⊥
never_empty old m p k d lt unique own set delim least any =
    let s = same_rules_by_id old m p k d lt unique own any.0 any.1 any.2 any.3 any.4.0 in
    elim any.4.1 [
      | inl none ↦
          let one = s.least set least in
          omega arith
      | inr has ↦
          let bad : false ≡ true = rw (s.val_delim, delim) at has in
          cc
    ]

-- the entry of an argument that is no group, takes a value and doesn't count has one
filled_entry : (c : Command) (e : Entry) (x : MatchedArg) → IsFilledEntry c e → (e.1.is_group ≡ true → ⊥) → (IsCountArg c e.0.now → ⊥) → (AllowsNone c e.0.now → ⊥)
    → e.1 ≡ x → 0 < length x.vals.items
filled_entry c e x (inl h) group counts empty same = absurd (group h.0)
filled_entry c e x (inr (inl v)) group counts empty same = rw same at v
filled_entry c e x (inr (inr (inl h))) group counts empty same = absurd (counts h.1)
filled_entry c e x (inr (inr (inr h))) group counts empty same = absurd (empty h)

entry_reads : (c : Command) (f : Found) (id : Text) (Q : Text → Type 0) (how : Reading) (x : MatchedArg) (e : Entry)
    → groups_of c ≡ [] → (id ≡ [] → ⊥) → (IsCountArg c id → ⊥) → (AllowsNone c id → ⊥) → ((r : Reading) → HasReading c id r → r ≡ how)
    → ((v : Bor Text) → PassesArg c id v.now → Q v.now)
    → matched_of f id ≡ Some x → e.1 ≡ x → e.0.now ≡ id → EntryPasses c e
    → Reads f id how Q
entry_reads c f id Q how x e no_groups named counts empty reads read found same_x key_id pass =
    let no_group : e.1.is_group ≡ true → ⊥ = λ g. elim (pass.3 g) [
      | inl none ↦ named (sym key_id ∙ none)
      | inr lots ↦
          let bad : 0 < 0 = rw no_groups at lots in
          absurd (omega arith)
    ] in
    let some : 0 < length x.vals.items = filled_entry c e x pass.1 no_group (λ h. counts (subst (IsCountArg c) key_id h)) (λ h. empty (subst (AllowsNone c) key_id h)) same_x in
    let all : All (λ v. PassesArg c id v.now) x.vals.items = elim pass.0 [
      | inl g ↦ absurd (no_group g)
      | inr vals ↦ subst (λ (w : Text). All (λ v. PassesArg c w v.now) x.vals.items) key_id (rw same_x at vals)
    ] in
    let is : e.1.reading ≡ how = elim pass.4 [
      | inl g ↦ absurd (no_group g)
      | inr h ↦ reads e.1.reading (subst (λ (w : Text). HasReading c w e.1.reading) key_id h)
    ] in
    finish (head_passes (λ v. PassesArg c id v.now) x.vals.items some all) (ap (λ (y : MatchedArg). y.reading) (sym same_x) ∙ is)
  where
    finish : (v : Bor Text) × (slice_get x.vals.items 0 ≡ Some v) × PassesArg c id v.now → x.reading ≡ how → Reads f id how Q
    finish head is = reads_at f id x how head.0 Q found is head.1 (read head.0 head.2)

found_there : {X : Type 0} (p : X → Bool) (xs : List X) (i : ℕ) (d : X) → i < length xs → p (slice_index_or xs i d) ≡ true
    → is_some (find p xs) ≡ true
found_there p [] i d lt h = absurd (omega arith)
found_there p (x ∷ xs) zero d lt h = rw h refl
found_there p (x ∷ xs) (suc i) d lt h = go (p x) refl (found_there p xs i d (omega arith) h)
  where
    go : (t : Bool) → p x ≡ t → is_some (find p xs) ≡ true → is_some (find p (x ∷ xs)) ≡ true
    go true t rest = rw t refl
    go false t rest = rw t rest

some_map : {X Y : Type 0} (f : X → Y) (o : Option X) → is_some o ≡ true → is_some (option_map f o) ≡ true
some_map f (Some x) h = refl
some_map f None h = cc

some_is : {X : Type 0} (o : Option X) → is_some o ≡ true → (x : X) × (o ≡ Some x)
some_is (Some x) h = (x, refl)
some_is None h = cc

entry_there : (f : Found) (id : Text) (d : Entry) → HasId f id → (x : MatchedArg) × (matched_of f id ≡ Some x)
entry_there f id d has =
    some_is (matched_of f id) (some_map _ _ (found_there (λ e. bytes_eq e.0.now id) f.entries.items has.0 d has.1 (has.2 d)))

-- an entry, as far as one is there
some_entry : (f : Found) (id : Text) → HasId f id → Entry
some_entry f id has = go f.entries.items has.1
  where
    go : (xs : List Entry) → has.0 < length xs → Entry
    go [] lt = absurd (omega arith)
    go (x ∷ xs) lt = x

-- an argument with a default has a text that passed its parser, and is read as that parser says
pub default_reads : (old : Command) (m : ArgMatches) (p : IsParsedFrom old m) → IsPlain old → (out-Command old).has_globals ≡ false
    → (k : ℕ) (d : Arg) → k < length (args_of old) → WantsDefault (slice_index_or (args_of old) k d)
    → (slice_index_or (args_of old) k d).action ≡ Some Set → (slice_index_or (args_of old) k d).val_delim ≡ None
    → 1 ≤ least_values (slice_index_or (args_of old) k d)
    → ((j : ℕ) (e : Arg) → j < length (args_of old)
    → bytes_eq (slice_index_or (args_of old) j e).id.now (slice_index_or (args_of old) k d).id.now ≡ true → j ≡ k)
    → ((slice_index_or (args_of old) k d).id.now ≡ [] → ⊥)
    → (IsAuto (slice_index_or (args_of old) k d) → ⊥)
    → (q : ValueParser) → (slice_index_or (args_of old) k d).value_parser ≡ Some q
    → Reads (found_of m) (slice_index_or (args_of old) k d).id.now (reading_of q) (Accepts (slice_index_or (args_of old) k d).ignore_case q)
default_reads old m p plain globals k d lt wants set delim least unique named own q parser =
    let id = (slice_index_or (args_of old) k d).id.now in
    let parsed = p.parsed (p.from.globals ∙ globals) in
    let has = default_present old m p globals k d lt wants in
    let there = entry_there (found_of m) id (some_entry (found_of m) id has) has in
    let got = entry_by_id (EntryPasses p.built) (found_of m).entries.items id there.0 parsed.values there.1 in
    entry_reads p.built (found_of m) id (Accepts (slice_index_or (args_of old) k d).ignore_case q) (reading_of q) there.0 got.0 (p.from.plain plain).1 named
    (never_counts old m p k d lt unique own set) (never_empty old m p k d lt unique own set delim least)
    (only_reading old m p k d lt unique own q parser)
    (λ v pass. passes_read old m p k d lt unique own q parser _ v refl pass)
    there.1 got.1 ((bytes_eq-Decides got.0.0.now id).0 got.2) got.3
