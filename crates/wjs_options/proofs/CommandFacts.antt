-- What the command's arguments are, from what a parse reads of it.
use Rattle.std.proofs.Common.{◌≡◌, ◌∙◌, ◌<◌, ◌≤◌, ap, ℕ, Bool, true, false, zero, suc, List, [], ◌∷◌, length, map, Option, refl, sym, subst, inl, inr, arith, codes, rules}
use Rattle.std.specs.List.{list_all, list_any, slice_index_or}
use Rattle.std.specs.Str.{bytes_eq}
use Rattle.std.proofs.lemmas.List.{get_or-map, length-map}
use Rattle.clap.specs.Facts.{args_of, least_values, unwrap_or_range}
use Rattle.clap.specs.Built.{IsPlain, IsParsedFrom}
use Rattle.clap.specs.Matches.{found_of}
use Rattle.clap.specs.Simple.{App, IsSimple, app_of, is_ready, is_ready_leaf}
use Rattle.clap.specs.Texts.{items_of}
use Rattle.clap.specs.Faults.{has_free_rules}
use Rattle.clap.specs.Values.{Accepts, reading_of}
use Rattle.clap.specs.Walk.{Rule, Text, rule_of}
use Rattle.clap.specs.declared.builder.arg.Arg.{Arg}
use Rattle.clap.specs.declared.builder.command.Command.{Command}
use Rattle.clap.specs.declared.builder.value_parser.ValueParser.{ValueParser}
use Rattle.clap.specs.declared.builder.range.ValueRange.{ValueRange}
use Rattle.clap.specs.declared.parser.matches.ArgMatches.{ArgMatches}
use Rattle.clap.specs.declared.builder.value_parser.ValueParser.TheVariants.{Names as Among, Unsigned}
use Rattle.std.specs.Prelude.{IsSome, ◌⊎◌, ◌^◌, ◌||◌}
use Rattle.std.proofs.lemmas.Slice.Eq.{bytes_eq-Decides}
use Rattle.clap.specs.Walk.{rows_of}
use Rattle.clap.proofs.WalkLemmas.{first_value-rows, list_any-map, one_text-rows}
use Rattle.clap.proofs.FaultLemmas.{free_args}
use Rattle.clap.proofs.SimpleLemmas.{all_simple, ready_simple, simple_groups}
use Rattle.wjs_options.specs.Command.{IsModes, Names, command_with, mode_rule, number_rule, option_rule, steps_rule, turn_rule}
use Rattle.wjs_options.specs.Options.{HasOptions, mode_named}
use Rattle.wjs_options.proofs.DefaultReads.{Reads, default_reads}

abbrev table : Names → List Rule
table names = steps_rule ∷ mode_rule names ∷ number_rule ∷ turn_rule ∷ []

is_simple_command : (names : Names) (c : Command) → app_of c ≡ command_with names → IsSimple c
is_simple_command names c is =
    ready_simple c (ap (λ (a : App). is_ready a.top) is) (ap (λ (a : App). list_all is_ready_leaf a.subs) is)

is_plain_command : (names : Names) (c : Command) → app_of c ≡ command_with names → IsPlain c
is_plain_command names c is =
    let simple = is_simple_command names c is in
    let free = free_args c simple (ap (λ (a : App). has_free_rules a.top) is) in
    let alone = simple_groups c (ap (λ (a : App). all_simple a.top.rules) is) in
    ((λ k d lt. let one = free k d lt in (one.exclusive, one.conflicts, one.overrides, alone k d lt)), simple.groups)

-- no two of the arguments have one id
one_place : (names : Names) (j k : ℕ) (e d : Rule) → j < 4 → k < 4
    → bytes_eq (slice_index_or (table names) j e).id (slice_index_or (table names) k d).id ≡ true → j ≡ k
one_place names zero zero e d low lt same = refl
one_place names zero (suc zero) e d low lt same = cc
one_place names zero (suc (suc zero)) e d low lt same = cc
one_place names zero (suc (suc (suc zero))) e d low lt same = cc
one_place names (suc zero) zero e d low lt same = cc
one_place names (suc zero) (suc zero) e d low lt same = refl
one_place names (suc zero) (suc (suc zero)) e d low lt same = cc
one_place names (suc zero) (suc (suc (suc zero))) e d low lt same = cc
one_place names (suc (suc zero)) zero e d low lt same = cc
one_place names (suc (suc zero)) (suc zero) e d low lt same = cc
one_place names (suc (suc zero)) (suc (suc zero)) e d low lt same = refl
one_place names (suc (suc zero)) (suc (suc (suc zero))) e d low lt same = cc
one_place names (suc (suc (suc zero))) zero e d low lt same = cc
one_place names (suc (suc (suc zero))) (suc zero) e d low lt same = cc
one_place names (suc (suc (suc zero))) (suc (suc zero)) e d low lt same = cc
one_place names (suc (suc (suc zero))) (suc (suc (suc zero))) e d low lt same = refl
one_place names (suc (suc (suc (suc j)))) k e d low lt same = absurd (omega arith)
one_place names j (suc (suc (suc (suc k)))) e d low lt same = absurd (omega arith)

is_rule : (names : Names) (c : Command) → app_of c ≡ command_with names → (k : ℕ) (d : Arg) (e : Rule) → k < 4
    → rule_of (slice_index_or (args_of c) k d) ≡ slice_index_or (table names) k e
is_rule names c is k d e lt =
    let list : map rule_of (args_of c) ≡ table names = ap (λ (a : App). a.top.rules) is in
    let inside : k < length (args_of c) = omega (arith, length-map (args_of c) rule_of, ap length list) in
    sym (get_or-map rule_of (args_of c) k d e inside) ∙ ap (λ (l : List Rule). slice_index_or l k e) list

-- what a parse of the command read of the option at k
option_reads : (names : Names) (c : Command) (m : ArgMatches) → app_of c ≡ command_with names → IsParsedFrom c m
    → (k : ℕ) (d : Arg) → k < 4 → (id otherwise : Text) (q : ValueParser)
    → rule_of (slice_index_or (args_of c) k d) ≡ option_rule id q otherwise
    → (id ≡ [] → ⊥) → bytes_eq id (codes "help") ≡ false → bytes_eq id (codes "version") ≡ false
    → Reads (found_of m) id (reading_of q) (Accepts false q)
option_reads names c m is p k d lt id otherwise q rule named help version =
    let a = slice_index_or (args_of c) k d in
    let simple = is_simple_command names c is in
    let list : map rule_of (args_of c) ≡ table names = ap (λ (a : App). a.top.rules) is in
    let long : length (args_of c) ≡ 4 = sym (length-map (args_of c) rule_of) ∙ ap length list in
    let inside : k < length (args_of c) = omega arith in
    let id_is : a.id.now ≡ id = ap (λ (r : Rule). r.id) rule in
    let defaults : 0 < length (items_of a.default_vals) = let one = ap (λ (r : Rule). length r.defaults) rule in omega (arith, length-map (items_of a.default_vals) (λ s. s.now)) in
    let least : 1 ≤ least_values a =
    subst (λ (o : Option ValueRange). 1 ≤ (unwrap_or_range o).start_inclusive) (sym (ap (λ (r : Rule). r.range) rule)) (omega arith) in
    let unique : (j : ℕ) (e : Arg) → j < length (args_of c) → bytes_eq (slice_index_or (args_of c) j e).id.now a.id.now ≡ true → j ≡ k =
    λ j e low same.
    let r = rule_of e in
    one_place names j k r r (omega arith) lt (rw (← ap (λ (r : Rule). r.id) (is_rule names c is j e r (omega arith)), ← ap (λ (r : Rule). r.id) (is_rule names c is k d r lt)) same) in
    let got = default_reads c m p (is_plain_command names c is) simple.globals k d inside ((simple.args k d inside).default_ifs, defaults)
    (ap (λ (r : Rule). r.action) rule) (simple.args k d inside).delimiter least unique
    (λ empty. named (sym id_is ∙ empty))
    (λ auto. elim auto [
      | inl h ↦ let bad : true ≡ false = sym (ap (λ (t : Text). bytes_eq t (codes "help")) (sym id_is ∙ h)) ∙ help in cc
      | inr h ↦ let bad : true ≡ false = sym (ap (λ (t : Text). bytes_eq t (codes "version")) (sym id_is ∙ h)) ∙ version in cc
    ])
    q (ap (λ (r : Rule). r.parser) rule) in
    subst (λ (w : Text). Reads (found_of m) w (reading_of q) (Accepts false q)) id_is
    (subst (λ (b : Bool). Reads (found_of m) a.id.now (reading_of q) (Accepts b q)) (ap (λ (r : Rule). r.ignore_case) rule) got)

either : (a b : Bool) → (a || b) ≡ true → (a ≡ true) ⊎ (b ≡ true)
either true b h = inl refl
either false b h = inr h

-- a text that is known names a mode
named_by : (name text : Text) → IsSome (mode_named name) → bytes_eq name text ≡ true → IsSome (mode_named text)
named_by name text known same = subst (λ (w : Text). IsSome (mode_named w)) ((bytes_eq-Decides name text).0 same) known

-- a text among the names of the modes names one
mode_among : (names : Names) → IsModes names → (text : Text) → Accepts false (Among names) text → IsSome (mode_named text)
mode_among names modes text passed =
    let some = sym (list_any-map (λ (w : Text). bytes_eq w text) (λ name. name.now) names.now) ∙ passed in
    let one : list_any (λ (w : Text). bytes_eq w text) (codes "run" ∷ codes "check" ∷ codes "tree" ∷ codes "gen" ∷ codes "play" ∷ codes "log" ∷ codes "audit" ∷ []) ≡ true =
    subst (λ (l : List Text). list_any (λ (w : Text). bytes_eq w text) l ≡ true) modes some in
    elim (either _ _ one) [
      | inl h ↦ named_by (codes "run") text (search rules) h
      | inr h ↦ elim (either _ _ h) [
        | inl h ↦ named_by (codes "check") text (search rules) h
        | inr h ↦ elim (either _ _ h) [
          | inl h ↦ named_by (codes "tree") text (search rules) h
          | inr h ↦ elim (either _ _ h) [
            | inl h ↦ named_by (codes "gen") text (search rules) h
            | inr h ↦ elim (either _ _ h) [
              | inl h ↦ named_by (codes "play") text (search rules) h
              | inr h ↦ elim (either _ _ h) [
                | inl h ↦ named_by (codes "log") text (search rules) h
                | inr h ↦ elim (either _ _ h) [
                  | inl h ↦ named_by (codes "audit") text (search rules) h
                  | inr h ↦ cc
                ]
              ]
            ]
          ]
        ]
      ]
    ]

some_arg : (xs : List Arg) → 0 < length xs → Arg
some_arg [] lt = absurd (omega arith)
some_arg (x ∷ xs) lt = x

-- a parse of the command that succeeds has what the options are read from
pub has_options : (names : Names) (c : Command) (m : ArgMatches) → IsModes names → app_of c ≡ command_with names → IsParsedFrom c m
    → HasOptions (rows_of (found_of m))
has_options names c m modes is p =
    let list : map rule_of (args_of c) ≡ table names = ap (λ (a : App). a.top.rules) is in
    let long : length (args_of c) ≡ 4 = sym (length-map (args_of c) rule_of) ∙ ap length list in
    let d = some_arg (args_of c) (omega arith) in
    let f = found_of m in
    let steps = option_reads names c m is p 0 d (omega arith) (codes "steps") (codes "10000000") (Unsigned 1 (10 ^ 12)) (is_rule names c is 0 d steps_rule (omega arith)) (λ e. cc) refl refl in
    let mode = option_reads names c m is p 1 d (omega arith) (codes "mode") (codes "run") (Among names) (is_rule names c is 1 d steps_rule (omega arith)) (λ e. cc) refl refl in
    let number = option_reads names c m is p 2 d (omega arith) (codes "number") (codes "1000") (Unsigned 1 50000) (is_rule names c is 2 d steps_rule (omega arith)) (λ e. cc) refl refl in
    let turn = option_reads names c m is p 3 d (omega arith) (codes "turn") (codes "100") (Unsigned 1 (10 ^ 6)) (is_rule names c is 3 d steps_rule (omega arith)) (λ e. cc) refl refl in
    record {
      steps = (steps.0, sym (one_text-rows f (codes "steps")) ∙ steps.2, steps.3);
      mode = (mode.0, sym (first_value-rows f (codes "mode")) ∙ mode.1, mode_among names modes mode.0 mode.3);
      number = (number.0, sym (one_text-rows f (codes "number")) ∙ number.2, number.3);
      turn = (turn.0, sym (one_text-rows f (codes "turn")) ∙ turn.2, turn.3);
    }
