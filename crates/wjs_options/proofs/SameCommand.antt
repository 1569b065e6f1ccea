-- Where the names of the modes stand makes no difference to what `clap` finds.
use Rattle.std.proofs.Common.{◌≡◌, ◌∙◌, ap, ap₂, Bool, true, false, List, [], ◌∷◌, Some, None, refl, sym, drop, cond, codes, length, is_some}
use Rattle.std.specs.List.{list_any}
use Rattle.std.specs.Prelude.{find, not, ◌&&◌, ◌||◌}
use Rattle.std.specs.Str.{bytes_eq}
use Rattle.clap.specs.Faults.{default_fault, defaults_fault, fault_of, repeat_fault, use_fault}
use Rattle.clap.specs.Kinds.{Kinds, or_else, range_kinds, values_kinds}
use Rattle.clap.specs.Simple.{App, built, filled, help_rule, matches_of, with_index}
use Rattle.clap.specs.ValueTests.{accepts}
use Rattle.clap.specs.Walk.{Row, Rule, Text, Walk, finished, has_long, has_row, has_short, nothing_held, values_or_missing, walk, with_default}
use Rattle.clap.specs.declared.builder.value_parser.ValueParser.TheVariants.{Names as Among}
use Rattle.clap.specs.declared.error.kind.ErrorKind.TheVariants.{InvalidValue}
use Rattle.clap.proofs.FaultLemmas.{leaf_fault}
use Rattle.clap.proofs.WalkLemmas.{list_any-map}
use Rattle.std.specs.Prelude.{Result, Ok, Err}
use Rattle.std.proofs.Common.{map, subst}
use Rattle.wjs_options.specs.declared.answer.Options.{Options}
use Rattle.wjs_options.specs.declared.answer.WordsFault.{WordsFault}
use Rattle.wjs_options.specs.Options.{Answers, Gives}
use Rattle.wjs_options.proofs.ReadLemmas.{says_weaker}
use Rattle.wjs_options.proofs.AlikeFaults.{finished_same, level_same}
use Rattle.wjs_options.proofs.AlikeWalks.{Alike, Likes, Same, walk_same}
use Rattle.wjs_options.specs.Command.{IsCommand, IsModes, Names, anywhere, command, mode_names, command_with, mode_rule, number_rule, steps_rule, turn_rule}

-- the arguments of the built command
abbrev built_rules : Names → List Rule
built_rules names = (built (command_with names)).top.rules

abbrev built_mode : Names → Rule
built_mode names = with_index 1 (filled (mode_rule names))

abbrev built_steps : Rule
built_steps = with_index 1 (filled steps_rule)

abbrev built_number : Rule
built_number = with_index 1 (filled number_rule)

abbrev built_turn : Rule
built_turn = with_index 1 (filled turn_rule)

abbrev built_help : Rule
built_help = with_index 1 (filled help_rule)

same_accepts : (a b : Names) → IsModes a → IsModes b → (text : Text) → accepts false (Among a) text ≡ accepts false (Among b) text
same_accepts a b in-a in-b text =
    list_any-map (λ (w : Text). bytes_eq w text) (λ name. name.now) a.now
    ∙ (ap (list_any (λ (w : Text). bytes_eq w text)) (in-a ∙ sym in-b)
    ∙ sym (list_any-map (λ (w : Text). bytes_eq w text) (λ name. name.now) b.now))

same_values : (a b : Names) → IsModes a → IsModes b → (values : List Text) → values_kinds false (Among a) values ≡ values_kinds false (Among b) values
same_values a b in-a in-b [] = refl
same_values a b in-a in-b (v ∷ vs) =
    ap₂ or_else (ap (λ (t : Bool). cond t [] (InvalidValue ∷ [])) (same_accepts a b in-a in-b v)) (same_values a b in-a in-b vs)

same_use : (a b : Names) → IsModes a → IsModes b → (again : Bool) (values : List Text) (rows : List Row)
    → use_fault again (built_mode a) values rows ≡ use_fault again (built_mode b) values rows
same_use a b in-a in-b again values rows =
    ap (λ (k : Kinds). or_else (range_kinds 1 1 (length values)) (or_else (repeat_fault again (codes "mode") rows) k)) (same_values a b in-a in-b (values_or_missing (built_mode b) values))

same_mode : (a b : Names) → IsModes a → IsModes b → Same (built_mode a) (built_mode b)
same_mode a b in-a in-b = record {
  id = refl;
  use_is = λ values rows. refl;
  fault_is = same_use a b in-a in-b;
  takes = refl;
  most = refl;
}

same_self : (r : Rule) → Same r r
same_self r = record { id = refl; use_is = λ values rows. refl; fault_is = λ again values rows. refl; takes = refl; most = refl }

-- a test that tells the rules of the mode not apart finds the same
likes_found : (test : Rule → Bool) (r m n s t u : Rule) → Same m n → test m ≡ test n
    → Likes (find test (r ∷ m ∷ s ∷ t ∷ u ∷ [])) (find test (r ∷ n ∷ s ∷ t ∷ u ∷ []))
likes_found test r m n s t u l same = go (test r) (test m) (test n) (test s) (test t) (test u) same
  where
    go : (tr tm tn ts tu th : Bool) → tm ≡ tn
        → Likes (cond tr (Some r) (cond tm (Some m) (cond ts (Some s) (cond tu (Some t) (cond th (Some u) None)))))
        (cond tr (Some r) (cond tn (Some n) (cond ts (Some s) (cond tu (Some t) (cond th (Some u) None)))))
    go true tm tn ts tu th e = same_self r
    go false true true ts tu th e = l
    go false true false ts tu th e = cc
    go false false true ts tu th e = cc
    go false false false true tu th e = same_self s
    go false false false false true th e = same_self t
    go false false false false false true e = same_self u
    go false false false false false false e = tt

alike : (a b : Names) → IsModes a → IsModes b → Alike (built_rules a) (built_rules b)
unfolding defaults_fault
alike a b in-a in-b =
    let same = same_mode a b in-a in-b in
    let found = λ (test : Rule → Bool). likes_found test built_steps (built_mode a) (built_mode b) built_number built_turn built_help same in
    record {
      by_id = λ id. found (λ r. bytes_eq r.id id) refl;
      by_long = λ name. found (λ r. not (is_some r.index) && has_long r name) refl;
      by_short = λ x. found (λ r. not (is_some r.index) && has_short r x) refl;
      by_index = λ i. (refl, refl);
      defaulted = λ rows. refl;
      defaults = λ rows.
          let given = with_default rows built_steps in
          let rest = defaults_fault (with_default given (built_mode b)) (built_number ∷ built_turn ∷ built_help ∷ []) in
          ap (λ (k : Kinds). or_else (default_fault rows built_steps) (or_else (cond (has_row (codes "mode") given || false) [] k) rest))
          (same_values a b in-a in-b (codes "run" ∷ []));
      missing = λ rows. refl;
    }

same_fault : (a b : Names) → IsModes a → IsModes b → (words : List Text) → fault_of (command_with a) words ≡ fault_of (command_with b) words
same_fault a b in-a in-b words =
    let rest = drop 1 words in
    leaf_fault (built (command_with a)) nothing_held rest refl
    ∙ (level_same (built_rules a) (built_rules b) (alike a b in-a in-b) (built (command_with a)).top [] nothing_held rest false []
    ∙ sym (leaf_fault (built (command_with b)) nothing_held rest refl))

same_matches : (a b : Names) → IsModes a → IsModes b → (words : List Text) → matches_of (command_with a) words ≡ matches_of (command_with b) words
same_matches a b in-a in-b words =
    let rest = drop 1 words in
    let al = alike a b in-a in-b in
    ap (λ (w : Walk). finished (built_rules a) w.held) (walk_same (built_rules a) (built_rules b) al [] nothing_held rest)
    ∙ finished_same (built_rules a) (built_rules b) al (walk (built_rules b) [] nothing_held rest).held

fault_same : (app other : App) → IsCommand app → IsCommand other → (words : List Text) → fault_of app words ≡ fault_of other words
fault_same app other is so words =
    ap (λ (a : App). fault_of a words) is.2 ∙ (same_fault is.0 so.0 is.1 so.1 words ∙ sym (ap (λ (a : App). fault_of a words) so.2))

matches_same : (app other : App) → IsCommand app → IsCommand other → (words : List Text) → matches_of app words ≡ matches_of other words
matches_same app other is so words =
    ap (λ (a : App). matches_of a words) is.2 ∙ (same_matches is.0 so.0 is.1 so.1 words ∙ sym (ap (λ (a : App). matches_of a words) so.2))

-- what answers for one such app answers for each
pub answers_same : (app other : App) → IsCommand app → IsCommand other → (words : List Text) (result : Result Options WordsFault)
    → Answers app words result → Answers other words result
answers_same app other is so words (Ok options) h = (
  sym (fault_same app other is so words) ∙ h.0,
  subst (λ (rows : List Row). Gives rows options) (matches_same app other is so words) h.1,
)
answers_same app other is so words (Err fault) h =
    says_weaker _ _ fault (λ some none. some (fault_same app other is so words ∙ none)) h

-- `command` is such an app
pub command_is : IsCommand command
command_is = (anywhere (map anywhere mode_names), refl, refl)
