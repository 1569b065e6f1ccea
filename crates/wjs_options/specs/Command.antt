-- The command as `clap` knows it.
use Rattle.std.specs.Prelude.{◌≡◌, ◌^◌, List, [], ◌∷◌, Some, codes, map}
use Rattle.std.specs.Borrow.{Bor}
use Rattle.clap.specs.Words.{App, Rule, Text, new_app, new_rule, with_rule}
use Rattle.clap.specs.declared.builder.action.ArgAction.TheVariants.{Set}
use Rattle.clap.specs.declared.builder.value_parser.ValueParser.{ValueParser}
use Rattle.clap.specs.declared.builder.value_parser.ValueParser.TheVariants.{Names as Among, Unsigned}

-- the names of the modes, behind references, as `clap` holds them
abbrev pub Names : Type 0
Names = Bor (List (Bor Text))

abbrev pub mode_names : List Text
mode_names = codes "run" ∷ codes "check" ∷ codes "tree" ∷ codes "gen" ∷ codes "play" ∷ codes "log" ∷ codes "audit" ∷ []

abbrev pub IsModes : Names → Type 0
IsModes names = map (λ name. name.now) names.now ≡ mode_names

-- an option `--id` with one value
abbrev pub option_rule : Text → ValueParser → Text → Rule
option_rule id parser otherwise = record (new_rule id) {
  long = Some id;
  action = Some Set;
  parser = Some parser;
  defaults = otherwise ∷ [];
}

abbrev pub steps_rule : Rule
steps_rule = option_rule (codes "steps") (Unsigned 1 (10 ^ 12)) (codes "10000000")

abbrev pub mode_rule : Names → Rule
mode_rule names = option_rule (codes "mode") (Among names) (codes "run")

abbrev pub number_rule : Rule
number_rule = option_rule (codes "number") (Unsigned 1 50000) (codes "1000")

abbrev pub turn_rule : Rule
turn_rule = option_rule (codes "turn") (Unsigned 1 (10 ^ 6)) (codes "100")

-- `worlds [--steps N] [--mode M] [--number K] [--turn Q]`, where the names of the modes stand there
abbrev pub command_with : Names → App
command_with names =
    with_rule (with_rule (with_rule (with_rule (new_app (codes "worlds")) steps_rule) (mode_rule names)) number_rule) turn_rule

-- the app is that command, wherever the names of the modes stand
abbrev pub IsCommand : App → Type 0
IsCommand app = (names : Names) × IsModes names × (app ≡ command_with names)

-- a reference to a place that makes no difference
abbrev pub anywhere : {X : Type 0} → X → Bor X
anywhere x = record { ref_ptr = (0, 0); now = x }

-- `worlds [--steps N] [--mode M] [--number K] [--turn Q]`
abbrev pub command : App
command = command_with (anywhere (map anywhere mode_names))
