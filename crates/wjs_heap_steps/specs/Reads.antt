-- How a read ends (ECMA-262, 3rd edition, section 8.7.1).
use Rattle.std.specs.Prelude.{◌≡◌, ◌⊎◌}
use Rattle.wjs_base.specs.declared.values.Value.{Value}
use Rattle.wjs_model.specs.declared.frame.Completion.{Completion}
use Rattle.wjs_model.specs.declared.frame.Completion.TheVariants as completions

-- a value or something thrown, and no other completion
abbrev pub GivesOrThrows : Completion → Type 0
GivesOrThrows e = ((v : Value) × (e ≡ completions.Gives v)) ⊎ ((x : Value) × (e ≡ completions.Throws x))
