-- What is owed where bytes are refused.
use Rattle.std.specs.Prelude.{ℕ, List, [], ◌++◌, codes}
use Rattle.std.specs.Fmt.{decimal}
use Rattle.wjs_load.specs.declared.tokens.Refusal.{Refusal}
use Rattle.wjs_load.specs.declared.tokens.Refusal.TheVariants as refusals
use Rattle.wjs_command.specs.declared.status.Status.TheVariants.{Refused}
use Rattle.wjs_command.specs.Table.{Told, line}

-- a refusal writes a line on err and nothing on out
abbrev pub refused : List ℕ → Told
refused text = record { out = []; err = line text; status = Refused }

abbrev pub text_of_refusal : Refusal → List ℕ
text_of_refusal refusals.NotUtf8 = codes "not UTF-8"
text_of_refusal (refusals.NotAToken n) = codes "line " ++ decimal n ++ codes ": not a token"
text_of_refusal (refusals.Unexpected n) = codes "line " ++ decimal n ++ codes ": syntax error"
text_of_refusal refusals.NotAScript = codes "syntax error"
