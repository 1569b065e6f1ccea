use Rattle.std.proofs.Common.{List, ℕ, [], ◌∷◌, ◌++◌, codes, sym, ap, ◌∙◌, append_assoc}
use Rattle.std.specs.Fmt.{decimal}
use Rattle.wjs_command.proofs.auditing.refuse_form.Goals as goal

pub returns-in-Ok : goal.returns-in-Ok
returns-in-Ok c =
    let told = c.refusal.ensures in
    record {
      status_is = told.status_is;
      line_is = told.line_is ∙ c.in-Ok.ensures.ok ∙ ap (λ (l : List ℕ). codes "line " ++ l) (sym (append_assoc (decimal c.args.line) (codes ": not a log line") (10 ∷ [])));
    }
