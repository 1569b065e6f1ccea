use Rattle.std.proofs.Common.{◌≡◌, ℕ, ◌-◌, List, take, drop, ◌∙◌, subst, arith}
use Rattle.std.proofs.lemmas.List.{take_all, length-drop}
use Rattle.std.specs.Prelude.{decimal}
use Rattle.wjs_base.specs.Spelling.{IsNameOf}
use Rattle.wjs_base.specs.Text.{Interns}
use Rattle.wjs_base.specs.declared.values.Name.{Name}
use Rattle.wjs_base.proofs.TextLaws.{text_again}
use Rattle.wjs_texts.proofs.texts.Texts.text_of.Goals as goal

pub returns-clause-text_again : goal.returns-clause-text_again
returns-clause-text_again c text is =
    let start = c.write_decimal-start.result in
    let digits = c.write_decimal-start.new.digits in
    let long = length-drop start digits in
    let spelled : take (10 - start) (drop start digits) ≡ decimal c.in-Index.index = take_all (10 - start) (drop start digits) (omega (arith, long)) ∙ c.write_decimal-start.ensures.digits in
    let named = subst (λ (name : Name). IsNameOf c.args.self.now text name) c.in-Index.is is in
    text_again c.args.self.now c.intern.new.self (decimal c.in-Index.index) c.in_ok-intern.field-0 text c.in_ok-intern.ensures.table
    (subst (λ (units : List ℕ). Interns c.args.self.now c.intern.new.self units c.in_ok-intern.field-0) spelled c.in_ok-intern.ensures.ok) named.1
