use Rattle.std.proofs.Common.{rules, ◌≡◌, sym, ◌∙◌}
use denote.Enum.Bare.{same_true, true_same}
use Rattle.wjs_tree.specs.contracts.keys.Key.{the_type}
use Rattle.wjs_parse_expr.proofs.look.has_key.Goals as goal

pub returns-in-Some-Key : goal.returns-in-Some-Key
returns-in-Some-Key c = (
  (λ h.
      let e : c.in-Some-Key.k ≡ c.args.key = same_true the_type (search rules) _ _ (sym c.eq.ensures ∙ h) in
      let a = c.token_at.ensures in cc),
  (λ h.
      let e : c.in-Some-Key.k ≡ c.args.key = (let a = c.token_at.ensures in cc) in
      (c.eq.ensures ∙ true_same the_type _ _ e)),
)
