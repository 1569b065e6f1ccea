use Rattle.std.proofs.Common.{◌≡◌, ℕ, ◌+◌, length, refl, sym, ap, ◌∙◌, subst, arith, rules, Vec, Global}
use Rattle.wjs_scope.specs.declared.declarations.Declarations.{Declarations}
use Rattle.wjs_scope.specs.Bodies.{DeclaresTo}
use Rattle.wjs_scope.proofs.Tabling.{next_row}
use Rattle.wjs_scope.proofs.body_rows.declared_rows.Goals as goal
use Rattle.wjs_scope.proofs.body_rows.declared_rows.Goals.{else-loop-number-test, then-loop-number-test+in_ok-add_row+else-number-number-end}

pub loop-number-preserved : goal.loop-number-preserved
loop-number-preserved c = next_row c.args.nodes.now c.args.arguments (record { 0 = c.loop-number.number }) c.loop-number.number c.loop-number.rows.items c.add_row.new.rows.items refl c.in_ok-add_row.ensures c.loop-number.invariant

pub returns : goal.returns
returns c =
    let ns = c.args.nodes.now in
    elim c.loop-number-test.branch [
      | else-loop-number-test w ↦ absurd (omega (arith, w.loop-number-test.false, c.loop-number.auto.number-end))
      | then-loop-number-test+in_ok-add_row+else-number-number-end w ↦
          let e : c.loop-number.number ≡ c.args.last.0 = search rules in
          let next = next_row ns c.args.arguments (record { 0 = c.loop-number.number }) c.loop-number.number c.loop-number.rows.items w.add_row.new.rows.items refl w.in_ok-add_row.ensures c.loop-number.invariant in
          let all = subst (λ (n : ℕ). DeclaresTo ns c.args.arguments n w.add_row.new.rows.items) (ap (λ (n : ℕ). n + 1) e ∙ sym c.requires.last) next in
          subst (λ (v : Vec Declarations Global). DeclaresTo ns c.args.arguments (length ns) v.items) (sym w.rows-is) all
    ]
