use Rattle.std.proofs.Common.{ℕ, List, ◌≡◌, ◌≤◌, length, sym, subst, rules}
use Rattle.wjs_gen.specs.Script.{script}
use Rattle.wjs_gen.proofs.Length.{short}
use Rattle.wjs_gen.proofs.script_of.Goals as goal

pub returns-clause-short : goal.returns-clause-short
returns-clause-short c =
    let e : c.into_bytes.result.items ≡ script c.args.number = search rules in
    subst (λ (l : List ℕ). length l ≤ 1000) (sym e) (short c.args.number c.requires.greatest)
