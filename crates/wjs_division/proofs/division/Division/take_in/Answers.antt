use Rattle.std.proofs.Common.{◌≡◌, ℕ, ◌-◌, ◌≤◌, true, List, [], ◌∷◌, ◌++◌, length, take, drop, Result, Ok, Err, OnOk, refl, sym, ◌∙◌}
use Rattle.wjs_base.specs.declared.ids.OutOfMemory.{OutOfMemory}
use Rattle.wjs_division.specs.declared.division.Division.{Division}
use Rattle.wjs_division.specs.Division.{divides}
use Rattle.wjs_division.specs.Pieces.{piece_of, TakesIn}
use Rattle.wjs_division.proofs.Dividing.{no_division, division}
use Rattle.wjs_division.proofs.division.Division.take_in.Goals as goal

-- a part was begun, or memory ran out
begun : (bytes : List ℕ) (line next : ℕ) (old new : Division) (r : Result (Unit {0}) OutOfMemory) → OnOk r (new.pieces.items ≡ old.pieces.items ++ piece_of old.from line ∷ []) → OnOk r (new.from ≡ next) → old.from ≤ line → line ≤ next → next ≤ length bytes → divides (take (next - line) (drop line bytes)) ≡ true → OnOk r (TakesIn bytes line next old new)
begun bytes line next old new (Ok done) pieces from low high within e = division bytes line next old new pieces from low high within e
begun bytes line next old new (Err memory) pieces from low high within e = tt

pub returns-then-divides : goal.returns-then-divides
returns-then-divides c =
    begun c.args.bytes.now c.args.line c.args.next c.args.self.now c.begin_part.new.self c.begin_part.result c.begin_part.ensures.pieces c.begin_part.ensures.from c.requires.from c.requires.order c.requires.within (sym c.divides.ensures ∙ c.if-divides.true)

pub returns-else-divides : goal.returns-else-divides
returns-else-divides c =
    no_division c.args.bytes.now c.args.line c.args.next c.args.self.now c.args.self.now refl c.requires.from c.requires.order (sym c.divides.ensures ∙ c.if-divides.false)
