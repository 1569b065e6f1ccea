use Rattle.std.proofs.Common.{◌==◌, cond, Some, ◌∷◌, ap, ◌∙◌, slice_get}
use Rattle.std.specs.FinMap as map
use Rattle.wjs_arena.proofs.Owners.{first_written, other_written, changed}
use Rattle.wjs_arena.proofs.rows.Rows.put.Goals as goal

pub returns-then-owner-eq0-clause-ok : goal.returns-then-owner-eq0-clause-ok
returns-then-owner-eq0-clause-ok c =
    let first = c.self.inside.first in
    let rest = c.self.inside.owners.entries in
    let now = c.args.rows in
    λ id.
    changed (λ rows. rows.items) ((0, first) ∷ rest) ((0, now) ∷ rest) c.args.owner (Some now) (first_written (λ rows. rows.items) first now rest c.args.owner c.if-owner-eq0.true) id
    ∙ ap (λ m. cond (id.owner == c.args.owner) (slice_get now.items id.serial) (map.get m id)) c.self.view_is

pub returns-clause-ok : goal.returns-clause-ok
returns-clause-ok c =
    let first = c.self.inside.first in
    let rest = c.self.inside.owners.entries in
    let now = c.args.rows in
    let then = c.insert.new.self.entries in
    λ id.
    changed (λ rows. rows.items) ((0, first) ∷ rest) ((0, first) ∷ then) c.args.owner (Some now) (other_written (λ rows. rows.items) first (Some now) rest then c.args.owner c.if-owner-eq0.false (λ q. c.in_ok-insert.ensures.updates.0 q)) id
    ∙ ap (λ m. cond (id.owner == c.args.owner) (slice_get now.items id.serial) (map.get m id)) c.self.view_is
