use Rattle.std.proofs.Common.{◌==◌, cond, Some, None, ◌∷◌, [], sym, ap, ◌∙◌, slice_get}
use Rattle.std.specs.FinMap as map
use Rattle.wjs_arena.proofs.Owners.{at_found, at_missing, zero_first, others_after, first_written, other_written, owned, changed}
use Rattle.wjs_arena.proofs.WorldsByOwner.{none_if}
use Rattle.wjs_arena.proofs.rows.Rows.take.Goals as goal

pub returns-then-owner-eq0-clause-taken : goal.returns-then-owner-eq0-clause-taken
returns-then-owner-eq0-clause-taken c =
    let first = c.self.inside.first in
    let rest = c.self.inside.owners.entries in
    let there = at_found (λ rows. rows.items) ((0, first) ∷ rest) c.args.owner first (zero_first (λ rows. rows.items) first rest c.args.owner c.if-owner-eq0.true) in
    λ id o.
    ap (λ rows. slice_get rows.items id.serial) c.replace.ensures.value
    ∙ sym (owned (λ rows. rows.items) ((0, first) ∷ rest) c.args.owner first.items there id o)
    ∙ ap (λ m. map.get m id) c.self.view_is

pub returns-then-owner-eq0-clause-left : goal.returns-then-owner-eq0-clause-left
returns-then-owner-eq0-clause-left c =
    let first = c.self.inside.first in
    let rest = c.self.inside.owners.entries in
    let now = c.replace.new.dest in
    λ id.
    changed (λ rows. rows.items) ((0, first) ∷ rest) ((0, now) ∷ rest) c.args.owner (Some now) (first_written (λ rows. rows.items) first now rest c.args.owner c.if-owner-eq0.true) id
    ∙ (λ i. cond (id.owner == c.args.owner) (slice_get ((ap (λ rows. rows.items) c.replace.ensures.after ∙ c.new.ensures.items) i) id.serial) (map.get (c.self.view_is i) id))

pub returns-in-Some-clause-taken : goal.returns-in-Some-clause-taken
returns-in-Some-clause-taken c =
    let first = c.self.inside.first in
    let rest = c.self.inside.owners.entries in
    let there = at_found (λ rows. rows.items) ((0, first) ∷ rest) c.args.owner c.in-Some.rows (others_after (λ rows. rows.items) first rest c.args.owner c.if-owner-eq0.false ∙ sym c.remove.ensures.value ∙ c.in-Some.is) in
    λ id o. sym (owned (λ rows. rows.items) ((0, first) ∷ rest) c.args.owner c.in-Some.rows.items there id o) ∙ ap (λ m. map.get m id) c.self.view_is

pub returns-in-Some-clause-left : goal.returns-in-Some-clause-left
returns-in-Some-clause-left c =
    let first = c.self.inside.first in
    let rest = c.self.inside.owners.entries in
    let then = c.remove.new.self.entries in
    λ id.
    changed (λ rows. rows.items) ((0, first) ∷ rest) ((0, first) ∷ then) c.args.owner None (other_written (λ rows. rows.items) first None rest then c.args.owner c.if-owner-eq0.false (λ q. c.remove.ensures.updates.0 q)) id
    ∙ ap (λ m. cond (id.owner == c.args.owner) None (map.get m id)) c.self.view_is

pub returns-clause-taken : goal.returns-clause-taken
returns-clause-taken c =
    let first = c.self.inside.first in
    let rest = c.self.inside.owners.entries in
    let there = at_missing (λ rows. rows.items) ((0, first) ∷ rest) c.args.owner (others_after (λ rows. rows.items) first rest c.args.owner c.if-owner-eq0.false ∙ sym c.remove.ensures.value ∙ none_if c.remove.result c.in_default.not-Some) in
    λ id o.
    ap (λ l. slice_get l id.serial) c.new-2.ensures.items
    ∙ sym (owned (λ rows. rows.items) ((0, first) ∷ rest) c.args.owner [] there id o)
    ∙ ap (λ m. map.get m id) c.self.view_is

pub returns-clause-left : goal.returns-clause-left
returns-clause-left c =
    let first = c.self.inside.first in
    let rest = c.self.inside.owners.entries in
    let then = c.remove.new.self.entries in
    λ id.
    changed (λ rows. rows.items) ((0, first) ∷ rest) ((0, first) ∷ then) c.args.owner None (other_written (λ rows. rows.items) first None rest then c.args.owner c.if-owner-eq0.false (λ q. c.remove.ensures.updates.0 q)) id
    ∙ ap (λ m. cond (id.owner == c.args.owner) None (map.get m id)) c.self.view_is
