use Rattle.std.proofs.Common.{cond, Some, ◌++◌, ◌∷◌, [], sym, ap, ◌∙◌, subst, refl}
use Rattle.std.specs.Option.{option_copied_mut, IsSome}
use Rattle.std.specs.FinMap as map
use Rattle.std.specs.Ordering.{nat_cmp}
use Rattle.std.specs.BTreeMap.{get, is_at}
use Rattle.std.proofs.lemmas.Result.{on_ok_weaker, on_err_weaker}
use Rattle.wjs_arena.specs.Entries.{next_number}
use Rattle.wjs_arena.proofs.Owners.{serials_objects, pushed, written_back, at_found, at_missing, zero_first, others_after, first_written, other_written}
use Rattle.wjs_arena.proofs.rows.Rows.push.Goals as goal

pub returns-then-owner-eq0-clause-ok : goal.returns-then-owner-eq0-clause-ok
returns-then-owner-eq0-clause-ok c =
    let rest = c.self.inside.owners.entries in
    let first = c.self.inside.first in
    let rows = c.push_last.new.rows in
    let there = at_found (λ rows. rows.items) ((0, first) ∷ rest) c.args.owner first (zero_first (λ rows. rows.items) first rest c.args.owner c.if-owner-eq0.true) in
    on_ok_weaker c.push_last.result (λ h.
    pushed (λ rows. rows.items) ((0, first) ∷ rest) ((0, rows) ∷ rest) c.args.owner c.args.entry rows (h ∙ ap (λ es. es ++ c.args.entry ∷ []) (sym there)) (first_written (λ rows. rows.items) first rows rest c.args.owner c.if-owner-eq0.true)
    ∙ ap (λ m. map.insert m (next_number m c.args.owner) c.args.entry) c.self.view_is) c.push_last.ensures.ok

pub returns-then-owner-eq0-clause-err : goal.returns-then-owner-eq0-clause-err
returns-then-owner-eq0-clause-err c =
    let rest = c.self.inside.owners.entries in
    let first = c.self.inside.first in
    let rows = c.push_last.new.rows in
    let there = at_found (λ rows. rows.items) ((0, first) ∷ rest) c.args.owner first (zero_first (λ rows. rows.items) first rest c.args.owner c.if-owner-eq0.true) in
    on_err_weaker c.push_last.result (λ h.
    written_back (λ rows. rows.items) ((0, first) ∷ rest) ((0, rows) ∷ rest) c.args.owner rows (h ∙ sym there) (first_written (λ rows. rows.items) first rows rest c.args.owner c.if-owner-eq0.true)
    ∙ c.self.view_is) c.push_last.ensures.err

pub returns-then-owner-eq0-clause-serials : goal.returns-then-owner-eq0-clause-serials
returns-then-owner-eq0-clause-serials c = serials_objects (λ rows. rows.items) ((0, c.push_last.new.rows) ∷ c.self.inside.owners.entries)

pub returns-in-Some-clause-ok : goal.returns-in-Some-clause-ok
returns-in-Some-clause-ok c =
    let found = sym c.get_mut.ensures.value ∙ ap option_copied_mut c.in-Some.is in
    let rows = c.push_last-in-Some.new.rows in
    let rest = c.self.inside.owners.entries in
    let then = (c.get_mut.follows.lender rows).entries in
    let first = c.self.inside.first in
    let after = (c.get_mut.follows.holds rows).3 (subst IsSome (sym found) refl) in
    let there = at_found (λ rows. rows.items) ((0, first) ∷ rest) c.args.owner _ (others_after (λ rows. rows.items) first rest c.args.owner c.if-owner-eq0.false ∙ found) in
    on_ok_weaker c.push_last-in-Some.result (λ h.
    pushed (λ rows. rows.items) ((0, first) ∷ rest) ((0, first) ∷ then) c.args.owner c.args.entry rows (h ∙ ap (λ es. es ++ c.args.entry ∷ []) (sym there)) (other_written (λ rows. rows.items) first (Some rows) rest then c.args.owner c.if-owner-eq0.false (λ q. after.0 q))
    ∙ ap (λ m. map.insert m (next_number m c.args.owner) c.args.entry) c.self.view_is) c.push_last-in-Some.ensures.ok

pub returns-in-Some-clause-err : goal.returns-in-Some-clause-err
returns-in-Some-clause-err c =
    let found = sym c.get_mut.ensures.value ∙ ap option_copied_mut c.in-Some.is in
    let rows = c.push_last-in-Some.new.rows in
    let rest = c.self.inside.owners.entries in
    let then = (c.get_mut.follows.lender rows).entries in
    let first = c.self.inside.first in
    let after = (c.get_mut.follows.holds rows).3 (subst IsSome (sym found) refl) in
    let there = at_found (λ rows. rows.items) ((0, first) ∷ rest) c.args.owner _ (others_after (λ rows. rows.items) first rest c.args.owner c.if-owner-eq0.false ∙ found) in
    on_err_weaker c.push_last-in-Some.result (λ h.
    written_back (λ rows. rows.items) ((0, first) ∷ rest) ((0, first) ∷ then) c.args.owner rows (h ∙ sym there) (other_written (λ rows. rows.items) first (Some rows) rest then c.args.owner c.if-owner-eq0.false (λ q. after.0 q))
    ∙ c.self.view_is) c.push_last-in-Some.ensures.err

pub returns-in-None-clause-ok : goal.returns-in-None-clause-ok
returns-in-None-clause-ok c =
    let none = sym c.get_mut.ensures.value ∙ ap option_copied_mut c.in-None.is in
    let rest = c.self.inside.owners.entries in
    let first = c.self.inside.first in
    let there = at_missing (λ rows. rows.items) ((0, first) ∷ rest) c.args.owner (others_after (λ rows. rows.items) first rest c.args.owner c.if-owner-eq0.false ∙ none) in
    on_ok_weaker c.push_first.result (λ h.
    pushed (λ rows. rows.items) ((0, first) ∷ rest) ((0, first) ∷ c.push_first.new.owners.entries) c.args.owner c.args.entry h.0 (h.1 ∙ ap (λ es. es ++ c.args.entry ∷ []) (sym there)) (other_written (λ rows. rows.items) first (Some h.0) rest c.push_first.new.owners.entries c.args.owner c.if-owner-eq0.false (λ q. h.2 q ∙ ap (λ m. cond (is_at (nat_cmp c.args.owner) q) (Some h.0) (get nat_cmp m q)) c.get_mut.follows.holds-at-none))
    ∙ ap (λ m. map.insert m (next_number m c.args.owner) c.args.entry) c.self.view_is) c.push_first.ensures.ok

pub returns-in-Some-clause-serials : goal.returns-in-Some-clause-serials
returns-in-Some-clause-serials c = serials_objects (λ rows. rows.items) ((0, c.self.inside.first) ∷ (c.get_mut.follows.lender c.push_last-in-Some.new.rows).entries)

pub returns-in-None-clause-serials : goal.returns-in-None-clause-serials
returns-in-None-clause-serials c = serials_objects (λ rows. rows.items) ((0, c.self.inside.first) ∷ c.push_first.new.owners.entries)
