use Rattle.std.proofs.Common.{◌≡◌, true, ◌∷◌, [], refl, ap, sym, subst}
use Rattle.wjs_store.specs.declared.action.Action.{Action}
use Rattle.wjs_store.specs.declared.action.Action.TheVariants.{Read, Write, List as ListOf, Sprout, Commit}
use Rattle.wjs_store.specs.declared.action.Answer.TheVariants.{Found, Wrote, Listed, Sprouted, Committed}
use Rattle.wjs_store.specs.Meaning.{worlds}
use Rattle.wjs_store.specs.Run.{is_done, Runs}
use Rattle.wjs_store.proofs.RunLaws.{run_did, shown_again, names_again, verdict_again}
use Rattle.wjs_full.proofs.run.perform.Goals as goal

pub returns-in_ok-read-in-Read : goal.returns-in_ok-read-in-Read
returns-in_ok-read-in-Read g c =
    let m = g.S.WorldStore.meaning in
    let there = subst (λ a. is_done (worlds (m c.args.store.now)) a ≡ true) c.in-Read.is c.requires.there in
    subst (λ (a : Action). Runs (m c.args.store.now) (a ∷ []) ((Found c.in_ok-read-in-Read.field-0) ∷ []) (m c.read.new.self)) (sym c.in-Read.is) (run_did (m c.args.store.now) (m c.read.new.self) (Read c.in-Read.world c.in-Read.slot) (Found c.in_ok-read-in-Read.field-0) _ c.requires.not_spent (g.met.S.WorldStore.sound c.args.store.now) (g.met.S.WorldStore.sound c.read.new.self) there (ap Found (shown_again c.in_ok-read-in-Read.field-0)) c.in_ok-read-in-Read.ensures.0)

pub returns-in_ok-write-in-Write : goal.returns-in_ok-write-in-Write
returns-in_ok-write-in-Write g c =
    let m = g.S.WorldStore.meaning in
    let there = subst (λ a. is_done (worlds (m c.args.store.now)) a ≡ true) c.in-Write.is c.requires.there in
    subst (λ (a : Action). Runs (m c.args.store.now) (a ∷ []) (Wrote ∷ []) (m c.write.new.self)) (sym c.in-Write.is) (run_did (m c.args.store.now) (m c.write.new.self) (Write c.in-Write.world c.in-Write.slot c.in-Write.content) Wrote _ c.requires.not_spent (g.met.S.WorldStore.sound c.args.store.now) (g.met.S.WorldStore.sound c.write.new.self) there refl c.in_ok-write-in-Write.ensures.0)

pub returns-in_ok-list-in-List : goal.returns-in_ok-list-in-List
returns-in_ok-list-in-List g c =
    let m = g.S.WorldStore.meaning in
    let there = subst (λ a. is_done (worlds (m c.args.store.now)) a ≡ true) c.in-List.is c.requires.there in
    subst (λ (a : Action). Runs (m c.args.store.now) (a ∷ []) ((Listed c.in_ok-list-in-List.field-0) ∷ []) (m c.list.new.self)) (sym c.in-List.is) (run_did (m c.args.store.now) (m c.list.new.self) (ListOf c.in-List.world c.in-List.object) (Listed c.in_ok-list-in-List.field-0) _ c.requires.not_spent (g.met.S.WorldStore.sound c.args.store.now) (g.met.S.WorldStore.sound c.list.new.self) there (ap Listed (names_again c.in-List.object c.in_ok-list-in-List.field-0)) c.in_ok-list-in-List.ensures.0)

pub returns-in_ok-sprout-in-Sprout : goal.returns-in_ok-sprout-in-Sprout
returns-in_ok-sprout-in-Sprout g c =
    let m = g.S.WorldStore.meaning in
    let there = subst (λ a. is_done (worlds (m c.args.store.now)) a ≡ true) c.in-Sprout.is c.requires.there in
    subst (λ (a : Action). Runs (m c.args.store.now) (a ∷ []) ((Sprouted c.in_ok-sprout-in-Sprout.field-0) ∷ []) (m c.sprout.new.self)) (sym c.in-Sprout.is) (run_did (m c.args.store.now) (m c.sprout.new.self) (Sprout c.in-Sprout.world c.in-Sprout.owner c.in-Sprout.strict) (Sprouted c.in_ok-sprout-in-Sprout.field-0) _ c.requires.not_spent (g.met.S.WorldStore.sound c.args.store.now) (g.met.S.WorldStore.sound c.sprout.new.self) there refl c.in_ok-sprout-in-Sprout.ensures.0)

pub returns-in_ok-commit-in-Commit : goal.returns-in_ok-commit-in-Commit
returns-in_ok-commit-in-Commit g c =
    let m = g.S.WorldStore.meaning in
    let there = subst (λ a. is_done (worlds (m c.args.store.now)) a ≡ true) c.in-Commit.is c.requires.there in
    subst (λ (a : Action). Runs (m c.args.store.now) (a ∷ []) ((Committed c.in_ok-commit-in-Commit.field-0) ∷ []) (m c.commit.new.self)) (sym c.in-Commit.is) (run_did (m c.args.store.now) (m c.commit.new.self) (Commit c.in-Commit.world) (Committed c.in_ok-commit-in-Commit.field-0) _ c.requires.not_spent (g.met.S.WorldStore.sound c.args.store.now) (g.met.S.WorldStore.sound c.commit.new.self) there (ap Committed (verdict_again c.in_ok-commit-in-Commit.field-0)) c.in_ok-commit-in-Commit.ensures.0)
