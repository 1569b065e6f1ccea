use Rattle.std.proofs.Common.{ℕ, List, ◌++◌, Vec, Global, sym, ap, ◌∙◌, add-one}
use Rattle.std.specs.Prelude.{not}
use Rattle.wjs_store.specs.Meaning.{worlds}
use Rattle.wjs_by_content.specs.Telling.{names_of}
use Rattle.wjs_reports.specs.Lines.{line_at}
use Rattle.wjs_reports.proofs.Named.{lines_named}
use Rattle.wjs_reports.proofs.Places.{place, lines_below, none_below, ends_at, next_below}
use Rattle.wjs_reports.proofs.lines.world_lines.Goals as goal

pub loop-serial-init : goal.loop-serial-init
loop-serial-init g c = c.new-text.ensures.bytes ∙ none_below (worlds (g.S.WorldStore.meaning c.args.store.now))

all_told : goal.returns-then-not-has_world-clause-lines
all_told g c =
    let store = c.args.store.now in
    let F = worlds (g.S.WorldStore.meaning store) in
    let sound = g.met.S.WorldStore.sound store (ap not (sym c.is_spent.ensures ∙ c.if-is_spent.false)) in
    ap (λ (v : Vec ℕ Global). v.items) c.into_bytes.ensures.value
    ∙ c.loop-serial.invariant
    ∙ ends_at F c.loop-serial.serial (sound.reached (g.S.WorldStore.meaning store).own sound.admits_own) (sym c.has_world.ensures ∙ c.if-not-has_world.true)

pub returns-then-not-has_world-clause-lines : goal.returns-then-not-has_world-clause-lines
returns-then-not-has_world-clause-lines g c = all_told g c

pub returns-then-not-has_world-clause-by_content : goal.returns-then-not-has_world-clause-by_content
returns-then-not-has_world-clause-by_content g c = λ t known. all_told g c ∙ sym (lines_named (names_of t) (worlds (g.S.WorldStore.meaning c.args.store.now)) known)

pub loop-serial-preserved : goal.loop-serial-preserved
loop-serial-preserved g c =
    let store = c.args.store.now in
    let F = worlds (g.S.WorldStore.meaning store) in
    let k = c.loop-serial.serial in
    let sound = g.met.S.WorldStore.sound store (ap not (sym c.is_spent.ensures ∙ c.if-is_spent.false)) in
    c.in_ok-push_line.ensures
    ∙ ap (λ (ls : List ℕ). ls ++ line_at F (place k)) c.loop-serial.invariant
    ∙ sym (next_below F k (sound.reached (g.S.WorldStore.meaning store).own sound.admits_own) (sym c.has_world.ensures ∙ c.if-not-has_world.false))
    ∙ ap (λ j. lines_below j F) (sym (add-one k))
