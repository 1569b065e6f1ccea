use Rattle.std.proofs.Common.{◌≡◌, ◌+◌, ◌≤◌, ◌&&◌, None, Some, refl, sym, ap, ◌∙◌, subst, arith}
use Rattle.std.specs.FinMap as map
use Rattle.wjs_base.specs.declared.values.Slot.{Slot}
use Rattle.wjs_store.specs.Marked.{is_written}
use Rattle.wjs_store.specs.Meaning.{Worlds}
use Rattle.wjs_store.specs.Shown.{content_of}
use Rattle.wjs_store.specs.State.{content_at, after_read, after_write, read, write, found, wrote}
use Rattle.wjs_overlay.specs.Check.{IsLeast}
use Rattle.wjs_layers.specs.Cursor.{to_come, count_passing}
use Rattle.wjs_session.specs.Session.{world_at}
use Rattle.wjs_session.specs.Stores.{worlds_in}
use Rattle.wjs_session.proofs.CallLaws.{found_is}
use Rattle.wjs_session.proofs.CarryLaws.{Carries, is_next, carries_none, carries_one, carries_all, fewer, read_written}
use Rattle.wjs_session.proofs.ToCome.{IsToWrite, write_none, write_last, write_next}
use Rattle.wjs_session.proofs.AnswerLaws.{of_does}
use Rattle.wjs_session.proofs.carry.carry.Goals as goal

pub slots-init : goal.slots-init
slots-init c =
    let k = c.requires.kept in (
      carries_none (worlds_in c.args.shared.now) c.args.world (worlds_in c.args.inner.now) c.args.at k.shared k.child,
      refl,
      refl,
      refl,
      write_none (worlds_in c.args.inner.now) c.args.at c.args.world (worlds_in c.args.shared.now),
    )

pub slots-smaller : goal.slots-smaller
slots-smaller c =
    let F = worlds_in c.args.shared.now in
    let G = worlds_in c.args.inner.now in
    let i = c.args.world in
    let w = c.args.at in
    let v = c.slots.invariant in
    let n = c.in-Some.slot in
    let h = content_of c.in_ok-content.content in
    let least : IsLeast (λ (s : Slot). is_written G w s && to_come c.slots.passed s) (Some n) = subst (λ (K : Worlds). IsLeast (λ (s : Slot). is_written K w s && to_come c.slots.passed s) (Some n)) v.1 c.in-Some.ensures in
    let next = is_next F i G w c.slots.passed (worlds_in c.slots.shared) v.0 n least in
    let a = of_does c.slots.inner c.read.new.self (read w n) (found h) c.in_ok-content.ensures.0 in
    let b = of_does c.slots.shared c.write.new.self (write i n h) wrote c.in_ok-write.ensures.0 in
    let less : count_passing (to_come (Some n)) (map.keys (world_at G w).written) + 1 ≤ count_passing (to_come c.slots.passed) (map.keys (world_at G w).written) = fewer F i G w c.slots.passed (worlds_in c.slots.shared) v.0 n least c.requires.there in
    omega (arith, less)

pub slots-preserved : goal.slots-preserved
slots-preserved c =
    let F = worlds_in c.args.shared.now in
    let G = worlds_in c.args.inner.now in
    let i = c.args.world in
    let w = c.args.at in
    let v = c.slots.invariant in
    let n = c.in-Some.slot in
    let h = content_of c.in_ok-content.content in
    let least : IsLeast (λ (s : Slot). is_written G w s && to_come c.slots.passed s) (Some n) = subst (λ (K : Worlds). IsLeast (λ (s : Slot). is_written K w s && to_come c.slots.passed s) (Some n)) v.1 c.in-Some.ensures in
    let next = is_next F i G w c.slots.passed (worlds_in c.slots.shared) v.0 n least in
    let a = of_does c.slots.inner c.read.new.self (read w n) (found h) c.in_ok-content.ensures.0 in
    let b = of_does c.slots.shared c.write.new.self (write i n h) wrote c.in_ok-write.ensures.0 in
    let held : h ≡ content_at G w n = found_is h (content_at (worlds_in c.slots.inner) w n) a.answers ∙ ap (λ K. content_at K w n) v.1 in
    let to : worlds_in c.write.new.self ≡ after_write (worlds_in c.slots.shared) i n (content_at G w n) = b.worlds ∙ ap (after_write (worlds_in c.slots.shared) i n) held in (
      subst (Carries F i G w (Some n)) (sym to) (carries_one F i G w c.slots.passed (worlds_in c.slots.shared) v.0 n least),
      a.worlds ∙ ap (λ K. after_read K w n) v.1 ∙ read_written G w n c.requires.kept.inner c.requires.there next.0,
      b.spent ∙ v.2,
      a.spent ∙ v.3,
      subst (IsToWrite G w i F (Some n)) (sym to) (write_next G w c.requires.there i F c.slots.passed (worlds_in c.slots.shared) v.4 n least next.0 next.1),
    )

pub returns-clause-carried : goal.returns-clause-carried
returns-clause-carried c =
    let F = worlds_in c.args.shared.now in
    let G = worlds_in c.args.inner.now in
    let w = c.args.at in
    let v = c.slots.invariant in
    let least : IsLeast (λ (s : Slot). is_written G w s && to_come c.slots.passed s) None = subst (λ (K : Worlds). IsLeast (λ (s : Slot). is_written K w s && to_come c.slots.passed s) None) v.1 (subst (λ o. IsLeast (λ (s : Slot). is_written (worlds_in c.slots.inner) w s && to_come c.slots.passed s) o) c.in_default.is c.next_written.ensures) in
    carries_all F c.args.world G w c.slots.passed (worlds_in c.slots.shared) v.0 least

pub returns-clause-writes : goal.returns-clause-writes
returns-clause-writes c =
    let F = worlds_in c.args.shared.now in
    let G = worlds_in c.args.inner.now in
    let w = c.args.at in
    let v = c.slots.invariant in
    let least : IsLeast (λ (s : Slot). is_written G w s && to_come c.slots.passed s) None = subst (λ (K : Worlds). IsLeast (λ (s : Slot). is_written K w s && to_come c.slots.passed s) None) v.1 (subst (λ o. IsLeast (λ (s : Slot). is_written (worlds_in c.slots.inner) w s && to_come c.slots.passed s) o) c.in_default.is c.next_written.ensures) in
    write_last G w c.requires.there c.args.world F c.slots.passed (worlds_in c.slots.shared) v.4 least
