use Rattle.std.proofs.Common.{sym, ap, subst}
use Rattle.wjs_store.specs.Shown.{content_of}
use Rattle.wjs_store.specs.State.{read, found}
use Rattle.wjs_layers.specs.Sparse.{full_of}
use Rattle.wjs_overlay.specs.Touched.{Covered}
use Rattle.wjs_overlay.proofs.StoreLaws.{store_after, ids_read, answers_store}
use Rattle.wjs_overlay.proofs.Touching.{covered_read}
use Rattle.wjs_overlay.proofs.overlay.Overlay.read_touched.Goals as goal

pub invariant_of-self-2 : goal.invariant_of-self-2
invariant_of-self-2 g c =
    let layers = c.args.self.now.layers.items in
    let bounds = c.args.self.now.bounds.items in
    let k = c.args.self.now.covered c.requires.live in
    record {
      kept = λ e. store_after layers c.read.new.layers.items c.args.self.now.places c.args.self.now.owners _ (c.args.self.now.kept c.requires.live) c.in_ok-answer.ensures.after (ids_read (full_of layers) c.args.at.world c.args.slot) c.in_ok-answer.ensures.len;
      covered = λ e. record {
        rising = k.rising;
        touched = subst (Covered bounds) (sym c.in_ok-answer.ensures.after.full) (covered_read bounds bounds (λ i n h. h) (full_of layers) c.args.at.world c.args.at.place c.requires.there c.args.slot (λ l. c.requires.within) k.touched);
      };
    }

pub returns-clause-answers : goal.returns-clause-answers
returns-clause-answers g c = answers_store c.args.self.now.spent c.args.self.now.layers.items (full_of c.read.new.layers.items) (read c.args.at.world c.args.slot) (found (content_of c.in_ok-answer.answer)) c.requires.live (ap found (c.in_ok-answer.ensures.found)) (c.in_ok-answer.ensures.after.full)
