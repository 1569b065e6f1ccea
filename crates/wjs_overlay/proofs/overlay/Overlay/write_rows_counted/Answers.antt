use Rattle.std.proofs.Common.{sym, ap, ◌∙◌, subst}
use Rattle.wjs_store.specs.State.{write_all}
use Rattle.wjs_store.specs.Meaning.{entries_of}
use Rattle.wjs_layers.specs.Sparse.{full_of}
use Rattle.wjs_overlay.specs.Touched.{Covered}
use Rattle.wjs_overlay.proofs.Several.{covered_rows, answers_rows}
use Rattle.wjs_overlay.proofs.StoreLaws.{store_after, ids_all}
use Rattle.wjs_overlay.proofs.Touching.{covered_more}
use Rattle.wjs_overlay.proofs.overlay.Overlay.write_rows_counted.Goals as goal

pub reach-requires : goal.reach-requires
reach-requires g c = (c.args.self.now.covered c.if-self.false).rising

pub invariant_of-self-2 : goal.invariant_of-self-2
invariant_of-self-2 g c =
    let layers = c.args.self.now.layers.items in
    let k = c.args.self.now.covered c.if-self.false in
    let at = c.spot-at.result in
    let entries = entries_of c.args.object c.args.rows.now in
    let reached = c.in_ok-reach.ensures in
    let a = c.in_ok-write_rows.ensures.after in
    record {
      kept = λ e. store_after layers c.write_rows.new.layers.items c.args.self.now.places c.args.self.now.owners _ (c.args.self.now.kept c.if-self.false) a (ids_all at.world entries (full_of layers)) c.in_ok-write_rows.ensures.len;
      covered = λ e. record {
        rising = reached.rising;
        touched = subst (Covered c.reach.new.bounds.items) (sym a.full) (covered_rows c.reach.new.bounds.items at.world at.place c.args.object reached.reached c.args.rows.now (full_of layers) c.spot-at.ensures.at
            (covered_more c.args.self.now.bounds.items c.reach.new.bounds.items (full_of layers) reached.grows k.touched));
      };
    }

pub returns : goal.returns
returns g c =
    let entries = entries_of c.args.object c.args.rows.now in
    let layers = c.args.self.now.layers.items in
    record {
      answers = answers_rows c.args.self.now.spent layers (full_of c.write_rows.new.layers.items) c.args.world entries c.if-self.false
          (c.in_ok-write_rows.ensures.after.full ∙ ap (λ w. write_all w entries (full_of layers)) c.spot-at.ensures.world);
    }
