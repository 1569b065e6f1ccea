use Rattle.std.proofs.Common.{length, set, refl, ap}
use Rattle.std.proofs.lemmas.Option.{slice_get_read}
use Rattle.wjs_activity.proofs.activities.take_running.Goals as goal

pub returns : goal.returns
returns c =
    let xs = c.args.activities.now.items in
    record {
      was = c.index_mut.result.now;
      there = slice_get_read xs (length xs) c.args.place c.index_mut.result.now refl c.requires c.index_mut.ensures.value;
      is = ap (set xs c.args.place) c.take_out.ensures.activity;
      value = c.take_out.ensures.value;
    }
