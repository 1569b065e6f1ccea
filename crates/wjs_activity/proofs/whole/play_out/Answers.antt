use Rattle.std.proofs.Common.{◌≤◌, sym, ◌∙◌, subst}
use Rattle.std.specs.Prelude.{map as each}
use Rattle.std.specs.Option.{option_map}
use Rattle.std.proofs.lemmas.List.{length-map}
use Rattle.wjs_model.specs.Units.{unit_in}
use Rattle.wjs_activity.specs.Plays.{turn_in}
use Rattle.wjs_activity.proofs.Closing.{none_begun_so}
use Rattle.wjs_activity.proofs.whole.play_out.Goals as goal

pub played-requires-clause-begin : goal.played-requires-clause-begin
played-requires-clause-begin g c =
    let t = c.args.texts in
    let parts = c.args.parts.items in
    let long = length-map parts (unit_in t) in
    record {
      library = option_map (unit_in t) c.args.library;
      parts = each (unit_in t) parts;
      some = c.requires.budget;
      first = c.first_number.ensures t;
      count_is = c.len-count.ensures ∙ c.args.parts.ok.0 ∙ sym long;
      few = subst (λ n. n ≤ 1000) (sym long) c.requires.few;
      is = c.in-Ok.ensures;
    }

pub returns-in-Ok : goal.returns-in-Ok
returns-in-Ok g c =
    let t = c.args.texts in
    let parts = c.args.parts.items in
    c.played.ensures (option_map (unit_in t) c.args.library) (each (unit_in t) parts) (c.first_number.ensures t)
    (c.len-count.ensures ∙ c.args.parts.ok.0 ∙ sym (length-map parts (unit_in t))) c.in-Ok.ensures

pub returns-in-Err : goal.returns-in-Err
returns-in-Err g c =
    let t = c.args.texts in
    none_begun_so (option_map (unit_in t) c.args.library) (each (unit_in t) c.args.parts.items) c.args.budget (each turn_in c.args.schedule.now) c.args.turn
    (g.O.Sink.seen c.args.out.now).bytes (g.O.Sink.seen c.args.out.now).faults
