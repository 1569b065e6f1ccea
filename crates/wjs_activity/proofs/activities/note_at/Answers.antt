use Rattle.std.proofs.Common.{length, refl}
use Rattle.std.proofs.lemmas.Option.{slice_get_read}
use Rattle.std.proofs.lemmas.Result.{IfOk-weaker}
use Rattle.wjs_activity.proofs.activities.note_at.Goals as goal

pub note-requires : goal.note-requires
note-requires c =
    let xs = c.args.activities.now.items in
    c.requires.few c.index_mut.result.now (slice_get_read xs (length xs) c.args.place c.index_mut.result.now refl c.requires.place c.index_mut.ensures.value)

pub returns : goal.returns
returns c =
    let xs = c.args.activities.now.items in
    IfOk-weaker c.note.result _ _
    (λ output n. record {
      was = c.index_mut.result.now;
      there = slice_get_read xs (length xs) c.args.place c.index_mut.result.now refl c.requires.place c.index_mut.ensures.value;
      now = c.note.new.activity;
      is = refl;
      notes = n;
    })
    c.note.ensures
