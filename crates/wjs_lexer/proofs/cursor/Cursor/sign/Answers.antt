use Rattle.std.proofs.Common.{Some, None, sym, ◌∙◌}
use Rattle.std.proofs.lemmas.Option.{slice_get_within}
use Rattle.wjs_lexer.specs.Signs.{is_bound_to}
use Rattle.wjs_lexer.proofs.SignsAhead.{Stops, ahead_begin, ahead_more, ahead_end, spelled_more, spelled_first, stops_at, stops_past}
use Rattle.wjs_lexer.proofs.Ranges.{here}
use Rattle.wjs_lexer.proofs.Texts.{behind}
use Rattle.wjs_lexer.proofs.SlashFound.{sign_found, sign_bound}
use Rattle.wjs_lexer.proofs.cursor.Cursor.sign.Goals as goal
use Rattle.wjs_lexer.proofs.cursor.Cursor.sign.Goals.{in-Some+in-None, in_default}

pub loop-next-init : goal.loop-next-init
loop-next-init c =
    let a = c.advance.ensures in
    let s = c.requires.start in
    record {
      placed = a.placed;
      same = a.same;
      spelled = rw a.at (spelled_first c.args.self.now.chars.now c.args.self.now.at c.args.ch c.args.first s.sign s.here);
      ahead = rw a.at (ahead_begin c.args.self.now.chars.now c.args.self.now.at c.args.ch c.args.first s.here s.sign);
    }

pub advance-requires-in-Some-longer-clause-more : goal.advance-requires-in-Some-longer-clause-more
advance-requires-in-Some-longer-clause-more c = slice_get_within _ _ _ (sym c.in-Some.ensures)

pub loop-next-preserved : goal.loop-next-preserved
loop-next-preserved c =
    let a = c.advance-in-Some-longer.ensures in
    let l = c.loop-next.invariant in
    let h = here c.args.self.now.chars.now c.loop-next.self.chars.now c.loop-next.self.at (Some c.in-Some.next) l.same c.in-Some.ensures in
    record {
      placed = a.placed;
      same = a.same ∙ l.same;
      spelled = rw a.at (spelled_more c.args.self.now.chars.now c.args.self.now.at c.loop-next.self.at c.in-Some.next c.loop-next.sign c.in-Some-longer.more (sym c.in-Some-longer.ensures) l.spelled h);
      ahead = rw a.at (ahead_more c.args.self.now.chars.now c.args.self.now.at c.loop-next.self.at c.in-Some.next c.loop-next.sign c.in-Some-longer.more h (sym c.in-Some-longer.ensures) l.ahead);
    }

pub returns-then-is_bound_to : goal.returns-then-is_bound_to
returns-then-is_bound_to c =
    let l = c.loop-next.invariant in
    let st : Stops c.args.self.now.chars.now c.loop-next.self.at c.loop-next.sign = elim c.match-peek.branch [
      | in-Some+in-None w ↦ stops_at c.args.self.now.chars.now c.loop-next.self.at w.in-Some.next c.loop-next.sign (here c.args.self.now.chars.now c.loop-next.self.chars.now c.loop-next.self.at (Some w.in-Some.next) l.same w.in-Some.ensures) (sym w.in-None.ensures)
      | in_default w ↦ stops_past c.args.self.now.chars.now c.loop-next.self.at c.loop-next.sign (here c.args.self.now.chars.now c.loop-next.self.chars.now c.loop-next.self.at None l.same w.in_default.ensures)
    ] in
    λ units. record {
      placed = l.placed;
      same = l.same;
      nothing = sign_bound c.args.self.now.chars.now c.args.self.now.at c.loop-next.self.at c.args.ch c.args.first c.loop-next.sign c.requires.start l.spelled (ahead_end c.args.self.now.chars.now c.args.self.now.at c.loop-next.self.at c.loop-next.sign l.ahead st)
          (behind (is_bound_to c.loop-next.sign) _ _ _ _ l.same (sym c.is_bound_to.ensures ∙ c.if-is_bound_to.true));
    }

pub returns-else-is_bound_to : goal.returns-else-is_bound_to
returns-else-is_bound_to c =
    let l = c.loop-next.invariant in
    let st : Stops c.args.self.now.chars.now c.loop-next.self.at c.loop-next.sign = elim c.match-peek.branch [
      | in-Some+in-None w ↦ stops_at c.args.self.now.chars.now c.loop-next.self.at w.in-Some.next c.loop-next.sign (here c.args.self.now.chars.now c.loop-next.self.chars.now c.loop-next.self.at (Some w.in-Some.next) l.same w.in-Some.ensures) (sym w.in-None.ensures)
      | in_default w ↦ stops_past c.args.self.now.chars.now c.loop-next.self.at c.loop-next.sign (here c.args.self.now.chars.now c.loop-next.self.chars.now c.loop-next.self.at None l.same w.in_default.ensures)
    ] in
    λ units. record {
      placed = l.placed;
      same = l.same;
      piece = sign_found c.args.self.now.chars.now c.args.self.now.at c.loop-next.self.at c.args.ch c.args.first c.loop-next.sign c.requires.start l.spelled (ahead_end c.args.self.now.chars.now c.args.self.now.at c.loop-next.self.at c.loop-next.sign l.ahead st)
          (behind (is_bound_to c.loop-next.sign) _ _ _ _ l.same (sym c.is_bound_to.ensures ∙ c.if-is_bound_to.false));
    }
