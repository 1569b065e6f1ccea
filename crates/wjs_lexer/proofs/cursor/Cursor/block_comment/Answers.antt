use Rattle.std.proofs.Common.{◌≡◌, ℕ, ◌+◌, ◌<◌, ◌≤◌, ◌⊎◌, inl, inr, Some, None, List, sym, ◌∙◌, subst, arith, length}
use Rattle.std.specs.Prelude.{slice_get}
use Rattle.std.proofs.lemmas.Bool.{cases_order}
use Rattle.std.proofs.lemmas.Option.{slice_get_within}
use Rattle.wjs_lexer.specs.Comments.{Closes}
use Rattle.wjs_lexer.proofs.Texts.{char_at, some_at, none_past}
use Rattle.wjs_lexer.proofs.Ranges.{same_char, here}
use Rattle.wjs_lexer.proofs.SlashFound.{opened, any_more, closed_holds}
use Rattle.wjs_lexer.proofs.cursor.Cursor.block_comment.Goals as goal
use Rattle.wjs_lexer.proofs.cursor.Cursor.block_comment.Goals.{else-ch-eq42-via-then-ch-eq42+else-has_behind, else-ch-eq42-via-else-ch-eq42}

pub loop-ch-init : goal.loop-ch-init
loop-ch-init c = let a = c.advance_by.ensures in record {
  placed = a.placed;
  same = a.same;
  some = omega (arith, a.at);
  before = λ k lo hi x. let e = a.at in absurd (omega (arith, e));
  holds = rw a.at (opened c.args.self.now.chars.now c.args.self.now.at c.requires.opens.first c.requires.opens.second);
}

pub advance_by-requires-then-has_behind-clause-more : goal.advance_by-requires-then-has_behind-clause-more
advance_by-requires-then-has_behind-clause-more c = let w : c.loop-ch.self.at + 1 < length c.loop-ch.self.chars.now = slice_get_within _ _ _ (c.has_behind.ensures.0 c.if-has_behind.true) in omega (arith, w)

pub returns-then-has_behind : goal.returns-then-has_behind
returns-then-has_behind c =
    let l = c.loop-ch.invariant in
    let a = c.advance_by-then-has_behind.ensures in
    let x = char_at c.args.self.now.chars.now c.loop-ch.self.chars.now c.loop-ch.self.at c.in-Some.ch 42 l.same c.in-Some.ensures c.if-ch-eq42.true in
    let y = some_at c.args.self.now.chars.now c.loop-ch.self.chars.now (c.loop-ch.self.at + 1) 47 l.same (c.has_behind.ensures.0 c.if-has_behind.true) in
    record {
      placed = a.placed;
      same = a.same ∙ l.same;
      comment = record {
        first = c.requires.opens.first;
        second = c.requires.opens.second;
        close = c.loop-ch.self.at;
        some = l.some;
        before = l.before;
        closes = (x, y);
        end = a.at;
        holds = rw a.at (closed_holds c.args.self.now.chars.now c.args.self.now.at c.loop-ch.self.at c.loop-ch.holds_line (let s = l.some in omega (arith, s)) (x, y) l.holds);
      };
    }

pub advance-requires-clause-more : goal.advance-requires-clause-more
advance-requires-clause-more c = slice_get_within _ _ _ (sym c.in-Some.ensures)

not_closed : (cs : List ℕ) (i n k : ℕ) → ((j : ℕ) → i + 2 ≤ j → j < n → Closes cs j → ⊥) → (Closes cs n → ⊥) → i + 2 ≤ k → k < n + 1 → Closes cs k → (k ≡ n) ⊎ ((k < n) ⊎ (n < k)) → ⊥
not_closed cs i n k b f lo hi x (inl e) = f (subst (λ (j : ℕ). Closes cs j) e x)
not_closed cs i n k b f lo hi x (inr (inl lt)) = b k lo lt x
not_closed cs i n k b f lo hi x (inr (inr gt)) = absurd (omega arith)

pub loop-ch-preserved : goal.loop-ch-preserved
loop-ch-preserved c =
    let l = c.loop-ch.invariant in
    let a = c.advance.ensures in
    let h = here c.args.self.now.chars.now c.loop-ch.self.chars.now c.loop-ch.self.at (Some c.in-Some.ch) l.same c.in-Some.ensures in
    let none : Closes c.args.self.now.chars.now c.loop-ch.self.at → ⊥ = λ x. elim c.else-ch-eq42.branch [
      | else-ch-eq42-via-then-ch-eq42+else-has_behind w ↦ (let z = w.has_behind.ensures.1 (some_at c.loop-ch.self.chars.now c.args.self.now.chars.now (c.loop-ch.self.at + 1) 47 (sym l.same) x.1) in let y = w.if-has_behind.false in cc)
      | else-ch-eq42-via-else-ch-eq42 w ↦ w.if-ch-eq42.false (same_char c.in-Some.ch 42 _ h x.0)
    ] in
    record {
      placed = a.placed;
      same = a.same ∙ l.same;
      some = let s = l.some in let e = a.at in omega (arith, s, e);
      before = λ k lo hi x. not_closed c.args.self.now.chars.now c.args.self.now.at c.loop-ch.self.at k l.before none lo (let e = a.at in omega (arith, e)) x (cases_order k c.loop-ch.self.at);
      holds = rw (a.at, c.is_line_end-holds_line.ensures) (any_more c.args.self.now.chars.now c.args.self.now.at c.loop-ch.self.at c.in-Some.ch c.loop-ch.holds_line (let s = l.some in omega (arith, s)) h l.holds);
    }

ended : (cs : List ℕ) (i n k : ℕ) → ((j : ℕ) → i + 2 ≤ j → j < n → Closes cs j → ⊥) → slice_get cs n ≡ None → i + 2 ≤ k → Closes cs k → (k ≡ n) ⊎ ((k < n) ⊎ (n < k)) → ⊥
ended cs i n k b e lo x (inl f) = none_past cs n k 42 e (omega arith) x.0
ended cs i n k b e lo x (inr (inl lt)) = b k lo lt x
ended cs i n k b e lo x (inr (inr gt)) = none_past cs n k 42 e (omega arith) x.0

pub returns : goal.returns
returns c =
    let l = c.loop-ch.invariant in
    let h = here c.args.self.now.chars.now c.loop-ch.self.chars.now c.loop-ch.self.at None l.same c.in_default.ensures in
    record {
      placed = l.placed;
      same = l.same;
      never = λ k lo x. ended c.args.self.now.chars.now c.args.self.now.at c.loop-ch.self.at k l.before h lo x (cases_order k c.loop-ch.self.at);
    }
