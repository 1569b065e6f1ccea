-- Bytes spell one program at most, whatever numbers their texts have in a table. The tokens of the second table spell the
-- first program with the numbers of both tables in one, and the second program with these; so both are the one that these
-- tokens spell, and by content neither has changed.
use Rattle.std.specs.Prelude.{◌≡◌, ℕ, List, ◌++◌}
use Rattle.std.specs.Str.{chars}
use Rattle.std.proofs.Common.{sym, ◌∙◌, ap, subst}
use Rattle.wjs_base.specs.declared.ids.TextId.{TextId}
use Rattle.wjs_base.specs.Text.{Table}
use Rattle.wjs_tree.specs.declared.tokens.Tok.{Tok}
use Rattle.wjs_tree.specs.Trees.{Elements}
use Rattle.wjs_lexer.specs.Lexing.{HasTokens, AreToks, start}
use Rattle.wjs_lexer.specs.Readings.{Placed}
use Rattle.wjs_lexer.proofs.Law.{one_list}
use Rattle.wjs_parse.specs.Readings.{ProgramReading}
use Rattle.wjs_programs.specs.Numbered.{tree_of}
use Rattle.wjs_programs.specs.Laws.{OneProgram, ProgramOrNone}
use Rattle.wjs_programs.proofs.Renaming.{elements_renamed}
use Rattle.wjs_programs.proofs.RenamedStands.{reading_renamed}
use Rattle.wjs_programs.proofs.RenamedTrees.{same_tree}
use Rattle.wjs_programs.proofs.Renumbering.{Renumbers, into, into_renumbers, apart, apart_renumbers}
use Rattle.wjs_programs.proofs.OtherTokens.{same_toks}

-- a program that tokens spell is spelled, with other numbers for its texts, by the tokens of the same bytes by another table
reads_other : {t u joint : Table} {ts us : List Tok} {r : TextId → TextId} (bytes : List ℕ) → HasTokens bytes t ts → HasTokens bytes u us → Renumbers t u joint r → (program : Elements)
    → ProgramReading ts program → ProgramReading us (elements_renamed r program)
reads_other {t = t} {u = u} {ts = ts} {us = us} {r = r} bytes h k n program reading =
    let pieces : k.placed ≡ h.placed = one_list (chars bytes) (start (chars bytes)) h.placed k.placed h.reads k.reads in
    let same : AreToks u us h.placed = subst (λ (p : List Placed). AreToks u us p) pieces k.same in
    subst (λ (toks : List Tok). ProgramReading toks (elements_renamed r program)) (sym (same_toks t u r n.known ts us h.placed h.same same)) (reading_renamed r ts n.injective program reading)

pub one_program : OneProgram
one_program bytes a b p q =
    let joint = q.texts ++ p.texts in
    let one = into q.texts p.texts in
    let other = apart q.texts p.texts in
    let n = into_renumbers q.texts p.texts q.table p.table in
    let m = apart_renumbers q.texts p.texts q.table in
    let first : elements_renamed one p.program ≡ q.program = q.only _ (reads_other bytes p.tokens q.tokens n p.program p.reading) in
    let second : elements_renamed other q.program ≡ q.program = q.only _ (reads_other bytes q.tokens q.tokens m q.program q.reading) in
    q.is ∙ sym (same_tree q.texts joint other m.same q.program) ∙ ap (tree_of joint) (second ∙ sym first) ∙ same_tree p.texts joint one n.same p.program ∙ sym p.is

pub program_or_none : ProgramOrNone
program_or_none bytes a p q = q.none _ (reads_other bytes p.tokens q.tokens (into_renumbers q.texts p.texts q.table p.table) p.program p.reading)
