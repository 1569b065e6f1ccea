use Rattle.std.proofs.Common.{◌≡◌, ◌∙◌, take, length, refl, ap, subst, sym, All, List, Vec, Global, ℕ, rules}
use Rattle.std.proofs.lemmas.List.{take_all}
use Rattle.std.proofs.lemmas.List.Elements.{All-nil}
use Rattle.std.proofs.lemmas.Option.{slice_get_read, slice_get_within, get_or_from_slice_get}
use Rattle.std.specs.String.{string_bytes}
use Rattle.wjs_base.specs.Text.{Has}
use Rattle.wjs_audit.specs.declared.deed.Entry.{Entry}
use Rattle.wjs_audit.specs.Spelling.{log_text}
use Rattle.wjs_audit.specs.Logs.{FitsDeed, KnowsDeed, KnowsLog}
use Rattle.wjs_audit.specs.Tables.{needed_lines}
use Rattle.wjs_audit.proofs.Pushes.{written_none, written_more, All-next}
use Rattle.wjs_audit.proofs.Tabled.{spells}
use Rattle.wjs_audit.proofs.spelling.spell_log.Goals as goal

pub loop-entry-init : goal.loop-entry-init
loop-entry-init c = record {
  written = written_none c.args.texts.now (string_bytes c.new-out.result) c.in_ok-marks.marks.items (search rules) c.in_ok-marks.ensures.marks;
  fits = All-nil (λ (x : Entry). FitsDeed x.deed);
}

pub push_entry-requires-clause-has : goal.push_entry-requires-clause-has
push_entry-requires-clause-has c =
    let entries = c.entries-entries.result.now in
    let i = c.loop-entry.entry-index in
    let e = c.entry-item.result in
    let at = slice_get_read entries (length entries) i e refl c.loop-entry-test.true c.entry-item.is in
    let has = subst (λ (es : List Entry). KnowsLog c.args.texts.now es) (sym c.entries-entries.ensures.entries) c.requires in
    subst (λ (x : Entry). KnowsDeed (Has c.args.texts.now) x.deed) (get_or_from_slice_get entries i e e at) (has i e (slice_get_within entries i e at))

pub push_entry-requires-clause-long : goal.push_entry-requires-clause-long
push_entry-requires-clause-long c = c.loop-entry.invariant.written.long

pub loop-entry-preserved : goal.loop-entry-preserved
loop-entry-preserved c =
    let entries = c.entries-entries.result.now in
    let i = c.loop-entry.entry-index in
    let e = c.entry-item.result in
    let at = slice_get_read entries (length entries) i e refl c.loop-entry-test.true c.entry-item.is in
    record {
      written = written_more c.args.texts.now entries i e (string_bytes c.loop-entry.out) (string_bytes c.push_entry.new.out) c.loop-entry.marks.items c.push_entry.new.marks.items at c.loop-entry.invariant.written c.in_ok-push_entry.ensures.puts;
      fits = All-next (λ (x : Entry). FitsDeed x.deed) entries i e at c.loop-entry.invariant.fits c.in_ok-push_entry.ensures.fits;
    }

pub returns-clause-text : goal.returns-clause-text
returns-clause-text c =
    let entries = c.entries-entries.result.now in
    let all : take c.loop-entry.entry-index entries ≡ c.args.log.now = take_all c.loop-entry.entry-index entries c.loop-entry-test.false ∙ c.entries-entries.ensures.entries in
    ap (λ (v : Vec ℕ Global). v.items) c.into_bytes.ensures.value ∙ c.loop-entry.invariant.written.text ∙ ap (λ (es : List Entry). log_text (needed_lines c.args.texts.now es)) all

pub returns-clause-spells : goal.returns-clause-spells
returns-clause-spells c =
    let entries = c.entries-entries.result.now in
    let all : take c.loop-entry.entry-index entries ≡ c.args.log.now = take_all c.loop-entry.entry-index entries c.loop-entry-test.false ∙ c.entries-entries.ensures.entries in
    spells c.args.texts.now c.in_ok-marks.ensures.table c.in_ok-marks.ensures.few c.args.log.now c.into_bytes.result.items c.requires c.entries-entries.ensures.in_order
    (subst (All (λ (x : Entry). FitsDeed x.deed)) all c.loop-entry.invariant.fits)
    (ap (λ (v : Vec ℕ Global). v.items) c.into_bytes.ensures.value ∙ c.loop-entry.invariant.written.text ∙ ap (λ (es : List Entry). log_text (needed_lines c.args.texts.now es)) all)
