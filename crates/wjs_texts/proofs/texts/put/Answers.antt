use Rattle.std.proofs.Common.{◌≡◌, ◌++◌, Ok, Err, Result, OnErr, [], sym, ap, subst, ◌∙◌, append-nil}
use Rattle.wjs_texts.specs.Keys.{Entries, AreFound, texts_in}
use Rattle.wjs_texts.specs.Spans.{units_in}
use Rattle.wjs_base.specs.Text.{Table, Grows, Interns}
use Rattle.wjs_texts.proofs.Finding.{same_texts, still_found, found_more, grown, interned}
use Rattle.wjs_texts.proofs.texts.put.Goals as goal

on_err : {A B : Type 0} (r : Result A B) (P : Type 0) → P → OnErr r P
on_err (Ok x) P p = tt
on_err (Err e) P p = p

same_grows : (old new : Table) → new ≡ old → Grows old new
same_grows old new e = ([], e ∙ sym (append-nil old))

pub returns-in_err-span-clause-err : goal.returns-in_err-span-clause-err
returns-in_err-span-clause-err c = on_err _ _ (same_texts c.args.buffers.now c.extend.new.self c.extend.ensures.stands c.args.spans.now.entries c.requires.found)

pub returns-in_err-span-clause-found : goal.returns-in_err-span-clause-found
returns-in_err-span-clause-found c = still_found c.args.buffers.now c.extend.new.self c.extend.ensures.stands c.args.spans.now.entries c.requires.found

pub returns-in_err-id-clause-err : goal.returns-in_err-id-clause-err
returns-in_err-id-clause-err c =
    on_err _ _ (ap (texts_in c.extend.new.self) c.in_err-id.ensures.err ∙ same_texts c.args.buffers.now c.extend.new.self c.extend.ensures.stands c.args.spans.now.entries c.requires.found)

pub returns-in_err-id-clause-found : goal.returns-in_err-id-clause-found
returns-in_err-id-clause-found c =
    subst (AreFound c.extend.new.self) (sym c.in_err-id.ensures.err) (still_found c.args.buffers.now c.extend.new.self c.extend.ensures.stands c.args.spans.now.entries c.requires.found)

pub returns-clause-ok : goal.returns-clause-ok
returns-clause-ok c =
    let buffers = c.args.buffers.now in
    let entries = c.args.spans.now.entries in
    let units = units_in buffers c.args.front ++ c.args.back.now in
    subst (λ (es : Entries). Interns (texts_in buffers entries) (texts_in c.extend.new.self es) units c.in_ok-id.id) (sym c.in_ok-id.ensures.ok)
    (interned buffers c.extend.new.self c.extend.ensures.stands entries c.requires.found units c.in-Free.key c.in_ok-span.span c.in-Free.ensures c.in_ok-span.ensures.within c.in_ok-span.ensures.units c.in_ok-id.id c.in_ok-id.ensures.number)

pub returns-clause-found : goal.returns-clause-found
returns-clause-found c =
    let buffers = c.args.buffers.now in
    let entries = c.args.spans.now.entries in
    let units = units_in buffers c.args.front ++ c.args.back.now in
    subst (AreFound c.extend.new.self) (sym c.in_ok-id.ensures.ok)
    (found_more buffers c.extend.new.self c.extend.ensures.stands entries c.requires.found units c.in-Free.key c.in_ok-span.span c.in-Free.ensures c.in_ok-span.ensures.within c.in_ok-span.ensures.units c.requires.text)

pub returns-in_err-span-clause-grows : goal.returns-in_err-span-clause-grows
returns-in_err-span-clause-grows c = same_grows _ _ (same_texts c.args.buffers.now c.extend.new.self c.extend.ensures.stands c.args.spans.now.entries c.requires.found)

pub returns-in_err-id-clause-grows : goal.returns-in_err-id-clause-grows
returns-in_err-id-clause-grows c =
    same_grows _ _ (ap (texts_in c.extend.new.self) c.in_err-id.ensures.err ∙ same_texts c.args.buffers.now c.extend.new.self c.extend.ensures.stands c.args.spans.now.entries c.requires.found)

pub returns-clause-grows : goal.returns-clause-grows
returns-clause-grows c =
    let buffers = c.args.buffers.now in
    let entries = c.args.spans.now.entries in
    let units = units_in buffers c.args.front ++ c.args.back.now in
    subst (λ (es : Entries). Grows (texts_in buffers entries) (texts_in c.extend.new.self es)) (sym c.in_ok-id.ensures.ok)
    (grown buffers c.extend.new.self c.extend.ensures.stands entries c.requires.found units c.in-Free.key c.in_ok-span.span c.in-Free.ensures c.in_ok-span.ensures.within c.in_ok-span.ensures.units)
