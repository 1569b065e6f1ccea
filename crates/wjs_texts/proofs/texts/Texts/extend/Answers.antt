use Rattle.std.proofs.lemmas.Result.{err_from_is_err_and}
use Rattle.std.proofs.Common.{◌++◌, length, refl, sym, ap, subst, ◌∙◌, arith}
use Rattle.wjs_texts.specs.Hash.{hash_behind, hash_of}
use Rattle.wjs_texts.specs.Keys.{texts_in}
use Rattle.wjs_texts.specs.Spans.{units_in}
use Rattle.wjs_base.specs.Text.{Units, Table, Denotes, Interns}
use Rattle.wjs_texts.proofs.Finding.{text_at, kept_grown}
use Rattle.wjs_texts.proofs.Hashes.{hash_append}
use Rattle.wjs_texts.proofs.Standing.{longer_text}
use Rattle.wjs_base.proofs.TextLaws.{Denotes-unique, Denotes-IsText}
use Rattle.wjs_texts.proofs.texts.Texts.extend.Goals as goal

pub units-requires : goal.units-requires
units-requires c = (c.self.invariant.0.entry c.args.front.0 c.entry_at.result c.entry_at.ensures).within

pub returns-then-units-back-gt-LONGEST_TEXT-clause-too_long : goal.returns-then-units-back-gt-LONGEST_TEXT-clause-too_long
returns-then-units-back-gt-LONGEST_TEXT-clause-too_long c = λ units at.
    let buffers = c.self.inside.buffers in
    let entries = c.self.inside.spans.entries in
    let same = Denotes-unique (texts_in buffers entries) c.args.front units (units_in buffers c.entry_at.result.1) (subst (λ (ts : Table). Denotes ts c.args.front units) (sym c.self.view_is) at) (text_at buffers entries c.args.front.0 c.entry_at.result c.entry_at.ensures) in
    let one = ap (λ (us : Units). length us) same in
    let two = ap (λ (us : Units). length us) c.units.ensures in
    (λ _. omega (arith, one, two), λ _. refl)

pub units-requires-2 : goal.units-requires-2
units-requires-2 c = (c.self.invariant.0.entry c.args.front.0 c.entry_at.result c.entry_at.ensures).within

pub first_hash-requires : goal.first_hash-requires
first_hash-requires c = (c.self.invariant.0.entry c.args.front.0 c.entry_at.result c.entry_at.ensures).hash ∙ ap (hash_of c.entry_at.result.0.turn) (sym c.units-2.ensures)

pub put-requires-clause-front : goal.put-requires-clause-front
put-requires-clause-front c = (c.self.invariant.0.entry c.args.front.0 c.entry_at.result c.entry_at.ensures).within

pub put-requires-clause-hash : goal.put-requires-clause-hash
put-requires-clause-hash c =
    let front = units_in c.self.inside.buffers c.entry_at.result.1 in
    c.hash_behind-hash.ensures
    ∙ ap (λ h. hash_behind 16777619 h c.args.back.now) (c.first_hash.ensures ∙ ap (hash_of 0) c.units-2.ensures)
    ∙ sym (hash_append 16777619 2166136261 front c.args.back.now)

pub put-requires-clause-text : goal.put-requires-clause-text
put-requires-clause-text c =
    let buffers = c.self.inside.buffers in
    let entries = c.self.inside.spans.entries in
    let front = units_in buffers c.entry_at.result.1 in
    let two = ap (λ (us : Units). length us) c.units.ensures in
    longer_text front c.args.back.now (Denotes-IsText (texts_in buffers entries) c.args.front front c.self.invariant.0.table (text_at buffers entries c.args.front.0 c.entry_at.result c.entry_at.ensures)) c.type_inv.back (omega (arith, two))

pub returns-clause-ok : goal.returns-clause-ok
returns-clause-ok c = λ units at.
    let buffers = c.self.inside.buffers in
    let entries = c.self.inside.spans.entries in
    let same = Denotes-unique (texts_in buffers entries) c.args.front units (units_in buffers c.entry_at.result.1) (subst (λ (ts : Table). Denotes ts c.args.front units) (sym c.self.view_is) at) (text_at buffers entries c.args.front.0 c.entry_at.result c.entry_at.ensures) in
    let new = texts_in c.put.new.buffers c.put.new.spans.entries in
    subst (λ (us : Units). Interns c.args.self.now new (us ++ c.args.back.now) c.in_ok-put.field-0) (sym same)
    (subst (λ (ts : Table). Interns ts new (units_in buffers c.entry_at.result.1 ++ c.args.back.now) c.in_ok-put.field-0) c.self.view_is c.in_ok-put.ensures.ok)

pub returns-clause-too_long : goal.returns-clause-too_long
returns-clause-too_long c = λ units at.
    let buffers = c.self.inside.buffers in
    let entries = c.self.inside.spans.entries in
    let same = Denotes-unique (texts_in buffers entries) c.args.front units (units_in buffers c.entry_at.result.1) (subst (λ (ts : Table). Denotes ts c.args.front units) (sym c.self.view_is) at) (text_at buffers entries c.args.front.0 c.entry_at.result c.entry_at.ensures) in
    let one = ap (λ (us : Units). length us) same in
    let two = ap (λ (us : Units). length us) c.units.ensures in
    (λ e. cc, λ e. absurd (omega (arith, one, two, e)))

pub returns-in_err-put-clause-too_long : goal.returns-in_err-put-clause-too_long
returns-in_err-put-clause-too_long c = λ units at.
    let buffers = c.self.inside.buffers in
    let entries = c.self.inside.spans.entries in
    let same = Denotes-unique (texts_in buffers entries) c.args.front units (units_in buffers c.entry_at.result.1) (subst (λ (ts : Table). Denotes ts c.args.front units) (sym c.self.view_is) at) (text_at buffers entries c.args.front.0 c.entry_at.result c.entry_at.ensures) in
    let one = ap (λ (us : Units). length us) same in
    let two = ap (λ (us : Units). length us) c.units.ensures in
    let p = err_from_is_err_and c.from_residual.result c.from_residual.ensures.1 in
    rw (p.1, p.2) (λ e. cc, λ e. absurd (omega (arith, one, two, e)))

pub invariant_of-self-2 : goal.invariant_of-self-2
invariant_of-self-2 c = (c.put.ensures.found, kept_grown _ _ _ c.put.ensures.grows c.self.invariant.1)
