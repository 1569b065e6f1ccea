use Rattle.std.proofs.Common.{refl}
use Rattle.std.specs.Result.{is_ok}
use Rattle.wjs_texts.proofs.Standing.{grown_by, after, after_stands, after_within, after_units}
use Rattle.wjs_texts.proofs.buffers.Buffers.append.Goals as goal

pub returns-clause-within : goal.returns-clause-within
returns-clause-within c =
    after_within c.args.self.now _ c.args.back.now c.args.front _
    (after c.self.inside.buffers.items c.args.self.now c.args.front.buffer c.index_mut-buffer.result.now c.extend_from_slice.new.self c.args.back.now c.self.view_is c.requires.last.buffer c.index_mut-buffer.ensures.value c.in_ok-extend_from_slice.ensures.items)
    c.requires.last refl refl refl

pub returns-clause-units : goal.returns-clause-units
returns-clause-units c =
    after_units c.args.self.now _ c.args.back.now c.args.front _
    (after c.self.inside.buffers.items c.args.self.now c.args.front.buffer c.index_mut-buffer.result.now c.extend_from_slice.new.self c.args.back.now c.self.view_is c.requires.last.buffer c.index_mut-buffer.ensures.value c.in_ok-extend_from_slice.ensures.items)
    c.requires.last refl refl refl

pub returns-clause-stands : goal.returns-clause-stands
returns-clause-stands c =
    let place = c.args.front.buffer in
    let old = c.index_mut-buffer.result.now in
    let new = c.extend_from_slice.new.self in
    let g = grown_by (is_ok c.extend_from_slice.result) new.items old.items c.args.back.now c.extend_from_slice.ensures.items in
    after_stands c.args.self.now _ place g.0
    (after c.self.inside.buffers.items c.args.self.now place old new g.0 c.self.view_is c.requires.last.buffer c.index_mut-buffer.ensures.value g.1) c.requires.last.buffer

pub returns-in_err-extend_from_slice-clause-stands : goal.returns-in_err-extend_from_slice-clause-stands
returns-in_err-extend_from_slice-clause-stands c =
    let place = c.args.front.buffer in
    let old = c.index_mut-buffer.result.now in
    let new = c.extend_from_slice.new.self in
    let g = grown_by (is_ok c.extend_from_slice.result) new.items old.items c.args.back.now c.extend_from_slice.ensures.items in
    after_stands c.args.self.now _ place g.0
    (after c.self.inside.buffers.items c.args.self.now place old new g.0 c.self.view_is c.requires.last.buffer c.index_mut-buffer.ensures.value g.1) c.requires.last.buffer
