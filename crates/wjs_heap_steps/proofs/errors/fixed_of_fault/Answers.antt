use Rattle.std.proofs.Common.{List, [], ◌∷◌, sym, ap, ◌∙◌, subst}
use Rattle.wjs_base.specs.declared.values.Name.{Name}
use Rattle.wjs_base.specs.declared.values.Value.{Value}
use Rattle.wjs_base.proofs.TextLaws.{Grows-trans}
use Rattle.wjs_by_content.specs.Renamed.{Holds}
use Rattle.wjs_by_content.specs.Names.{message_name}
use Rattle.wjs_by_content.specs.Tables.{name_in, value_in, under_in}
use Rattle.wjs_by_content.specs.Values.{Text, Value as Said, String}
use Rattle.wjs_meaning.specs.declared.trouble.Trouble.{Trouble}
use Rattle.wjs_meaning.specs.Errors.{fixed_name}
use Rattle.wjs_model.specs.Soundness.{HasName, HasValue}
use Rattle.wjs_texts.specs.declared.known.Known.TheVariants as known
use Rattle.wjs_texts.specs.Known.{text_of}
use Rattle.wjs_heap_steps.proofs.Composing.{if_ok, quiet_as, quiet_then}
use Rattle.wjs_heap_steps.proofs.Making.{other_fixed}
use Rattle.wjs_heap_steps.proofs.Later.{later_twice}
use Rattle.wjs_heap_steps.proofs.errors.fixed_of_fault.Goals as goal

pub returns-in_ok-second-in-CommitFailed-clause-does : goal.returns-in_ok-second-in-CommitFailed-clause-does
returns-in_ok-second-in-CommitFailed-clause-does g c =
    let m = g.S.WorldStore.meaning in
    let old = c.args.config.now in
    let mid = c.text_under.new.config in
    let new = c.text_under-in-CommitFailed.new.config in
    let one = c.in_ok-first in
    let two = c.in_ok-second-in-CommitFailed in
    if_ok _ _ c.two_fixed.result
    (λ under e. quiet_as m (λ t. text_of known.Name) (λ t. name_in t two.second.0) (λ t. (message_name, String c.args.message.now) ∷ fixed_name c.args.trouble) (λ t. under_in t (value_in t) under) old new
    (quiet_then m (λ t. text_of known.Message) (λ t. name_in t one.first.0) (λ t. text_of known.Name) (λ t. name_in t two.second.0) old mid new one.ensures.does two.ensures.does)
    (λ t more.
    let g1 = Grows-trans mid.heap.texts new.heap.texts t two.ensures.later.texts more in
    ap (λ (k : Trouble). (message_name, String c.args.message.now) ∷ fixed_name k) c.in-CommitFailed.is
    ∙ (λ i. (sym (one.ensures.name t g1) i, sym (one.ensures.value t g1) i) ∷ (sym (two.ensures.name t more) i, sym (two.ensures.value t more) i) ∷ [])
    ∙ ap (under_in t (value_in t)) (sym e)))
    c.two_fixed.ensures

pub returns-in_default : goal.returns-in_default
returns-in_default g c =
    let m = g.S.WorldStore.meaning in
    let old = c.args.config.now in
    let mid = c.text_under.new.config in
    let one = c.in_ok-first in
    let none = other_fixed c.args.trouble c.in_default.not-CommitFailed in
    record {
      does = if_ok _ _ c.one_fixed.result
          (λ under e. quiet_as m (λ t. text_of known.Message) (λ t. name_in t one.first.0) (λ t. (message_name, String c.args.message.now) ∷ fixed_name c.args.trouble) (λ t. under_in t (value_in t) under) old mid one.ensures.does
          (λ t more.
          ap (λ (rest : List (Text × Said)). (message_name, String c.args.message.now) ∷ rest) none
          ∙ (λ i. (sym (one.ensures.name t more) i, sym (one.ensures.value t more) i) ∷ [])
          ∙ ap (under_in t (value_in t)) (sym e)))
          c.one_fixed.ensures;
      later = if_ok _ _ c.one_fixed.result (λ under e. one.ensures.later) c.one_fixed.ensures;
      found = if_ok _ _ c.one_fixed.result (λ under e. subst (Holds (λ (x : Name × Value). HasName mid x.0 × HasValue mid x.1)) (sym e) ((one.ensures.name_found, one.ensures.value_found), tt)) c.one_fixed.ensures;
      is = if_ok _ _ c.one_fixed.result
          (λ under e t more.
          ap (under_in t (value_in t)) e
          ∙ (λ i. (one.ensures.name t more i, one.ensures.value t more i) ∷ [])
          ∙ ap (λ (rest : List (Text × Said)). (message_name, String c.args.message.now) ∷ rest) (sym none))
          c.one_fixed.ensures;
    }

pub returns-in_ok-second-in-CommitFailed-clause-later : goal.returns-in_ok-second-in-CommitFailed-clause-later
returns-in_ok-second-in-CommitFailed-clause-later g c =
    if_ok _ _ c.two_fixed.result (λ under e. later_twice g.S.WorldStore.meaning c.args.config.now c.text_under.new.config c.text_under-in-CommitFailed.new.config c.in_ok-first.ensures.later c.in_ok-second-in-CommitFailed.ensures.later) c.two_fixed.ensures
