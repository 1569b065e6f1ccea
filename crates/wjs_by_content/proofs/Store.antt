-- A store's actions, in the names of contents.
use Rattle.std.proofs.Common.{ap, sym, ◌∙◌, subst, Option, is_some, IsTrue}
use Rattle.std.specs.FinMap as map
use Rattle.wjs_base.specs.declared.values.Value.{Value}
use Rattle.wjs_base.specs.Order.{slot_cmp}
use Rattle.wjs_store.proofs.Marks.{none_some}
use Rattle.wjs_store.specs.Naming.{Naming, plain}
use Rattle.wjs_store.specs.Fixed.{fresh}
use Rattle.wjs_store.specs.State.{answer_to}
use Rattle.wjs_store.specs.Meaning.{Meaning, View, PlainAct, PlainReply, Does}
use Rattle.wjs_by_content.proofs.RenamedKnown.{named_after, known_after, named_answer}
use Rattle.wjs_by_content.specs.Renamed.{Known, KnownAct, NamedReply, Names, named_act, named_state}
use Rattle.wjs_by_content.specs.Does.{DoesNamed}

module _ {J W : Type 0} {m : Naming J W} (r : Names plain m) where
  pub known_fresh : Known r fresh
  known_fresh = (
    record {
      copy = λ s v q. absurd (none_some (map.get (map.empty {X = Value} {R = slot_cmp}) s) (ap is_some q) (map.get-empty slot_cmp s));
      first = λ s c q. absurd (none_some (map.get (map.empty {X = Option Value} {R = slot_cmp}) s) (ap is_some q) (map.get-empty slot_cmp s));
      written = λ s u q. absurd (none_some (map.get (map.empty {X = Unit {0}} {R = slot_cmp}) s) (ap is_some q) (map.get-empty slot_cmp s));
    },
    tt,
  )

  pub does_named : (old : Meaning) (action : PlainAct) (answer : PlainReply) (new : Meaning) → Does old action answer new → (v : View) → IsTrue (new.admits v) → Known r (old.full v) → KnownAct r action → DoesNamed r old action answer new v
  does_named old action answer new d v h f k = record {
    answers = subst (λ a. NamedReply r a (answer_to (named_state r (old.full v)) (named_act r action))) (sym (d.answers v h)) (named_answer r (old.full v) action f k);
    worlds = ap (named_state r) (d.worlds v h) ∙ named_after r (old.full v) action f k;
    known = subst (Known r) (sym (d.worlds v h)) (known_after r (old.full v) action f k);
  }
