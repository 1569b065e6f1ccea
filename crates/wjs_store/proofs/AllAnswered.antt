-- Actions that are answered one after another.
use Rattle.std.proofs.Common.{◌≡◌, ℕ, ◌+◌, ◌<◌, ◌≤◌, false, List, [], ◌∷◌, drop, length, get_or, Option, Some, refl, sym, ap, ◌∙◌, subst, IsTrue}
use Rattle.std.proofs.lemmas.List.{drop_more, drop_all}
use Rattle.wjs_base.specs.declared.ids.ObjId.{ObjId}
use Rattle.wjs_base.specs.declared.ids.WorldId.{WorldId}
use Rattle.wjs_base.specs.declared.values.Name.{Name}
use Rattle.wjs_base.specs.declared.values.Slot.{Slot}
use Rattle.wjs_base.specs.declared.values.Value.{Value}
use Rattle.wjs_store.specs.State.{write, wrote, after_write, write_all}
use Rattle.wjs_store.specs.Fixed.{fixed}
use Rattle.wjs_store.specs.Meaning.{Meaning, View, Worlds, PlainAct, PlainReply, Does, DoesAll, entries_of, writes_of}
use Rattle.wjs_store.proofs.FixedStore.{does_fixed}

-- what is written from a row on, and is all that was to be written
pub record Left (w : WorldId) (o : ObjId) (rows : List (Name × Value)) (i : ℕ) (old now : Meaning) : Type 0 where
  pub all : (new : Meaning) → DoesAll now (writes_of w (entries_of o (drop i rows))) new → DoesAll old (writes_of w (entries_of o rows)) new

pub left_all : (w : WorldId) (o : ObjId) (rows : List (Name × Value)) (m : Meaning) → Left w o rows 0 m m
left_all w o rows m = record { all = λ new d. d }

-- one row more is written
pub left_less : (w : WorldId) (o : ObjId) (rows : List (Name × Value)) (i : ℕ) (row : Name × Value) (old now next : Meaning) → i < length rows → row ≡ get_or rows i row → Left w o rows i old now
    → Does now (write w (record { object = o; name = row.0 }) (Some row.1)) wrote next → Left w o rows (i + 1) old next
left_less w o rows i row old now next lt is left does = record {
  all = λ new rest.
      let here : drop i rows ≡ row ∷ drop (i + 1) rows = drop_more rows i row lt ∙ ap (λ r. r ∷ drop (i + 1) rows) (sym is) in
      left.all new (subst (λ (l : List (Name × Value)). DoesAll now (writes_of w (entries_of o l)) new) (sym here) (next, does, rest));
}

pub left_none : (w : WorldId) (o : ObjId) (rows : List (Name × Value)) (i : ℕ) (old now : Meaning) → length rows ≤ i → Left w o rows i old now → DoesAll old (writes_of w (entries_of o rows)) now
left_none w o rows i old now past left = left.all now (subst (λ (l : List (Name × Value)). DoesAll now (writes_of w (entries_of o l)) now) (sym (drop_all i rows past)) refl)

-- writes to a store that means the same under each view
pub writes_fixed : (w : WorldId) (es : List (Slot × Option Value)) (F : Worlds) → DoesAll (fixed F false) (writes_of w es) (fixed (write_all w es F) false)
writes_fixed w [] F = refl
writes_fixed w (e ∷ es) F = (fixed (after_write F w e.0 e.1) false, does_fixed F (after_write F w e.0 e.1) (write w e.0 e.1) wrote refl refl, writes_fixed w es (after_write F w e.0 e.1))

-- ---- what all of them keep

pub all_narrows : (es : List (PlainAct × PlainReply)) (old new : Meaning) → DoesAll old es new → (v : View) → IsTrue (new.admits v) → IsTrue (old.admits v)
all_narrows [] old new d v ok = subst (λ (m : Meaning). IsTrue (m.admits v)) d ok
all_narrows (e ∷ es) old new d v ok = d.1.narrows v (all_narrows es d.0 new d.2 v ok)

pub all_own : (es : List (PlainAct × PlainReply)) (old new : Meaning) → DoesAll old es new → new.own ≡ old.own
all_own [] old new d = ap (λ (m : Meaning). m.own) d
all_own (e ∷ es) old new d = all_own es d.0 new d.2 ∙ d.1.own

pub all_spent : (es : List (PlainAct × PlainReply)) (old new : Meaning) → DoesAll old es new → new.spent ≡ old.spent
all_spent [] old new d = ap (λ (m : Meaning). m.spent) d
all_spent (e ∷ es) old new d = all_spent es d.0 new d.2 ∙ d.1.spent

-- its own view is admitted before, where it is afterwards
pub all_admits : (es : List (PlainAct × PlainReply)) (old new : Meaning) → DoesAll old es new → IsTrue (new.admits new.own) → IsTrue (old.admits old.own)
all_admits es old new d ok = subst (λ (v : View). IsTrue (old.admits v)) (all_own es old new d) (all_narrows es old new d new.own ok)
