-- The moves that a table's last line gives.
use Rattle.std.proofs.Common.{◌≡◌, Bool, true, Option, Some, refl}
use Rattle.wjs_forms.specs.declared.class.Class.{Class}
use Rattle.wjs_forms.specs.declared.class.Class.TheVariants as classes
use Rattle.wjs_forms.specs.declared.forms.Place.TheVariants as places
use Rattle.wjs_forms.specs.declared.forms.Form.{Form}
use Rattle.wjs_forms.specs.declared.forms.Form.TheVariants as forms
use Rattle.wjs_forms.specs.declared.forms.Place.{Place}
use Rattle.wjs_forms.specs.Table.{operand, have, behind, target_closed}
use Rattle.wjs_forms.specs.Moves.{value, statement, listed, argument_or_end, item, test, update, init, name_or_label}

pub argument_other : (k : Class) (top : Option Form) → (k ≡ classes.CloseParen → ⊥) → operand k places.First top ≡ argument_or_end k top
argument_other classes.CloseParen top n0 = absurd (n0 refl)
argument_other _ top n0 = refl

pub item_other : (k : Class) (top : Option Form) → (k ≡ classes.CloseBracket → ⊥) → (k ≡ classes.Comma → ⊥) → operand k places.First top ≡ item k top
item_other classes.CloseBracket top n0 n1 = absurd (n0 refl)
item_other classes.Comma top n0 n1 = absurd (n1 refl)
item_other _ top n0 n1 = refl

pub test_other : (k : Class) (top : Option Form) → (k ≡ classes.Semicolon → ⊥) → operand k places.Whole top ≡ test k top
test_other classes.Semicolon top n0 = absurd (n0 refl)
test_other _ top n0 = refl

pub update_other : (k : Class) (top : Option Form) → (k ≡ classes.CloseParen → ⊥) → operand k places.Whole top ≡ update k top
update_other classes.CloseParen top n0 = absurd (n0 refl)
update_other _ top n0 = refl

pub label_other : (k : Class) (joined : Bool) (top : Option Form) → (k ≡ classes.Colon → ⊥) → have k joined places.Whole true top ≡ name_or_label k joined top
label_other classes.Colon joined top n0 = absurd (n0 refl)
label_other _ joined top n0 = refl

pub init_other : (k : Class) → (k ≡ classes.Semicolon → ⊥) → (k ≡ classes.Var → ⊥) → value forms.ForInit k ≡ init k
init_other classes.Semicolon n0 n1 = absurd (n0 refl)
init_other classes.Var n0 n1 = absurd (n1 refl)
init_other _ n0 n1 = refl

pub statement_other : (k : Class) → (k ≡ classes.OpenBrace → ⊥) → (k ≡ classes.Semicolon → ⊥) → (k ≡ classes.Word → ⊥) → (k ≡ classes.Var → ⊥) → (k ≡ classes.If → ⊥) → (k ≡ classes.Do → ⊥) → (k ≡ classes.While → ⊥) → (k ≡ classes.For → ⊥) → (k ≡ classes.Continue → ⊥) → (k ≡ classes.Break → ⊥) → (k ≡ classes.Return → ⊥) → (k ≡ classes.Throw → ⊥) → (k ≡ classes.Switch → ⊥) → (k ≡ classes.Try → ⊥) → (k ≡ classes.In → ⊥) → (k ≡ classes.Function → ⊥) → value forms.Value k ≡ statement k
statement_other classes.OpenBrace n0 n1 n2 n3 n4 n5 n6 n7 n8 n9 n10 n11 n12 n13 n14 n15 = absurd (n0 refl)
statement_other classes.Semicolon n0 n1 n2 n3 n4 n5 n6 n7 n8 n9 n10 n11 n12 n13 n14 n15 = absurd (n1 refl)
statement_other classes.Word n0 n1 n2 n3 n4 n5 n6 n7 n8 n9 n10 n11 n12 n13 n14 n15 = absurd (n2 refl)
statement_other classes.Var n0 n1 n2 n3 n4 n5 n6 n7 n8 n9 n10 n11 n12 n13 n14 n15 = absurd (n3 refl)
statement_other classes.If n0 n1 n2 n3 n4 n5 n6 n7 n8 n9 n10 n11 n12 n13 n14 n15 = absurd (n4 refl)
statement_other classes.Do n0 n1 n2 n3 n4 n5 n6 n7 n8 n9 n10 n11 n12 n13 n14 n15 = absurd (n5 refl)
statement_other classes.While n0 n1 n2 n3 n4 n5 n6 n7 n8 n9 n10 n11 n12 n13 n14 n15 = absurd (n6 refl)
statement_other classes.For n0 n1 n2 n3 n4 n5 n6 n7 n8 n9 n10 n11 n12 n13 n14 n15 = absurd (n7 refl)
statement_other classes.Continue n0 n1 n2 n3 n4 n5 n6 n7 n8 n9 n10 n11 n12 n13 n14 n15 = absurd (n8 refl)
statement_other classes.Break n0 n1 n2 n3 n4 n5 n6 n7 n8 n9 n10 n11 n12 n13 n14 n15 = absurd (n9 refl)
statement_other classes.Return n0 n1 n2 n3 n4 n5 n6 n7 n8 n9 n10 n11 n12 n13 n14 n15 = absurd (n10 refl)
statement_other classes.Throw n0 n1 n2 n3 n4 n5 n6 n7 n8 n9 n10 n11 n12 n13 n14 n15 = absurd (n11 refl)
statement_other classes.Switch n0 n1 n2 n3 n4 n5 n6 n7 n8 n9 n10 n11 n12 n13 n14 n15 = absurd (n12 refl)
statement_other classes.Try n0 n1 n2 n3 n4 n5 n6 n7 n8 n9 n10 n11 n12 n13 n14 n15 = absurd (n13 refl)
statement_other classes.In n0 n1 n2 n3 n4 n5 n6 n7 n8 n9 n10 n11 n12 n13 n14 n15 = absurd (n14 refl)
statement_other classes.Function n0 n1 n2 n3 n4 n5 n6 n7 n8 n9 n10 n11 n12 n13 n14 n15 = absurd (n15 refl)
statement_other _ n0 n1 n2 n3 n4 n5 n6 n7 n8 n9 n10 n11 n12 n13 n14 n15 = refl

pub listed_other : (k : Class) (top : Option Form) → (k ≡ classes.End → ⊥) → (k ≡ classes.CloseBrace → ⊥) → (k ≡ classes.Case → ⊥) → (k ≡ classes.Default → ⊥) → (k ≡ classes.Function → ⊥) → statement k ≡ listed k top
listed_other classes.End top n0 n1 n2 n3 n4 = absurd (n0 refl)
listed_other classes.CloseBrace top n0 n1 n2 n3 n4 = absurd (n1 refl)
listed_other classes.Case top n0 n1 n2 n3 n4 = absurd (n2 refl)
listed_other classes.Default top n0 n1 n2 n3 n4 = absurd (n3 refl)
listed_other classes.Function top n0 n1 n2 n3 n4 = absurd (n4 refl)
listed_other _ top n0 n1 n2 n3 n4 = refl

pub closed_other : (f : Form) → ((p : Place) → f ≡ forms.Paren p → ⊥) → behind (Some f) classes.CloseParen ≡ target_closed places.Whole (Some f)
closed_other (forms.Paren p) n = absurd (n p refl)
closed_other forms.New n = refl
closed_other _ n = refl
