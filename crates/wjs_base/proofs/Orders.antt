-- Keys by a total order.
use Rattle.std.proofs.Common.{◌≡◌, true, false, refl, ap, ◌∙◌}
use Rattle.std.specs.declared.cmp.Ordering.{Ordering}
use Rattle.std.specs.declared.cmp.Ordering.TheVariants.{Less, Equal, Greater}
use Rattle.std.specs.Ordering.{is_lt, ordering_reverse}
use Rattle.std.specs.Cmp.{IsTotalOrder, tied_itself}
use Rattle.std.proofs.lemmas.Bool.{false≢true}

pub less_is : (o : Ordering) → is_lt o ≡ true → o ≡ Less
less_is Less h = refl
less_is Equal h = absurd (false≢true h)
less_is Greater h = absurd (false≢true h)

module _ {K : Type 0} {R : K → K → Ordering} (total : IsTotalOrder R) where
  -- a key that is less is not greater
  pub not_back : (x y : K) → is_lt (R x y) ≡ true → is_lt (R y x) ≡ false
  not_back x y h = ap is_lt (total.antisymm y x ∙ ap ordering_reverse (less_is (R x y) h))

  pub not_self : (x : K) → is_lt (R x x) ≡ false
  not_self x = ap is_lt (tied_itself total x)

  pub lt_trans : (x y z : K) → is_lt (R x y) ≡ true → is_lt (R y z) ≡ true → is_lt (R x z) ≡ true
  lt_trans x y z h k = ap is_lt (total.trans x y z (less_is (R x y) h) (less_is (R y z) k))
