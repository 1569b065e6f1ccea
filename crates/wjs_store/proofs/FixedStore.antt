-- What a store with one meaning under every view owes.
use Rattle.std.proofs.Common.{◌≡◌, Bool, true, false, refl, sym, subst, not, IsTrue}
use Rattle.std.proofs.lemmas.Bool.{true≢false}
use Rattle.wjs_store.specs.State.{after, answer_to, has_world}
use Rattle.wjs_store.specs.Reached.{IsReached}
use Rattle.wjs_store.specs.Meaning.{Worlds, PlainAct, PlainReply, Does}
use Rattle.wjs_store.specs.Fixed.{fixed}
use Rattle.wjs_store.proofs.Keeps.{has_world_after, reached_after}

pub does_fixed : (F G : Worlds) (a : PlainAct) (r : PlainReply) → r ≡ answer_to F a → G ≡ after F a → Does (fixed F false) a r (fixed G false)
does_fixed F G a r e f = record {
  narrows = λ v h. h;
  answers = λ v h. e;
  worlds = λ v h. f;
  still_there = λ i h. subst (λ H. IsTrue (has_world H i)) (sym f) (has_world_after F a i h);
  own = refl;
  told = refl;
  around = refl;
  spent = refl;
}

pub answers_full : (F G : Worlds) (spent : Bool) (a : PlainAct) (r : PlainReply) → spent ≡ false → r ≡ answer_to F a → G ≡ after F a → Does (fixed F spent) a r (fixed G spent) × IsTrue (not spent)
answers_full F G true a r s e f = absurd (true≢false s)
answers_full F G false a r s e f = (does_fixed F G a r e f, refl)

pub reached_full : (F G : Worlds) (spent : Bool) (a : PlainAct) → G ≡ after F a → (spent ≡ false → IsReached F) → spent ≡ false → IsReached G
reached_full F G spent a f kept s = subst IsReached (sym f) (reached_after F a (kept s))
