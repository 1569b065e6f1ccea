use Rattle.wjs_quick.proofs.operators.by_operator.Goals as goal

pub returns-in-StrictEqual-clause-ends : goal.returns-in-StrictEqual-clause-ends
returns-in-StrictEqual-clause-ends g c = rw c.in-StrictEqual.is c.same.ensures.ends

pub returns-in-StrictNotEqual-clause-ends : goal.returns-in-StrictNotEqual-clause-ends
returns-in-StrictNotEqual-clause-ends g c = rw c.in-StrictNotEqual.is c.not_same.ensures.ends

pub returns-in_ok-number-in_default-clause-ends : goal.returns-in_ok-number-in_default-clause-ends
returns-in_ok-number-in_default-clause-ends g c = λ t more env. c.in_ok-number-in_default.ensures t env
