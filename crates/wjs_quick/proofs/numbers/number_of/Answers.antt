use Rattle.wjs_quick.proofs.numbers.number_of.Goals as goal

pub returns-in-Add : goal.returns-in-Add
returns-in-Add c = rw c.in-Add.is c.sum.ensures

pub returns-in-Subtract : goal.returns-in-Subtract
returns-in-Subtract c = rw c.in-Subtract.is c.calculation.ensures

pub returns-in-Multiply : goal.returns-in-Multiply
returns-in-Multiply c = rw c.in-Multiply.is c.calculation-in-Multiply.ensures

pub returns-in-Divide : goal.returns-in-Divide
returns-in-Divide c = rw c.in-Divide.is c.calculation-in-Divide.ensures

pub returns-in-Remainder : goal.returns-in-Remainder
returns-in-Remainder c = rw c.in-Remainder.is c.calculation-in-Remainder.ensures

pub returns-in-ShiftLeft : goal.returns-in-ShiftLeft
returns-in-ShiftLeft c = rw c.in-ShiftLeft.is c.calculation-in-ShiftLeft.ensures

pub returns-in-ShiftRight : goal.returns-in-ShiftRight
returns-in-ShiftRight c = rw c.in-ShiftRight.is c.calculation-in-ShiftRight.ensures

pub returns-in-ShiftRightUnsigned : goal.returns-in-ShiftRightUnsigned
returns-in-ShiftRightUnsigned c = rw c.in-ShiftRightUnsigned.is c.calculation-in-ShiftRightUnsigned.ensures

pub returns-in-BitAnd : goal.returns-in-BitAnd
returns-in-BitAnd c = rw c.in-BitAnd.is c.calculation-in-BitAnd.ensures

pub returns-in-BitXor : goal.returns-in-BitXor
returns-in-BitXor c = rw c.in-BitXor.is c.calculation-in-BitXor.ensures

pub returns-in-BitOr : goal.returns-in-BitOr
returns-in-BitOr c = rw c.in-BitOr.is c.calculation-in-BitOr.ensures
