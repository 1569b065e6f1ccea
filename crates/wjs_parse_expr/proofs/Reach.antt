-- Facts of reaches and operators.
use Rattle.std.proofs.Common.{◌≡◌, ◌+◌, ◌≤◌, Bool, true, false, refl, ap, arith, Option, Some, None}
use Rattle.wjs_tree.specs.declared.tokens.Token.{Token}
use Rattle.wjs_tree.specs.declared.tokens.Token.TheVariants as tokens
use Rattle.wjs_tree.specs.declared.signs.Sign.{Sign}
use Rattle.wjs_tree.specs.declared.signs.Sign.TheVariants as signs
use Rattle.wjs_tree.specs.declared.keys.Key.{Key}
use Rattle.wjs_tree.specs.declared.keys.Key.TheVariants as keys
use Rattle.wjs_tree.specs.declared.operators.BinaryOperator.{BinaryOperator}
use Rattle.wjs_tree.specs.declared.operators.BinaryOperator.TheVariants as binaries
use Rattle.wjs_tree.specs.declared.operators.AssignOperator.{AssignOperator}
use Rattle.wjs_tree.specs.declared.operators.AssignOperator.TheVariants as assigns
use Rattle.wjs_tree.specs.declared.operators.UpdateOperator.{UpdateOperator}
use Rattle.wjs_tree.specs.declared.operators.UpdateOperator.TheVariants as updates
use Rattle.wjs_tree.specs.declared.operators.PrefixOperator.{PrefixOperator}
use Rattle.wjs_tree.specs.declared.operators.PrefixOperator.TheVariants as prefixes
use Rattle.wjs_tree.specs.Operators.{binary_token, binary_of, binary_level, assign_token, assign_of, update_token, update_of, prefix_token, prefix_of, IsAllowed}
use Rattle.wjs_parse_expr.specs.Reach.{token_reach, key_reach, reach, sign_reach}

-- the levels of the binary operators
pub binary_bounds : (op : BinaryOperator) → (3 ≤ binary_level op) × (binary_level op ≤ 12)
binary_bounds binaries.Multiply = omega arith
binary_bounds _ = omega arith

-- the reach of an operator that may stand
pub binary_reach : (no_in : Bool) (op : BinaryOperator) → IsAllowed no_in op → token_reach no_in (binary_token op) ≡ binary_level op + 1
binary_reach false binaries.In h = refl
binary_reach true binaries.In h = absurd h
binary_reach _ binaries.Instanceof h = refl
binary_reach _ _ h = refl

pub assign_reach : (no_in : Bool) (op : AssignOperator) → token_reach no_in (assign_token op) ≡ 2
assign_reach no_in op = one op
  where
    one : (op : AssignOperator) → token_reach no_in (assign_token op) ≡ 2
    one assigns.Plain = refl
    one _ = refl

pub update_reach : (no_in : Bool) (op : UpdateOperator) → token_reach no_in (update_token op) ≡ 15
update_reach no_in updates.Increment = refl
update_reach no_in updates.Decrement = refl

-- a token spells one operator
binary_back : (op : BinaryOperator) → binary_of (binary_token op) ≡ Some op
binary_back binaries.Multiply = refl
binary_back _ = refl

assign_back : (op : AssignOperator) → assign_of (assign_token op) ≡ Some op
assign_back assigns.Plain = refl
assign_back _ = refl

update_back : (op : UpdateOperator) → update_of (update_token op) ≡ Some op
update_back updates.Increment = refl
update_back updates.Decrement = refl

prefix_back : (op : PrefixOperator) → prefix_of (prefix_token op) ≡ Some op
prefix_back prefixes.Delete = refl
prefix_back _ = refl

pub same_binary_token : (o : Option Token) (a b : BinaryOperator) → o ≡ Some (binary_token a) → o ≡ Some (binary_token b) → a ≡ b
same_binary_token o a b p q =
    let t : binary_token a ≡ binary_token b = cc in
    let x = binary_back a in let y = binary_back b in let z : binary_of (binary_token a) ≡ binary_of (binary_token b) = ap binary_of t in cc

pub same_assign_token : (o : Option Token) (a b : AssignOperator) → o ≡ Some (assign_token a) → o ≡ Some (assign_token b) → a ≡ b
same_assign_token o a b p q =
    let t : assign_token a ≡ assign_token b = cc in
    let x = assign_back a in let y = assign_back b in let z : assign_of (assign_token a) ≡ assign_of (assign_token b) = ap assign_of t in cc

pub same_update_token : (o : Option Token) (a b : UpdateOperator) → o ≡ Some (update_token a) → o ≡ Some (update_token b) → a ≡ b
same_update_token o a b p q =
    let t : update_token a ≡ update_token b = cc in
    let x = update_back a in let y = update_back b in let z : update_of (update_token a) ≡ update_of (update_token b) = ap update_of t in cc

pub same_prefix_token : (o : Option Token) (a b : PrefixOperator) → o ≡ Some (prefix_token a) → o ≡ Some (prefix_token b) → a ≡ b
same_prefix_token o a b p q =
    let t : prefix_token a ≡ prefix_token b = cc in
    let x = prefix_back a in let y = prefix_back b in let z : prefix_of (prefix_token a) ≡ prefix_of (prefix_token b) = ap prefix_of t in cc

sign_max : (s : Sign) → sign_reach s ≤ 18
sign_max signs.Dot = omega arith
sign_max _ = omega arith

key_max : (b : Bool) (k : Key) → key_reach b k ≤ 18
key_max true keys.In = omega arith
key_max false keys.In = omega arith
key_max true _ = omega arith
key_max false _ = omega arith

pub reach_max : (b : Bool) (o : Option Token) → reach b o ≤ 18
reach_max b None = omega arith
reach_max b (Some (tokens.Sign s)) = sign_max s
reach_max b (Some (tokens.Key k)) = key_max b k
reach_max b (Some (tokens.Word x)) = omega arith
reach_max b (Some (tokens.Text x)) = omega arith
reach_max b (Some (tokens.Number x)) = omega arith
