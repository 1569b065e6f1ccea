-- Statements made of nodes of their own, by form.
use Rattle.std.proofs.Common.{◌≡◌, ℕ, ◌≤◌, List, [], ◌∷◌, ◌++◌, Some, None, refl, arith}
use Rattle.wjs_base.specs.declared.ids.TextId.{TextId}
use Rattle.wjs_base.specs.declared.ids.NodeId.{NodeId}
use Rattle.wjs_tree.specs.declared.tokens.Tok.{Tok}
use Rattle.wjs_tree.specs.declared.node.Node.{Node}
use Rattle.wjs_tree.specs.declared.node.Node.TheVariants as nodes
use Rattle.wjs_tree.specs.declared.node.Declarator.{Declarator}
use Rattle.wjs_tree.specs.declared.node.Clause.{Clause}
use Rattle.wjs_tree.specs.declared.node.End.{End}
use Rattle.wjs_tree.specs.declared.node.ForInit.{ForInit}
use Rattle.wjs_tree.specs.declared.node.ForInit.TheVariants as inits
use Rattle.wjs_tree.specs.Trees.{NoInit, InitExpr, InitVar, Block, Var, If, DoWhile, While, For, ForIn, ForVarIn, Label, Switch, TryCatch, TryFinally, TryBoth, Within}
use Rattle.wjs_tree.proofs.Kept.{kept, optional_kept, init_kept, stmt_kept, stmts_kept, clauses_kept, keeps_both}
use Rattle.wjs_parse_expr.specs.declared.functions.Functions.{Functions}
use Rattle.wjs_parse_expr.specs.Table.{Holds}
use Rattle.wjs_parse_stmt.specs.declared.parts.Rest.{Rest}
use Rattle.wjs_parse_stmt.specs.declared.parts.Branch.{Branch}
use Rattle.wjs_parse_simple.specs.Made.{Span, ExprMade, OptionalMade, VariablesMade, StmtMade}
use Rattle.wjs_parse_stmt.specs.Made.{InitMade, StmtsMade, BlockMade, RestMade, BranchMade, ArmMade, ClausesMade}
use Rattle.wjs_parse_simple.proofs.Spans.{Added, span_none, span_wide, span_both, span_three, span_top}

-- ---- one part

module _ (toks : List Tok) (functions : Functions) (place room : ℕ) (n0 : List Node) (h : Holds toks functions place room n0) (n1 n2 : List Node) (i j k n : ℕ) (node : NodeId) (ij : i ≤ j) (kn : k ≤ n) where
  pub label_made : (x : TextId) (a : NodeId) → StmtMade functions n0 n1 j a k → Added n1 n2 node (nodes.Label x a) → StmtMade functions n0 n2 i node n
  label_made x a f d = record {
    tree = Label x f.tree;
    used = node.0 ∷ f.used;
    shows = (a, f.used, d.has, refl, stmt_kept n1 n2 d.keeps f.tree a f.used f.shows);
    span = span_top toks functions place room n0 h n1 n2 i j k n node _ f.used ij f.span kn d;
  }

  pub block_made : (list : List NodeId) → StmtsMade functions n0 n1 j list k → Added n1 n2 node (nodes.Block list) → BlockMade functions n0 n2 i node n
  block_made list f d = record {
    trees = f.trees;
    list = list;
    used = f.used;
    has = d.has;
    shows = stmts_kept n1 n2 d.keeps f.trees list f.used f.shows;
    span = span_top toks functions place room n0 h n1 n2 i j k n node _ f.used ij f.span kn d;
  }

pub braced_made : (functions : Functions) (old new : List Node) (i n : ℕ) (node : NodeId) → BlockMade functions old new i node n → StmtMade functions old new i node n
braced_made functions old new i n node f = record { tree = Block f.trees; used = node.0 ∷ f.used; shows = (f.list, f.used, f.has, refl, f.shows); span = f.span }

pub block_wide : (functions : Functions) (old new : List Node) (i i' j j' : ℕ) (a : NodeId) → i' ≤ i → j ≤ j' → BlockMade functions old new i a j → BlockMade functions old new i' a j'
block_wide functions old new i i' j j' a le le' f =
    record { trees = f.trees; list = f.list; used = f.used; has = f.has; shows = f.shows; span = span_wide functions old new i i' j j' (a.0 ∷ f.used) le le' f.span }

-- ---- two parts

module _ (toks : List Tok) (functions : Functions) (place room : ℕ) (n0 : List Node) (h : Holds toks functions place room n0) (n1 n2 n3 : List Node) (i j k l m n : ℕ) (node : NodeId) (ij : i ≤ j) (kl : k ≤ l) (mn : m ≤ n) where
  on_two : (made : Node) (us vs : List ℕ) → Span functions n0 n1 j k us → Span functions n1 n2 l m vs → Added n2 n3 node made → Span functions n0 n3 i n (node.0 ∷ (us ++ vs))
  on_two made us vs a b d = span_top toks functions place room n0 h n2 n3 i j m n node made (us ++ vs) ij (span_both toks functions place room n0 h n1 n2 j k l m us vs a kl b) mn d

  pub while_made : (a b : NodeId) → ExprMade functions n0 n1 j a k → StmtMade functions n1 n2 l b m → Added n2 n3 node (nodes.While a b) → StmtMade functions n0 n3 i node n
  while_made a b f g d = record {
    tree = While f.tree g.tree;
    used = node.0 ∷ (f.used ++ g.used);
    shows = (a, b, f.used, g.used, d.has, refl, kept n1 n3 (keeps_both n1 n2 n3 g.span.keeps d.keeps) f.tree a f.used f.shows, stmt_kept n2 n3 d.keeps g.tree b g.used g.shows);
    span = on_two _ f.used g.used f.span g.span d;
  }

  pub do_made : (a b : NodeId) (end : End) → StmtMade functions n0 n1 j a k → ExprMade functions n1 n2 l b m → Added n2 n3 node (nodes.DoWhile a b end) → StmtMade functions n0 n3 i node n
  do_made a b end f g d = record {
    tree = DoWhile f.tree g.tree end;
    used = node.0 ∷ (f.used ++ g.used);
    shows = (a, b, f.used, g.used, d.has, refl, stmt_kept n1 n3 (keeps_both n1 n2 n3 g.span.keeps d.keeps) f.tree a f.used f.shows, kept n2 n3 d.keeps g.tree b g.used g.shows);
    span = on_two _ f.used g.used f.span g.span d;
  }

  pub for_var_in_made : (x : TextId) (a b : NodeId) → ExprMade functions n0 n1 j a k → StmtMade functions n1 n2 l b m → Added n2 n3 node (nodes.ForVarIn x a b) → StmtMade functions n0 n3 i node n
  for_var_in_made x a b f g d = record {
    tree = ForVarIn x f.tree g.tree;
    used = node.0 ∷ (f.used ++ g.used);
    shows = (a, b, f.used, g.used, d.has, refl, kept n1 n3 (keeps_both n1 n2 n3 g.span.keeps d.keeps) f.tree a f.used f.shows, stmt_kept n2 n3 d.keeps g.tree b g.used g.shows);
    span = on_two _ f.used g.used f.span g.span d;
  }

  pub switch_made : (a : NodeId) (list : List Clause) → ExprMade functions n0 n1 j a k → ClausesMade functions n1 n2 l list m → Added n2 n3 node (nodes.Switch a list) → StmtMade functions n0 n3 i node n
  switch_made a list f g d = record {
    tree = Switch f.tree g.trees;
    used = node.0 ∷ (f.used ++ g.used);
    shows = (a, list, f.used, g.used, d.has, refl, kept n1 n3 (keeps_both n1 n2 n3 g.span.keeps d.keeps) f.tree a f.used f.shows, clauses_kept n2 n3 d.keeps g.trees list g.used g.shows);
    span = on_two _ f.used g.used f.span g.span d;
  }

  pub within_made : (a b : NodeId) → ExprMade functions n0 n1 j a k → BlockMade functions n1 n2 l b m → Added n2 n3 node (nodes.Within a b) → StmtMade functions n0 n3 i node n
  within_made a b f g d = record {
    tree = Within f.tree g.trees;
    used = node.0 ∷ (f.used ++ (b.0 ∷ g.used));
    shows = (a, b, g.list, f.used, g.used, d.has, refl, kept n1 n3 (keeps_both n1 n2 n3 g.span.keeps d.keeps) f.tree a f.used f.shows, d.keeps.same b.0 _ g.has, stmts_kept n2 n3 d.keeps g.trees g.list g.used g.shows);
    span = on_two _ f.used (b.0 ∷ g.used) f.span g.span d;
  }

  pub finally_made : (a b : NodeId) → BlockMade functions n0 n1 j a k → BlockMade functions n1 n2 l b m → Added n2 n3 node (nodes.Try a None (Some b)) → StmtMade functions n0 n3 i node n
  finally_made a b f g d =
      let z = keeps_both n1 n2 n3 g.span.keeps d.keeps in
      record {
        tree = TryFinally f.trees g.trees;
        used = node.0 ∷ ((a.0 ∷ f.used) ++ (b.0 ∷ g.used));
        shows = (a, b, f.list, g.list, f.used, g.used, d.has, refl, z.same a.0 _ f.has, stmts_kept n1 n3 z f.trees f.list f.used f.shows, d.keeps.same b.0 _ g.has, stmts_kept n2 n3 d.keeps g.trees g.list g.used g.shows);
        span = on_two _ (a.0 ∷ f.used) (b.0 ∷ g.used) f.span g.span d;
      }

  pub catch_made : (x : TextId) (a b : NodeId) → BlockMade functions n0 n1 j a k → BlockMade functions n1 n2 l b m → Added n2 n3 node (nodes.Try a (Some (record { name = x; block = b })) None) → StmtMade functions n0 n3 i node n
  catch_made x a b f g d =
      let z = keeps_both n1 n2 n3 g.span.keeps d.keeps in
      record {
        tree = TryCatch f.trees x g.trees;
        used = node.0 ∷ ((a.0 ∷ f.used) ++ (b.0 ∷ g.used));
        shows = (a, b, f.list, g.list, f.used, g.used, d.has, refl, z.same a.0 _ f.has, stmts_kept n1 n3 z f.trees f.list f.used f.shows, d.keeps.same b.0 _ g.has, stmts_kept n2 n3 d.keeps g.trees g.list g.used g.shows);
        span = on_two _ (a.0 ∷ f.used) (b.0 ∷ g.used) f.span g.span d;
      }

  pub for_made : (init : ForInit) (p : Rest) → InitMade functions n0 n1 j init k → p.next ≡ m → RestMade functions n1 n2 l p → Added n2 n3 node (nodes.For init p.test p.update p.node) → StmtMade functions n0 n3 i node n
  for_made init p f e g d =
      let z = keeps_both n1 n2 n3 g.span.keeps d.keeps in
      let us : List ℕ = g.test_used ++ (g.update_used ++ g.used) in
      record {
        tree = For f.tree g.test g.update g.tree;
        used = node.0 ∷ (f.used ++ us);
        shows = (
          init,
          p.test,
          p.update,
          p.node,
          f.used,
          g.test_used,
          g.update_used,
          g.used,
          d.has,
          refl,
          init_kept n1 n3 z f.tree init f.used f.shows,
          optional_kept n2 n3 d.keeps g.test p.test g.test_used g.test_shows,
          optional_kept n2 n3 d.keeps g.update p.update g.update_used g.update_shows,
          stmt_kept n2 n3 d.keeps g.tree p.node g.used g.shows,
        );
        span = on_two _ f.used us f.span (span_wide functions n1 n2 l l p.next m us (omega arith) (omega arith) g.span) d;
      }

-- ---- three parts

module _ (toks : List Tok) (functions : Functions) (place room : ℕ) (n0 : List Node) (h : Holds toks functions place room n0) (n1 n2 n3 n4 : List Node) (i j k l m o p n : ℕ) (node : NodeId) (ij : i ≤ j) (kl : k ≤ l) (mo : m ≤ o) (pn : p ≤ n) where
  on_three : (made : Node) (us vs ws : List ℕ) → Span functions n0 n1 j k us → Span functions n1 n2 l m vs → Span functions n2 n3 o p ws → Added n3 n4 node made → Span functions n0 n4 i n (node.0 ∷ (us ++ (vs ++ ws)))
  on_three made us vs ws a b c d = span_top toks functions place room n0 h n3 n4 i j p n node made (us ++ (vs ++ ws)) ij (span_three toks functions place room n0 h n1 n2 n3 j k l m o p us vs ws a kl b mo c) pn d

  pub for_in_made : (a b c : NodeId) → ExprMade functions n0 n1 j a k → ExprMade functions n1 n2 l b m → StmtMade functions n2 n3 o c p → Added n3 n4 node (nodes.ForIn a b c) → StmtMade functions n0 n4 i node n
  for_in_made a b c f g e d =
      let y = keeps_both n2 n3 n4 e.span.keeps d.keeps in
      let z = keeps_both n1 n2 n4 g.span.keeps y in
      record {
        tree = ForIn f.tree g.tree e.tree;
        used = node.0 ∷ (f.used ++ (g.used ++ e.used));
        shows = (a, b, c, f.used, g.used, e.used, d.has, refl, kept n1 n4 z f.tree a f.used f.shows, kept n2 n4 y g.tree b g.used g.shows, stmt_kept n3 n4 d.keeps e.tree c e.used e.shows);
        span = on_three _ f.used g.used e.used f.span g.span e.span d;
      }

  pub both_made : (x : TextId) (a b c : NodeId) → BlockMade functions n0 n1 j a k → BlockMade functions n1 n2 l b m → BlockMade functions n2 n3 o c p → Added n3 n4 node (nodes.Try a (Some (record { name = x; block = b })) (Some c)) → StmtMade functions n0 n4 i node n
  both_made x a b c f g e d =
      let y = keeps_both n2 n3 n4 e.span.keeps d.keeps in
      let z = keeps_both n1 n2 n4 g.span.keeps y in
      record {
        tree = TryBoth f.trees x g.trees e.trees;
        used = node.0 ∷ ((a.0 ∷ f.used) ++ ((b.0 ∷ g.used) ++ (c.0 ∷ e.used)));
        shows = (
          a,
          b,
          c,
          f.list,
          g.list,
          e.list,
          f.used,
          g.used,
          e.used,
          d.has,
          refl,
          z.same a.0 _ f.has,
          stmts_kept n1 n4 z f.trees f.list f.used f.shows,
          y.same b.0 _ g.has,
          stmts_kept n2 n4 y g.trees g.list g.used g.shows,
          d.keeps.same c.0 _ e.has,
          stmts_kept n3 n4 d.keeps e.trees e.list e.used e.shows,
        );
        span = on_three _ (a.0 ∷ f.used) (b.0 ∷ g.used) (c.0 ∷ e.used) f.span g.span e.span d;
      }

-- ---- the first part of a `for`, and what stands behind it

pub no_init : (functions : Functions) (ns : List Node) (i n : ℕ) → i ≤ n → InitMade functions ns ns i inits.Nothing n
no_init functions ns i n le = record { tree = NoInit; used = []; shows = (refl, refl); span = span_wide functions ns ns i i i n [] (omega arith) le (span_none functions ns i) }

pub init_expr : (functions : Functions) (old new : List Node) (i n : ℕ) (a : NodeId) → ExprMade functions old new i a n → InitMade functions old new i (inits.Expr a) n
init_expr functions old new i n a f = record { tree = InitExpr f.tree; used = f.used; shows = (a, refl, f.shows); span = f.span }

pub init_var : (functions : Functions) (old new : List Node) (i n : ℕ) (list : List Declarator) → VariablesMade functions old new i list n → InitMade functions old new i (inits.Var list) n
init_var functions old new i n list f = record { tree = InitVar f.trees; used = f.used; shows = (list, refl, f.shows); span = f.span }

pub rest_made : (toks : List Tok) (functions : Functions) (place room : ℕ) (n0 : List Node) → Holds toks functions place room n0 → (n1 n2 n3 : List Node) (i j k l m o : ℕ) (q : Rest)
    → i ≤ j → k ≤ l → m ≤ o → OptionalMade functions n0 n1 j q.test k → OptionalMade functions n1 n2 l q.update m → StmtMade functions n2 n3 o q.node q.next → RestMade functions n0 n3 i q
rest_made toks functions place room n0 h n1 n2 n3 i j k l m o q ij kl mo f g e =
    let z = keeps_both n1 n2 n3 g.span.keeps e.span.keeps in
    record {
      test = f.tree;
      update = g.tree;
      tree = e.tree;
      test_used = f.used;
      update_used = g.used;
      used = e.used;
      test_shows = optional_kept n1 n3 z f.tree q.test f.used f.shows;
      update_shows = optional_kept n2 n3 e.span.keeps g.tree q.update g.used g.shows;
      shows = e.shows;
      span = span_wide functions n0 n3 j i q.next q.next (f.used ++ (g.used ++ e.used)) ij (omega arith) (span_three toks functions place room n0 h n1 n2 n3 j k l m o q.next f.used g.used e.used f.span kl g.span mo e.span);
    }

-- ---- the parts of an `if` and of a clause

pub branch_made : (toks : List Tok) (functions : Functions) (place room : ℕ) (n0 : List Node) → Holds toks functions place room n0 → (n1 n2 : List Node) (i j k l : ℕ) (q : Branch)
    → i ≤ j → k ≤ l → ExprMade functions n0 n1 j q.test k → StmtMade functions n1 n2 l q.body q.next → BranchMade functions n0 n2 i q
branch_made toks functions place room n0 h n1 n2 i j k l q ij kl f g = record {
  test = f.tree;
  tree = g.tree;
  test_used = f.used;
  used = g.used;
  test_shows = kept n1 n2 g.span.keeps f.tree q.test f.used f.shows;
  shows = g.shows;
  span = span_wide functions n0 n2 j i q.next q.next (f.used ++ g.used) ij (omega arith) (span_both toks functions place room n0 h n1 n2 j k l q.next f.used g.used f.span kl g.span);
}

pub if_made : (toks : List Tok) (functions : Functions) (place room : ℕ) (n0 : List Node) → Holds toks functions place room n0 → (n1 n2 : List Node) (i n : ℕ) (q : Branch) (node : NodeId)
    → q.next ≤ n → BranchMade functions n0 n1 i q → Added n1 n2 node (nodes.If q.test q.body None) → StmtMade functions n0 n2 i node n
if_made toks functions place room n0 h n1 n2 i n q node le f d = record {
  tree = If f.test f.tree;
  used = node.0 ∷ (f.test_used ++ f.used);
  shows = (q.test, q.body, f.test_used, f.used, d.has, refl, kept n1 n2 d.keeps f.test q.test f.test_used f.test_shows, stmt_kept n1 n2 d.keeps f.tree q.body f.used f.shows);
  span = span_top toks functions place room n0 h n1 n2 i i q.next n node _ (f.test_used ++ f.used) (omega arith) f.span le d;
}

pub arm_made : (toks : List Tok) (functions : Functions) (place room : ℕ) (n0 : List Node) → Holds toks functions place room n0 → (n1 n2 : List Node) (i j k l n : ℕ) (clause : Clause)
    → i ≤ j → k ≤ l → OptionalMade functions n0 n1 j clause.test k → StmtsMade functions n1 n2 l clause.body n → ArmMade functions n0 n2 i clause n
arm_made toks functions place room n0 h n1 n2 i j k l n clause ij kl f g = record {
  test = f.tree;
  trees = g.trees;
  test_used = f.used;
  used = g.used;
  test_shows = optional_kept n1 n2 g.span.keeps f.tree clause.test f.used f.shows;
  shows = g.shows;
  span = span_wide functions n0 n2 j i n n (f.used ++ g.used) ij (omega arith) (span_both toks functions place room n0 h n1 n2 j k l n f.used g.used f.span kl g.span);
}
