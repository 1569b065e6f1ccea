-- Programs.
use Rattle.std.proofs.Common.{◌≡◌, ℕ, false, List, ◌∷◌, length, None, sym, ap, subst, arith}
use Rattle.std.specs.Option.{option_map}
use Rattle.std.specs.Prelude.{slice_get}
use Rattle.std.proofs.lemmas.Option.{slice_get_past}
use Rattle.wjs_base.specs.declared.ids.NodeId.{NodeId}
use Rattle.wjs_tree.specs.declared.tokens.Tok.{Tok}
use Rattle.wjs_tree.specs.declared.node.Node.{Node}
use Rattle.wjs_tree.specs.declared.node.Node.TheVariants as nodes
use Rattle.wjs_tree.specs.Trees.{Elements}
use Rattle.wjs_tree.specs.Jumps.{outermost, ElementsJumpRight}
use Rattle.wjs_tree.specs.Ends.{token_at}
use Rattle.wjs_tree.specs.Spelling.{ElementsStand}
use Rattle.wjs_tree.specs.Used.{IsOnce}
use Rattle.wjs_tree.proofs.Kept.{elements_kept}
use Rattle.wjs_tree.proofs.OneUse.{elements_one_use}
use Rattle.wjs_tree.proofs.Within.{elements_within}
use Rattle.wjs_parse_expr.specs.declared.functions.Functions.{Functions}
use Rattle.wjs_parse_stmt.specs.declared.parts.Listed.{Listed}
use Rattle.wjs_parse_simple.specs.Readings.{is_closer}
use Rattle.wjs_parse_stmt.specs.Readings.{ElementsForm}
use Rattle.wjs_parse_simple.proofs.Spans.{Added}
use Rattle.wjs_parse.specs.Readings.{ProgramReading}
use Rattle.wjs_parse.specs.Made.{ElementsMade}
use Rattle.wjs_parse.specs.Answers.{FindsElements, FindsProgram}

nothing_last : (toks : List Tok) → token_at toks (length toks) ≡ None
nothing_last toks = ap (option_map (λ (t : Tok). t.token)) (past toks)
  where
    past : (xs : List Tok) → slice_get xs (length xs) ≡ None
    past xs = slice_get_past xs (length xs) (omega arith)

module _ (toks : List Tok) where
  program_elements : (u : Elements) → ProgramReading toks u → ElementsForm toks 200 0 u (length toks)
  program_elements u r = record { formed = r.formed.formed; height = (let h = r.formed.height in omega arith); stands = r.stands; closes = ap is_closer (nothing_last toks) }

  pub program_none : ((us : Elements) (m : ℕ) → ElementsForm toks 200 0 us m → ⊥) → (u : Elements) → ProgramReading toks u → ⊥
  program_none none u r = none u (length toks) (program_elements u r)

  module _ (ns : List Node) (p : Listed) (f : FindsElements toks 200 0 ns p) where
    pub program_longer : (p.next ≡ length toks → ⊥) → (u : Elements) → ProgramReading toks u → ⊥
    program_longer nay u r = nay (sym (f.only u (length toks) (program_elements u r)).1)

    pub program_astray : (ElementsJumpRight (outermost false) f.trees → ⊥) → (u : Elements) → ProgramReading toks u → ⊥
    program_astray nay u r = nay (subst (λ (z : Elements). ElementsJumpRight (outermost false) z) (f.only u (length toks) (program_elements u r)).0 r.formed.jumps)

    -- no node stands at two places of elements that are made of nodes of their own, nor the Program's node in them
    program_once : (functions : Functions) (start : List Node) → ElementsMade functions start ns 0 p.list p.next → (n : ℕ) → n ≡ length ns → IsOnce (n ∷ f.used)
    program_once functions start o n e =
        let q : o.used ≡ f.used = elements_one_use ns o.trees p.list o.used o.shows f.trees f.used f.shows in
        (λ h. (let w = elements_within ns f.trees p.list f.used f.shows n h in omega arith), subst (λ (z : List ℕ). IsOnce z) q o.span.own.once)

    pub program_found : p.next ≡ length toks → ElementsJumpRight (outermost false) f.trees → (functions : Functions) (start : List Node) → ElementsMade functions start ns 0 p.list p.next
        → (new : List Node) (id : NodeId) → Added ns new id (nodes.Program p.list) → FindsProgram toks new id
    program_found end jumps functions start o new id d = record {
      tree = f.trees;
      is = record { list = p.list; used = f.used; has = d.has; shows = elements_kept ns new d.keeps f.trees p.list f.used f.shows };
      once = program_once functions start o id.0 d.is;
      reading = record {
        formed = record { formed = f.form.formed; jumps = jumps; height = (let h = f.form.height in omega arith) };
        stands = subst (λ (z : ℕ). ElementsStand toks f.trees 0 z) end f.form.stands;
      };
      only = λ u r. (f.only u (length toks) (program_elements u r)).0;
    }
