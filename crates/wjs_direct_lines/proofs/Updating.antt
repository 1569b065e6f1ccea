-- `++` and `--`: a value that is converted above the frame of its node.
use Rattle.std.proofs.Common.{◌≡◌, List, [], ◌∷◌, refl, sym, ◌∙◌, subst}
use Rattle.std.specs.Prelude.{Option, Err, OnOk}
use Rattle.wjs_base.specs.declared.ids.NodeId.{NodeId}
use Rattle.wjs_base.specs.declared.values.Value.{Value as Numbered}
use Rattle.wjs_by_content.specs.Tables.{value_in}
use Rattle.wjs_store.specs.Meaning.{Meaning}
use Rattle.wjs_tree.specs.declared.operators.UpdateOperator.{UpdateOperator}
use Rattle.wjs_meaning.specs.Conversions.{to_number}
use Rattle.wjs_meaning.specs.Deeds.{Act, Sub, then_number}
use Rattle.wjs_meaning.specs.Expressions.{update_number, update_value}
use Rattle.wjs_model.specs.declared.config.Config.{Config}
use Rattle.wjs_model.specs.declared.frame.Activation.{Activation as Frame}
use Rattle.wjs_model.specs.declared.frame.Held.TheVariants as holds
use Rattle.wjs_model.specs.declared.frame.Phase.{Phase}
use Rattle.wjs_model.specs.declared.frame.Phase.TheVariants as phases
use Rattle.wjs_model.specs.declared.frame.Reference.{Reference as NumberedReference}
use Rattle.wjs_model.specs.declared.point.Conversion.TheVariants as to
use Rattle.wjs_model.specs.declared.point.ExprPoint.TheVariants as expr
use Rattle.wjs_model.specs.declared.point.Fix.{Fix}
use Rattle.wjs_model.specs.declared.point.Point.TheVariants as points
use Rattle.wjs_model.specs.declared.point.Start.TheVariants as starts
use Rattle.wjs_model.specs.Begun.{with_phase}
use Rattle.wjs_model.specs.Contents.{reference_in}
use Rattle.wjs_model.specs.Soundness.{Base, HasReference, HasValue, IsThere, StandsHere}
use Rattle.wjs_model.specs.Waiting.{fix_in}
use Rattle.wjs_frames.specs.Following.{Follows, Later}
use Rattle.wjs_frames.specs.Parts.{env_in}
use Rattle.wjs_frames.proofs.Entering.{begin_then}
use Rattle.wjs_heap_steps.proofs.Later.{later_same}
use Rattle.wjs_stopping.specs.declared.ends.Broken.{Broken}
use Rattle.wjs_stopping.specs.Ends.{gives_in}
use Rattle.wjs_stopping.specs.Evaluating.{Evaluates, HasBroken, InMemory, Leaves, stops_in}
use Rattle.wjs_stopping.specs.Waiting.{StopsAt, WaitsAt, at_node}
use Rattle.wjs_stopping.proofs.Evaluating.{stopped_left}
use Rattle.wjs_direct_lines.specs.Deeds.{line_here}
use Rattle.wjs_direct_lines.proofs.Nesting.{shorten_within, within_broke}
use Rattle.wjs_direct_lines.proofs.Parts.{broke_found, broke_later, in_all, later_stopped, shortened, stop_found}

module _ {S : Type 0} (meaning : S → Meaning) where
  -- the frame that converts it
  converts_left : (c : Config S) (f : Frame) (node : NodeId) (v : Numbered)
      → Leaves meaning (line_here meaning c f (λ t env. to_number (value_in t v) env)) (stops_in meaning c [] (with_phase (at_node f node (holds.Value v ∷ []), phases.Ready (starts.Convert to.Number)))) c c
  converts_left c f node v = record {
    by = λ go later r h.
        subst (λ (a : Act). OnOk r (Follows meaning (Sub a go) c later)) (begin_then meaning later.heap.texts c (at_node f node (holds.Value v ∷ [])) (starts.Convert to.Number)) h;
  }

  -- and the one below it
  module _ (c mid new : Config S) (f : Frame) (node : NodeId) (fix : Fix) (op : UpdateOperator) (q : NumberedReference) (v : Numbered) (end : Broken) (w : List Frame) (p : Option (Frame × Phase)) (end' : Broken) (w' : List Frame) (p' : Option (Frame × Phase))
      (b : Base meaning c) (one : mid ≡ c) (two : new ≡ mid) (s : StopsAt (at_node f node (holds.Value v ∷ [])) (phases.Ready (starts.Convert to.Number)) end w p)
      (k : WaitsAt (at_node f node (holds.Reference q ∷ [])) (points.Expr (expr.UpdateNumber fix op)) end w p end' w' p') where
    pub conversion_later : InMemory {A = Numbered} (Err end') (Later meaning c new)
    conversion_later = broke_later meaning Numbered Numbered c mid new f node (holds.Reference q ∷ []) (points.Expr (expr.UpdateNumber fix op)) end w p end' w' p' two k (later_stopped meaning {A = Numbered} c mid (Err end) b one)

    pub conversion_found : IsThere meaning c f → StandsHere c f node → HasReference c q → HasValue c v → HasBroken meaning new end' w' p'
    conversion_found h n r x =
        broke_found meaning Numbered Numbered c mid new f node (holds.Reference q ∷ []) (points.Expr (expr.UpdateNumber fix op)) end w p end' w' p' two k (later_stopped meaning {A = Numbered} c mid (Err end) b one) h n (r, tt) tt
        (stop_found meaning c mid f node (holds.Value v ∷ []) (phases.Ready (starts.Convert to.Number)) end w p one h n (x, tt) tt s)

    pub conversion_does : Evaluates meaning (line_here meaning c f (λ t env. update_value (fix_in fix) op env (reference_in t q) (value_in t v))) gives_in (Err end') w' p' c new
    conversion_does =
        subst (λ (x : Config S). Evaluates meaning (line_here meaning c f (λ t env. update_value (fix_in fix) op env (reference_in t q) (value_in t v))) gives_in (Err end') w' p' c x) (sym (two ∙ one))
        (shortened meaning gives_in (line_here meaning c f (λ t env. update_value (fix_in fix) op env (reference_in t q) (value_in t v)))
        (λ t go. Sub (to_number (value_in t v) (env_in meaning c t f)) (λ e. Sub (then_number (update_number (fix_in fix) op (env_in meaning c t f) (reference_in t q)) e) go)) (Err end') w' p' c c
        (λ t more go. shorten_within (to_number (value_in t v) (env_in meaning c t f)) (then_number (update_number (fix_in fix) op (env_in meaning c t f) (reference_in t q))) go)
        (within_broke meaning gives_in gives_in c c f (line_here meaning c f (λ t env. to_number (value_in t v) env)) (λ t env. then_number (update_number (fix_in fix) op env (reference_in t q))) node (holds.Reference q ∷ []) (points.Expr (expr.UpdateNumber fix op)) end w p end' w' p'
        (λ l t env. refl) (λ t env e. refl) (in_all {A = Numbered} (Err end) (later_same meaning c b))
        (stopped_left meaning gives_in (line_here meaning c f (λ t env. to_number (value_in t v) env)) c (at_node f node (holds.Value v ∷ [])) (phases.Ready (starts.Convert to.Number)) end w p (converts_left c f node v) s) k))
