use Rattle.std.proofs.Common.{ℕ, List, ◌++◌, ap, sym, ◌∙◌}
use Rattle.std.proofs.lemmas.Bool.{both_ways}
use Rattle.wjs_audit.specs.Reading.{Numbered, names_parts}
use Rattle.wjs_audit.proofs.Listings.{name_next, no_follower}
use Rattle.wjs_audit.proofs.line.names_of.Goals as goal

pub returns-in_default-name_of : goal.returns-in_default-name_of
returns-in_default-name_of c = λ parts are e ns may same.
    let names = c.loop-part.names in
    let h = c.loop-part.invariant in
    let f = h.follow parts are e in
    let g = c.in-Some.ensures.parts f.0 f.1 f.3 in
    let n = name_next (Numbered c.args.known.now) names ns c.in-Some.part.now g.0 h.fits h.knows may.0 may.1 (ap (λ (ps : List (List ℕ)). names_parts names ++ ps) (sym g.2) ∙ sym f.2 ∙ same) in
    c.in_default-name_of.ensures n.0 (n.4, n.5) n.3

pub returns-then-not-may_follow : goal.returns-then-not-may_follow
returns-then-not-may_follow c = λ parts are e ns may same.
    let names = c.loop-part.names in
    let h = c.loop-part.invariant in
    let f = h.follow parts are e in
    let g = c.in-Some.ensures.parts f.0 f.1 f.3 in
    let n = name_next (Numbered c.args.known.now) names ns c.in-Some.part.now g.0 h.fits h.knows may.0 may.1 (ap (λ (ps : List (List ℕ)). names_parts names ++ ps) (sym g.2) ∙ sym f.2 ∙ same) in
    let this = c.in-Some-name_of.ensures in
    let order = no_follower (Numbered c.args.known.now) names ns c.in-Some-name_of.name n.0 n.1 (sym this.1 ∙ n.3) this.0.0 this.0.1 n.4 n.5 n.2 may.2 in
    both_ways c.may_follow.result c.if-not-may_follow.true (c.may_follow.ensures.1 order)
