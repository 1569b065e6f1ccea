use Rattle.std.proofs.Common.{[], ◌∙◌, cond, is_some, ap, sym, subst}
use Rattle.std.specs.FinMap as map
use Rattle.std.specs.FinMap.Entries.{put, find}
use Rattle.wjs_base.specs.Order.{name_cmp, name_total}
use Rattle.wjs_base.proofs.Options.{none_of}
use Rattle.std.proofs.lemmas.Bool.{true≢false}
use Rattle.wjs_names.specs.Kept.{rows_of}
use Rattle.wjs_names.specs.Lists.{IsInOrder}
use Rattle.wjs_names.proofs.Shorts.{found_first, found_one, put_one}
use Rattle.wjs_names.proofs.Sorted.{entries_either}
use Rattle.wjs_names.proofs.kept.Kept.replace.Goals as goal

pub returns-in-One-clause-found : goal.returns-in-One-clause-found
returns-in-One-clause-found g c = λ t. ap (λ k. is_some (find name_cmp c.args.name (rows_of k))) c.in-One.is ∙ found_first name_total c.args.name c.in-One.row c.put_in.new.row c.args.value c.put_in.result c.put_in.ensures.is c.put_in.ensures.put [] t

pub returns-in-One-clause-replaced : goal.returns-in-One-clause-replaced
returns-in-One-clause-replaced g c =
    put_one name_total c.args.name c.in-One.row c.put_in.new.row c.args.value c.put_in.result c.put_in.ensures.is c.put_in.ensures.put
    ∙ ap (λ k. cond c.put_in.result (put name_cmp c.args.name c.args.value (rows_of k)) (rows_of k)) (sym c.in-One.is)

pub put_in_two-requires : goal.put_in_two-requires
put_in_two-requires g c = subst (λ k. IsInOrder name_cmp (rows_of k)) c.in-Two.is c.requires

pub returns-in-Two-clause-found : goal.returns-in-Two-clause-found
returns-in-Two-clause-found g c = λ t. ap (λ k. is_some (find name_cmp c.args.name (rows_of k))) c.in-Two.is ∙ sym c.put_in_two.ensures.found ∙ t

pub returns-in-Two-clause-replaced : goal.returns-in-Two-clause-replaced
returns-in-Two-clause-replaced g c = c.put_in_two.ensures.put ∙ ap (λ k. cond c.put_in_two.result (put name_cmp c.args.name c.args.value (rows_of k)) (rows_of k)) (sym c.in-Two.is)

pub put_in_three-requires : goal.put_in_three-requires
put_in_three-requires g c = subst (λ k. IsInOrder name_cmp (rows_of k)) c.in-Three.is c.requires

pub returns-in-Three-clause-found : goal.returns-in-Three-clause-found
returns-in-Three-clause-found g c = λ t. ap (λ k. is_some (find name_cmp c.args.name (rows_of k))) c.in-Three.is ∙ sym c.put_in_three.ensures.found ∙ t

pub returns-in-Three-clause-replaced : goal.returns-in-Three-clause-replaced
returns-in-Three-clause-replaced g c = c.put_in_three.ensures.put ∙ ap (λ k. cond c.put_in_three.result (put name_cmp c.args.name c.args.value (rows_of k)) (rows_of k)) (sym c.in-Three.is)

pub replace-requires : goal.replace-requires
replace-requires g c = subst (λ k. IsInOrder name_cmp (rows_of k)) c.in-Four.is c.requires

pub returns-in-Four-clause-found : goal.returns-in-Four-clause-found
returns-in-Four-clause-found g c = λ t. ap (λ k. is_some (find name_cmp c.args.name (rows_of k))) c.in-Four.is ∙ c.replace.ensures.found t

pub returns-in-Four-clause-replaced : goal.returns-in-Four-clause-replaced
returns-in-Four-clause-replaced g c = c.replace.ensures.replaced ∙ ap (λ k. cond c.replace.result (put name_cmp c.args.name c.args.value (rows_of k)) (rows_of k)) (sym c.in-Four.is)

pub returns-in-Many-clause-found : goal.returns-in-Many-clause-found
returns-in-Many-clause-found g c = λ t.
    let many = c.deref_mut-in-Many.result.now in
    ap (λ es. is_some (find name_cmp c.args.name es)) (ap rows_of c.in-Many.is ∙ ap map.entries (sym c.deref_mut-in-Many.ensures.value))
    ∙ ap is_some (sym (map.get-entries many c.args.name))
    ∙ c.replace-in-Many.ensures.found t

pub returns-in-Many-clause-replaced : goal.returns-in-Many-clause-replaced
returns-in-Many-clause-replaced g c =
    let many = c.deref_mut-in-Many.result.now in
    ap map.entries c.replace-in-Many.ensures.replaced
    ∙ entries_either c.replace-in-Many.result (map.insert many c.args.name c.args.value) many (put name_cmp c.args.name c.args.value (map.entries many)) (map.entries-insert name_total many c.args.name c.args.value)
    ∙ ap (λ es. cond c.replace-in-Many.result (put name_cmp c.args.name c.args.value es) es) (ap map.entries c.deref_mut-in-Many.ensures.value ∙ ap rows_of (sym c.in-Many.is))

pub returns-in-Zero-clause-absent : goal.returns-in-Zero-clause-absent
returns-in-Zero-clause-absent g c = λ _ _. ap (λ k. find name_cmp c.args.name (rows_of k)) c.in-Zero.is

pub returns-in-One-clause-absent : goal.returns-in-One-clause-absent
returns-in-One-clause-absent g c = λ _ f. none_of (find name_cmp c.args.name (rows_of c.args.self.now))
    (ap (λ k. is_some (find name_cmp c.args.name (rows_of k))) c.in-One.is
    ∙ sym (found_one name_total c.args.name c.in-One.row c.put_in.new.row c.args.value c.put_in.result c.put_in.ensures.is c.put_in.ensures.put) ∙ f)

pub returns-in-Two-clause-absent : goal.returns-in-Two-clause-absent
returns-in-Two-clause-absent g c = λ _ f. none_of (find name_cmp c.args.name (rows_of c.args.self.now))
    (ap (λ k. is_some (find name_cmp c.args.name (rows_of k))) c.in-Two.is ∙ sym c.put_in_two.ensures.found ∙ f)

pub returns-in-Three-clause-absent : goal.returns-in-Three-clause-absent
returns-in-Three-clause-absent g c = λ _ f. none_of (find name_cmp c.args.name (rows_of c.args.self.now))
    (ap (λ k. is_some (find name_cmp c.args.name (rows_of k))) c.in-Three.is ∙ sym c.put_in_three.ensures.found ∙ f)

pub returns-in-Four-clause-absent : goal.returns-in-Four-clause-absent
returns-in-Four-clause-absent g c = λ p _. absurd (true≢false p)

pub returns-in-Few-clause-absent : goal.returns-in-Few-clause-absent
returns-in-Few-clause-absent g c = λ p _. absurd (true≢false p)

pub returns-in-Many-clause-absent : goal.returns-in-Many-clause-absent
returns-in-Many-clause-absent g c = λ p _. absurd (true≢false p)
