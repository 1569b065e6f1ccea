-- The lines are the same by content: numbers of slots and objects don't depend on names.
use Rattle.std.proofs.Common.{◌≡◌, suc, [], ◌∷◌, ◌++◌, cond, ◌==◌, length, refl, sym, ap, ◌∙◌}
use Rattle.std.specs.Option.{option_map}
use Rattle.std.specs.Fmt.{decimal}
use Rattle.std.specs.FinMap as map
use Rattle.std.specs.FinMap.{FinMap}
use Rattle.std.specs.Prelude.{codes}
use Rattle.std.proofs.lemmas.List.{length-map}
use Rattle.wjs_store.specs.Naming.{Naming}
use Rattle.wjs_store.specs.State.{State}
use Rattle.wjs_by_content.specs.Renamed.{Names, Known, named_state}
use Rattle.wjs_by_content.specs.Rename.{renamed}
use Rattle.wjs_by_content.proofs.Keys.{Reorder, keys_renamed}
use Rattle.wjs_by_content.proofs.RenamedKnown.{shows}
use Rattle.wjs_by_content.proofs.Padded.{padding, among}
use Rattle.wjs_by_content.proofs.Renaming.{Renaming, renamed_world, renamed_state}
use Rattle.wjs_reports.specs.Lines.{parent_part, marks_part, line_of, lines_of}

module _ {K V J W : Type 0} {n : Naming K V} {m : Naming J W} (r : Renaming n m) where
  as_long : Reorder m.cmp (λ xs ys. length ys ≡ length xs)
  as_long = record { same = λ xs. refl; under = λ a xs ys h. ap suc h; flip = λ a b xs e. refl; trans = λ xs ys zs f g. g ∙ f }

  len_renamed : {X Y : Type 0} (g : X → Y) (a : FinMap n.cmp X) → map.len (renamed {S = m.cmp} r.slot g a) ≡ map.len a
  len_renamed {X} {Y} g a =
      let b = renamed {S = m.cmp} r.slot g a in
      map.len-entries b
      ∙ sym (length-map (map.entries b) (λ (e : J × Y). e.0))
      ∙ keys_renamed n.total n.exact m.total m.exact r.slot r.slots_tell (λ xs ys. length ys ≡ length xs) as_long g a
      ∙ length-map (map.keys a) r.slot
      ∙ length-map (map.entries a) (λ (e : K × X). e.0)
      ∙ sym (map.len-entries a)

  lines_renamed : (F : State n) → lines_of (renamed_state r F) ≡ lines_of F
  lines_renamed [] = refl
  lines_renamed (x ∷ older) = λ i. lines_renamed older i ++ cond (x.id.owner == 0) (line_renamed i) []
    where
      line_renamed : line_of (renamed_world r x) ≡ line_of x
      line_renamed = λ i. codes "world " ++ decimal x.id.serial ++ parent_part x.parent ++ marks_part (len_renamed (option_map r.value) x.first i) (len_renamed (λ (u : Unit {0}). u) x.written i) (map.len x.closed)

pub lines_named : {K V J W : Type 0} {n : Naming K V} {m : Naming J W} (r : Names n m) (F : State n) → Known r F → lines_of (named_state r F) ≡ lines_of F
lines_named r F k = sym (lines_renamed (among r) (named_state r F)) ∙ ap lines_of (shows r F k) ∙ lines_renamed (padding r) F
