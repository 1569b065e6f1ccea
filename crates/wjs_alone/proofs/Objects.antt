-- Objects of the owner of a part are left out of its objects.
use Rattle.std.proofs.Common.{◌≡◌, ℕ, ◌==◌, Bool, true, false, cond, not, None, refl, sym, ap, ◌∙◌, Ordering}
use Rattle.std.specs.FinMap as map
use Rattle.std.proofs.lemmas.Bool.{eqb-false}
use Rattle.wjs_base.specs.declared.ids.ObjId.{ObjId}
use Rattle.wjs_base.specs.Order.{obj_cmp, obj_total, obj_exact}
use Rattle.wjs_by_content.specs.Objects.{Arena, created}
use Rattle.wjs_meaning.specs.Builtins.{global_object}
use Rattle.wjs_meaning.specs.WorldValues.{world_object_of}
use Rattle.wjs_alone.specs.Alone.{world_of, without, before, part_run}
use Rattle.wjs_alone.specs.Laws.{OwnObjectsAreLeftOut}

module _ (owner : ℕ) (one two : Arena) (same : (o : ObjId) → ¬ (o.owner ≡ owner) → map.get one o ≡ map.get two o) where
  abbrev other : ObjId → Bool
  other o = not (o.owner == owner)

  alike : (q x : ObjId) → obj_cmp q x ≡ Ordering.Equal → other x ≡ other q
  alike q x t = ap other (sym (obj_exact q x t))

  by_owner : (o : ObjId) (b : Bool) → (o.owner == owner) ≡ b → cond (not b) (map.get one o) None ≡ cond (not b) (map.get two o) None
  by_owner o true e = refl
  by_owner o false e = same o (eqb-false o.owner owner e)

  left_out : without owner one ≡ without owner two
  left_out = map.same_map obj_total obj_exact (without owner one) (without owner two) (λ o.
      map.get-retain_keys one other o (alike o)
      ∙ by_owner o (o.owner == owner) refl
      ∙ sym (map.get-retain_keys two other o (alike o)))

pub left_out_lem : OwnObjectsAreLeftOut
left_out_lem trees tree owner copy one two n same =
    ap (λ (arena : Arena). part_run trees tree (world_of owner) global_object owner (record (before owner copy one) { arena = created arena owner (world_object_of (world_of owner)) }) n) (left_out owner one two same)
