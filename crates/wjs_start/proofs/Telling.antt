-- Names are told by their texts.
use Rattle.std.proofs.Common.{◌≡◌, ℕ, ◌+◌, ◌<◌, Bool, true, false, List, length, get_or, drop, sym, ap, ◌∙◌}
use Rattle.std.specs.Prelude.{map}
use Rattle.std.proofs.lemmas.List.{drop_more}
use Rattle.wjs_base.specs.declared.values.Name.{Name}
use Rattle.wjs_base.specs.Text.{Table}
use Rattle.wjs_base.proofs.Booleans.{by_bool}
use Rattle.wjs_by_content.specs.Values.{Text, same_text, text_Decides}
use Rattle.wjs_by_content.specs.Tables.{name_in, knows_name}
use Rattle.wjs_by_content.specs.Telling.{names_tell}
use Rattle.wjs_meaning.specs.Trees.{has_text}
use Rattle.wjs_start.specs.Known.{TellsNames}
use Rattle.wjs_start.proofs.Underneath.{holds_at}

pub differs : (b : Bool) → b ≡ true → b ≡ false → ⊥
differs b e d = let h : true ≡ false = sym e ∙ d in cc

-- whether the text is the first, or else in the rest
abbrev either : Bool → List Text → Text → Bool
either b xs name = elim b [ true ↦ true | false ↦ has_text xs name ]

module _ (t : Table) (names : List Name) (name : Name) (i : ℕ) (d : Name) (lt : i < length names) where
  next : has_text (map (name_in t) (drop i names)) (name_in t name) ≡ either (same_text (name_in t (get_or names i d)) (name_in t name)) (map (name_in t) (drop (i + 1) names)) (name_in t name)
  next = ap (λ (l : List Name). has_text (map (name_in t) l) (name_in t name)) (drop_more names i d lt)

  pub text_found : get_or names i d ≡ name → has_text (map (name_in t) (drop i names)) (name_in t name) ≡ true
  text_found e = next ∙ ap (λ b. either b (map (name_in t) (drop (i + 1) names)) (name_in t name)) ((text_Decides (name_in t (get_or names i d)) (name_in t name)).1 (ap (name_in t) e))

  pub text_passed : TellsNames t names → knows_name t name ≡ true → (get_or names i d ≡ name → ⊥) → has_text (map (name_in t) (drop i names)) (name_in t name) ≡ has_text (map (name_in t) (drop (i + 1) names)) (name_in t name)
  text_passed tells known apart = next ∙ ap (λ b. either b (map (name_in t) (drop (i + 1) names)) (name_in t name)) no
    where
      no : same_text (name_in t (get_or names i d)) (name_in t name) ≡ false
      no = by_bool (same_text (name_in t (get_or names i d)) (name_in t name))
          (λ yes. absurd (apart (names_tell t (get_or names i d) name (holds_at (λ (n : Name). knows_name t n ≡ true) names i d lt tells) known ((text_Decides (name_in t (get_or names i d)) (name_in t name)).0 yes))))
          (λ f. f)
