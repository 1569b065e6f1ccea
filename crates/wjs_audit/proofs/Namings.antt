-- What the texts so far know, and what the lines of a log name.
use Rattle.std.proofs.Common.{◌≡◌, ℕ, Bool, true, false, ◌||◌, ◌==◌, [], ◌∷◌, ◌++◌, refl, ap, sym, subst, ◌∙◌, IsTrue}
use Rattle.std.proofs.lemmas.List.{map-append}
use Rattle.wjs_base.specs.declared.ids.TextId.{TextId}
use Rattle.wjs_base.specs.Text.{Units, Table, Denotes}
use Rattle.wjs_audit.specs.declared.known.KnownTexts.{KnownTexts}
use Rattle.wjs_audit.specs.Spelling.{Line, text, done}
use Rattle.wjs_audit.specs.Logs.{Known, is_named, MayFollow, with_line}
use Rattle.wjs_audit.specs.Reading.{Numbered, Holds, LineMay, Below}
use Rattle.wjs_audit.proofs.Tabled.{named_more, deed_more}

-- ---- what is known and what is named

module _ (s : KnownTexts) (known : Known) (h : Holds s known) where
  named_in : (id : TextId) → Numbered s id → IsTrue (is_named known id.0)
  named_in id n = h.0 id.0 ∙ n

  numbered_in : (id : TextId) → IsTrue (is_named known id.0) → Numbered s id
  numbered_in id n = sym (h.0 id.0) ∙ n

  pub may_follow : (l : Line) → LineMay s l → MayFollow known l
  may_follow (text n units) m = record {
    fits = m.0;
    is_text = m.1;
    new_number = h.0 n ∙ m.2;
    new_text = λ id there. m.3 id (subst (λ (ts : Table). Denotes ts id units) (sym h.1) there);
  }
  may_follow (done d) m = record {
    fits = m.0;
    knows = deed_more (Numbered s) (λ id. IsTrue (is_named known id.0)) named_in d m.1;
    in_order = m.2;
  }

  pub may_stand : (l : Line) → MayFollow known l → LineMay s l
  may_stand (text n units) m = (m.fits, m.is_text, sym (h.0 n) ∙ m.new_number, λ id there. m.new_text id (subst (λ (ts : Table). Denotes ts id units) h.1 there))
  may_stand (done d) m = (m.fits, deed_more (λ id. IsTrue (is_named known id.0)) (Numbered s) numbered_in d m.knows, m.in_order)

-- below a line
pub holds_below : (old : KnownTexts) (known : Known) (l : Line) (new : KnownTexts) → Holds old known → Below old l new → Holds new (with_line known l)
holds_below old known (text n units) new h b = (
  λ m. named_more known n units m ∙ ap (λ t. t || n == m) (h.0 m) ∙ sym (b.1 m),
  b.0 ∙ ap (λ (ts : Table). ts ++ units ∷ []) h.1 ∙ sym (map-append (λ (e : ℕ × Units). e.1) known ((n, units) ∷ [])),
)
holds_below old known (done d) new h b = subst (λ (s : KnownTexts). Holds s known) (sym b) h
