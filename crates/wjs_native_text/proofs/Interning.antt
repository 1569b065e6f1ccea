-- The texts of pieces, one after another.
use Rattle.std.proofs.Common.{◌≡◌, ℕ, ◌+◌, ◌<◌, List, [], ◌∷◌, ◌++◌, length, get_or, take, refl, sym, ap, ◌∙◌}
use Rattle.std.specs.Prelude.{map, All, Result, Ok, Err, IfOk, OnOk}
use Rattle.wjs_base.specs.declared.ids.OutOfMemory.{OutOfMemory}
use Rattle.std.proofs.lemmas.List.{take_more, map-append}
use Rattle.std.proofs.lemmas.List.Elements.{All-nil, All-push, All-weaker}
use Rattle.wjs_base.specs.declared.ids.TextId.{TextId}
use Rattle.wjs_base.specs.declared.values.Value.{Value as NumberedValue}
use Rattle.wjs_base.specs.declared.values.Value.TheVariants as values
use Rattle.wjs_base.specs.Text.{Table, Grows, Has, Units}
use Rattle.wjs_base.proofs.TextLaws.{Grows-trans}
use Rattle.wjs_store.specs.Meaning.{Meaning}
use Rattle.wjs_by_content.specs.Tables.{value_in, text_in}
use Rattle.wjs_by_content.specs.Values.{String}
use Rattle.wjs_heap.specs.Means.{nothing}
use Rattle.wjs_meaning.specs.NativesOfObjects.{text_of}
use Rattle.wjs_meaning.specs.NativesOfTexts.{part_of}
use Rattle.wjs_model.specs.declared.config.Config.{Config}
use Rattle.wjs_model.specs.Soundness.{Base, HasValue}
use Rattle.wjs_frames.specs.Doing.{Does}
use Rattle.wjs_frames.specs.Following.{Later}
use Rattle.wjs_heap_steps.proofs.Later.{later_same, later_twice}
use Rattle.wjs_strings.specs.declared.pieces.Piece.{Piece}
use Rattle.wjs_strings.specs.Pieces.{texts_of}

module _ {S : Type 0} (meaning : S → Meaning) where
  -- the first pieces have texts
  pub record Interned (text : NumberedValue) (pieces : List Piece) (old mid : Config S) (parts : List NumberedValue) (i : ℕ) : Type 0 where
    pub does : Does meaning (λ t go. go nothing) (λ t. nothing) old mid
    pub later : Later meaning old mid
    pub found : All (HasValue mid) parts
    pub parts_are : (t : Table) → Grows mid.heap.texts t → map (value_in t) parts ≡ texts_of (text_of (value_in t text)) (take i pieces)

  pub interned_none : (text : NumberedValue) (pieces : List Piece) (old : Config S) → Base meaning old → Interned text pieces old old [] 0
  interned_none text pieces old b = record { does = record { by = λ go later r h. h }; later = later_same meaning old b; found = All-nil (HasValue old); parts_are = λ t more. refl }

  pub interned_more : (text : NumberedValue) (pieces : List Piece) (old mid new : Config S) (parts : List NumberedValue) (i : ℕ) (d : Piece) (id : TextId) → Interned text pieces old mid parts i → i < length pieces
      → Does meaning (λ t go. go nothing) (λ t. nothing) mid new → Later meaning mid new → Has new.heap.texts id → ((t : Table) → Grows new.heap.texts t → text_in t id ≡ part_of (text_of (value_in t text)) (get_or pieces i d).start (get_or pieces i d).end)
      → Interned text pieces old new (parts ++ values.Text id ∷ []) (i + 1)
  interned_more text pieces old mid new parts i d id so below does later has said = record {
    does = record { by = λ go last r h. so.does.by go last r (does.by go last r h) };
    later = later_twice meaning old mid new so.later later;
    found = All-push (HasValue new) parts (values.Text id) (All-weaker (HasValue mid) (HasValue new) later.values parts so.found) has;
    parts_are = λ t more.
        let all = Grows-trans mid.heap.texts new.heap.texts t later.texts more in
        let x = text_of (value_in t text) in
        let part = λ (p : Piece). String (part_of x p.start p.end) in
        map-append (value_in t) parts (values.Text id ∷ [])
        ∙ ap (λ l. l ++ String (text_in t id) ∷ []) (so.parts_are t all)
        ∙ ap (λ u. texts_of x (take i pieces) ++ String u ∷ []) (said t more)
        ∙ sym (map-append part (take i pieces) (get_or pieces i d ∷ []))
        ∙ ap (texts_of x) (sym (take_more pieces i d below));
  }

  -- a text that is put last is no deed
  pub quiet : {A : Type 0} (said : Table → A) (shown : TextId → Table → A) (old new : Config S) (r : Result TextId OutOfMemory) → IfOk r (λ id. Does meaning (λ t go. go (said t)) (shown id) old new) → OnOk r (Does meaning (λ t go. go nothing) (λ t. nothing) old new)
  quiet said shown old new (Ok id) d = record { by = λ go later r h. d.by (λ x. go nothing) later r h }
  quiet said shown old new (Err e) d = tt

  -- what is put last is said otherwise
  pub said_text : (old new : Config S) (units : Units) (f : Table → Units) (r : Result TextId OutOfMemory) → OnOk r (Later meaning old new) → IfOk r (λ id. (t : Table) → Grows new.heap.texts t → text_in t id ≡ units) → ((t : Table) → Grows old.heap.texts t → units ≡ f t) → IfOk r (λ id. (t : Table) → Grows new.heap.texts t → text_in t id ≡ f t)
  said_text old new units f (Ok id) later said is = λ t more. said t more ∙ is t (Grows-trans old.heap.texts new.heap.texts t later.texts more)
  said_text old new units f (Err e) later said is = tt
