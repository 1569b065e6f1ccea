-- A look at a slot that leaves the store as it is.
use Rattle.std.proofs.Common.{◌≡◌, Bool, false, List, ap, ◌∙◌, Option, None, Some, Ok, IfSome, slice_get}
use Rattle.std.specs.Option.{option_map, option_and_then}
use Rattle.std.specs.FinMap as map
use Rattle.wjs_base.specs.declared.ids.WorldId.{WorldId}
use Rattle.wjs_base.specs.declared.values.Content.{Content}
use Rattle.wjs_base.specs.declared.values.Slot.{Slot}
use Rattle.wjs_store.specs.State.{content_at, read, found, after_read}
use Rattle.wjs_store.specs.Meaning.{Answers}
use Rattle.wjs_store.specs.Fixed.{fixed}
use Rattle.wjs_store.specs.Shown.{content_of}
use Rattle.wjs_layers.specs.declared.maps.Row.{Row}
use Rattle.wjs_layers.specs.declared.layer.Spot.{Spot}
use Rattle.wjs_layers.specs.declared.layer.Layer.{Layer}
use Rattle.wjs_layers.specs.Sparse.{now_of, full_of, IsSparse, IsAt, StandFor}
use Rattle.wjs_overlay.specs.Store.{worlds_of}
use Rattle.wjs_layers.proofs.Looks.{content_kept, content_now}
use Rattle.wjs_layers.proofs.ReadLaws.{read_first, read_now}
use Rattle.wjs_overlay.proofs.StoreLaws.{answers_same}

module _ (spent : Bool) (live : spent ≡ false) (layers : List Layer) (h : IsSparse layers) (at : Spot) (here : IsAt layers at) (r : Layer) (s : slice_get layers at.place ≡ Some r) (w : WorldId) (is : at.world ≡ w) (q : Slot) where
  -- a read would answer this, and leave the store as it is
  abbrev pub Seen : Content → Type 0
  Seen c = Answers (fixed (worlds_of spent layers) spent) (read w q) (λ (d : Content). found (content_of d)) (Ok c) (fixed (worlds_of spent layers) spent)

  seen : (c : Content) → content_of c ≡ content_at (full_of layers) at.world q → StandFor layers (after_read (full_of layers) at.world q) → Seen c
  seen c e stand = answers_same spent layers (read w q) (found (content_of c)) live
      (ap found (e ∙ ap (λ v. content_at (full_of layers) v q) is))
      (stand.full ∙ ap (λ v. after_read (full_of layers) v q) is)

  -- in the first world nothing is recorded
  pub seen_first : (c : Content) → r.above ≡ None → content_of c ≡ option_and_then now_of (map.get r.rows q) → Seen c
  seen_first c u e = seen c (e ∙ content_kept layers h at here r s q u) (read_first layers h at here r s q u)

  -- where there is a row, it was recorded already
  pub seen_row : (o : Option Content) → o ≡ option_map (λ (row : Row). row.now) (map.get r.rows q) → IfSome o Seen
  seen_row None e = tt
  seen_row (Some c) e = seen c (content_now layers h at here r s q c e) (read_now layers h at here r s q c e)
