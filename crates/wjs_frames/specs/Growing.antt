-- More texts change nothing.
use Rattle.std.specs.Prelude.{◌≡◌, ℕ}
use Rattle.wjs_base.specs.Text.{Table, Grows}
use Rattle.wjs_store.specs.Meaning.{Meaning}
use Rattle.wjs_model.specs.declared.config.Config.{Config}
use Rattle.wjs_model.specs.Soundness.{Sound}
use Rattle.wjs_model.specs.Outside.{Outside, Knows}
use Rattle.wjs_model.specs.Configurations.{rest, turns}

-- with a later table outside
abbrev pub later : Outside → Table → Outside
later v u = record v { texts = u }

module _ {S : Type 0} (meaning : S → Meaning) where
  -- what is left to do is the same under a table and what stands outside as under another table and what stands outside there, and so are the turns before the next step that is due
  pub record LeftAlike (t : Table) (v : Outside) (s : Table) (w : Outside) (c : Config S) : Type 0 where
    pub rest : (n : ℕ) → rest meaning t v c n ≡ rest meaning s w c n
    pub turns : turns meaning t v c ≡ turns meaning s w c

  -- a sound configuration, under a table that has grown from its texts, and with whatever outside
  abbrev pub MoreTextsChangeNothing : Type 0
  MoreTextsChangeNothing = (t : Table) (v : Outside) (c : Config S) → Sound meaning c → Grows c.heap.texts t → LeftAlike t v c.heap.texts v c

  -- and where what stands outside knows the worlds, under a table that has grown from its table
  abbrev pub MoreTextsOutsideChangeNothing : Type 0
  MoreTextsOutsideChangeNothing = (t u : Table) (v : Outside) (c : Config S) → Sound meaning c → Grows c.heap.texts v.texts → Grows v.texts u → Knows meaning c v → LeftAlike t (later v u) t v c
