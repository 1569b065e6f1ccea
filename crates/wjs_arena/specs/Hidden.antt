-- Names that are all hidden.
use Rattle.std.specs.Prelude.{ℕ, zero, suc, ◌+◌, true, false, List, [], ◌∷◌}
use Rattle.wjs_base.specs.declared.values.Name.{Name}
use Rattle.wjs_base.specs.declared.values.Name.TheVariants as names
use Rattle.wjs_arena.specs.declared.object.Flags.{Flags}
use Rattle.wjs_arena.specs.declared.hidden.Hidden.{Hidden}

-- DontEnum alone (ECMA-262, 3rd edition, section 8.6.1)
abbrev pub hidden : Flags
hidden = record { hidden = true; kept = false }

-- so many indices from one on are hidden
abbrev pub hidden_from : ℕ → ℕ → List (Name × Flags)
hidden_from i zero = []
hidden_from i (suc n) = (names.Index i, hidden) ∷ hidden_from (i + 1) n

-- two names and the indices below a count are hidden, as an Arguments object has it (section 10.1.8)
abbrev pub hidden_all : Name → Name → ℕ → List (Name × Flags)
hidden_all callee length count = (callee, hidden) ∷ (length, hidden) ∷ hidden_from 0 count

-- the same, kept in short
abbrev pub hidden_list : Hidden → List (Name × Flags)
hidden_list h = hidden_all (names.Text (record { 0 = h.callee })) (names.Text (record { 0 = h.length })) h.count
