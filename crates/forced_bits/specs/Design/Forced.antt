-- The index bits that overrides force, as masks. That an index has them where `free` says so is proved. Assumes nothing.
use Rattle.std.specs.Prelude.{ℕ, zero, suc, ◌+◌, ◌^◌, Bool, cond, ◌||◌}
use Rattle.stored_slot.specs.Stored.{addr_base, names, force_low, force_high}
use Rattle.stored_slot.specs.declared.stored.StoredSlot.{StoredSlot}

-- the sum of the powers of two at the positions that pass
unfoldable pub mask_of : ℕ → (ℕ → Bool) → ℕ
mask_of zero p = 0
mask_of (suc n) p = mask_of n p + cond (p n) (2 ^ n) 0

-- a position is high where any override forces it high, whatever others say of it
abbrev pub high_at : StoredSlot → ℕ → Bool
high_at s p = names s.num_overrides s.overrides force_high (addr_base s + p)

-- a position is forced where any override forces it high or low
abbrev pub forced_at : StoredSlot → ℕ → Bool
forced_at s p = high_at s p || names s.num_overrides s.overrides force_low (addr_base s + p)
