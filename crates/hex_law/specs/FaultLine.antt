-- The line that a caller is told of is the one that the read was refused for. Assumes nothing.
use Rattle.std.specs.Prelude.{ℕ, ◌+◌, ◌^◌, ◌≤◌, ◌<◌, ◌≡◌, List, ◌⊎◌, length, Ok, Err}
use Rattle.refusal.specs.declared.Refusal.{Refusal}
use Rattle.refusal.specs.declared.Refusal.TheVariants.{OutOfDomain}
use Rattle.hex_read.specs.Lines.{lines_of}
use Rattle.hex_read.specs.Read.{read_of, fault_line}
use Rattle.hex_law.specs.Verdicts.{FaultyAt}

-- lines are told from 1, and are from 0 in the laws
pub record FaultLineLaw (text chip : List ℕ) : Type 0 where
  -- 02 Slip 1 12: a line that is told is the first at fault, and the read is refused for just what it has
  pub told : (at : ℕ) → fault_line text (length chip) ≡ at + 1
      → (why : Refusal) × (((read_of text chip).answer ≡ Err why) × FaultyAt (length chip) (lines_of text) at why)
  -- 02 Slip 1 6: where none is told the read is done, or the chip is so long that no line is looked at
  pub none : fault_line text (length chip) ≡ 0
      → ((read_of text chip).answer ≡ Ok tt) ⊎ ((2 ^ 24 < length chip) × ((read_of text chip).answer ≡ Err OutOfDomain))
  -- 02 Slip 1 12: no other refusal is without its line
  pub refused : (why : Refusal) → length chip ≤ 2 ^ 24 → (read_of text chip).answer ≡ Err why
      → (at : ℕ) × ((fault_line text (length chip) ≡ at + 1) × FaultyAt (length chip) (lines_of text) at why)
