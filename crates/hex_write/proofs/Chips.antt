-- A chip's data records, laid over a text's bytes one after the other. Assumes nothing.
use mathlib.Core.Path.{◌≡◌, refl, ◌∙◌, ap}
use mathlib.Core.List.{List}
use Prim.Native.Nat.{ℕ, suc, ◌+◌, ◌≤◌, ◌<◌}
use native.Mathlib.Numerals.{add-one}
use native.Mathlib.Omega.{arith}
use lib.ListN.{length, length-append}
use Rattle.lists.specs.Tab.{joined}
use Rattle.laid_bytes.specs.Laid.{laid}
use Rattle.laid_bytes.proofs.Laids.{laid-behind}
use Rattle.hex_write.specs.Text.{ahead, data_bytes, piece_text, pieces, record_text, records}
use Rattle.hex_write.proofs.Length.{joined_more}

-- the first k data records are laid, with those ahead of them, up to a place
abbrev pub Passed : List ℕ → List ℕ → List ℕ → ℕ → ℕ → Type 0
Passed chip t out at k = (at ≡ length (joined k (piece_text chip))) × (out ≡ laid t 0 (joined k (piece_text chip)))

pub chip-none : (chip t : List ℕ) → Passed chip t t 0 0
unfolding joined laid
chip-none chip t = (refl, refl)

pub chip-turn : (chip t out mid next : List ℕ) (k at end to : ℕ) → Passed chip t out at k → end ≡ at + length (ahead k) → mid ≡ laid out at (ahead k)
    → to ≡ end + length (record_text (data_bytes chip k)) → next ≡ laid mid end (record_text (data_bytes chip k)) → Passed chip t next to (k + 1)
unfolding joined
chip-turn chip t out mid next k at end to p e f g h =
    rw add-one (
      simp length-append (omega arith),
      h ∙ ap (λ x. laid x end (record_text (data_bytes chip k))) f
          ∙ laid-behind out at end (ahead k) (record_text (data_bytes chip k)) e
          ∙ ap (λ x. laid x at (piece_text chip k)) p.1
          ∙ laid-behind t 0 at (joined k (piece_text chip)) (piece_text chip k) (omega arith),
    )

pub chip-done : (chip t out : List ℕ) (k at : ℕ) → k ≡ records (length chip) → Passed chip t out at k → (at ≡ length (pieces chip)) × (out ≡ laid t 0 (pieces chip))
chip-done chip t out k at e p = rw e at p

-- a buffer with room for all records has room for each
pub chip-room : (chip : List ℕ) (k : ℕ) → k < records (length chip)
    → length (joined k (piece_text chip)) + length (ahead k) + length (record_text (data_bytes chip k)) ≤ length (pieces chip)
unfolding joined
chip-room chip k h =
    let e : length (joined (suc k) (piece_text chip)) ≡ length (joined k (piece_text chip)) + (length (ahead k) + length (record_text (data_bytes chip k))) = simp length-append in
    omega (arith, joined_more chip (suc k) h)
