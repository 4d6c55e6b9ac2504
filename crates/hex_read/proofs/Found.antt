-- Where a byte first stands in a text: at the first place that holds it, or at the end. Assumes nothing.
use mathlib.Core.Path.{◌≡◌, refl, ap}
use mathlib.Core.List.{List, [], ◌∷◌}
use mathlib.Core.Logic.{◌≢◌}
use Prim.Native.Nat.{ℕ, zero, suc, ◌<◌}
use native.Mathlib.Omega.{arith}
use lib.ListN.{length, get_or}
use borrow.Author.Tests.{eq-eqb, ne_eqb}
use Rattle.hex_read.specs.Design.Places.{index_of}

pub found_at : (b : ℕ) (text : List ℕ) (at : ℕ) → at < length text → ((k : ℕ) → k < at → get_or text k 0 ≢ b) → get_or text at 0 ≡ b → at ≡ index_of b text
unfolding index_of
found_at b [] at h before e = absurd (omega arith)
found_at b (c ∷ s) zero h before e = rw (eq-eqb c b e) refl
found_at b (c ∷ s) (suc at) h before e =
    rw (ne_eqb c b (before 0 (omega arith))) (ap suc (found_at b s at (omega arith) (λ k l. before (suc k) (omega arith)) e))

pub found_nowhere : (b : ℕ) (text : List ℕ) → ((k : ℕ) → k < length text → get_or text k 0 ≢ b) → length text ≡ index_of b text
unfolding index_of
found_nowhere b [] before = refl
found_nowhere b (c ∷ s) before =
    rw (ne_eqb c b (before 0 (omega arith))) (ap suc (found_nowhere b s (λ k l. before (suc k) (omega arith))))
