-- A choice of a row passed, by the table of what the low bits come to. Assumes nothing.
use mathlib.Core.Path.{◌≡◌, ◌∙◌}
use mathlib.Core.List.{List}
use Prim.Native.Nat.{ℕ, suc, ◌+◌, ◌≤◌, ◌<◌}
use native.Mathlib.Numerals.{add-one}
use native.Mathlib.Omega.{arith}
use lib.ListN.{length, get_or, take, length-take}
use Rattle.lists.specs.Tab.{tab}
use Rattle.lists.proofs.Tab.{tab-length, get_or-begins}

-- a table that begins with a filling
module _ {A : Type 0} (low : ℕ → A) (lows : List A) (n : ℕ) (t : take n lows ≡ tab n low) where
  pub table-long : n ≤ length lows
  table-long = let e : length (take n lows) ≡ n = rw t (tab-length low n) in let l : length (take n lows) ≤ length lows = simp length-take (omega arith) in omega arith

  pub table_entry : (q : ℕ) (x : A) → q < n → x ≡ get_or lows q x → x ≡ low q
  table_entry q x h e = e ∙ get_or-begins low lows n q x t h

-- one turn of a loop over a row
pub passed_next : {S P : Type 0} (stepped : S → ℕ → P → P → S) (after : ℕ → S) (choice k : ℕ) (state later : S) (x y low high : P) → later ≡ stepped state choice x y → state ≡ after choice
    → choice ≡ k → x ≡ low → y ≡ high → stepped (after k) k low high ≡ after (suc k) → later ≡ after (choice + 1)
passed_next stepped after choice k state later x y low high e es ec ex ey passes = rw (e, es, ec, ex, ey, add-one) passes
