-- A refusal as a line of text. Assumes nothing.
use Rattle.std.specs.Prelude.{ℕ, ◌≡◌, List, [], ◌∷◌, ◌++◌}
use Rattle.io.specs.Digits.{last_digits, IsDigitCount}

-- n in decimal: as few digits as hold it, one at least
pub record Decimal (n : ℕ) (text : List ℕ) : Type 0 where
  pub places : ℕ
  pub fewest : IsDigitCount 10 1 n places
  pub spelled : text ≡ last_digits 10 places n

-- `number 3, place 10` and a line end
pub record RefusalLine (number place : ℕ) (line : List ℕ) : Type 0 where
  pub numbered : List ℕ
  pub placed : List ℕ
  pub is_number : Decimal number numbered
  pub is_place : Decimal place placed
  pub is_line : line
      ≡ (110 ∷ 117 ∷ 109 ∷ 98 ∷ 101 ∷ 114 ∷ 32 ∷ [])
      ++ numbered
      ++ (44 ∷ 32 ∷ 112 ∷ 108 ∷ 97 ∷ 99 ∷ 101 ∷ 32 ∷ [])
      ++ placed
      ++ (10 ∷ [])
