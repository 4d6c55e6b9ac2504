-- When an address starts over. Assumes nothing.
use Rattle.std.specs.Prelude.{◌≡◌, true, ℕ, ◌^◌}
use Rattle.build_wiring.specs.Counts.{power_of_two}

-- 01 rom_image 7: a number is a power of two exactly if it is 2^k for some k
pub record PowerLaw (n : ℕ) : Type 0 where
  pub is_power : power_of_two n ≡ true → (k : ℕ) × (n ≡ 2 ^ k)
  pub power_is : (k : ℕ) → n ≡ 2 ^ k → power_of_two n ≡ true
