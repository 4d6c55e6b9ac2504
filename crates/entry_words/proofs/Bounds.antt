-- How large what a map says is: the bits that pick, the place that they pick, the address and the value. Assumes nothing.
use Prim.Native.Nat.{ℕ, ◌*◌, ◌^◌, ◌≤◌, ◌<◌}
use mathlib.Core.List.{List}
use native.Mathlib.Nat.{lt_of_lt_of_le}
use lib.ListN.{get_or}
use lib.Pow.{pow_mono}
use Rattle.bits.proofs.Gathered.{gather_lt}
use Rattle.entry_words.specs.Design.Reading.{gathered, no_map, part_by, rom_by, address_by, value_by, ReadingIn}
use Rattle.entry_words.specs.declared.Map.{Map}
use Rattle.entry_words.specs.declared.Reading.{Reading}

gathered_lt : (m : Map) (i n : ℕ) → m.lines ≤ n → gathered m i < 2 ^ n
unfolding gathered
gathered_lt m i n h = lt_of_lt_of_le (gather_lt m.lines (λ k. get_or m.positions k 0) i) (pow_mono {j = n} h)

module _ {r : Reading} (h : ReadingIn r) where
  pub bits-few : (i : ℕ) → part_by r.address 4 i < 8
  bits-few i = gathered_lt (get_or r.address 4 no_map) i 3 h.picks

  pub place : (i : ℕ) → rom_by r i < 5
  place i = h.places (part_by r.address 4 i) (bits-few i)

  pub address-few : (i : ℕ) → address_by r i < 2 ^ 32
  address-few i = gathered_lt (get_or r.address (rom_by r i) no_map) i 32 (h.address-lines (rom_by r i) (place i))

  pub value_few : (stored : List ℕ) (i : ℕ) → value_by r stored i < 2 ^ (8 * r.word_bytes)
  unfolding value_by
  value_few stored i = gathered_lt (get_or r.data_lines (rom_by r i) no_map) _ _ (h.data-lines (rom_by r i) (place i))
