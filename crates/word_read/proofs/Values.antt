-- What the tables of an entry's bytes say is what its data lines say. Assumes nothing.
use mathlib.Core.Path.{◌≡◌, sym, ◌∙◌, ap}
use mathlib.Core.List.{List}
use Prim.Native.Nat.{ℕ, ◌*◌, ◌/◌, ◌%◌, ◌^◌, ◌≤◌, ◌<◌}
use native.Mathlib.Nat.{mul-one}
use native.Mathlib.Omega.{arith}
use lib.Bits.{bit_or, or_comm, or_shifted}
use lib.ListN.{get_or}
use Rattle.lists.specs.Tab.{tab}
use Rattle.lists.proofs.Tab.{get_or-tab}
use Rattle.bits.specs.Bits.{gather}
use Rattle.bits.proofs.Back.{gather_or}
use Rattle.words.specs.Words.{entry_word}
use Rattle.words.proofs.Words.{word_lt, word-short}
use Rattle.word_rows.specs.Design.Wrote.{said_by}
use Rattle.entry_words.specs.Design.Reading.{gathered}
use Rattle.entry_words.specs.declared.Map.{Map}
use Rattle.rom_turns.specs.Design.Rom.{rom_index, says}
use Rattle.word_read.specs.Design.Ordered.{rom_value}
use Rattle.rom_turns.specs.declared.Rom.{Rom}

-- the two bytes of an entry
gathered-bytes : (m : Map) (x : ℕ) → bit_or (gathered m (x % 256)) (gathered m (x / 256 * 2 ^ 8)) ≡ gathered m x
unfolding gathered
gathered-bytes m x =
    let n = m.lines in
    let p : ℕ → ℕ = λ k. get_or m.positions k 0 in
    let whole : bit_or (x / 256 * 2 ^ 8) (x % 256) ≡ x = or_shifted (x / 256) 8 (x % 256) (omega arith) ∙ omega arith in
    or_comm (gather n p (x % 256)) (gather n p (x / 256 * 2 ^ 8)) ∙ sym (gather_or n p (x / 256 * 2 ^ 8) (x % 256)) ∙ ap (gather n p) whole

module _ (data-map : Map) (low-bytes high-bytes : List ℕ) (l : low-bytes ≡ tab 256 (λ q. gathered data-map (q * 2 ^ 0))) (h : high-bytes ≡ tab 256 (λ q. gathered data-map (q * 2 ^ 8))) where
  said_bytes : (x : ℕ) → x < 2 ^ 16 → said_by low-bytes high-bytes x ≡ gathered data-map x
  said_bytes x b =
      let low : get_or low-bytes (x % 256) 0 ≡ gathered data-map (x % 256) =
      ap (λ (t : List ℕ). get_or t (x % 256) 0) l ∙ get_or-tab (λ q. gathered data-map (q * 2 ^ 0)) 256 (x % 256) 0 (omega arith) ∙ ap (gathered data-map) (mul-one (x % 256)) in
      let high : get_or high-bytes (x / 256) 0 ≡ gathered data-map (x / 256 * 2 ^ 8) =
      ap (λ (t : List ℕ). get_or t (x / 256) 0) h ∙ get_or-tab (λ q. gathered data-map (q * 2 ^ 8)) 256 (x / 256) 0 (omega arith) in
      rw (low, high) (gathered-bytes data-map x)

  pub says_value : (rom : Rom) (positions stored : List ℕ) → rom.word_bytes ≤ 2 → ((i : ℕ) → get_or stored i 0 < 256) → (e : ℕ)
      → says rom positions low-bytes high-bytes stored e ≡ rom_value rom positions data-map stored e
  says_value rom positions stored w bytes e =
      said_bytes (entry_word rom.word_bytes stored (rom_index rom positions e))
      (word-short rom.word_bytes _ w (word_lt rom.word_bytes stored (rom_index rom positions e * rom.word_bytes) bytes))
