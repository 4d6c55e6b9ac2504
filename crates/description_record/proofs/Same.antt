-- Bytes that are no record: its places are read as before where it is made as long as a record. Assumes nothing.
use mathlib.Core.Path.{◌≡◌}
use mathlib.Core.List.{List}
use Prim.Native.Nat.{ℕ, ◌+◌, ◌*◌, ◌≤◌, ◌<◌}
use native.Mathlib.Omega.{arith}
use Rattle.lists.proofs.Tab.{get_or-tab, tab_cong}
use Rattle.fields.specs.Fields.{byte_at, bytes_at, four_at}
use Rattle.fields.specs.Candidates.{pair_at}
use Rattle.description_record.specs.Record.{record_size, cs_config_at, multi_at, socket_at, board_at, control_line_at, control_lines_at, chip_at, chips_at, described}

module _ (b : List ℕ) where
  abbrev padded : List ℕ
  padded = bytes_at b 0 record_size

  same : (p : ℕ) → p < record_size → byte_at padded p ≡ byte_at b p
  same p h =
      let e : 0 + p ≡ p = omega arith in
      rw e at (get_or-tab (λ k. byte_at b (0 + k)) record_size p 0 h)

  bytes_same : (p n : ℕ) → p + n ≤ record_size → bytes_at padded p n ≡ bytes_at b p n
  bytes_same p n h = tab_cong (λ k. byte_at padded (p + k)) (λ k. byte_at b (p + k)) n (λ k l. same (p + k) (omega arith))

  four_same : (p : ℕ) → p + 4 ≤ record_size → four_at padded p ≡ four_at b p
  four_same p h = rw (same p (omega arith), same (p + 1) (omega arith), same (p + 2) (omega arith), same (p + 3) (omega arith))

  pair_same : (p : ℕ) → p + 2 ≤ record_size → pair_at padded p ≡ pair_at b p
  pair_same p h = rw (same p (omega arith), same (p + 1) (omega arith))

  line_same : (p : ℕ) → p + 2 ≤ record_size → control_line_at padded p ≡ control_line_at b p
  line_same p h = rw (same p (omega arith), same (p + 1) (omega arith))

  lines_same : (p : ℕ) → p + 72 ≤ record_size → control_lines_at padded p ≡ control_lines_at b p
  lines_same p h =
      tab_cong (λ k. control_line_at padded (p + 48 + 3 * k)) (λ k. control_line_at b (p + 48 + 3 * k)) 8 (λ k l. line_same (p + 48 + 3 * k) (omega arith))

  chip-same : (p : ℕ) → p + 72 ≤ record_size → chip_at padded p ≡ chip_at b p
  unfolding chip_at
  chip-same p h =
      rw (
        bytes_same (p + 8) 24 (omega arith),
        same (p + 4) (omega arith),
        bytes_same (p + 32) 16 (omega arith),
        same (p + 5) (omega arith),
        lines_same p h,
        same (p + 6) (omega arith),
        four_same p (omega arith),
      )

  chips-same : chips_at padded ≡ chips_at b
  chips-same = tab_cong (λ k. chip_at padded (136 + 72 * k)) (λ k. chip_at b (136 + 72 * k)) 4 (λ k l. chip-same (136 + 72 * k) (omega arith))

  socket-same : socket_at padded ≡ socket_at b
  socket-same =
      tab_cong (λ k. record { gpios = pair_at padded (52 + 2 * k) }) (λ k. record { gpios = pair_at b (52 + 2 * k) }) 40
      (λ k l. rw (pair_same (52 + 2 * k) (omega arith)))

  board-same : board_at padded ≡ board_at b
  unfolding board_at
  board-same = rw (socket-same, same 0 (omega arith), pair_same 132 (omega arith), pair_same 134 (omega arith))

  config_same : cs_config_at padded ≡ cs_config_at b
  unfolding cs_config_at
  config_same =
      rw (
        same 16 (omega arith),
        same 17 (omega arith),
        same 18 (omega arith),
        same 19 (omega arith),
        same 20 (omega arith),
        same 21 (omega arith),
        same 22 (omega arith),
      )

  multi-same : multi_at padded ≡ multi_at b
  unfolding multi_at
  multi-same = rw (same 23 (omega arith), bytes_same 28 8 (omega arith), same 24 (omega arith), bytes_same 36 8 (omega arith), same 25 (omega arith))

  pub padded_same : described padded ≡ described b
  unfolding described
  padded_same =
      rw (
        board-same,
        same 1 (omega arith),
        same 2 (omega arith),
        same 3 (omega arith),
        same 4 (omega arith),
        four_same 8 (omega arith),
        chips-same,
        same 5 (omega arith),
        config_same,
        same 7 (omega arith),
        multi-same,
        bytes_same 44 8 (omega arith),
        same 6 (omega arith),
      )
