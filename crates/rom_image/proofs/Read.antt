-- The entries of a table, read from its bytes. Assumes nothing.
use mathlib.Core.Path.{◌≡◌, sym, ◌∙◌, ap}
use mathlib.Core.List.{List, [], append-nil}
use Prim.Native.Nat.{ℕ, ◌*◌, ◌^◌, ◌<◌}
use Rattle.bits.proofs.Scattered.{scatter_lt}
use Rattle.words.specs.Words.{entry_word}
use Rattle.words.specs.declared.ByteOrder.{ByteOrder}
use Rattle.words.proofs.Back.{word_of-words}
use Rattle.build_args.specs.Positions.{data_position}
use Rattle.build_args.specs.Faults.{entries_of}
use Rattle.build_args.specs.declared.BuildArgs.{BuildArgs}
use Rattle.rom_image.specs.Entry.{scrambled, entry_at, table_of}

module _ (pad : ℕ) (order : ByteOrder) (b : BuildArgs) (images : List ℕ) where
  abbrev width : ℕ
  width = b.description.word_bytes

  entry_lt : (i : ℕ) → entry_at pad order b images i < 2 ^ (8 * width)
  unfolding entry_at scrambled
  entry_lt i = scatter_lt b.cs_data.num_data_pins (data_position b.cs_data) (8 * width) _

  pub entry-word : (i : ℕ) → i < entries_of b.addr → entry_word width (table_of pad order b images) i ≡ entry_at pad order b images i
  unfolding table_of
  entry-word i h =
      ap (λ (t : List ℕ). entry_word width t i) (sym (append-nil _))
      ∙ word_of-words width (entry_at pad order b images) (entries_of b.addr) [] i h (entry_lt i)
