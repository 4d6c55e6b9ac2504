-- The sum of a record's bytes, and their checksum. Assumes nothing.
use Rattle.std.specs.Prelude.{ℕ, ◌-◌, ◌%◌, List, length, slice_index}
use Rattle.lists.specs.Each.{total}

abbrev pub bytes_total : List ℕ → ℕ
bytes_total bytes = total (length bytes) (λ k. slice_index bytes k)

-- 02 Slip 1 5: the checksum is what the sum lacks of a multiple of 256
unfoldable pub checksum_of : List ℕ → ℕ
checksum_of bytes = (256 - bytes_total bytes % 256) % 256
