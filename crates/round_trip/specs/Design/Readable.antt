-- What a build that is not refused leaves to read-back. Assumes nothing.
use Rattle.std.specs.Prelude.{◌^◌, ◌≤◌, ◌<◌}
use Rattle.build_args.specs.Faults.{table_size}
use Rattle.build_args.specs.declared.BuildArgs.{BuildArgs}

-- the table's numbers are small
pub record Readable (b : BuildArgs) : Type 0 where
  pub pins : b.addr.num_addr_pins < 32
  pub some_bytes : 1 ≤ b.description.word_bytes
  pub bytes : b.description.word_bytes ≤ 2
  pub small : table_size b.description b.addr ≤ 2 ^ 20
