-- `build_rom_image`: what it answers, and what the lent table holds then. Assumes nothing.
use Rattle.refusal.specs.declared.Refusal.{Refusal}
use Rattle.std.specs.Prelude.{ℕ, cond, List, ◌++◌, length, drop, Option, Some, Result, Ok, Err, None}
use Rattle.refusal.specs.declared.Refusal.TheVariants.{OutOfDomain}
use Rattle.words.specs.declared.ByteOrder.{ByteOrder}
use Rattle.build_args.specs.Domain.{build_in}
use Rattle.build_args.specs.Faults.{table_size, build_fault}
use Rattle.build_args.specs.declared.BuildArgs.{BuildArgs}
use Rattle.rom_image.specs.Entry.{table_of}

-- 01 rom_image 6: pads are made of the byte hex AA
abbrev pub pad_byte : ℕ
pad_byte = 0xAA

pub record Built : Type 0 where
  pub answer : Result (Unit {0}) Refusal
  pub table : List ℕ

abbrev pub built : Result (Unit {0}) Refusal → List ℕ → Built
built a t = record { answer = a; table = t }

-- 01 Numbers 5: a refused build leaves the table as it was lent
-- 01 Numbers 7: a build that succeeds leaves the lent bytes behind its table as they were
abbrev pub build_after : ByteOrder → BuildArgs → List ℕ → List ℕ → Option Refusal → Built
build_after order b images lent (Some why) = built (Err why) lent
build_after order b images lent None = built (Ok tt) (table_of pad_byte order b images ++ drop (table_size b.description b.addr) lent)

-- 01 Number 1: the description or a layout is outside of the domain
-- 01 Numbers 2: the domain is tested before all else that a build is refused for
-- 02 Slip 5 2: a build takes one byte order, for all its chips; no refusal depends on it
unfoldable pub build_of : ByteOrder → BuildArgs → List ℕ → List ℕ → Built
build_of order b images lent =
    cond (build_in b) (build_after order b images lent (build_fault b images (length lent))) (built (Err OutOfDomain) lent)
