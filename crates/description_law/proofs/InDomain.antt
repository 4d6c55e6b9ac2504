-- What the record's codes ask of a description past its type, and that the domain has it: a candidate is no 255, and the
-- offset is one of nine. Assumes nothing.
use mathlib.Core.Path.{◌≡◌, refl}
use mathlib.Core.Bool.{Bool, true, false, cond}
use Prim.Native.Nat.{ℕ, ◌+◌, ◌-◌, ◌≤◌, ◌<◌}
use lib.Dec.{leb}
use lib.IntN.{ℤ, pos, negsuc}
use borrow.Author.Tests.{leb-true}
use Rattle.gpio.specs.Candidates.{gpio_in, candidates_in}
use Rattle.gpio.specs.declared.candidates.Candidates.{Candidates}
use Rattle.gpio.specs.declared.candidates.Candidates.TheVariants.{Absent, One, Two}
use Rattle.lists.proofs.Bools.{and_left, and_right}
use Rattle.slot.specs.SlotContext.{raised_of}
use Rattle.slot.specs.declared.description.Board.{Board}
use Rattle.slot.specs.declared.description.Description.{Description}
use Rattle.domain.specs.Domain.{description_in}
use Rattle.domain.proofs.Bounds.{BoardIn, description_in_lem}
use Rattle.description_law.specs.Encoded.{socket_pin_of}

-- candidates that are GPIOs
abbrev pub GpiosIn : Candidates → Type 0
GpiosIn Absent = Unit
GpiosIn (One g) = g ≤ 47
GpiosIn (Two g h) = (g ≤ 47) × (h ≤ 47)

-- one of the nine offsets
abbrev pub OffsetIn : ℤ → Type 0
OffsetIn (pos n) = n ≤ 4
OffsetIn (negsuc n) = n ≤ 3

pub record EncodableBoard (b : Board) : Type 0 where
  pub socket : (k : ℕ) → k < 40 → GpiosIn (socket_pin_of b k).gpios
  pub x1 : GpiosIn b.x1
  pub x2 : GpiosIn b.x2

pub record Encodable (d : Description) : Type 0 where
  pub board : EncodableBoard d.board
  pub pin_offset : OffsetIn d.pin_offset

gpios_in : (c : Candidates) → candidates_in c ≡ true → GpiosIn c
gpios_in Absent h = tt
gpios_in (One g) h = leb-true g 47 h
gpios_in (Two g k) h = (leb-true g 47 (and_left _ _ (and_left _ _ h)), leb-true k 47 (and_right (gpio_in g) _ (and_left _ _ h)))

-- 255 stands for any other offset
raised_in : (b : Bool) (n : ℕ) → leb (cond b n 255) 8 ≡ true → b ≡ true
raised_in true n h = refl
raised_in false n h = h

offset_in : (z : ℤ) → leb (raised_of z) 8 ≡ true → OffsetIn z
offset_in (pos n) h = leb-true n 4 (raised_in (leb n 4) (n + 4) h)
offset_in (negsuc n) h = leb-true n 3 (raised_in (leb n 3) (3 - n) h)

board_in_lem : (b : Board) → BoardIn b → EncodableBoard b
board_in_lem b h = record {
  socket = λ k q. gpios_in (socket_pin_of b k).gpios (h.socket k q);
  x1 = gpios_in b.x1 h.x1;
  x2 = gpios_in b.x2 h.x2;
}

pub in_domain : (d : Description) → description_in d ≡ true → Encodable d
in_domain d e =
    let h = description_in_lem d e in
    record { board = board_in_lem d.board h.board; pin_offset = offset_in d.pin_offset h.offset }
