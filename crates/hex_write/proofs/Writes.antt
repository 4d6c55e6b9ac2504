-- What a write leaves in the text, by its answer. Assumes nothing.
use Rattle.std.specs.Prelude.{Ok, Err}
use mathlib.Core.Path.{◌≡◌, ◌∙◌, ap}
use mathlib.Core.Bool.{true, false}
use mathlib.Core.List.{List}
use Prim.Native.Nat.{ℕ, ◌≤◌, ◌<◌, ◌^◌}
use native.Mathlib.Omega.{arith}
use lib.ListN.{length}
use borrow.Author.Tests.{ltb-false, lt-ltb, le-ltb}
use Rattle.refusal.specs.declared.Refusal.TheVariants.{OutOfDomain, ShortBuffer}
use Rattle.laid_bytes.specs.Laid.{laid}
use Rattle.laid_bytes.proofs.Laids.{laid-behind, laid-front}
use Rattle.hex_base.specs.Size.{too_long}
use Rattle.hex_write.specs.Text.{end_text, hex_text, pieces}
use Rattle.hex_write.specs.Length.{text_length}
use Rattle.hex_write.specs.Design.Room.{RoomForPieces}
use Rattle.hex_write.specs.Write.{wrote_as, write_of}
use Rattle.hex_write.proofs.Length.{length_law, pieces-length}

-- too long a chip is refused, and nothing is written
pub writes_none : (chip text : List ℕ) → too_long (length chip) ≡ true → wrote_as (Err OutOfDomain) text ≡ write_of chip text
unfolding write_of
writes_none chip text e = rw e

-- the end behind the data records makes the text whole
end-laid : (chip text : List ℕ) (end : ℕ) → end ≡ length (pieces chip) → laid (laid text 0 (pieces chip)) end end_text ≡ laid text 0 (hex_text chip)
unfolding hex_text
end-laid chip text end e = laid-behind text 0 end (pieces chip) end_text (omega arith)

-- a chip that is not too long, and the length of its text by the formula
module _ (chip text : List ℕ) (n : ℕ) (fits : too_long (length chip) ≡ false) (long : n ≡ text_length (length chip)) where
  pub writes_short : length text < n → wrote_as (Err ShortBuffer) text ≡ write_of chip text
  unfolding write_of
  writes_short h = rw (fits, lt-ltb (length text) (length (hex_text chip)) (omega (arith, length_law chip)))

  pub write_room : n ≤ length text → RoomForPieces text chip
  write_room h = record { small = ltb-false (2 ^ 24) (length chip) fits; room = omega (arith, length_law chip, pieces-length chip) }

  pub writes_all : n ≤ length text → (out last : List ℕ) (end : ℕ) → end ≡ length (pieces chip) → out ≡ laid text 0 (pieces chip) → last ≡ laid out end end_text
      → wrote_as (Ok n) last ≡ write_of chip text
  unfolding write_of
  writes_all h out last end e f g =
      let l : n ≡ length (hex_text chip) = omega (arith, length_law chip) in
      let m : length (hex_text chip) ≤ length text = omega arith in
      let p = g ∙ ap (λ x. laid x end end_text) f ∙ end-laid chip text end e ∙ laid-front text (hex_text chip) m in
      rw (fits, le-ltb (length text) (length (hex_text chip)) m, l, p)
