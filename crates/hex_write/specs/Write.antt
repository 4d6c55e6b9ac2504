-- What a write answers, and what the lent text holds then. Assumes nothing.
use Rattle.refusal.specs.declared.Refusal.{Refusal}
use Rattle.std.specs.Prelude.{ℕ, cond, List, ◌++◌, ltb, length, drop, Result, Ok, Err}
use Rattle.refusal.specs.declared.Refusal.TheVariants.{OutOfDomain, ShortBuffer}
use Rattle.hex_base.specs.Size.{too_long}
use Rattle.hex_write.specs.Text.{hex_text}

pub record Wrote : Type 0 where
  pub answer : Result ℕ Refusal
  pub text : List ℕ

abbrev pub wrote_as : Result ℕ Refusal → List ℕ → Wrote
wrote_as a text = record { answer = a; text = text }

-- 02 Slip 1 8: a buffer with room keeps what stands behind the text; one without is refused by 16
abbrev pub written : List ℕ → List ℕ → Wrote
written text buffer =
    cond (ltb (length buffer) (length text)) (wrote_as (Err ShortBuffer) buffer) (wrote_as (Ok (length text)) (text ++ drop (length text) buffer))

-- 02 Slip 1 6: the lent slice is the chip, and one that is too long is refused by 1 before the buffer is looked at
unfoldable pub write_of : List ℕ → List ℕ → Wrote
write_of chip buffer = cond (too_long (length chip)) (wrote_as (Err OutOfDomain) buffer) (written (hex_text chip) buffer)
