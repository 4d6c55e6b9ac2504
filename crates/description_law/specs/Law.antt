-- Records and descriptions, each way: none is left out. Assumes nothing.
use Rattle.std.specs.Prelude.{◌≡◌, true, List, ℕ, ◌^◌, ◌<◌, get_or, Ok}
use Rattle.slot.specs.declared.description.Description.{Description}
use Rattle.domain.specs.Domain.{description_in}
use Rattle.description_record.specs.Record.{record_size, described, decoded_of}
use Rattle.description_law.specs.Encoded.{encoded, Bytes, Valued}

pub record RecordLaw : Type 0 where
  -- what bytes describe is Valued, so that Valued asks for nothing that a caller's description may lack
  pub valued : (b : List ℕ) → ((k : ℕ) → get_or b k 0 < 2 ^ 8) → Valued (described b)
  -- 01 Shape 7: every description in the domain has bytes that decode to it
  pub decodes : (d : Description) → Valued d → description_in d ≡ true
      → Bytes record_size (encoded d) × (decoded_of (encoded d) ≡ record { answer = Ok tt; description = d })
