-- Number and place of every answer come out of the one number that a call returns, and its number is one of document 01's rows. Assumes
-- nothing.
use Rattle.std.specs.Prelude.{Result, Ok, Err}
use Rattle.refusal.specs.declared.Refusal.{Refusal}
use mathlib.Core.Path.{◌≡◌, refl}
use native.Mathlib.Omega.{arith}
use Rattle.refusal.specs.Refusal.{answer_code, refusal_code}
use Rattle.refusal.proofs.Law.{number_law}
use Rattle.refusal.proofs.Places.{first-number, first-place}
use Rattle.calls.specs.Packed.{result_of}
use Rattle.calls.specs.Law.{Unpacks, UnpackLaw, RowsLaw}
use Rattle.calls.proofs.Unpacked.{number-back, place-back}
use Rattle.calls.proofs.Places.{Placed, addr-placed, cs_data_placed, build-placed, read_back-placed}

pub done_alone : (a : Result (Unit {0}) Refusal) → result_of a ≡ 0 → a ≡ Ok tt
done_alone (Ok tt) e = refl
done_alone (Err why) e = absurd (omega (arith, number-back (refusal_code why), (number_law why).some))

pub unpacks : (a : Result (Unit {0}) Refusal) → Placed a → Unpacks a
unpacks a h = record { number = number-back (answer_code a); place = place-back (answer_code a) (first-place (answer_code a) h); done = done_alone a }

pub unpack_law : UnpackLaw
unpack_law = record {
  addr = λ description buffer. unpacks _ (addr-placed description buffer);
  cs_data = λ description layout buffer. unpacks _ (cs_data_placed description layout buffer);
  build = λ description addr csData spans images order table. unpacks _ (build-placed description addr csData spans images order table);
  read_back = λ slot stored order output marks. unpacks _ (read_back-placed slot stored order output marks);
}

pub rows_law : RowsLaw
rows_law = record {
  addr = λ description buffer. first-number _ (addr-placed description buffer);
  cs_data = λ description layout buffer. first-number _ (cs_data_placed description layout buffer);
  build = λ description addr csData spans images order table. first-number _ (build-placed description addr csData spans images order table);
  read_back = λ slot stored order output marks. first-number _ (read_back-placed slot stored order output marks);
}
