-- An answer as the one number that a call returns. Assumes nothing.
use Rattle.std.specs.Prelude.{ℕ, ◌+◌, ◌*◌, ◌%◌, ◌^◌, Result}
use Rattle.refusal.specs.Refusal.{Code, refusal_code, answer_code, write_code}
use Rattle.refusal.specs.declared.Refusal.{Refusal}

-- a code as one number: the place in the low 48 bits, the number above them. A `GpioSet` could hold 64 bits, so that the place goes in
-- by its remainder. That no call's answer loses anything by it stands in Law.
-- 01 Numbers 1: a refused call has one result, which holds both the refusal's number and its place
unfoldable pub packed_code : Code → ℕ
packed_code c = c.number * 2 ^ 48 + c.place % 2 ^ 48

abbrev pub packed : Refusal → ℕ
packed why = packed_code (refusal_code why)

-- 0 where the call is done
abbrev pub result_of : Result (Unit {0}) Refusal → ℕ
result_of a = packed_code (answer_code a)

-- 02 Slip 1 8: a caller who has something written gets its length, where a refusal has its place, beside number 0
abbrev pub write_result_of : Result ℕ Refusal → ℕ
write_result_of a = packed_code (write_code a)
