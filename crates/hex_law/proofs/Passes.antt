-- A piece of text that has no fault, and what is read from it. Assumes nothing.
use mathlib.Core.Path.{◌≡◌, refl, ◌∙◌, ap₂}
use mathlib.Core.Bool.{false, ◌&&◌, and-false}
use mathlib.Core.List.{List, [], ◌∷◌, ◌++◌, append_assoc}
use Prim.Native.Nat.{ℕ, suc, ◌+◌, ◌*◌, ◌/◌, ◌%◌, ◌≤◌, ◌<◌}
use native.Mathlib.Omega.{arith}
use lib.Dec.{ltb}
use lib.ListN.{length, get_or}
use borrow.Author.Tests.{le-ltb, le-leb}
use Rattle.lists.proofs.Tab.{tab_is}
use Rattle.laid_bytes.specs.Laid.{laid}
use Rattle.hex_record.specs.Record.{record_byte, count_of, type_of, data_byte, data_of, type_sound, is_data, is_end, address_of, past_chip, upper_after}
use Rattle.hex_read.specs.Lines.{lines_of}
use Rattle.hex_read.specs.Read.{judged, stored, stored_by}
use Rattle.hex_write.specs.Text.{block_bytes, record_text}
use Rattle.hex_law.specs.RoundTrip.{Bytes}
use Rattle.hex_law.proofs.Digits.{bytes-none, bytes_cons, bytes_four}
use Rattle.hex_law.proofs.Records.{record_line, record-line, Sayable, byte_is, reads}

-- a reader gets through a piece of a text: it goes on behind it, with the upper half and the bytes that hold there; which line it then is at
-- does not matter
pub record Passes (size : ℕ) (text : List ℕ) (upper : ℕ) (chip : List ℕ) (upper' : ℕ) (chip' : List ℕ) : Type 0 where
  pub judges : (at : ℕ) → (to : ℕ) × ((rest : List ℕ) → judged size upper at (lines_of (text ++ rest)) ≡ judged size upper' to (lines_of rest))
  pub stores : (rest : List ℕ) → stored upper (lines_of (text ++ rest)) chip ≡ stored upper' (lines_of rest) chip'

pub passes_none : (size upper : ℕ) (chip : List ℕ) → Passes size [] upper chip upper chip
passes_none size upper chip = record { judges = λ at. (at, λ rest. refl); stores = λ rest. refl }

pub passes_both : {size u v w : ℕ} {s t c d e : List ℕ} → Passes size s u c v d → Passes size t v d w e → Passes size (s ++ t) u c w e
passes_both {s} {t} p q = record {
  judges = λ at. (
    (q.judges (p.judges at).0).0,
    λ rest. rw (append_assoc s t rest) ((p.judges at).1 (t ++ rest) ∙ (q.judges (p.judges at).0).1 rest),
  );
  stores = λ rest. rw (append_assoc s t rest) (p.stores (t ++ rest) ∙ q.stores rest);
}

-- a sound record that is no end
module _ (b : List ℕ) (s : Sayable b) (size upper : ℕ) (fits : past_chip size upper (record_line b) ≡ false) (more : is_end (record_line b) ≡ false) where
  record_passes : (chip chip' : List ℕ) (upper' : ℕ) → upper_after upper (record_line b) ≡ upper' → stored_by upper (record_line b) chip ≡ chip'
      → Passes size (record_text b) upper chip upper' chip'
  unfolding judged stored
  record_passes chip chip' upper' e f = record {
    judges = λ at. (suc at, λ rest. rw (record-line b rest s.bytes, reads b s size upper fits, more, e));
    stores = λ rest. rw (record-line b rest s.bytes) (ap₂ (λ u d. stored u (lines_of rest) d) e f);
  }

behind_four : (j : ℕ) → j + 4 ≡ suc (suc (suc (suc j)))
behind_four j = omega arith

-- a data record of bytes c, with the lower 16 bits of 16 k for its offset
module _ (c : List ℕ) (bytes : Bytes c) (short : length c ≤ 16) (k : ℕ) where
  abbrev data_record : List ℕ
  data_record = length c ∷ 16 * k / 256 % 256 ∷ 16 * k % 256 ∷ 0 ∷ c

  data_sayable : Sayable data_record
  unfolding type_sound
  data_sayable = record {
    bytes = bytes_four (length c) (16 * k / 256 % 256) (16 * k % 256) 0 c (omega arith) (omega arith) (omega arith) (omega arith) bytes;
    long = omega arith;
    kind = le-leb (256 * (16 * k / 256 % 256) + 16 * k % 256 + length c) 65536 (omega arith);
  }

  abbrev data_line : List ℕ
  data_line = record_line data_record

  byte-at : (j : ℕ) → j < length c + 4 → record_byte data_line j ≡ get_or data_record j 0
  byte-at j h = byte_is data_record data_sayable j (omega arith)

  count_is : count_of data_line ≡ length c
  count_is = byte-at 0 (omega arith)

  address_is : address_of (k / 4096) data_line ≡ 16 * k
  address_is = rw (byte-at 1 (omega arith), byte-at 2 (omega arith)) (omega arith)

  data_is : data_of data_line ≡ c
  data_is = rw count_is (tab_is (data_byte data_line) c 0 (length c) refl (λ j h. byte-at (j + 4) (omega arith) ∙ rw (behind_four j)))

  kind_is : type_of data_line ≡ 0
  kind_is = byte-at 3 (omega arith)

  data-fits : (size : ℕ) → 16 * k + length c ≤ size → past_chip size (k / 4096) data_line ≡ false
  data-fits size h = rw (le-ltb size (address_of (k / 4096) data_line + count_of data_line) (omega (arith, address_is, count_is))) (and-false (is_data data_line && ltb 0 (count_of data_line)))

  pub data_passes : (size : ℕ) → 16 * k + length c ≤ size → (chip : List ℕ) → Passes size (record_text data_record) (k / 4096) chip (k / 4096) (laid chip (16 * k) c)
  unfolding is_data is_end upper_after
  data_passes size h chip =
      record_passes data_record data_sayable size (k / 4096) (data-fits size h) (rw kind_is) chip (laid chip (16 * k) c) (k / 4096) (rw kind_is)
      (rw (kind_is, address_is, data_is))

-- the record that says a block's number
module _ (block : ℕ) (small : block < 65536) where
  block_sayable : Sayable (block_bytes block)
  unfolding type_sound
  block_sayable = record {
    bytes = bytes_four 2 0 0 4 (block / 256 ∷ block % 256 ∷ []) (omega arith) (omega arith) (omega arith) (omega arith)
        (bytes_cons (block / 256) (block % 256 ∷ []) (omega arith) (bytes_cons (block % 256) [] (omega arith) bytes-none));
    long = refl;
    kind = refl;
  }

  abbrev block_line : List ℕ
  block_line = record_line (block_bytes block)

  block_byte : (j : ℕ) → j < 6 → record_byte block_line j ≡ get_or (block_bytes block) j 0
  block_byte j h = byte_is (block_bytes block) block_sayable j h

  block_kind : type_of block_line ≡ 4
  block_kind = block_byte 3 (omega arith)

  pub block_passes : (size upper : ℕ) (chip : List ℕ) → Passes size (record_text (block_bytes block)) upper chip block chip
  unfolding is_data is_end upper_after
  block_passes size upper chip =
      record_passes (block_bytes block) block_sayable size upper (rw block_kind) (rw block_kind) chip chip block
      (rw (block_kind, block_byte 4 (omega arith), block_byte 5 (omega arith)) (omega arith)) (rw block_kind)
