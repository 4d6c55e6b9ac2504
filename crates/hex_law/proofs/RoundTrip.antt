-- A chip comes back through its own text. Assumes nothing.
use Rattle.std.specs.Prelude.{Ok}
use mathlib.Core.Path.{◌≡◌, refl, sym, ◌∙◌}
use mathlib.Core.Bool.{Bool, true, false}
use mathlib.Core.List.{List, [], append-nil}
use Prim.Native.Nat.{ℕ, zero, suc, ◌+◌, ◌-◌, ◌*◌, ◌/◌, ◌%◌, ◌^◌, ◌≤◌, ◌<◌}
use native.Mathlib.Omega.{arith}
use lib.Dec.{eqb, ltb}
use lib.ListN.{length, take, drop, length-replicate, drop_of_length-le}
use lib.Seq.{take_all, take-add, take-append_seam, length-take-le}
use borrow.Author.Tests.{ltb-true, ltb-false, eqb-true, eqb-false, le-ltb}
use Rattle.lists.specs.Tab.{joined}
use Rattle.laid_bytes.specs.Laid.{laid}
use Rattle.laid_bytes.proofs.Laids.{laid-behind, laid-front}
use Rattle.hex_record.specs.Digits.{digit_of}
use Rattle.hex_record.specs.Record.{record_byte, is_data, is_end}
use Rattle.hex_record.specs.Design.End.{end_line}
use Rattle.hex_record.proofs.Shapes.{end-sound}
use Rattle.hex_read.specs.Lines.{lines_of}
use Rattle.hex_read.specs.Read.{no_fault, judged, stored, blank, verdict_of, read_as, read_of}
use Rattle.hex_write.specs.Text.{ahead, chunk, data_bytes, end_text, hex_text, piece_text, record_text, records}
use Rattle.hex_write.specs.Write.{write_of}
use Rattle.hex_write.proofs.Pieces.{first-none, within_none, block_ahead}
use Rattle.hex_write.proofs.Length.{chunk-length}
use Rattle.hex_law.specs.RoundTrip.{Bytes, HexRoundTrip}
use Rattle.hex_law.proofs.Digits.{bytes_take, bytes_drop}
use Rattle.hex_law.proofs.Passes.{Passes, passes_none, passes_both, data_passes, block_passes}

-- the text's end, in whatever state it is reached
end_sound_text : (size upper at : ℕ) → judged size upper at (lines_of end_text) ≡ no_fault
unfolding lines_of judged is_end record_byte digit_of
end_sound_text size upper at = rw (sym (end-sound end_line size upper refl))

end_stores : (upper : ℕ) (chip : List ℕ) → stored upper (lines_of end_text) chip ≡ chip
unfolding lines_of stored is_data record_byte digit_of
end_stores upper chip = refl

-- what stands ahead of data record k brings the upper half to its block
ahead_passes : (size k : ℕ) (chip : List ℕ) → k < 2 ^ 28 → Passes size (ahead k) ((k - 1) / 4096) chip (k / 4096) chip
ahead_passes size k chip small = by (ltb 0 k) refl (eqb (k % 4096) 0) refl
  where
    none : ahead k ≡ [] → (k - 1) / 4096 ≡ k / 4096 → Passes size (ahead k) ((k - 1) / 4096) chip (k / 4096) chip
    none e f = rw (e, f) (passes_none size (k / 4096) chip)

    by : (s : Bool) → ltb 0 k ≡ s → (t : Bool) → eqb (k % 4096) 0 ≡ t → Passes size (ahead k) ((k - 1) / 4096) chip (k / 4096) chip
    by false e t f = let h = ltb-false 0 k e in none (first-none k h) (omega arith)
    by true e true f =
        let h = ltb-true 0 k e in
        let m = eqb-true (k % 4096) 0 f in
        rw (← block_ahead k h m) (block_passes (k / 4096) (omega arith) size ((k - 1) / 4096) chip)
    by true e false f =
        let h = ltb-true 0 k e in
        let m = eqb-false (k % 4096) 0 f in
        none (within_none k h m) (omega arith)

module _ (chip : List ℕ) (bytes : Bytes chip) (small : length chip ≤ 2 ^ 24) where
  abbrev size : ℕ
  size = length chip

  -- the chip once k data records are read
  abbrev begun : ℕ → List ℕ
  begun k = laid (blank size) 0 (take (16 * k) chip)

  -- data record k lays the next of its bytes
  chunk-laid : (k : ℕ) → 16 * k ≤ size → laid (begun k) (16 * k) (chunk chip k) ≡ begun (suc k)
  chunk-laid k h =
      let e : 16 * suc k ≡ 16 * k + 16 = omega arith in
      laid-behind (blank size) 0 (16 * k) (take (16 * k) chip) (chunk chip k) (omega (arith, length-take-le (16 * k) chip h))
      ∙ rw (e, take-add (16 * k) 16 chip)

  data_step : (k : ℕ) → 16 * k ≤ size → Passes size (record_text (data_bytes chip k)) (k / 4096) (begun k) (k / 4096) (begun (suc k))
  data_step k h =
      let l = chunk-length chip k in
      rw (chunk-laid k h) at (data_passes (chunk chip k) (bytes_take 16 (drop (16 * k) chip) (bytes_drop (16 * k) chip bytes)) (omega arith) k size (omega arith) (begun k))

  -- the first k data records, with those ahead of them
  pieces_pass : (k : ℕ) → k ≤ records size → Passes size (joined k (piece_text chip)) 0 (blank size) ((k - 1) / 4096) (begun k)
  unfolding joined laid
  pieces_pass zero h = passes_none size 0 (blank size)
  pieces_pass (suc k) h =
      let e : suc k - 1 ≡ k = omega arith in
      rw e (passes_both (pieces_pass k (omega arith)) (passes_both (ahead_passes size k (begun k) (omega arith)) (data_step k (omega arith))))

  text-sound : verdict_of (hex_text chip) size ≡ no_fault
  unfolding hex_text
  text-sound = let p = pieces_pass (records size) (omega arith) in (p.judges 1).1 end_text ∙ end_sound_text size _ _

  -- once all are read no byte is blank
  begun_all : begun (records size) ≡ chip
  begun_all =
      let long : length (blank size) ≡ size = length-replicate size 255 in
      rw (take_all (16 * records size) chip (omega arith))
      (laid-front (blank size) chip (omega arith) ∙ rw (drop_of_length-le (blank size) {i = size} (omega arith)) (append-nil chip))

  text_stores : stored 0 (lines_of (hex_text chip)) (blank size) ≡ chip
  unfolding hex_text
  text_stores = (pieces_pass (records size) (omega arith)).stores end_text ∙ end_stores _ _ ∙ begun_all

  comes_back : (buffer : List ℕ) → length buffer ≡ size → read_of (hex_text chip) buffer ≡ read_as (Ok tt) chip
  unfolding read_of
  comes_back buffer e = rw (e, le-ltb (2 ^ 24) size small, text-sound, e, text_stores)

  comes_through : (text buffer : List ℕ) → length (hex_text chip) ≤ length text → length buffer ≡ size
      → read_of (take (length (hex_text chip)) (write_of chip text).text) buffer ≡ read_as (Ok tt) chip
  unfolding write_of
  comes_through text buffer h e =
      rw (le-ltb (2 ^ 24) size small, le-ltb (length text) (length (hex_text chip)) h, take-append_seam (hex_text chip) (drop (length (hex_text chip)) text))
      (comes_back buffer e)

pub hex_round_trip : HexRoundTrip
hex_round_trip = record {
  back = λ chip buffer bytes small e. comes_back chip bytes (omega arith) buffer e;
  through = λ chip text buffer bytes small h e. comes_through chip bytes (omega arith) text buffer h e;
}
