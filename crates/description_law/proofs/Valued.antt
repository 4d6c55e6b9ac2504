-- What bytes describe is what a description's type says. Assumes nothing.
use mathlib.Core.Path.{◌≡◌, refl}
use mathlib.Core.Bool.{Bool, true, false}
use mathlib.Core.List.{List}
use Prim.Native.Nat.{ℕ, ◌+◌, ◌*◌, ◌^◌, ◌<◌}
use native.Mathlib.Omega.{arith}
use lib.Dec.{ltb}
use lib.ListN.{length, get_or, get_or-eq_default}
use borrow.Author.Tests.{ltb-true, ltb-false}
use Rattle.lists.specs.Tab.{tab}
use Rattle.lists.proofs.Tab.{tab-length, get_or-tab}
use Rattle.slot.specs.Description.{no_line}
use Rattle.slot.specs.declared.description.ControlLine.{ControlLine}
use Rattle.fields.specs.Fields.{bytes_at, four_at}
use Rattle.description_record.specs.Record.{control_line_at, control_lines_at, chip_at, multi_at, board_at, described}
use Rattle.description_law.specs.Encoded.{chip_of, Bytes, ValuedBoard, ValuedChip, ValuedMulti, Valued}

-- of an array, what holds of its entries and of the value past its end holds of all that is read from it
of_all : {A : Type 0} (P : A → Type 0) (n : ℕ) (f : ℕ → A) (z : A) → ((k : ℕ) → P (f k)) → P z → (k : ℕ) → P (get_or (tab n f) k z)
of_all P n f z each past k = at (ltb k n) refl
  where
    at : (t : Bool) → ltb k n ≡ t → P (get_or (tab n f) k z)
    at true e = rw (get_or-tab f n k z (ltb-true k n e)) (each k)
    at false e = rw (get_or-eq_default (tab n f) z {n = k} (rw (tab-length f n) (ltb-false k n e))) past

module _ (b : List ℕ) (bytes : (k : ℕ) → get_or b k 0 < 2 ^ 8) where
  bytes-valued : (p n : ℕ) → Bytes n (bytes_at b p n)
  bytes-valued p n = record {
    long = tab-length _ n;
    each = of_all (λ (x : ℕ). x < 2 ^ 8) n (λ k. get_or b (p + k) 0) 0 (λ k. bytes (p + k)) (omega arith);
  }

  four_valued : (p : ℕ) → four_at b p < 2 ^ 32
  four_valued p = omega (arith, bytes p, bytes (p + 1), bytes (p + 2), bytes (p + 3))

  lines-valued : (P : ControlLine → Type 0) (p : ℕ) → ((q : ℕ) → P (control_line_at b q)) → P no_line → (k : ℕ) → P (get_or (control_lines_at b p) k no_line)
  lines-valued P p each past = of_all P 8 (λ k. control_line_at b (p + 48 + 3 * k)) no_line (λ k. each _) past

  chip-valued : (p : ℕ) → ValuedChip (chip_at b p)
  unfolding chip_at
  chip-valued p = record {
    address_pins = bytes-valued (p + 8) 24;
    num_address_pins = bytes (p + 4);
    data_pins = bytes-valued (p + 32) 16;
    num_data_pins = bytes (p + 5);
    lines = tab-length _ 8;
    kinds = lines-valued (λ (l : ControlLine). l.kind < 2 ^ 8) p (λ q. bytes q) (omega arith);
    pins = lines-valued (λ (l : ControlLine). l.pin < 2 ^ 8) p (λ q. bytes (q + 1)) (omega arith);
    count = bytes (p + 6);
    size = four_valued p;
  }

  multi-valued : ValuedMulti (multi_at b)
  unfolding multi_at
  multi-valued = record {
    select = bytes 23;
    commoned = bytes-valued 28 8;
    num_commoned = bytes 24;
    ignored = bytes-valued 36 8;
    num_ignored = bytes 25;
  }

  board-valued : ValuedBoard (board_at b)
  unfolding board_at
  board-valued = record { socket = tab-length _ 40; pins = bytes 0 }

  pub described-valued : Valued (described b)
  unfolding described
  described-valued = record {
    board = board-valued;
    word_bytes = bytes 3;
    max_image_size = four_valued 8;
    chips = tab-length _ 4;
    chip = λ k h. rw (get_or-tab (λ j. chip_at b (136 + 72 * j)) 4 k _ h) (chip-valued (136 + 72 * k));
    num_chips = bytes 5;
    multi = multi-valued;
    qualifiers = bytes-valued 44 8;
    num_qualifiers = bytes 6;
  }
