-- What the reading of a ROM in order is given. Assumes nothing.
use mathlib.Core.Path.{◌≡◌, sym, ◌∙◌, ap, subst}
use mathlib.Core.List.{List}
use Prim.Native.Nat.{ℕ, ◌+◌, ◌≤◌, ◌<◌}
use native.Mathlib.Nat.{le_trans, mul-le-mul_right, lt_of_lt_of_le}
use native.Mathlib.Omega.{arith}
use lib.Bits.{bit_or}
use lib.ListN.{length, get_or}
use lib.Pow.{pow_pos, pow_mono}
use Rattle.lists.proofs.Tab.{get_or-tab, tab-length}
use Rattle.bits.specs.Bits.{scatter}
use Rattle.index_order.specs.Design.Order.{at}
use Rattle.index_order.proofs.Index.{high_lt}
use Rattle.entry_words.specs.Design.Reading.{no_map}
use Rattle.entry_words.specs.declared.Map.{Map}
use Rattle.entry_words.specs.declared.Reading.{Reading}
use Rattle.rom_turns.specs.Design.Rom.{RomIn, TurnIn, Turn, rom_index, turn_start}
use Rattle.rom_turns.specs.declared.Rom.{Rom}
use Rattle.word_read.specs.Design.Ordered.{InOrder, lows_of}
use Rattle.word_read.specs.Design.Words.{ReadIn, words_of}
use Rattle.word_read.proofs.Split.{turn-joins}
use Rattle.rom_turns.proofs.Turns.{width_two}
use Rattle.word_read.proofs.Entries.{Placed, rom, order_lt}

module _ {r : Reading} {k b m pins : ℕ} {order : Map} (p : Placed r k b m pins order) {stored output : List ℕ} (h : ReadIn r stored output pins) (l5 : k < 5) (some : 0 < words_of r k) where
  all_words : (rom p).start + (rom p).words ≤ r.words
  all_words = h.reading.extents k l5

  rom_in : RomIn (rom p) stored
  rom_in = record {
    width = h.width;
    lines = p.suited.lines;
    pins = h.pins_in;
    high = high_lt p.suited.fits;
    stored_in = h.stored_in;
    few = omega (arith, all_words, h.reading.few);
    some = some;
  }

  turn_in : (c : ℕ) → c < (rom p).turns → TurnIn (rom p) order.positions (lows_of (rom p) order.positions) (turn_start (rom p) c)
  turn_in c l = record {
    few = λ a b. lt_of_lt_of_le (order_lt p c a l b) (pow_mono {j = 31} p.suited.lines);
    joins = λ f q z lq lf.
        turn-joins (get_or r.address k no_map).lines (get_or r.address 4 no_map).lines order.lines (at order) pins r.forced_high c b f q z lq (lt_of_lt_of_le lf p.suited.words)
        ∙ ap (bit_or (rom_index (rom p) order.positions (turn_start (rom p) c + f))) (sym (get_or-tab (λ j. scatter order.lines (at order) pins j) 256 q 0 lq));
  }

  pub in_order : InOrder (rom p) order (get_or r.data_lines k no_map) stored output
  in_order = record {
    rom_in = rom_in;
    data-lines = omega (arith, h.reading.data-lines k l5, width_two _ h.width);
    some = pow_pos _;
    turns = turn_in;
    room = le_trans (mul-le-mul_right r.word_bytes all_words) h.room;
  }

-- the turns of a ROM in order, by its tables
pub order-turns : {rom : Rom} {order data-map : Map} {stored output : List ℕ} → InOrder rom order data-map stored output → (lows low-bytes high-bytes : List ℕ)
    → lows ≡ lows_of rom order.positions → length low-bytes ≡ 256 → length high-bytes ≡ 256
    → (c : ℕ) → c < rom.turns → Turn rom order.positions lows low-bytes high-bytes stored output (turn_start rom c)
order-turns {rom} {order} h lows low-bytes high-bytes e l k c b = record {
  rom_in = h.rom_in;
  tables = record { low = ap (length {A = ℕ}) e ∙ tab-length _ 256; low_byte = l; high_byte = k };
  turn = subst (λ x. TurnIn rom order.positions x (turn_start rom c)) (sym e) (h.turns c b);
  room = h.room;
}
