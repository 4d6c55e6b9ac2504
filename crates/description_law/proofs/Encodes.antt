-- Every description in the domain has a record: the bytes `encoded` decode to it, are 424, and are bytes. A part's own
-- bytes stand in the record at the part's place, which antt computes. Assumes nothing.
use Rattle.std.specs.Prelude.{Option, Some, None, Ok}
use mathlib.Core.Path.{◌≡◌, refl, ap}
use mathlib.Core.Bool.{Bool, true, false, ◌&&◌, cond}
use mathlib.Core.List.{List, [], ◌∷◌, ◌++◌}
use Prim.Native.Nat.{ℕ, zero, suc, ◌+◌, ◌*◌, ◌-◌, ◌/◌, ◌%◌, ◌^◌, ◌≤◌, ◌<◌}
use native.Mathlib.Nat.{div-div-eq-div-mul, div-add-mod', mod-eq_of_lt}
use native.Mathlib.Omega.{arith}
use lib.Dec.{leb, eqb, lit<}
use lib.IntN.{ℤ, pos, negsuc}
use lib.ListN.{get_or, replicate}
use borrow.Author.Tests.{ne_eqb, le-leb, lt-leb}
use Rattle.lists.specs.Each.{each}
use Rattle.lists.specs.Tab.{tab, joined}
use Rattle.lists.proofs.Each.{each_all}
use Rattle.lists.proofs.Tab.{tab_is}
use Rattle.gpio.specs.declared.candidates.Candidates.{Candidates}
use Rattle.gpio.specs.declared.candidates.Candidates.TheVariants.{Absent, One, Two}
use Rattle.slot.specs.declared.description.Board.{Board}
use Rattle.slot.specs.declared.description.Package.{Package}
use Rattle.slot.specs.declared.description.Package.TheVariants.{A, B}
use Rattle.slot.specs.declared.description.Chip.{Chip}
use Rattle.slot.specs.declared.description.ChipSetType.{ChipSetType}
use Rattle.slot.specs.declared.description.ChipSetType.TheVariants.{Single, Banked, Multi}
use Rattle.slot.specs.declared.description.CsLogic.{CsLogic}
use Rattle.slot.specs.declared.description.CsLogic.TheVariants.{ActiveLow, ActiveHigh, Ignore}
use Rattle.slot.specs.declared.description.CsConfig.{CsConfig}
use Rattle.slot.specs.declared.description.CsConfig.TheVariants.{ChipSelect, CeOe, CeOeExplicit}
use Rattle.slot.specs.declared.description.MultiCsConfig.{MultiCsConfig}
use Rattle.slot.specs.declared.description.Description.{Description}
use Rattle.domain.specs.Domain.{description_in}
use Rattle.description_record.specs.Record.{record_size, package_of, set_type_of, offset_of, offset_in, logic_from, logic_in, setting_of, setting_in, cs_config_at, cs_config_in, multi_at, board_at, chip_at, described, head_in, pairs_in, well_formed, decoded_of}
use Rattle.fields.specs.Candidates.{pair_at, pair_in, pair_bytes, pair_field}
use Rattle.fields.specs.Fields.{four_at, field, four_bytes}
use Rattle.slot.specs.Description.{no_pin, no_line, no_chip}
use Rattle.description_law.specs.Encoded.{package_byte, set_type_byte, offset_byte, logic_byte, setting_byte, cs_config_bytes, multi_bytes, socket_pin_of, control_line_of, chip_of, board_bytes, line_bytes, chip_record, description_head, encoded, Bytes, ValuedBoard, ValuedChip, ValuedMulti, Valued}
use Rattle.description_law.proofs.InDomain.{GpiosIn, OffsetIn, EncodableBoard, Encodable, in_domain}

-- lists of bytes

data Below : List ℕ → Type 0 where
  none : Below []
  one : {x : ℕ} {l : List ℕ} → x < 2 ^ 8 → Below l → Below (x ∷ l)

below_at : {l : List ℕ} → Below l → (k : ℕ) → get_or l k 0 < 2 ^ 8
below_at none k = lit< tt
below_at (one h b) zero = h
below_at (one h b) (suc k) = below_at b k

both : {l m : List ℕ} → Below l → Below m → Below (l ++ m)
both none q = q
both (one h p) q = one h (both p q)

every : (n : ℕ) (f : ℕ → ℕ) → ((k : ℕ) → f k < 2 ^ 8) → Below (tab n f)
unfolding tab
every zero f h = none
every (suc n) f h = both (every n f h) (one (h n) none)

all : (n : ℕ) (f : ℕ → List ℕ) → ((k : ℕ) → k < n → Below (f k)) → Below (joined n f)
unfolding joined
all zero f h = none
all (suc n) f h = both (all n f (λ k q. h k (omega arith))) (h n (omega arith))

same : (x n : ℕ) → x < 2 ^ 8 → Below (replicate n x)
same x zero h = none
same x (suc n) h = one h (same x n h)

-- numbers of four bytes

digits : (n a b c r s t u : ℕ) → a * 0x100 + r ≡ n → b * 0x100 + s ≡ a → c * 0x100 + t ≡ b → u ≡ c
    → r + 0x100 * s + 0x1_0000 * t + 0x100_0000 * u ≡ n
digits n a b c r s t u p q v w = omega arith

four_back : (n : ℕ) → n < 2 ^ 32 → four_at (four_bytes n) 0 ≡ n
four_back n h =
    digits n _ _ _ _ _ _ _
    (div-add-mod' n 0x100)
    (rw div-div-eq-div-mul at (div-add-mod' (n / 0x100) 0x100))
    (rw div-div-eq-div-mul at (div-add-mod' (n / 0x1_0000) 0x100))
    (mod-eq_of_lt (omega arith))

digit : (n : ℕ) → n % 0x100 < 2 ^ 8
digit n = omega arith

four_below : (n : ℕ) → Below (four_bytes n)
four_below n = one (digit n) (one (digit (n / 0x100)) (one (digit (n / 0x1_0000)) (one (digit (n / 0x100_0000)) none)))

-- arrays of bytes

field_back : {n : ℕ} (l : List ℕ) → Bytes n l → field n l ≡ l
field_back {n} l b = tab_is (λ k. get_or l k 0) l 0 n b.long (λ j h. refl)

field_below : {n : ℕ} {l : List ℕ} → Bytes n l → Below (field n l)
field_below {n} {l} b = every n (λ k. get_or l k 0) b.each

-- codes of one byte: the byte reads as the value, is one of the code's, and is a byte

record Coded {A : Type 0} (of : ℕ → A) (fits : ℕ → Bool) (byte : A → ℕ) (a : A) : Type 0 where
  back : of (byte a) ≡ a
  named : fits (byte a) ≡ true
  below : byte a < 2 ^ 8

package_code : (p : Package) → Coded package_of (λ x. leb x 1) package_byte p
package_code A = record { back = refl; named = refl; below = lit< tt }
package_code B = record { back = refl; named = refl; below = lit< tt }

set_type : (t : ChipSetType) → Coded set_type_of (λ x. leb x 2) set_type_byte t
set_type Single = record { back = refl; named = refl; below = lit< tt }
set_type Banked = record { back = refl; named = refl; below = lit< tt }
set_type Multi = record { back = refl; named = refl; below = lit< tt }

logic : (l : CsLogic) → Coded logic_from logic_in logic_byte l
logic ActiveLow = record { back = refl; named = refl; below = lit< tt }
logic ActiveHigh = record { back = refl; named = refl; below = lit< tt }
logic Ignore = record { back = refl; named = refl; below = lit< tt }

setting : (s : Option CsLogic) → Coded setting_of setting_in setting_byte s
setting None = record { back = refl; named = refl; below = lit< tt }
setting (Some ActiveLow) = record { back = refl; named = refl; below = lit< tt }
setting (Some ActiveHigh) = record { back = refl; named = refl; below = lit< tt }
setting (Some Ignore) = record { back = refl; named = refl; below = lit< tt }

flag : (f : Bool) → Coded (λ x. eqb x 1) (λ x. leb x 1) (λ b. cond b 1 0) f
flag true = record { back = refl; named = refl; below = lit< tt }
flag false = record { back = refl; named = refl; below = lit< tt }

offset : (z : ℤ) → OffsetIn z → Coded offset_of offset_in offset_byte z
offset (pos n) h = record { back = rw (le-leb n 4 h); named = rw (le-leb n 4 h); below = omega arith }
offset (negsuc n) h =
    let past = lt-leb (255 - n) 4 (omega arith) in
    let from = le-leb 252 (255 - n) (omega arith) in
    let to = le-leb (255 - n) 255 (omega arith) in
    record { back = rw (past, from, to) (ap negsuc (omega arith)); named = rw (past, from, to); below = omega arith }

-- candidates

no_gpio : {g : ℕ} → g ≤ 47 → eqb g 255 ≡ false
no_gpio {g} h = ne_eqb g 255 (λ e. omega arith)

pair-back : (c : Candidates) → GpiosIn c → pair_at (pair_bytes c) 0 ≡ c
pair-back Absent h = refl
pair-back (One g) h = rw (no_gpio h)
pair-back (Two g k) h = rw (no_gpio h.0, no_gpio h.1)

pair_in_lem : (c : Candidates) → GpiosIn c → pair_in (pair_bytes c) 0 ≡ true
pair_in_lem Absent h = refl
pair_in_lem (One g) h = rw (no_gpio h)
pair_in_lem (Two g k) h = rw (no_gpio h.0)

gpio-below : {g : ℕ} → g ≤ 47 → g < 2 ^ 8
gpio-below h = omega arith

pair-below : (c : Candidates) → GpiosIn c → Below (pair_bytes c)
pair-below Absent h = same 255 2 (lit< tt)
pair-below (One g) h = one (gpio-below h) (same 255 1 (lit< tt))
pair-below (Two g k) h = one (gpio-below h.0) (one (gpio-below h.1) none)

pair_field-below : (c : Candidates) → GpiosIn c → Below (pair_field c)
pair_field-below c h = every 2 (λ k. get_or (pair_bytes c) k 0) (below_at (pair-below c h))

-- the select settings, at their place of a record

abbrev placed : CsConfig → List ℕ
placed c = replicate 16 0 ++ cs_config_bytes c

cs_config_back : (c : CsConfig) → cs_config_at (placed c) ≡ c
unfolding cs_config_at
cs_config_back (ChipSelect cs1 cs2 cs3 cs4) =
    λ i. ChipSelect ((logic cs1).back i) ((setting cs2).back i) ((setting cs3).back i) ((setting cs4).back i)
cs_config_back CeOe = refl
cs_config_back (CeOeExplicit ce oe) = λ i. CeOeExplicit ((logic ce).back i) ((logic oe).back i)

cs_config_in_lem : (c : CsConfig) → cs_config_in (placed c) ≡ true
unfolding cs_config_in
cs_config_in_lem (ChipSelect cs1 cs2 cs3 cs4) = rw ((logic cs1).named, (setting cs2).named, (setting cs3).named, (setting cs4).named)
cs_config_in_lem CeOe = refl
cs_config_in_lem (CeOeExplicit ce oe) = rw ((logic ce).named, (logic oe).named)

cs_config_below : (c : CsConfig) → Below (cs_config_bytes c)
cs_config_below (ChipSelect cs1 cs2 cs3 cs4) =
    let selects = one (logic cs1).below (one (setting cs2).below (one (setting cs3).below (one (setting cs4).below none))) in
    one (lit< tt) (both (same 255 2 (lit< tt)) selects)
cs_config_below CeOe = one (lit< tt) (same 255 6 (lit< tt))
cs_config_below (CeOeExplicit ce oe) = one (lit< tt) (one (logic ce).below (one (logic oe).below (same 255 4 (lit< tt))))

-- the description reads back

chip-back : (c : Chip) → ValuedChip c → chip_at (chip_record c) 0 ≡ c
unfolding chip_at joined tab
chip-back c v = λ i. record {
  address_pins = field_back c.address_pins v.address_pins i;
  num_address_pins = c.num_address_pins;
  data_pins = field_back c.data_pins v.data_pins i;
  num_data_pins = c.num_data_pins;
  control = record {
    lines = tab_is (control_line_of c) c.control.lines no_line 8 v.lines (λ j h. refl) i;
    count = c.control.count;
  };
  size = four_back c.size (omega (arith, v.size)) i;
}

multi-back : (d : Description) → ValuedMulti d.multi → multi_at (encoded d) ≡ d.multi
unfolding multi_at encoded joined tab
multi-back d v = λ i. record {
  select = d.multi.select;
  commoned = field_back d.multi.commoned v.commoned i;
  num_commoned = d.multi.num_commoned;
  ignored = field_back d.multi.ignored v.ignored i;
  num_ignored = d.multi.num_ignored;
}

socket-back : (b : Board) → ValuedBoard b → EncodableBoard b
    → tab 40 (λ k. record { gpios = pair_at (pair_bytes (socket_pin_of b k).gpios) 0 }) ≡ b.socket
socket-back b v e =
    tab_is _ b.socket no_pin 40 v.socket (λ k h i. record { gpios = pair-back (socket_pin_of b k).gpios (e.socket k h) i })

board-back : (d : Description) → ValuedBoard d.board → EncodableBoard d.board → board_at (encoded d) ≡ d.board
unfolding board_at encoded joined tab
board-back d v e = λ i. record {
  socket = socket-back d.board v e i;
  pins = d.board.pins;
  x1 = pair-back d.board.x1 e.x1 i;
  x2 = pair-back d.board.x2 e.x2 i;
}

chips-back : (d : Description) → Valued d → tab 4 (λ k. chip_at (chip_record (chip_of d k)) 0) ≡ d.chips
chips-back d v = tab_is _ d.chips no_chip 4 v.chips (λ k h. chip-back (chip_of d k) (v.chip k h))

described-back : (d : Description) → Valued d → Encodable d → described (encoded d) ≡ d
unfolding described cs_config_at chip_at encoded joined tab
described-back d v e = λ i. record {
  board = board-back d v.board e.board i;
  «package» = (package_code d.«package»).back i;
  set_type = (set_type d.set_type).back i;
  word_bytes = d.word_bytes;
  pin_offset = (offset d.pin_offset e.pin_offset).back i;
  max_image_size = four_back d.max_image_size v.max_image_size i;
  chips = chips-back d v i;
  num_chips = d.num_chips;
  cs_config = cs_config_back d.cs_config i;
  has_multi = (flag d.has_multi).back i;
  multi = multi-back d v.multi i;
  qualifiers = field_back d.qualifiers v.qualifiers i;
  num_qualifiers = d.num_qualifiers;
}

-- the record is not refused

head_formed : (d : Description) → Encodable d → head_in (encoded d) ≡ true
unfolding head_in encoded joined tab
head_formed d e = rw ((package_code d.«package»).named, (set_type d.set_type).named, (offset d.pin_offset e.pin_offset).named, (flag d.has_multi).named)

socket-formed : (b : Board) → EncodableBoard b → each 40 (λ k. pair_in (pair_bytes (socket_pin_of b k).gpios) 0) ≡ true
socket-formed b e = each_all _ 40 (λ k h. pair_in_lem (socket_pin_of b k).gpios (e.socket k h))

pairs_formed : (d : Description) → EncodableBoard d.board → pairs_in (encoded d) ≡ true
unfolding encoded joined tab each
pairs_formed d e = λ i. socket-formed d.board e i && pair_in_lem d.board.x1 e.x1 i && pair_in_lem d.board.x2 e.x2 i

formed : (d : Description) → Encodable d → well_formed (encoded d) ≡ true
unfolding well_formed cs_config_in encoded joined tab each
formed d e = λ i. head_formed d e i && cs_config_in_lem d.cs_config i && pairs_formed d e.board i && true

decodes : (d : Description) → Valued d → Encodable d → decoded_of (encoded d) ≡ record { answer = Ok tt; description = d }
decodes d v e = rw (formed d e, described-back d v e)

-- the record is 424 bytes

head_below : (d : Description) → Valued d → OffsetIn d.pin_offset → Below (description_head d)
head_below d v o =
    let numbers = both (four_below d.max_image_size) (four_below 0) in
    let counts = one v.num_chips (one v.num_qualifiers (one (flag d.has_multi).below numbers)) in
    let codes = one (set_type d.set_type).below (one v.word_bytes (one (offset d.pin_offset o).below counts)) in
    one v.board.pins (one (package_code d.«package»).below codes)

multi-below : (m : MultiCsConfig) → ValuedMulti m → Below (multi_bytes m)
multi-below m v =
    let counts = one v.select (one v.num_commoned (one v.num_ignored (same 0 2 (lit< tt)))) in
    both (both counts (field_below v.commoned)) (field_below v.ignored)

board-below : (b : Board) → EncodableBoard b → Below (board_bytes b)
board-below b e =
    let pins = all 40 (λ k. pair_field (socket_pin_of b k).gpios) (λ k h. pair_field-below (socket_pin_of b k).gpios (e.socket k h)) in
    both (both pins (pair_field-below b.x1 e.x1)) (pair_field-below b.x2 e.x2)

chip-below : (c : Chip) → ValuedChip c → Below (chip_record c)
chip-below c v =
    let counts = one v.num_address_pins (one v.num_data_pins (one v.count (same 0 1 (lit< tt)))) in
    let lines = all 8 (λ k. line_bytes (control_line_of c k)) (λ k h. one (v.kinds k) (one (v.pins k) (same 0 1 (lit< tt)))) in
    both (both (both (both (four_below c.size) counts) (field_below v.address_pins)) (field_below v.data_pins)) lines

encoded-below : (d : Description) → Valued d → Encodable d → Below (encoded d)
unfolding encoded
encoded-below d v e =
    let settings = every 7 (λ k. get_or (cs_config_bytes d.cs_config) k 0) (below_at (cs_config_below d.cs_config)) in
    let multi = both (both (head_below d v e.pin_offset) settings) (multi-below d.multi v.multi) in
    let board = both (both multi (field_below v.qualifiers)) (board-below d.board e.board) in
    both board (all 4 (λ k. chip_record (chip_of d k)) (λ k h. chip-below (chip_of d k) (v.chip k h)))

encoded-bytes : (d : Description) → Valued d → Encodable d → Bytes record_size (encoded d)
unfolding encoded joined tab
encoded-bytes d v e = record { long = refl; each = below_at (encoded-below d v e) }

-- every description in the domain has bytes that decode to it
pub in_domain_decodes : (d : Description) → Valued d → description_in d ≡ true
    → Bytes record_size (encoded d) × (decoded_of (encoded d) ≡ record { answer = Ok tt; description = d })
in_domain_decodes d v h =
    let e = in_domain d h in
    (encoded-bytes d v e, decodes d v e)
