-- What the definitions that the contracts cite answer, in the words of document 01's bench cases. Assumes nothing.
use Rattle.std.specs.Prelude.{ℕ, cond, List, ℤ, get_or, replicate, Option, Some, None, Result, Ok, Err}
use Rattle.gpio.specs.Window.{fits}
use Rattle.refusal.specs.Refusal.{number_of, place_of}
use Rattle.slot.specs.SlotContext.{offset_answer}
use Rattle.slot.specs.declared.description.Description.{Description}
use Rattle.refusal.specs.declared.Refusal.{Refusal}
use Rattle.search.specs.declared.Found.{Found}
use Rattle.addr_layout.specs.Search.{addr_best, addr_answer}
use Rattle.addr_layout.specs.declared.layout.AddrLayout.{AddrLayout}
use Rattle.cs_data_layout.specs.Search.{cs_data_answer}
use Rattle.cs_data_layout.specs.declared.layout.CsDataLayout.{CsDataLayout}
use Rattle.build_args.specs.Faults.{table_size}
use Rattle.build_args.specs.Args.{args_of}
use Rattle.words.specs.declared.ByteOrder.TheVariants.{LowFirst}
use Rattle.rom_image.specs.Build.{build_of}
use Rattle.joint_table.specs.Slots.{not_given, address_lines, spans}

pub data Told : Type 0 where
  Fits : Told
  DoesNotFit : Told
  Offset : ℤ → Told
  -- a refusal: its number, and its place
  Number : ℕ → ℕ → Told
  -- the third address line's GPIO, and the score
  Taken : ℕ → ℕ → Told
  IgnoreAt : ℕ → Told
  IgnoreNone : Told
  Entry : ℕ → Told

abbrev pub told_refused : Refusal → Told
told_refused why = Number (number_of why) (place_of why)

-- 01 Bench 1: whether a span from a base fits
abbrev pub window : ℕ → ℕ → Told
window base span = cond (fits base span) Fits DoesNotFit

-- the socket offset
abbrev pub offset_told : Result ℤ Refusal → Told
offset_told (Ok by) = Offset by
offset_told (Err why) = told_refused why

-- 01 Bench 2: the offset of a chip of so many pins in a board of so many, or a refusal
abbrev pub offset_for : ℕ → ℕ → Told
offset_for chip board = offset_told (offset_answer chip board)

-- the address search
abbrev pub found_score : Option Found → ℕ
found_score None = 0
found_score (Some f) = f.score

abbrev pub address_told : Result AddrLayout Refusal → ℕ → Told
address_told (Ok layout) score = Taken (get_or layout.gpios 2 0) score
address_told (Err why) score = told_refused why

-- 01 Bench 3: where the third line went and the score, or a refusal
abbrev pub address_search : Description → Told
address_search d = address_told (addr_answer d) (found_score (addr_best d))

-- the select search
abbrev pub ignore_told : Option ℕ → Told
ignore_told None = IgnoreNone
ignore_told (Some k) = IgnoreAt k

abbrev pub select_told : Result CsDataLayout Refusal → Told
select_told (Ok layout) = ignore_told layout.cs_ignore_index
select_told (Err why) = told_refused why

-- 01 Bench 4: the ignore index, if there is one, or a refusal
abbrev pub select_search : Description → Told
select_search d = select_told (cs_data_answer d not_given)

-- the build
abbrev pub built_told : Result (Unit {0}) Refusal → List ℕ → ℕ → Told
built_told (Ok tt) table i = Entry (get_or table i 0)
built_told (Err why) table i = told_refused why

-- the entry at an index, of one byte
-- 01 Bench 5: the entry of a table that is built by data lines c
-- 01 Bench 6: the entry of a table that is built for a chip of d's size
abbrev pub entry_of : Description → CsDataLayout → List ℕ → ℕ → Told
entry_of d c bytes i =
    let b = build_of LowFirst (args_of d address_lines c (spans bytes)) bytes (replicate (table_size d address_lines) 0) in
    built_told b.answer b.table i
