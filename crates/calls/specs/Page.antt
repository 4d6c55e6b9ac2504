-- What `onerom_write_page` answers, and what the page lent to it holds then. Assumes nothing.
use Rattle.std.specs.Prelude.{ℕ, ◌/◌, ◌%◌, ◌^◌, ◌≡◌, Bool, ◌&&◌, cond, List, Err}
use Rattle.refusal.specs.Refusal.{write_code}
use Rattle.refusal.specs.declared.Refusal.TheVariants.{OutOfDomain}
use Rattle.addr_record.specs.AddrRecord.{layout_at, layout_formed}
use Rattle.cs_data_record.specs.CsDataRecord.{cs_data_at, cs_data_formed}
use Rattle.hex_write.specs.Write.{Wrote, wrote_as}
use Rattle.pin_page.specs.Page.{page_of}
use Rattle.calls.specs.Packed.{write_result_of}

-- both layouts: here each has to be a record
abbrev pub layouts_formed : List ℕ → List ℕ → Bool
layouts_formed addr csData = layout_formed addr && cs_data_formed csData

abbrev pub page_from : List ℕ → List ℕ → List ℕ → Wrote
page_from addr csData page = page_of (layout_at addr) (cs_data_at csData) page

-- `onerom_write_page` of the bytes of both layouts, and of a lent page
-- 01 Number 1: the bytes are no layout records
-- 01 Numbers 2: such bytes are refused before anything is done with a layout
unfoldable pub page_call : List ℕ → List ℕ → List ℕ → Wrote
page_call addr csData page = cond (layouts_formed addr csData) (page_from addr csData page) (wrote_as (Err OutOfDomain) page)

-- number and place, or the length that is written, come out of the one number
pub record PageUnpacks : Type 0 where
  pub number : (addr csData page : List ℕ)
      → write_result_of (page_call addr csData page).answer / 2 ^ 48 ≡ (write_code (page_call addr csData page).answer).number
  pub place : (addr csData page : List ℕ)
      → write_result_of (page_call addr csData page).answer % 2 ^ 48 ≡ (write_code (page_call addr csData page).answer).place
