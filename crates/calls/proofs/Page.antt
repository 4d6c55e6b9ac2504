-- What writing a page answers fits into the one number. Assumes nothing.
use Rattle.std.specs.Prelude.{Err}
use mathlib.Core.Bool.{Bool, true, false, cond}
use mathlib.Core.List.{List}
use Prim.Native.Nat.{ℕ, ◌^◌, ◌<◌}
use native.Mathlib.Omega.{arith}
use Rattle.refusal.specs.Refusal.{write_code}
use Rattle.refusal.specs.declared.Refusal.TheVariants.{OutOfDomain}
use Rattle.addr_record.specs.AddrRecord.{layout_at}
use Rattle.cs_data_record.specs.CsDataRecord.{cs_data_at}
use Rattle.hex_write.specs.Write.{wrote_as, written}
use Rattle.pin_page.specs.Page.{page_text, layouts_in, page_of}
use Rattle.pin_page.proofs.Writes.{page-long}
use Rattle.calls.specs.Page.{layouts_formed, page_call, PageUnpacks}
use Rattle.calls.proofs.Unpacked.{number-back, place-back, written_small}

-- a refusal by 1 has no place, and a page has 432 bytes
page-small : (addr csData page : List ℕ) → (write_code (page_call addr csData page).answer).place < 2 ^ 48
unfolding page_call page_of
page-small addr csData page =
    by (layouts_formed addr csData) (layouts_in (layout_at addr) (cs_data_at csData))
  where
    text : List ℕ
    text = page_text (layout_at addr) (cs_data_at csData)

    by : (t u : Bool)
        → (write_code (cond t (cond u (written text page) (wrote_as (Err OutOfDomain) page)) (wrote_as (Err OutOfDomain) page)).answer).place < 2 ^ 48
    by true true = written_small text page (omega (arith, page-long (layout_at addr) (cs_data_at csData)))
    by true false = omega arith
    by false u = omega arith

pub page_unpacks : PageUnpacks
page_unpacks = record {
  number = λ addr csData page. number-back _;
  place = λ addr csData page. place-back _ (page-small addr csData page);
}
