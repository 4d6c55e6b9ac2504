-- The page of two layouts, what the call answers, and what the lent page holds then. Assumes nothing.
use Rattle.std.specs.Prelude.{ℕ, Bool, ◌&&◌, cond, List, Err}
use Rattle.lists.specs.Tab.{joined}
use Rattle.refusal.specs.declared.Refusal.TheVariants.{OutOfDomain}
use Rattle.addr_layout.specs.Layout.{layout_in}
use Rattle.addr_layout.specs.declared.layout.AddrLayout.{AddrLayout}
use Rattle.cs_data_layout.specs.declared.layout.CsDataLayout.{CsDataLayout}
use Rattle.build_args.specs.Domain.{cs_data_in}
use Rattle.hex_write.specs.Write.{Wrote, wrote_as, written}
use Rattle.page_rows.specs.Rows.{row_text}
use Rattle.pin_page.specs.Roles.{role_of}

-- 02 Slip 4 1: 48 rows, that of GPIO 0 first
unfoldable pub page_text : AddrLayout → CsDataLayout → List ℕ
page_text a c = joined 48 (λ g. row_text g (role_of a c g))

-- 01 Number 1: one of the layouts is outside the domain
abbrev pub layouts_in : AddrLayout → CsDataLayout → Bool
layouts_in a c = layout_in a && cs_data_in c

-- 01 Numbers 2: the domain is tested first
-- 02 Slip 1 8: then the page's length is returned, and what stands behind it stays; too short a buffer is refused by 16
unfoldable pub page_of : AddrLayout → CsDataLayout → List ℕ → Wrote
page_of a c page = cond (layouts_in a c) (written (page_text a c) page) (wrote_as (Err OutOfDomain) page)
