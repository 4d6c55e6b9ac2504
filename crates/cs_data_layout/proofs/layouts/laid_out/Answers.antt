-- `laid_out` meets its contract. Assumes nothing.
use mathlib.Core.Path.{◌≡◌, refl, sym, ◌∙◌}
use mathlib.Core.Bool.{Bool, true, false, cond}
use mathlib.Core.List.{List}
use Prim.Native.Nat.{ℕ, ◌+◌, ◌≤◌}
use native.Mathlib.Omega.{arith}
use lib.Dec.{ltb}
use lib.ListN.{length, get_or, length-take, length-map, get_or-eq_default}
use borrow.Author.Tests.{ltb-true, ltb-false}
use Rattle.lists.specs.Tab.{tab}
use Rattle.lists.proofs.Tab.{tab-length, get_or-tab, tab_cong}
use Rattle.slot.specs.declared.description.Description.{Description}
use Rattle.listing.specs.Choice.{gpio_at}
use Rattle.listing.specs.Design.Packed.{list_of}
use Rattle.listing.proofs.Walked.{gpio-past}
use Rattle.listing.specs.declared.Listed.{Listed}
use Rattle.addr_layout.specs.declared.layout.AddrLayout.{AddrLayout}
use Rattle.cs_roles.specs.Roles.{select_roles}
use Rattle.cs_choices.specs.Design.Parts.{sets_of}
use Rattle.cs_verdict.specs.Verdict.{all_of, base_of}
use Rattle.cs_choices.specs.declared.choices.Sets.{Sets}
use Rattle.cs_data_layout.specs.Choices.{num_data, excess_set, qualifier_set, select_line, commoned_line, cs_data_layout_from, cs_data_layout_of}
use Rattle.cs_data_layout.specs.declared.layout.CsDataLayout.{CsDataLayout}
use Rattle.cs_data_layout.proofs.layouts.laid_out.Goals as goal

module _ (ls : List Listed) (c : ℕ) where
  -- the resolved pins read as those of the list, past the array's end too
  gpio-read : (k : ℕ) (t : Bool) → ltb k 30 ≡ t → length ls ≤ 30 → get_or (tab 30 (λ j. gpio_at ls c j)) k 0 ≡ gpio_at ls c k
  gpio-read k true t h = get_or-tab (λ j. gpio_at ls c j) 30 k 0 (ltb-true k 30 t)
  gpio-read k false t h =
      let l = ltb-false k 30 t in
      get_or-eq_default (tab 30 (λ j. gpio_at ls c j)) 0 (rw (tab-length (λ j. gpio_at ls c j) 30) l) ∙ sym (gpio-past ls c k (omega arith))

-- equal GPIOs make equal layouts
layouts_agree : (d : Description) (h : AddrLayout) (f g : ℕ → ℕ) (x y base : ℕ) → ((k : ℕ) → f k ≡ g k)
    → cs_data_layout_from d h f x y base ≡ cs_data_layout_from d h g x y base
layouts_agree d h f g x y base e =
    rw (
      tab_cong (λ k. cond (ltb k (num_data d)) (f k) 0) (λ k. cond (ltb k (num_data d)) (g k) 0) 16 (λ k l. rw (e k)),
      tab_cong (λ k. select_line (select_roles d) h (λ j. f (num_data d + j)) k) (λ k. select_line (select_roles d) h (λ j. g (num_data d + j)) k) 30 (λ k l. rw (e (num_data d + k))),
      tab_cong (λ k. commoned_line d (λ j. f (num_data d + length (select_roles d) + j)) k) (λ k. commoned_line d (λ j. g (num_data d + length (select_roles d) + j)) k) 6
          (λ k l. rw (e (num_data d + length (select_roles d) + k))),
    )

laid : (d : Description) (h : AddrLayout) (ls : List Listed) (c n excess q : ℕ) (gs : List ℕ) (s : Sets) (r : CsDataLayout) → length ls ≤ 30 → n ≡ num_data d → excess ≡ excess_set h
    → q ≡ qualifier_set d h → gs ≡ tab 30 (λ k. gpio_at ls c k) → s ≡ sets_of ls n excess c
    → r ≡ cs_data_layout_from d h (λ k. get_or gs k 0) s.data_gpios s.select_gpios (base_of (all_of s.data_gpios s.select_gpios q))
    → r ≡ cs_data_layout_of d h ls c
laid d h ls c n excess q gs s r few en ex eq eg es e =
    (rw (eg, es, eq, ex, en) at e) ∙ layouts_agree d h _ _ _ _ _ (λ k. gpio-read ls c k (ltb k 30) refl few)

pub returns : goal.returns
returns c =
    let a = c.args in
    let p = c.requires in
    let few : length (list_of a.l) ≤ 30 = simp (length-take, length-map) (omega arith) in
    laid a.d a.h (list_of a.l) a.choice _ _ _ _ _ _ few p.data_number p.excess p.lines.qualifiers c.resolve.ensures c.whole.ensures c.layout.ensures
