-- What the select and commoned lines of a choice's layout are. Assumes nothing.
use Rattle.std.specs.Prelude.{Option}
use mathlib.Core.Path.{◌≡◌, refl, ◌∙◌, ap}
use mathlib.Core.Bool.{Bool, true, false, cond}
use Prim.Native.Nat.{ℕ, ◌+◌, ◌-◌, ◌≤◌, ◌<◌}
use native.Mathlib.Omega.{arith}
use lib.ListN.{length, get_or}
use borrow.Author.Tests.{lt-ltb, le-ltb}
use Rattle.lists.proofs.Bools.{and_left, and_right}
use Rattle.lists.proofs.Tab.{get_or-tab}
use Rattle.slot.specs.Description.{is_multi}
use Rattle.slot.specs.declared.description.Description.{Description}
use Rattle.domain.specs.Domain.{description_in}
use Rattle.domain.proofs.Bounds.{config_in}
use Rattle.listing.specs.Choice.{CandidateOf, pin_at}
use Rattle.listing.specs.Law.{Assigned}
use Rattle.cs_pins.specs.Pins.{select_listed, commoned_listed, numbered, cs_search_in}
use Rattle.cs_roles.specs.Roles.{select_roles, half_role}
use Rattle.cs_data_layout.specs.Layout.{line, handed}
use Rattle.cs_data_layout.specs.Choices.{num_data, excess_gpio, select_line, num_commoned, commoned_line, cs_data_layout_of}
use Rattle.cs_data_layout.specs.Search.{given_in}
use Rattle.addr_layout.specs.declared.layout.AddrLayout.{AddrLayout}
use Rattle.cs_data_layout.specs.declared.layout.SelectLine.{SelectLine}
use Rattle.cs_data_layout.specs.declared.layout.CsDataLayout.{CsDataLayout}
use Rattle.cs_data_layout.proofs.Bounds.{described, few-lines}
use Rattle.cs_data_layout.proofs.Searched.{handed_in}
use Rattle.cs_data_law.specs.Law.{PastTests, choice}
use Rattle.cs_data_law.specs.Sound.{select_at, select_gpio, commoned_at, commoned_gpio, SoundLines}
use Rattle.cs_data_law.proofs.Counts.{few_roles, select_roles_lem, numbered-length, select-pin, commoned-pin, commoned-length}

module _ (d : Description) (a : Option AddrLayout) (past : PastTests d a) where
  pub in_domain : description_in d ≡ true
  in_domain = described d (and_left (cs_search_in d) (given_in d a) past.domain)

  pub given_in_lem : given_in d a ≡ true
  given_in_lem = and_right (cs_search_in d) (given_in d a) past.domain

  abbrev roles : ℕ
  roles = length (select_roles d)

  -- they have a place each
  pub select-few : roles + (handed a).num_excess ≤ 30
  select-few = omega (arith, few_roles d in_domain, few-lines (handed a) (handed_in d a given_in_lem))

  commoned-few : (t : Bool) → is_multi d.set_type ≡ t → cond t d.multi.num_commoned 0 ≤ 6
  commoned-few true e = (config_in d in_domain e).commoned-lines
  commoned-few false e = omega arith

  pub commoned-most : num_commoned d ≤ 6
  commoned-most = commoned-few (is_multi d.set_type) refl

  module _ (c : ℕ) where
    abbrev laid : CsDataLayout
    laid = cs_data_layout_of d (handed a) (numbered d) c

    select_is : (k : ℕ) → k < roles + (handed a).num_excess → select_at laid k ≡ select_line (select_roles d) (handed a) (λ j. choice d c (num_data d + j)) k
    select_is k l = get_or-tab (λ j. select_line (select_roles d) (handed a) (λ i. choice d c (num_data d + i)) j) 30 k (line 0 0) (omega (arith, select-few))

    pub select_line_lem : (k : ℕ) → k < roles → select_at laid k ≡ line (get_or (select_roles d) k 0) (choice d c (num_data d + k))
    select_line_lem k l = select_is k (omega arith) ∙ rw (lt-ltb k roles l)

    pub excess-line : (k : ℕ) → k < (handed a).num_excess → select_at laid (roles + k) ≡ line half_role (excess_gpio (handed a) k)
    excess-line k l =
        let at : roles + k - roles ≡ k = omega arith in
        select_is (roles + k) (omega arith) ∙ rw (le-ltb (roles + k) roles (omega arith), lt-ltb (roles + k) (roles + (handed a).num_excess) (omega arith), at)

    pub commoned-line : (k : ℕ) → k < num_commoned d → commoned_at laid k ≡ line (get_or d.multi.commoned k 0) (choice d c (num_data d + roles + k))
    commoned-line k l =
        get_or-tab (λ j. commoned_line d (λ i. choice d c (num_data d + roles + i)) j) 6 k (line 0 0) (omega (arith, commoned-most)) ∙ rw (lt-ltb k (num_commoned d) l)

    -- their GPIOs
    pub select-gpio : (k : ℕ) → k < roles → select_gpio laid k ≡ choice d c (num_data d + k)
    select-gpio k l = ap (λ (x : SelectLine). x.gpio) (select_line_lem k l)

    pub excess-gpio : (k : ℕ) → k < (handed a).num_excess → select_gpio laid (roles + k) ≡ excess_gpio (handed a) k
    excess-gpio k l = ap (λ (x : SelectLine). x.gpio) (excess-line k l)

    pub commoned-gpio : (k : ℕ) → k < num_commoned d → commoned_gpio laid k ≡ choice d c (num_data d + roles + k)
    commoned-gpio k l = ap (λ (x : SelectLine). x.gpio) (commoned-line k l)

    module _ (candidate : Assigned (numbered d) (choice d c)) where
      select_of : (k : ℕ) → k < roles → CandidateOf (pin_at (select_listed d) k) (select_gpio laid k)
      select_of k l = rw (select-gpio k l, ← select-pin d k (omega (arith, select_roles_lem d))) (candidate (num_data d + k) (omega (arith, numbered-length d)))

      commoned_of : (k : ℕ) → k < num_commoned d → CandidateOf (pin_at (commoned_listed d) k) (commoned_gpio laid k)
      commoned_of k l = rw (commoned-gpio k l, ← commoned-pin d k) (candidate (num_data d + roles + k) (omega (arith, numbered-length d, commoned-length d)))

      pub sound-lines : SoundLines d a c laid
      sound-lines = record {
        num_select = refl;
        select = select_line_lem;
        select-candidate = select_of;
        excess = excess-line;
        commoned_number = refl;
        commoned = commoned-line;
        commoned-candidate = commoned_of;
      }
