-- What the data lines of a choice's layout keep, and how many lines there are. Assumes nothing.
use Rattle.std.specs.Prelude.{Option}
use mathlib.Core.Path.{◌≡◌, refl, sym, ◌∙◌}
use mathlib.Core.Bool.{true, cond}
use Prim.Native.Nat.{ℕ, ◌+◌, ◌<◌}
use native.Mathlib.Omega.{arith}
use lib.Dec.{ltb}
use lib.ListN.{length}
use borrow.Author.Tests.{lt-ltb}
use Rattle.gpio.specs.Law.{In}
use Rattle.gpio.specs.Set.{lowest}
use Rattle.gpio.proofs.Members.{set-held, lowest_of, member_low, gapless-below}
use Rattle.lists.proofs.Tab.{get_or-tab}
use Rattle.slot.specs.Description.{is_multi}
use Rattle.slot.specs.declared.description.Description.{Description}
use Rattle.domain.proofs.Bounds.{chip0_in}
use Rattle.listing.specs.Choice.{CandidateOf}
use Rattle.listing.specs.Law.{Assigned}
use Rattle.cs_pins.specs.Pins.{kind_listed, numbered}
use Rattle.cs_roles.specs.Roles.{select_roles}
use Rattle.cs_data_layout.specs.Layout.{handed}
use Rattle.cs_data_layout.specs.Choices.{num_data, cs_data_layout_of}
use Rattle.addr_layout.specs.declared.layout.AddrLayout.{AddrLayout}
use Rattle.cs_data_layout.specs.declared.layout.CsDataLayout.{CsDataLayout}
use Rattle.cs_data_law.specs.Law.{PastTests, choice, data_picked, all_picked, Fit}
use Rattle.cs_data_law.specs.Sound.{data_gpio, select_gpio, SoundLayout}
use Rattle.cs_data_law.proofs.Counts.{select_roles_lem, numbered-length, data-pin, multi-pin, kind_on}
use Rattle.cs_data_law.proofs.Faults.{some-select}
use Rattle.cs_data_law.proofs.Lines.{in_domain, select-few, commoned-most, sound-lines}
use Rattle.cs_data_law.proofs.Parts.{base-below, data-all, gpio-most}

module _ (d : Description) (a : Option AddrLayout) (past : PastTests d a) (c : ℕ) where
  abbrev gpio : ℕ → ℕ
  gpio k = choice d c k

  abbrev all : ℕ
  all = all_picked d a (choice d c)

  abbrev laid : CsDataLayout
  laid = cs_data_layout_of d (handed a) (numbered d) c

  pub data_is : (k : ℕ) → k < num_data d → data_gpio laid k ≡ gpio k
  data_is k l =
      let most = (chip0_in d (in_domain d a past)).data-pins in
      get_or-tab (λ j. cond (ltb j (num_data d)) (gpio j) 0) 16 k 0 (omega arith) ∙ rw (lt-ltb k (num_data d) l)

  pub data-held : (k : ℕ) → k < num_data d → In all (gpio k)
  data-held k l = data-all d a (choice d c) (gpio k) (set-held (num_data d) gpio k l)

  -- the lowest data GPIO is one of them, and the base and the base data pin added up
  data-lowest : (k : ℕ) × (k < num_data d) × (gpio k ≡ lowest (data_picked d (choice d c)))
  data-lowest = lowest_of (num_data d) gpio (λ j q. gpio-most d a past c j) (chip0_in d (in_domain d a past)).data-pins.0

  data-base : laid.gpio_base + laid.base_data_pin ≡ lowest (data_picked d (choice d c))
  data-base = let (k, l, e) = data-lowest in omega (arith, base-below all (gpio k) (data-held k l))

  module _ (candidate : Assigned (numbered d) (choice d c)) (fit : Fit d a (choice d c)) where
    some_roles : 0 < length (select_roles d)
    some_roles = omega (arith, some-select d a past.no_fault, select_roles_lem d)

    -- in Multi the first select GPIO is that of the select's pin
    select-first : is_multi d.set_type ≡ true → CandidateOf (kind_listed d d.multi.select).gpios (select_gpio laid 0)
    select-first m = rw (← multi-pin d m) ((sound-lines d a past c candidate).select-candidate 0 some_roles)

    pub sound-layout : SoundLayout d c laid
    sound-layout = record {
      data-count = refl;
      data-gpio = data_is;
      data-candidate = λ k l. rw (data_is k l, ← data-pin d k l) (candidate k (omega (arith, numbered-length d)));
      data_in = λ k l. rw (data_is k l) (gpio-most d a past c k);
      data-above = λ k l. rw (data-base, data_is k l) (member_low (num_data d) gpio (λ j q. gpio-most d a past c j) k l);
      data-attained = let (k, l, e) = data-lowest in (k, l, data_is k l ∙ e ∙ sym data-base);
      data-below = λ differ k l.
          rw (data-base, data_is k l)
          (gapless-below (num_data d) gpio (λ j q. gpio-most d a past c j) fit.data-gapless (λ i j p q e. differ i j p q (data_is i p ∙ e ∙ sym (data_is j q))) k l);
      select-count = select-few d a past;
      commoned-count = commoned-most d a past;
      some-select = omega (arith, some_roles);
      select-on = λ m. (kind_on d d.multi.select (select_gpio laid 0) (select-first m)).0;
      select-candidate = λ m. (kind_on d d.multi.select (select_gpio laid 0) (select-first m)).1;
    }
