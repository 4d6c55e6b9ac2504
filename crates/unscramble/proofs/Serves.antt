-- What an entry for a word of a ROM says, and that a ROM that is picked is one of the slot's. Assumes nothing.
use Rattle.std.specs.Prelude.{Option, Some, None}
use mathlib.Core.Path.{◌≡◌, refl, ap}
use mathlib.Core.Bool.{Bool, true, ◌&&◌}
use Prim.Native.Nat.{ℕ, ◌<◌}
use lib.Dec.{ltb, eqb}
use borrow.Author.Tests.{ltb-true, lt-ltb, eqb-true, eq-eqb}
use Rattle.lists.proofs.Bools.{and_left, and_right}
use Rattle.bits.proofs.Gathered.{gather_lt}
use Rattle.slot.specs.declared.description.ChipSetType.{ChipSetType}
use Rattle.picks.specs.Picks.{picks_of, chips_fit}
use Rattle.picks.proofs.Picking.{picked-below}
use Rattle.stored_slot.specs.Stored.{free}
use Rattle.unscramble.specs.Words.{rom_picked, address_at, picks_rom, serves}
use Rattle.stored_slot.specs.Words.{rom_words, stored_pick_position}
use Rattle.stored_slot.specs.declared.stored.StoredSlot.{StoredSlot}

picks_is : (p : Option ℕ) (rom : ℕ) → picks_rom p rom ≡ true → p ≡ Some rom
picks_is None rom e = cc
picks_is (Some k) rom e = ap Some (eqb-true k rom e)

module _ (s : StoredSlot) (set : ChipSetType) where
  pub picked-there : chips_fit set s.num_roms ≡ true → (rom i : ℕ) → rom_picked s set i ≡ Some rom → rom < s.num_roms
  unfolding rom_picked
  picked-there fit rom i p =
      picked-below set s.num_roms _ rom fit (gather_lt (picks_of set s.num_roms) (stored_pick_position s set) i) p

  module _ (rom n : ℕ) where
    module _ (i : ℕ) (e : serves s set rom n i ≡ true) where
      abbrev own : Bool
      own = free s i && picks_rom (rom_picked s set i) rom

      abbrev there : Bool
      there = eqb (address_at s rom i) n

      all_but_last : own && there ≡ true
      unfolding serves
      all_but_last = and_left (own && there) (ltb n (rom_words s rom)) e

      pub serves-free : free s i ≡ true
      serves-free = and_left (free s i) (picks_rom (rom_picked s set i) rom) (and_left own there all_but_last)

      pub serves-picks : rom_picked s set i ≡ Some rom
      serves-picks = picks_is _ rom (and_right (free s i) (picks_rom (rom_picked s set i) rom) (and_left own there all_but_last))

      pub serves-address : address_at s rom i ≡ n
      serves-address = eqb-true (address_at s rom i) n (and_right own there all_but_last)

      pub serves-counted : n < rom_words s rom
      unfolding serves
      serves-counted = ltb-true n (rom_words s rom) (and_right (own && there) (ltb n (rom_words s rom)) e)

    pub serves_is : (i : ℕ) → free s i ≡ true → rom_picked s set i ≡ Some rom → address_at s rom i ≡ n → n < rom_words s rom → serves s set rom n i ≡ true
    unfolding serves
    serves_is i f p q r = rw (f, p, eq-eqb rom rom refl, eq-eqb (address_at s rom i) n q, lt-ltb n (rom_words s rom) r)
