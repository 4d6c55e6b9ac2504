-- A well wired slot as document 01 has it, as a test of a description and of the address layout found. Assumes nothing.
use Rattle.std.specs.Prelude.{ℕ, ◌+◌, ◌*◌, Bool, true, false, ◌&&◌, ◌||◌, not, cond, leb, ltb, eqb}
use Rattle.lists.specs.Each.{each}
use Rattle.gpio.specs.Candidates.{two}
use Rattle.gpio.specs.declared.candidates.Candidates.{Candidates}
use Rattle.gpio.specs.declared.candidates.Candidates.TheVariants.{Absent, One, Two}
use Rattle.slot.specs.Description.{is_single, is_multi}
use Rattle.slot.specs.declared.description.Board.{Board}
use Rattle.slot.specs.declared.description.Description.{Description}
use Rattle.listing.specs.Lines.{pin_candidates}
use Rattle.addr_lines.specs.Range.{in_range}
use Rattle.addr_layout.specs.declared.layout.AddrLayout.{AddrLayout}
use Rattle.cs_data_layout.specs.Choices.{num_data}
use Rattle.premises.specs.WellWired.{BoardPin, candidates_of, address_pin, data_pin, select_pin}
use Rattle.premises.specs.WellWired.BoardPin.{socket, x1, x2}

-- the pins of a board by number, its socket having n pins: the socket's from 0, then X1, then X2
abbrev pub pin_numbered : ℕ → ℕ → BoardPin
pin_numbered n i = cond (ltb i n) (socket (i + 1)) (cond (eqb i n) x1 x2)

abbrev pub board_pin : ℕ → Board → ℕ → Candidates
board_pin n b i = candidates_of b (pin_numbered n i)

-- whether a GPIO is one of a pin's candidates
abbrev pub holds : Candidates → ℕ → Bool
holds Absent g = false
holds (One a) g = eqb g a
holds (Two a b) g = eqb g a || eqb g b

-- whether two pins have no candidate in common
abbrev pub disjoint : Candidates → Candidates → Bool
disjoint Absent e = true
disjoint (One a) e = not (holds e a)
disjoint (Two a b) e = not (holds e a) && not (holds e b)

-- 01 Well wired 2: pin i has no candidate in common with another pin of the board
unfoldable pub alone_at : ℕ → Board → ℕ → Bool
alone_at n b i = each (n + 2) (λ j. eqb i j || disjoint (board_pin n b i) (board_pin n b j))

-- 01 Well wired 2: no two of the socket's n pins, X1 and X2 have a candidate in common
unfoldable pub unshared_among : ℕ → Board → Bool
unshared_among n b = each (n + 2) (λ i. alone_at n b i)

-- 01 Well wired 2: the socket has as many pins as the board says
abbrev pub unshared : Board → Bool
unshared b = unshared_among b.pins b

-- whether no other of n lines lies on the pin of line j, and whether no two of them lie on one pin
unfoldable pub apart_from : ℕ → (ℕ → ℕ) → ℕ → Bool
apart_from n pin j = each n (λ k. eqb j k || not (eqb (pin j) (pin k)))

unfoldable pub apart : ℕ → (ℕ → ℕ) → Bool
apart n pin = each n (λ j. apart_from n pin j)

-- whether none of n lines lies on a pin
unfoldable pub none_on : ℕ → (ℕ → ℕ) → ℕ → Bool
none_on n pin p = each n (λ k. not (eqb (pin k) p))

-- 01 Well wired 1: an address line is in use where its number is below inRange
-- 01 Well wired 3: no two address lines in use share a chip pin
abbrev pub lines_apart : Description → Bool
lines_apart d = apart (in_range d) (λ n. address_pin d n)

-- 01 Well wired 3: no address line in use shares the chip pin of the select
abbrev pub select_apart : Description → Bool
select_apart d = none_on (in_range d) (λ n. address_pin d n) (select_pin d)

-- 01 Well wired 4: no two data lines share a chip pin
abbrev pub data_apart : Description → Bool
data_apart d = apart (num_data d) (λ n. data_pin d n)

-- 01 Well wired 4: the chip has 8w data lines
abbrev pub data_lines_whole : Description → Bool
data_lines_whole d = eqb (num_data d) (8 * d.word_bytes)

-- 01 Well wired 5: the pin of the select does not have two candidates
abbrev pub select_one : Description → Bool
select_one d = not (two (pin_candidates d (select_pin d)))

-- 01 Well wired 6: the list of qualifiers is empty
abbrev pub unqualified : Description → Bool
unqualified d = eqb d.num_qualifiers 0

-- the window of the address layout
abbrev pub in_addr_window : AddrLayout → ℕ → Bool
in_addr_window a g = leb a.gpio_base g && ltb g (a.gpio_base + a.num_addr_pins)

abbrev pub one_of : Bool → Bool → Bool → Bool
one_of first second same = (first || second) && (not first || not second || same)

-- 01 Well wired 7: a candidate of the pin is in the window, and no other is
abbrev pub one_in_addr_window : AddrLayout → Candidates → Bool
one_in_addr_window a Absent = false
one_in_addr_window a (One g) = in_addr_window a g
one_in_addr_window a (Two g h) = one_of (in_addr_window a g) (in_addr_window a h) (eqb g h)

-- the sentences in their order
-- 01 Well wired 3: select_apart is asked for in Multi only
-- 01 Well wired 5: select_one is asked for in Multi only
-- 01 Well wired 6: that there are no qualifiers is asked for in Multi only
-- 01 Well wired 7: one_in_addr_window is asked for of X1 outside of Single, and of X2 there from three chips on
unfoldable pub wired : Description → AddrLayout → Bool
wired d a =
    unshared d.board
    && lines_apart d
    && (not (is_multi d.set_type) || select_apart d)
    && data_apart d
    && data_lines_whole d
    && (not (is_multi d.set_type) || select_one d)
    && (not (is_multi d.set_type) || unqualified d)
    && (is_single d.set_type || one_in_addr_window a d.board.x1)
    && (is_single d.set_type || (not (leb 3 d.num_chips) || one_in_addr_window a d.board.x2))
