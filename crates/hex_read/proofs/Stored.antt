-- What is stored of a text, byte by byte and line by line. Assumes nothing.
use Rattle.std.specs.Prelude.{None}
use mathlib.Core.Path.{◌≡◌, refl, ◌∙◌, subst}
use mathlib.Core.Bool.{Bool, true, false, cond}
use mathlib.Core.List.{List, [], ◌∷◌}
use Prim.Native.Nat.{ℕ, ◌+◌, ◌-◌, ◌≤◌}
use native.Mathlib.Numerals.{add-one}
use native.Mathlib.Omega.{arith}
use lib.ListN.{length, take, drop, set}
use Rattle.lists.specs.Tab.{tab}
use Rattle.lists.proofs.Tab.{tab-length}
use Rattle.laid_bytes.specs.Laid.{laid}
use Rattle.laid_bytes.proofs.Laids.{laid_one, laid-length}
use Rattle.hex_record.specs.Record.{count_of, data_byte, data_of, is_data, address_of, line_fault, upper_after}
use Rattle.hex_record.proofs.Shapes.{Sound, sound-line, data-inside, bytes-there}
use Rattle.hex_read.specs.Lines.{lines_of}
use Rattle.hex_read.specs.Read.{stored_by, stored}
use Rattle.hex_read.specs.Design.Places.{FirstLine, DataFits, AllSound}
use Rattle.hex_read.proofs.Verdicts.{tail}

-- a loop that stores data bytes: before the first turn, one turn, and the end
pub data-none : (line chip : List ℕ) (at : ℕ) → chip ≡ laid chip at (tab 0 (data_byte line))
unfolding laid tab
data-none line chip at = refl

pub data-turn : (line chip out : List ℕ) (at x k : ℕ) → x ≡ data_byte line k → out ≡ laid chip at (tab k (data_byte line))
    → set out (at + k) x ≡ laid chip at (tab (k + 1) (data_byte line))
unfolding tab
data-turn line chip out at x k e f =
    rw (e, f, add-one) (laid_one chip at (at + k) (tab k (data_byte line)) (data_byte line k) (rw (tab-length (data_byte line) k) refl))

pub data-done : (line chip out : List ℕ) (at k n : ℕ) → k ≡ n → out ≡ laid chip at (tab k (data_byte line)) → out ≡ laid chip at (tab n (data_byte line))
data-done line chip out at k n e f = rw e at f

-- a sound record's data fit
pub line-fits : (line chip : List ℕ) (upper at n : ℕ) → line_fault (length chip) upper line ≡ None → is_data line ≡ true → at ≡ address_of upper line → n ≡ count_of line
    → DataFits line chip at n
line-fits line chip upper at n e d f g =
    let s : Sound line (length chip) upper = sound-line line (length chip) upper e in
    record {
      bytes = λ k h. bytes-there line s.shape (k + 4) (omega arith);
      room = λ k h. rw f (data-inside line (length chip) upper s d k (omega arith));
    }

pub data-stored : (line chip out : List ℕ) (upper at n : ℕ) → is_data line ≡ true → at ≡ address_of upper line → n ≡ count_of line
    → out ≡ laid chip at (tab n (data_byte line)) → out ≡ stored_by upper line chip
data-stored line chip out upper at n d f g e = rw (d, ← f, ← g) e

pub nothing_stored : (line chip : List ℕ) (upper : ℕ) → is_data line ≡ false → chip ≡ stored_by upper line chip
nothing_stored line chip upper d = rw d refl

pub stored-length : (line chip out : List ℕ) (upper n : ℕ) → out ≡ stored_by upper line chip → length chip ≡ n → length out ≡ n
stored-length line chip out upper n o e = rw o (by (is_data line))
  where
    by : (t : Bool) → length (cond t (laid chip (address_of upper line) (data_of line)) chip) ≡ n
    by true = laid-length chip (address_of upper line) (data_of line) ∙ e
    by false = e

-- a loop that stores line by line: a line's own soundness, a turn, and the end
pub first-sound : (text : List ℕ) (size upper end next : ℕ) → FirstLine text end next → AllSound size upper (lines_of text) → line_fault size upper (take end text) ≡ None
first-sound text size upper end next f s = (subst (AllSound size upper) f.lines s).0

pub rest-sound : (text rest : List ℕ) (size upper new end next : ℕ) → FirstLine text end next → rest ≡ take (length text - next) (drop next text)
    → new ≡ upper_after upper (take end text) → AllSound size upper (lines_of text) → AllSound size new (lines_of rest)
rest-sound text rest size upper new end next f r u s = rw (r, tail text next, u) (subst (AllSound size upper) f.lines s).1

pub line-stored : (text rest chip out v : List ℕ) (upper new end next : ℕ) → FirstLine text end next → rest ≡ take (length text - next) (drop next text)
    → new ≡ upper_after upper (take end text) → out ≡ stored_by upper (take end text) chip → stored upper (lines_of text) chip ≡ v → stored new (lines_of rest) out ≡ v
unfolding stored
line-stored text rest chip out v upper new end next f r u o e = rw (r, tail text next, u, o) (rw f.lines at e)

pub all-stored : (text chip v : List ℕ) (upper : ℕ) → length text ≤ 0 → stored upper (lines_of text) chip ≡ v → chip ≡ v
unfolding stored lines_of
all-stored [] chip v upper h e = e
all-stored (c ∷ text) chip v upper h e = absurd (omega arith)
