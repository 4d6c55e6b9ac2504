-- What a read answers, by the text's verdict. Assumes nothing.
use Rattle.std.specs.Prelude.{Ok, Err}
use mathlib.Core.Path.{◌≡◌, refl, sym, ◌∙◌}
use mathlib.Core.Bool.{true, false}
use mathlib.Core.List.{List}
use Prim.Native.Nat.{ℕ}
use lib.ListN.{length, length-replicate}
use Rattle.refusal.specs.declared.Refusal.TheVariants.{OutOfDomain}
use Rattle.hex_base.specs.Size.{too_long}
use Rattle.hex_read.specs.Lines.{lines_of}
use Rattle.hex_read.specs.Read.{Verdict, no_fault, blank, stored, read_as, verdict_of, read_of}
use Rattle.hex_read.specs.declared.judge.Fault.{Fault}
use Rattle.hex_read.specs.Design.Places.{AllSound}
use Rattle.hex_read.proofs.Verdicts.{all_sound}

pub too_long-read : (text chip : List ℕ) → too_long (length chip) ≡ true → read_as (Err OutOfDomain) chip ≡ read_of text chip
unfolding read_of
too_long-read text chip e = rw e refl

pub fault-read : (text chip : List ℕ) (fault : Fault) (v : Verdict) → too_long (length chip) ≡ false → v ≡ verdict_of text (length chip) → v ≡ Err fault
    → read_as (Err fault.why) chip ≡ read_of text chip
unfolding read_of
fault-read text chip fault v e f g = rw (e, ← f, g) refl

pub sound-all : (text chip out : List ℕ) (v : Verdict) → v ≡ verdict_of text (length chip) → v ≡ no_fault → out ≡ blank (length chip)
    → AllSound (length out) 0 (lines_of text)
sound-all text chip out v f g e = rw (e, length-replicate {A = ℕ} (length chip) 255) (all_sound (lines_of text) (length chip) 0 1 (sym f ∙ g))

pub sound-read : (text chip out end : List ℕ) (v : Verdict) → too_long (length chip) ≡ false → v ≡ verdict_of text (length chip) → v ≡ no_fault
    → out ≡ blank (length chip) → end ≡ stored 0 (lines_of text) out → read_as (Ok tt) end ≡ read_of text chip
unfolding read_of
sound-read text chip out end v l f g e s = rw (l, ← f, g, s, e) refl
