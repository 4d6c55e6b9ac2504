-- What the calls share: a description record that is one or none, and whether the other records are. Assumes nothing.
use Rattle.std.specs.Prelude.{Result, Ok, Err}
use mathlib.Core.Path.{◌≡◌, ap, sym, ◌∙◌}
use mathlib.Core.Bool.{Bool, true, false, not, cond}
use mathlib.Core.List.{List}
use Prim.Native.Nat.{ℕ}
use Rattle.slot.specs.declared.description.Description.{Description}
use Rattle.refusal.specs.declared.Refusal.{Refusal}
use Rattle.refusal.specs.declared.Refusal.TheVariants.{OutOfDomain}
use Rattle.description_record.specs.Record.{described, well_formed, decoded_of}
use Rattle.description_record.specs.declared.Decoded.{Decoded}
use Rattle.calls.specs.Calls.{if_described, if_record}

module _ {A : Type 0} (f : Description → A) (refuse : Refusal → A) (b : List ℕ) (dec : Decoded) (e : dec ≡ decoded_of b) where
  told : (a : Result (Unit {0}) Refusal) → dec.answer ≡ a → if_described f refuse a dec.description ≡ if_record f refuse (decoded_of b)
  told a t = ap (λ (x : Result (Unit {0}) Refusal). if_described f refuse x dec.description) (sym t) ∙ ap (if_record f refuse) e

  pub taken : dec.answer ≡ Ok tt → f dec.description ≡ if_record f refuse (decoded_of b)
  taken t = told (Ok tt) t

  pub no_record : (why : Refusal) → dec.answer ≡ Err why → refuse why ≡ if_record f refuse (decoded_of b)
  no_record why t = told (Err why) t

-- a description record whose bytes are tested before it is read
module _ {A : Type 0} (f : Description → A) (refuse : Refusal → A) (b : List ℕ) where
  abbrev by : Bool → A
  by w = if_described f refuse (cond w (Ok tt) (Err OutOfDomain)) (described b)

  pub described_so : (t : Bool) → t ≡ well_formed b → not t ≡ false → f (described b) ≡ if_record f refuse (decoded_of b)
  described_so true e n = ap by e
  described_so false e n = cc

  pub not-described : (t : Bool) → t ≡ well_formed b → not t ≡ true → refuse OutOfDomain ≡ if_record f refuse (decoded_of b)
  not-described true e n = cc
  not-described false e n = ap by e

pub passed : (t w : Bool) → t ≡ w → not t ≡ false → w ≡ true
passed true w e n = sym e
passed false w e n = cc

-- the other records: whether they are formed is tested first
module _ {A : Type 0} (good bad : A) where
  abbrev tested : Bool → A
  tested g = cond g good bad

  pub formed : (f g : Bool) → f ≡ g → not f ≡ false → good ≡ tested g
  formed true g e n = ap tested e
  formed false g e n = cc

  pub not-formed : (f g : Bool) → f ≡ g → not f ≡ true → bad ≡ tested g
  not-formed true g e n = cc
  not-formed false g e n = ap tested e
