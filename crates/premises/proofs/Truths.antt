-- What tests of truth say of each other. Assumes nothing.
use mathlib.Core.Path.{◌≡◌, refl, sym, ◌∙◌}
use mathlib.Core.Bool.{Bool, true, false, ◌&&◌, ◌||◌, not}
use Rattle.lists.proofs.Loops.{zero_one}

pub not_so : false ≡ true → ⊥
not_so e = let z : ◌≡◌ {A = Bool} false true = e in zero_one cc

pub clash : (t : Bool) → t ≡ true → t ≡ false → ⊥
clash t e f = not_so (sym f ∙ e)

-- what is not true is false
pub fails : (t : Bool) → (t ≡ true → ⊥) → t ≡ false
fails true h = absurd (h refl)
fails false h = refl

pub or_left : (t u : Bool) → t ≡ true → t || u ≡ true
or_left t u e = rw e

pub or_right : (t u : Bool) → u ≡ true → t || u ≡ true
or_right true u e = refl
or_right false u e = e

pub all : (t u : Bool) → t ≡ true → u ≡ true → t && u ≡ true
all t u e f = rw (e, f)

-- a rule that is asked only where t holds, or only where it does not
pub asked_if : (t u : Bool) → (t ≡ true → u ≡ true) → not t || u ≡ true
asked_if true u h = h refl
asked_if false u h = refl

pub unless : (t u : Bool) → t || u ≡ true → t ≡ false → u ≡ true
unless true u e f = cc
unless false u e f = e

pub unless_if : (t u : Bool) → (t ≡ false → u ≡ true) → t || u ≡ true
unless_if true u h = refl
unless_if false u h = h refl
