-- `why` meets its contract: what all choices show says why nothing fits. Assumes nothing.
use Rattle.std.specs.Prelude.{Option}
use mathlib.Core.Path.{◌≡◌, refl, sym}
use mathlib.Core.List.{List}
use Prim.Native.Nat.{ℕ}
use Rattle.refusal.specs.declared.Refusal.{Refusal}
use Rattle.refusal.specs.First.{or_else}
use Rattle.listing.specs.declared.Listed.{Listed}
use Rattle.cs_choices.specs.Nothing.{interior_in, nothing_fits}
use Rattle.cs_choices.specs.Design.Seen.{refused_in, seen_onward}
use Rattle.cs_choices.specs.Sets.{verdict_on}
use Rattle.cs_choices.specs.declared.choices.Fixed.{Fixed}
use Rattle.cs_choices.specs.declared.nothing.Seen.{Seen}
use Rattle.cs_choices.proofs.Seen.{shown, why-shown}
use Rattle.cs_choices.proofs.nothing.why.Goals as goal

done : (ls : List Listed) (f : Fixed) (ignored n : ℕ) (seen : Seen) (x y r : Option Refusal) → seen ≡ shown ls f ignored n → x ≡ interior_in seen.interior → y ≡ refused_in seen.refused → r ≡ or_else x y
    → r ≡ nothing_fits ignored (verdict_on ls f) n
done ls f ignored n seen x y r e p q h = rw (h, p, q, e) (sym (why-shown ls f ignored n))

pub in_rows-seen-requires-clause-begins : goal.in_rows-seen-requires-clause-begins
unfolding seen_onward
in_rows-seen-requires-clause-begins c = refl

pub returns : goal.returns
returns c = done _ _ _ _ _ _ _ _ c.in_rows-seen.ensures c.interior_in.ensures c.refused_in.ensures c.or.ensures
