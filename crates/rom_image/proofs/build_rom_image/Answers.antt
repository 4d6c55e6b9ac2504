-- `build_rom_image` meets its contract. Assumes nothing.
use Rattle.std.specs.Prelude.{Option, Some, Ok, Err, None}
use mathlib.Core.Path.{◌≡◌, refl, sym, ◌∙◌, ap}
use mathlib.Core.Bool.{Bool, true, false, not, cond}
use mathlib.Core.List.{List, ◌++◌}
use Prim.Native.Nat.{ℕ}
use lib.ListN.{length, drop}
use Rattle.refusal.specs.declared.Refusal.{Refusal}
use Rattle.refusal.specs.declared.Refusal.TheVariants.{OutOfDomain}
use Rattle.words.specs.declared.ByteOrder.{ByteOrder}
use Rattle.build_args.specs.Domain.{build_in}
use Rattle.build_args.specs.Faults.{table_size, build_fault}
use Rattle.build_args.specs.declared.BuildArgs.{BuildArgs}
use Rattle.rom_image.specs.Entry.{table_of}
use Rattle.rom_image.specs.Build.{pad_byte, Built, built, build_after, build_of}
use Rattle.rom_image.proofs.build_rom_image.Goals as goal

was : (b t : Bool) → not b ≡ t → b ≡ not t
was true true n = sym n
was true false n = refl
was false true n = refl
was false false n = sym n

module _ (order : ByteOrder) (b : BuildArgs) (images lent : List ℕ) (ok : Bool) (e : ok ≡ build_in b) where
  abbrev past : Option Refusal → Built
  past f = build_after order b images lent f

  abbrev tested : Bool → Built
  tested t = cond t (past (build_fault b images (length lent))) (built (Err OutOfDomain) lent)

  whole : tested ok ≡ build_of order b images lent
  unfolding build_of
  whole = ap tested e

  outside : not ok ≡ true → built (Err OutOfDomain) lent ≡ build_of order b images lent
  outside n = ap tested (sym (was ok true n)) ∙ whole

  inside : not ok ≡ false → build_in b ≡ true
  inside n = sym e ∙ was ok false n

  refused-for : (f : Option Refusal) (why : Refusal) → not ok ≡ false → f ≡ build_fault b images (length lent) → f ≡ Some why
      → built (Err why) lent ≡ build_of order b images lent
  refused-for f why n q t = ap past (sym t ∙ q) ∙ ap tested (sym (was ok false n)) ∙ whole

  made : (f : Option Refusal) (new : List ℕ) → not ok ≡ false → f ≡ build_fault b images (length lent) → f ≡ None
      → new ≡ table_of pad_byte order b images ++ drop (table_size b.description b.addr) lent → built (Ok tt) new ≡ build_of order b images lent
  made f new n q t h = ap (built (Ok tt)) h ∙ ap past (sym t ∙ q) ∙ ap tested (sym (was ok false n)) ∙ whole

pub returns-then-not-in_domain : goal.returns-then-not-in_domain
returns-then-not-in_domain c =
    outside c.args.order c.args.b c.args.images.now c.args.table.now _ c.in_domain.ensures (ap not c.if-not-in_domain.true)

pub returns-in-Some : goal.returns-in-Some
returns-in-Some c =
    refused-for c.args.order c.args.b c.args.images.now c.args.table.now _ c.in_domain.ensures
    _ _ (ap not c.if-not-in_domain.false) c.build_fault.ensures c.in-Some.is

pub returns-in-None : goal.returns-in-None
returns-in-None c =
    made c.args.order c.args.b c.args.images.now c.args.table.now _ c.in_domain.ensures
    _ _ (ap not c.if-not-in_domain.false) c.build_fault.ensures c.in-None.is c.fill.ensures
