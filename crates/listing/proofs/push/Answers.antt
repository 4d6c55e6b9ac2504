-- `push` meets its contract. Assumes nothing.
use mathlib.Core.Path.{◌≡◌, refl}
use native.Mathlib.Omega.{arith}
use lib.ListN.{length}
use Rattle.lists.proofs.Lists.{mapped_length}
use Rattle.listing.proofs.Pushed.{pushed}
use borrow.Author.Rules.{rules}
use Rattle.listing.proofs.push.Goals as goal

pub returns : goal.returns
returns c =
    let l = c.args.l in
    let e : length l.pins ≡ 30 = search (mapped_length, rules) in
    (pushed l.pins l.count c.args.pin (omega arith), refl)
