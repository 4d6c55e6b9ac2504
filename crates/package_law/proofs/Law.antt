-- The laws of the package, for each call that is given a description. Assumes nothing.
use mathlib.Core.Path.{◌≡◌, refl, sym, ap, ◌∙◌}
use mathlib.Core.Bool.{Bool, true, false, cond}
use Prim.Native.Nat.{ℕ, ◌<◌}
use native.Mathlib.Omega.{arith}
use Rattle.slot.specs.declared.description.Board.{Board}
use Rattle.slot.specs.declared.description.Package.{Package}
use Rattle.slot.specs.declared.description.Package.TheVariants.{A, B}
use Rattle.slot.specs.declared.description.Description.{Description}
use Rattle.domain.specs.Domain.{no_candidate_above, package_in}
use Rattle.build_args.specs.Args.{args_of}
use Rattle.package_law.specs.Law.{on, CandidateOn, PackageLaw, PackageLaws, OneAnswer}
use Rattle.package_law.proofs.Candidates.{candidates_law, either_way}
use Rattle.package_law.proofs.AddrSame.{addr_same}
use Rattle.package_law.proofs.SelectSame.{cs_data_same}
use Rattle.package_law.proofs.BuildSame.{build-same, trip-same, wired-same}
use Rattle.package_law.proofs.Kept.{keeps, addr-kept, cs_data_kept, build-kept, trip-kept}

-- on A one candidate above 29 fails the test
above_fails : (b : Board) (g : ℕ) → CandidateOn b g → 29 < g → (t : Bool) → no_candidate_above 29 b ≡ t → t ≡ false
above_fails b g e l false q = refl
above_fails b g e l true q = let h = (candidates_law b 29).none_is q g e in absurd (omega arith)

-- a call that answers as before where the board keeps to its package, and as refused where it does not, keeps the law, if what it answered
-- before does not hang on the package
module _ {R : Type 0} (now before : Description → R) (refused : R) (kept : (d : Description) → now d ≡ cond (keeps d) (before d) refused)
    (same : (p : Package) (d : Description) → before (on p d) ≡ before d) where
  on_b : (d : Description) → now (on B d) ≡ before d
  unfolding package_in
  on_b d = kept (on B d) ∙ same B d

  -- what the test of the board comes to on A
  on_a : (d : Description) (t : Bool) → no_candidate_above 29 d.board ≡ t → now (on A d) ≡ cond t (before (on A d)) refused
  unfolding package_in
  on_a d t q = kept (on A d) ∙ ap (λ t. cond t (before (on A d)) refused) q

  by_test : PackageLaw now before refused
  by_test = record {
    on_b = on_b;
    on_a = λ d h. on_a d true ((candidates_law d.board 29).none_if h) ∙ same A d ∙ sym (on_b d);
    above = λ d g e l. on_a d false (above_fails d.board g e (omega arith) (no_candidate_above 29 d.board) refl);
  }

pub package_laws : PackageLaws
package_laws = record {
  address = by_test _ _ _ addr-kept addr_same;
  select = λ a. by_test _ _ _ (λ d. cs_data_kept d a) (λ p d. cs_data_same p d a);
  build = λ order a c spans images table.
      by_test _ _ _ (λ d. build-kept order (args_of d a c spans) images table) (λ p d. build-same order p d a c spans images table);
  trip = λ order images spans table output marks.
      by_test _ _ _ (λ d. trip-kept order d images spans table output marks) (λ p d. trip-same order p d images spans table output marks);
  wiring = λ layout. by_test _ _ _ (λ d. refl) (λ p d. wired-same p d layout);
}

module _ {R : Type 0} (now other before : Description → R) (refused : R) (law : PackageLaw now before refused) (also : PackageLaw other before refused) where
  as_b : (d : Description) → now (on B d) ≡ other (on B d)
  as_b d = law.on_b d ∙ sym (also.on_b d)

  on-either : (p : Package) (d : Description) → now (on p d) ≡ other (on p d)
  on-either A d =
      either_way d.board 29 (λ h. law.on_a d h ∙ as_b d ∙ sym (also.on_a d h)) (λ g e l. law.above d g e l ∙ sym (also.above d g e l))
  on-either B d = as_b d

pub one_answer : OneAnswer
one_answer R now other before refused law also d = on-either now other before refused law also d.«package» d
