-- Slip 3 of document 02 over each call that is given a description: on B its earlier answer, on A the answer on B, or 1. Assumes nothing.
use Rattle.std.specs.Prelude.{◌≡◌, true, List, ℕ, ◌≤◌, ◌<◌, get_or, Err, Option}
use Rattle.slot.specs.Description.{no_pin}
use Rattle.slot.specs.declared.description.Board.{Board}
use Rattle.slot.specs.declared.description.Package.{Package}
use Rattle.slot.specs.declared.description.Package.TheVariants.{A, B}
use Rattle.slot.specs.declared.description.Description.{Description}
use Rattle.refusal.specs.declared.Refusal.TheVariants.{OutOfDomain}
use Rattle.domain.specs.Domain.{no_candidate_above}
use Rattle.listing.specs.Choice.{CandidateOf}
use Rattle.addr_layout.specs.Search.{addr_answer}
use Rattle.addr_layout.specs.declared.layout.AddrLayout.{AddrLayout}
use Rattle.cs_data_layout.specs.Search.{cs_data_answer}
use Rattle.cs_data_layout.specs.declared.layout.CsDataLayout.{CsDataLayout}
use Rattle.words.specs.declared.ByteOrder.{ByteOrder}
use Rattle.build_args.specs.Args.{args_of}
use Rattle.build_args.specs.declared.images.ImageSpan.{ImageSpan}
use Rattle.rom_image.specs.Build.{built, build_of}
use Rattle.round_trip.specs.Chain.{stopped, round_trip_of}
use Rattle.calls.specs.Packed.{packed}
use Rattle.onerom.specs.Wired.{wired_as, wired_from}
use Rattle.package_law.specs.Before.{addr_before, cs_data_before, build_before, trip_before}

-- the same description on a package
abbrev pub on : Package → Description → Description
on p d = record {
  board = d.board;
  «package» = p;
  set_type = d.set_type;
  word_bytes = d.word_bytes;
  pin_offset = d.pin_offset;
  max_image_size = d.max_image_size;
  chips = d.chips;
  num_chips = d.num_chips;
  cs_config = d.cs_config;
  has_multi = d.has_multi;
  multi = d.multi;
  qualifiers = d.qualifiers;
  num_qualifiers = d.num_qualifiers;
}

-- a GPIO is a candidate of the board: at a place of the socket, be it past the board's pins, or of X1 or X2, be they used or not
pub data CandidateOn (b : Board) (g : ℕ) : Type 0 where
  socket : (k : ℕ) → k < 40 → CandidateOf (get_or b.socket k no_pin).gpios g → CandidateOn b g
  x1 : CandidateOf b.x1 g → CandidateOn b g
  x2 : CandidateOf b.x2 g → CandidateOn b g

-- 02 Slip 3 2: the test of a board passes just where each of its candidates is at most the last GPIO
pub record CandidatesLaw (b : Board) (last : ℕ) : Type 0 where
  pub none_is : no_candidate_above last b ≡ true → (g : ℕ) → CandidateOn b g → g ≤ last
  pub none_if : ((g : ℕ) → CandidateOn b g → g ≤ last) → no_candidate_above last b ≡ true

-- of a call: what it answers now, what it answered before, and its refusal 1, each lent buffer being part of an answer
pub record PackageLaw {R : Type 0} (now before : Description → R) (refused : R) : Type 0 where
  -- 02 Slip 3 5: on B the answer is what it was of the same description without a package
  pub on_b : (d : Description) → now (on B d) ≡ before d
  -- 02 Slip 3 5: on A the answer is that on B, if no candidate is above 29
  pub on_a : (d : Description) → ((g : ℕ) → CandidateOn d.board g → g ≤ 29) → now (on A d) ≡ now (on B d)
  -- 02 Slip 3 2: one candidate above 29 is refusal 1 on A
  pub above : (d : Description) (g : ℕ) → CandidateOn d.board g → 29 < g → now (on A d) ≡ refused

-- 02 Slip 3 2: the calls that are given a description are both searches, the build, the round trip and the wiring's test, whatever else
-- they are given; a layout may have any GPIO
pub record PackageLaws : Type 0 where
  pub address : PackageLaw addr_answer addr_before (Err OutOfDomain)
  pub select : (a : Option AddrLayout) → PackageLaw (λ d. cs_data_answer d a) (λ d. cs_data_before d a) (Err OutOfDomain)
  pub build : (order : ByteOrder) (a : AddrLayout) (c : CsDataLayout) (spans : List ImageSpan) (images table : List ℕ)
      → PackageLaw (λ d. build_of order (args_of d a c spans) images table) (λ d. build_before order (args_of d a c spans) images table)
      (built (Err OutOfDomain) table)
  pub trip : (order : ByteOrder) (images : List ℕ) (spans : List ImageSpan) (table output marks : List ℕ)
      → PackageLaw (λ d. round_trip_of order d images spans table output marks) (λ d. trip_before order d images spans table output marks)
      (stopped OutOfDomain table output marks)
  pub wiring : (layout : List ℕ) → PackageLaw (λ d. wired_from d layout) (λ d. wired_as d layout) (packed OutOfDomain)

-- two calls that keep the law by the same earlier answers answer the same to every description, so that a law which said less would not do
abbrev pub OneAnswer : Type 1
OneAnswer =
    (R : Type 0) (now other before : Description → R) (refused : R) → PackageLaw now before refused → PackageLaw other before refused
    → (d : Description) → now d ≡ other d
