-- Which text is sound, and which line of another is the first at fault, in terms of its lines by number. Assumes nothing.
use Rattle.std.specs.Prelude.{ℕ, zero, suc, ◌+◌, ◌<◌, ◌≡◌, true, false, List, [], ◌⊎◌, length, get_or, Some, None}
use Rattle.refusal.specs.declared.Refusal.{Refusal}
use Rattle.refusal.specs.declared.Refusal.TheVariants.{BadRecord}
use Rattle.hex_record.specs.Record.{is_end, line_fault, upper_after}
use Rattle.hex_read.specs.Lines.{lines_of}
use Rattle.hex_read.specs.Read.{no_fault, fault_at, verdict_of}

-- line k, from 0
abbrev pub line_at : List (List ℕ) → ℕ → List ℕ
line_at lines k = get_or lines k []

-- the upper half of addresses ahead of line k: 0, or what the last type 04 record before it says
unfoldable pub upper_at : List (List ℕ) → ℕ → ℕ
upper_at lines zero = 0
upper_at lines (suc k) = upper_after (upper_at lines k) (line_at lines k)

abbrev pub SoundAt : ℕ → List (List ℕ) → ℕ → Type 0
SoundAt size lines k = line_fault size (upper_at lines k) (line_at lines k) ≡ None

-- none of the first n lines has a fault, and none is an end record
abbrev pub GoesOn : ℕ → List (List ℕ) → ℕ → Type 0
GoesOn size lines n = (k : ℕ) → k < n → SoundAt size lines k × (is_end (line_at lines k) ≡ false)

-- a sound text: a sound end record is its last line, and no line before that has a fault or is an end
pub record SoundText (size : ℕ) (lines : List (List ℕ)) : Type 0 where
  pub last : ℕ
  pub long : length lines ≡ last + 1
  pub before : GoesOn size lines last
  pub sound : SoundAt size lines last
  pub end : is_end (line_at lines last) ≡ true

-- line k, from 0, is the first at fault
pub data FaultyAt (size : ℕ) (lines : List (List ℕ)) (k : ℕ) (why : Refusal) : Type 0 where
  -- 02 Slip 1 12: a line is at fault that has one of the three faults
  own : k < length lines → GoesOn size lines k → line_fault size (upper_at lines k) (line_at lines k) ≡ Some why → FaultyAt size lines k why
  -- 02 Slip 1 10: a line is at fault that stands behind a sound end record
  behind : (e : ℕ) → k ≡ e + 1 → k < length lines → GoesOn size lines e → SoundAt size lines e → is_end (line_at lines e) ≡ true → why ≡ BadRecord → FaultyAt size lines k why
  -- 02 Slip 1 12: the line behind the last is at fault, where none is an end
  missing : k ≡ length lines → GoesOn size lines k → why ≡ BadRecord → FaultyAt size lines k why

-- a text that is not sound: which line is the first at fault, and for what
pub record Faulty (size : ℕ) (lines : List (List ℕ)) : Type 0 where
  pub at : ℕ
  pub why : Refusal
  pub first : FaultyAt size lines at why

pub record VerdictLaw (text : List ℕ) (size : ℕ) : Type 0 where
  -- every text is one or the other, so that the rest says the verdict of each
  pub either : SoundText size (lines_of text) ⊎ Faulty size (lines_of text)
  pub sound : verdict_of text size ≡ no_fault → SoundText size (lines_of text)
  pub is_sound : SoundText size (lines_of text) → verdict_of text size ≡ no_fault
  pub fault : (at : ℕ) (why : Refusal) → verdict_of text size ≡ fault_at (at + 1) why → FaultyAt size (lines_of text) at why
  pub is_fault : (at : ℕ) (why : Refusal) → FaultyAt size (lines_of text) at why → verdict_of text size ≡ fault_at (at + 1) why
