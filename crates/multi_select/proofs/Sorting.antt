-- The lines sorted one by one come to what the tests pick. Assumes nothing.
use Rattle.std.specs.Prelude.{Result, Ok, Err}
use mathlib.Core.Path.{◌≡◌, refl, sym, ◌∙◌, ap}
use mathlib.Core.Bool.{Bool, true, false, ◌&&◌, ◌||◌, not, cond}
use mathlib.Core.List.{List, [], ◌∷◌, ◌++◌, append_assoc, append-nil}
use Prim.Native.Nat.{ℕ, zero, suc, ◌-◌, ◌≤◌, ◌<◌}
use native.Mathlib.Numerals.{add-one}
use native.Mathlib.Omega.{arith}
use lib.Dec.{eqb}
use lib.ListN.{length, set, replicate, length-append}
use lib.Seq.{get_or-append_seam, set-append_seam}
use borrow.Author.Tests.{ne_eqb}
use Rattle.slot.specs.Description.{kind_at}
use Rattle.slot.specs.declared.description.ControlLines.{ControlLines}
use Rattle.slot.specs.declared.description.CsConfig.{CsConfig}
use Rattle.slot.specs.declared.description.MultiCsConfig.{MultiCsConfig}
use Rattle.control.specs.CsConfig.{ignores}
use Rattle.multi_select.specs.MultiCsConfig.{named, named_count, is_ignored, is_commoned, kinds_of, last_of, eight, config_of, selects_of, config_from, multi_answer_of}
use Rattle.refusal.specs.declared.Refusal.{Refusal}
use Rattle.refusal.specs.declared.Refusal.TheVariants.{NoActiveLine}
use Rattle.multi_select.specs.Design.Sorted.{line_part, sorted_with, sorted}
use Rattle.multi_select.specs.declared.Part.TheVariants.{Dropped, Select, Commoned, Ignored}
use Rattle.multi_select.specs.declared.Sorted.{Sorted}

-- lists of kinds as the loop keeps them
abbrev kept_as : List ℕ → List ℕ → List ℕ → Sorted
kept_as selects commoned ignored = record { config = config_of selects commoned ignored; found = not (eqb (length selects) 0) }

snoc_length : (l : List ℕ) (x : ℕ) → length (l ++ (x ∷ [])) ≡ suc (length l)
snoc_length l x = length-append l (x ∷ []) ∙ add-one (length l)

-- one kind more: it is the last, and has the next of the eight places
last_snoc : (l : List ℕ) (x : ℕ) → last_of (l ++ (x ∷ [])) ≡ x
last_snoc l x =
    let e : length (l ++ (x ∷ [])) - 1 ≡ length l = let n = snoc_length l x in omega arith in
    rw e (get_or-append_seam l x [] 0)

replicate_next : (n : ℕ) → n < 8 → replicate {A = ℕ} (8 - n) 0 ≡ 0 ∷ replicate (8 - suc n) 0
replicate_next n l = let e : 8 - n ≡ suc (8 - suc n) = omega arith in ap (λ (k : ℕ). replicate {A = ℕ} k 0) e

eight_snoc : (l : List ℕ) (x : ℕ) → length l < 8 → set (eight l) (length l) x ≡ eight (l ++ (x ∷ []))
eight_snoc l x h =
    ap (λ (r : List ℕ). set (l ++ r) (length l) x) (replicate_next (length l) h)
    ∙ set-append_seam l 0 (replicate (8 - suc (length l)) 0) x
    ∙ sym (append_assoc l (x ∷ []) (replicate (8 - suc (length l)) 0))
    ∙ ap (λ (n : ℕ). (l ++ (x ∷ [])) ++ replicate (8 - n) 0) (sym (snoc_length l x))

-- one line more, by the tests of its part
module _ (kind : ℕ) (selects commoned ignored : List ℕ) (few : length commoned < 8) (ignored-few : length ignored < 8) where
  abbrev joins : Bool → List ℕ → List ℕ
  joins t l = l ++ cond t (kind ∷ []) []

  -- where a test adds nothing
  same : (s c i s' c' i' : List ℕ) → s' ≡ s → c' ≡ c → i' ≡ i → kept_as s c i ≡ kept_as s' c' i'
  same s c i s' c' i' e f g = rw (e, f, g)

  as_select : sorted_with Select kind (kept_as selects commoned ignored) ≡ kept_as (selects ++ (kind ∷ [])) commoned ignored
  as_select = rw (last_snoc selects kind, snoc_length selects kind, ne_eqb (suc (length selects)) 0 (λ e. omega arith))

  as_commoned : sorted_with Commoned kind (kept_as selects commoned ignored) ≡ kept_as selects (commoned ++ (kind ∷ [])) ignored
  as_commoned = rw (eight_snoc commoned kind few, snoc_length commoned kind, add-one)

  as_ignored : sorted_with Ignored kind (kept_as selects commoned ignored) ≡ kept_as selects commoned (ignored ++ (kind ∷ []))
  as_ignored = rw (eight_snoc ignored kind ignored-few, snoc_length ignored kind, add-one)

  step : (name single second first : Bool)
      → sorted_with (cond name (cond (single || not second) Select (cond first Ignored Commoned)) Dropped) kind (kept_as selects commoned ignored)
      ≡ kept_as (joins (name && (single || not second)) selects) (joins (name && not single && second && not first) commoned)
      (joins (name && not single && second && first) ignored)
  step false single second first = same selects commoned ignored _ _ _ (append-nil selects) (append-nil commoned) (append-nil ignored)
  step true true second first = as_select ∙ same (joins true selects) commoned ignored _ _ _ refl (append-nil commoned) (append-nil ignored)
  step true false false first = as_select ∙ same (joins true selects) commoned ignored _ _ _ refl (append-nil commoned) (append-nil ignored)
  step true false true true = as_ignored ∙ same selects commoned (joins true ignored) _ _ _ (append-nil selects) (append-nil commoned) refl
  step true false true false = as_commoned ∙ same selects (joins true commoned) ignored _ _ _ (append-nil selects) refl (append-nil ignored)

kinds-few : (lines : ControlLines) (test : ℕ → Bool) (n : ℕ) → length (kinds_of lines test n) ≤ n
unfolding kinds_of
kinds-few lines test zero = omega arith
kinds-few lines test (suc n) = by (test (kind_at lines n)) (kinds-few lines test n)
  where
    by : (t : Bool) → length (kinds_of lines test n) ≤ n → length (kinds_of lines test n ++ cond t (kind_at lines n ∷ []) []) ≤ suc n
    by true l = rw snoc_length (omega arith)
    by false l = rw append-nil (omega arith)

module _ (lines : ControlLines) (chip0 secondary : CsConfig) where
  pub sorted_is : (n : ℕ) → n ≤ 8
      → sorted lines chip0 secondary n ≡ record { config = config_from lines chip0 secondary n; found = not (eqb (length (selects_of lines secondary n)) 0) }
  unfolding sorted kinds_of
  sorted_is zero l = refl
  sorted_is (suc n) l =
      let kind = kind_at lines n in
      let single = eqb (named_count lines) 1 in
      let commoned = kinds_of lines (is_commoned single chip0 secondary) n in
      let ignored = kinds_of lines (is_ignored single chip0 secondary) n in
      let few : length commoned < 8 = let c = kinds-few lines (is_commoned single chip0 secondary) n in omega arith in
      let ignored-few : length ignored < 8 = let c = kinds-few lines (is_ignored single chip0 secondary) n in omega arith in
      ap (sorted_with (line_part single chip0 secondary kind) kind) (sorted_is n (omega arith))
      ∙ step kind (selects_of lines secondary n) commoned ignored few ignored-few (named kind) single (ignores secondary kind) (ignores chip0 kind)

  -- and answer so
  pub answers : (s : Sorted) → lines.count ≤ 8 → s ≡ sorted lines chip0 secondary lines.count
      → multi_answer_of lines chip0 secondary ≡ cond s.found (Ok s.config) (Err NoActiveLine)
  answers s l e = rw (e, sorted_is lines.count l) (turned (eqb (length (selects_of lines secondary lines.count)) 0) _ _)
    where
      turned : (t : Bool) (x y : Result MultiCsConfig Refusal) → cond t x y ≡ cond (not t) y x
      turned true x y = refl
      turned false x y = refl
