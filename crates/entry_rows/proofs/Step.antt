-- One entry more: how far the entries are read, and what the buffers then hold. Assumes nothing.
use Rattle.std.specs.Prelude.{Ok, Err}
use mathlib.Core.Path.{◌≡◌, refl, sym, ◌∙◌, ap}
use mathlib.Core.Bool.{Bool, true, false, cond}
use mathlib.Core.List.{List, ◌∷◌, ◌++◌}
use Prim.Native.Nat.{ℕ, suc, ◌+◌, ◌*◌, ◌^◌, ◌≤◌, ◌<◌}
use native.Mathlib.Omega.{arith}
use lib.Dec.{ltb, eqb}
use lib.ListN.{length, take, drop, get_or, get_or-append}
use borrow.Author.Tests.{ltb-false, lt-ltb, le-ltb, eqb-true, eqb-false, eq-eqb, ne_eqb}
use Rattle.lists.proofs.Tab.{tab_cong, tab-length, get_or-tab}
use Rattle.words.specs.Words.{bytes_of, word}
use Rattle.words.proofs.Words.{words_cong}
use Rattle.words.proofs.Back.{word_of-words}
use Rattle.entry_words.specs.Design.Kept.{first_at, told, mark_after, value_after, marks_after, output_after, disagrees, first_bad}
use Rattle.lent_buffers.specs.Design.Buffers.{Kept, kept, keep_word}
use Rattle.entry_words.specs.Design.Collected.{output_held, marks_held}
use Rattle.entry_rows.specs.Design.Walks.{walked_of}
use Rattle.lists.proofs.First.{first_more, first_one, first-before, first-within, never_both}
use Rattle.lists.proofs.Loops.{zero_one}
use Rattle.entry_rows.proofs.Put.{words_put, marks_put}

-- of one word
module _ (t v : ℕ → ℕ) (m : ℕ) where
  pub value_more : (f : ℕ) → value_after t v (suc m) f ≡ cond (told t f m) (v (first_at t f m)) (cond (eqb (t m) f) (v m) 0)
  value_more f = first_more v 0 (λ i. eqb (t i) f) m

  same_case : (f x : ℕ) (b c : Bool) → b ≡ told t f m → eqb (t m) f ≡ c → (t m ≡ f → told t f m ≡ true) → cond b (v x) (cond c (v m) 0) ≡ cond b (v x) 0
  same_case f x true c e g h = refl
  same_case f x false true e g h = let z = h (eqb-true (t m) f g) in cc
  same_case f x false false e g h = refl

  -- an entry for another word, or for one that has a value
  pub value_same : (f : ℕ) → (t m ≡ f → told t f m ≡ true) → value_after t v (suc m) f ≡ value_after t v m f
  value_same f h = value_more f ∙ same_case f (first_at t f m) (told t f m) (eqb (t m) f) refl refl h

  -- the first for its word
  pub value_new : told t (t m) m ≡ false → value_after t v (suc m) (t m) ≡ v m
  value_new e = value_more (t m) ∙ rw (e, eq-eqb (t m) (t m) refl)

-- of how far the entries are read
module _ (t v : ℕ → ℕ) (words m : ℕ) (through : walked_of t v words m ≡ Ok tt) where
  all_read : (x : ℕ) (b : Bool) → ltb x m ≡ b → x ≤ m → cond b (Err (t x)) (Ok (tt {0})) ≡ Ok (tt {0}) → x ≡ m
  all_read x true e l h = absurd (zero_one cc)
  all_read x false e l h = let g = ltb-false x m e in omega arith

  none_bad : first_bad t v words m ≡ m
  none_bad = let x = first_bad t v words m in all_read x (ltb x m) refl (first-within (disagrees t v words) m) through

  pub through_more : disagrees t v words m ≡ false → walked_of t v words (suc m) ≡ Ok tt
  through_more e =
      first_more (λ i. Err (t i)) (Ok tt) (disagrees t v words) m
      ∙ rw (none_bad, le-ltb m m (omega arith), e)

  pub bad_here : disagrees t v words m ≡ true → (n : ℕ) → m < n → walked_of t v words n ≡ Err (t m)
  bad_here e n l =
      let here : first_bad t v words n ≡ m =
      first_one (disagrees t v words) n m (record {
        within = omega arith;
        passes = λ q. e;
        before = λ k q. first-before (disagrees t v words) m k (rw none_bad q);
      }) in
      rw (here, lt-ltb m n l)

-- an entry that is for no word, or for one that has a value, leaves the buffers as they are
module _ (t v : ℕ → ℕ) (words m : ℕ) (nothing : (f : ℕ) → f < words → t m ≡ f → told t f m ≡ true) where
  output-same : (w : ℕ) → output_after w t v words (suc m) ≡ output_after w t v words m
  output-same w = words_cong w _ _ words (λ f l. value_same t v m f (nothing f l))

  marks-same : marks_after t words (suc m) ≡ marks_after t words m
  marks-same = tab_cong _ _ words (λ f l. value_same t (λ i. 1) m f (nothing f l))

pub step_skip : (w words m : ℕ) (t v : ℕ → ℕ) (output marks : List ℕ) → words ≤ t m → walked_of t v words m ≡ Ok tt
    → output ≡ output_held w t v words m output → marks ≡ marks_held t words m marks
    → (walked_of t v words (suc m) ≡ Ok tt) × (output ≡ output_held w t v words (suc m) output) × (marks ≡ marks_held t words (suc m) marks)
step_skip w words m t v output marks l through o k =
    let nothing : (f : ℕ) → f < words → t m ≡ f → told t f m ≡ true = λ f h e. absurd (omega arith) in (
      through_more t v words m through (rw (le-ltb (t m) words l)),
      rw (output-same t v words m nothing w) o,
      rw (marks-same t v words m nothing) k,
    )

-- the mark of a word
pub mark-at : (t : ℕ → ℕ) (words m : ℕ) (marks old : List ℕ) (f : ℕ) → f < words → marks ≡ marks_held t words m old → get_or marks f 0 ≡ mark_after t m f
mark-at t words m marks old f l k =
    ap (λ (x : List ℕ). get_or x f 0) k
    ∙ get_or-append (marks_after t words m) (drop words old) 0 f (rw (tab-length (mark_after t m) words) l)
    ∙ get_or-tab (mark_after t m) words f 0 l

-- an entry for a word
module _ (w words m : ℕ) (t v : ℕ → ℕ) (output marks : List ℕ) (inside : t m < words) (small : (i : ℕ) → v i < 2 ^ (8 * w))
    (o : output ≡ output_held w t v words m output) (k : marks ≡ marks_held t words m marks) where
  value_small : (x : ℕ) (b : Bool) → cond b (v x) 0 < 2 ^ (8 * w)
  value_small x true = small x
  value_small x false = let h = small x in omega arith

  mark_is : get_or marks (t m) 0 ≡ mark_after t m (t m)
  mark_is = mark-at t words m marks marks (t m) inside k

  word_is : word w output (t m) ≡ value_after t v m (t m)
  word_is =
      ap (λ (l : List ℕ). word w l (t m)) o
      ∙ word_of-words w (value_after t v m) words (drop (words * w) output) (t m) inside (value_small (first_at t (t m) m) (told t (t m) m))

  -- that has a value
  module _ (has : told t (t m) m ≡ true) where
    kept-told : keep_word w (t m) (v m) output marks ≡ kept (eqb (v (first_at t (t m) m)) (v m)) output marks
    kept-told = rw (mark_is, word_is, has)

    told_same : (f : ℕ) → f < words → t m ≡ f → told t f m ≡ true
    told_same f l e = rw e at has

    agrees : eqb (v (first_at t (t m) m)) (v m) ≡ true → disagrees t v words m ≡ false
    agrees e = let s = eqb-true (v (first_at t (t m) m)) (v m) e in rw (lt-ltb (t m) words inside, has, eq-eqb (v m) (v (first_at t (t m) m)) (sym s))

    differs : eqb (v (first_at t (t m) m)) (v m) ≡ false → disagrees t v words m ≡ true
    differs e =
        let d = eqb-false (v (first_at t (t m) m)) (v m) e in
        rw (lt-ltb (t m) words inside, has, ne_eqb (v m) (v (first_at t (t m) m)) (λ s. d (sym s)))

  -- that has none yet
  module _ (none : told t (t m) m ≡ false) where
    kept_new : keep_word w (t m) (v m) output marks
        ≡ kept
        true
        (take (t m * w) output ++ bytes_of w (v m) ++ drop (t m * w + w) output)
        (take (t m) marks ++ (1 ∷ drop (t m + 1) marks))
    kept_new = rw (mark_is, none)

    others : (u : ℕ → ℕ) (f : ℕ) → (f ≡ t m → ⊥) → value_after t u m f ≡ value_after t u (suc m) f
    others u f d = sym (value_same t u m f (λ e. absurd (d (sym e))))

    output_new : take (t m * w) output ++ bytes_of w (v m) ++ drop (t m * w + w) output ≡ output_held w t v words (suc m) output
    output_new =
        rw (value_new t v m none) at (words_put (value_after t v m) (value_after t v (suc m)) (t m) (others v) w words (drop (words * w) output) output inside o)

    marks_new : take (t m) marks ++ (1 ∷ drop (t m + 1) marks) ≡ marks_held t words (suc m) marks
    marks_new =
        rw (value_new t (λ i. 1) m none) at (marks_put (mark_after t m) (mark_after t (suc m)) (t m) (others (λ i. 1)) words (drop words marks) marks inside k)

    agrees_new : disagrees t v words m ≡ false
    agrees_new = rw (lt-ltb (t m) words inside, none)

  module _ (through : walked_of t v words m ≡ Ok tt) (output' marks' : List ℕ) where
    keep_case : (b : Bool) → told t (t m) m ≡ b → kept true output' marks' ≡ keep_word w (t m) (v m) output marks
        → (walked_of t v words (suc m) ≡ Ok tt) × (output' ≡ output_held w t v words (suc m) output) × (marks' ≡ marks_held t words (suc m) marks)
    keep_case true has e =
        let s = e ∙ kept-told has in (
          through_more t v words m through (agrees has (sym (ap (λ (x : Kept Bool). x.answer) s))),
          ap (λ (x : Kept Bool). x.output) s ∙ rw (output-same t v words m (told_same has) w) o,
          ap (λ (x : Kept Bool). x.marks) s ∙ rw (marks-same t v words m (told_same has)) k,
        )
    keep_case false none e =
        let s = e ∙ kept_new none in (
          through_more t v words m through (agrees_new none),
          ap (λ (x : Kept Bool). x.output) s ∙ output_new none,
          ap (λ (x : Kept Bool). x.marks) s ∙ marks_new none,
        )

    bad_case : (b : Bool) → told t (t m) m ≡ b → kept false output' marks' ≡ keep_word w (t m) (v m) output marks → (n : ℕ) → m < n
        → (walked_of t v words n ≡ Err (t m)) × (drop (words * w) output' ≡ drop (words * w) output) × (drop words marks' ≡ drop words marks)
    bad_case true has e n l =
        let s = e ∙ kept-told has in (
          bad_here t v words m through (differs has (sym (ap (λ (x : Kept Bool). x.answer) s))) n l,
          ap (λ (x : Kept Bool). drop (words * w) x.output) s,
          ap (λ (x : Kept Bool). drop words x.marks) s,
        )
    bad_case false none e n l = absurd (never_both true refl (sym (ap (λ (x : Kept Bool). x.answer) (e ∙ kept_new none))))

pub step_keep : (w words m : ℕ) (t v : ℕ → ℕ) (output marks output' marks' : List ℕ) → t m < words → ((i : ℕ) → v i < 2 ^ (8 * w))
    → words * w ≤ length output → words ≤ length marks → walked_of t v words m ≡ Ok tt
    → output ≡ output_held w t v words m output → marks ≡ marks_held t words m marks
    → kept true output' marks' ≡ keep_word w (t m) (v m) output marks
    → (walked_of t v words (suc m) ≡ Ok tt) × (output' ≡ output_held w t v words (suc m) output) × (marks' ≡ marks_held t words (suc m) marks)
step_keep w words m t v output marks output' marks' inside small _ _ through o k =
    keep_case w words m t v output marks inside small o k through output' marks' (told t (t m) m) refl

pub step_bad : (w words m : ℕ) (t v : ℕ → ℕ) (output marks output' marks' : List ℕ) → t m < words → ((i : ℕ) → v i < 2 ^ (8 * w))
    → words * w ≤ length output → words ≤ length marks → walked_of t v words m ≡ Ok tt
    → output ≡ output_held w t v words m output → marks ≡ marks_held t words m marks
    → kept false output' marks' ≡ keep_word w (t m) (v m) output marks → (n : ℕ) → m < n
    → (walked_of t v words n ≡ Err (t m)) × (drop (words * w) output' ≡ drop (words * w) output) × (drop words marks' ≡ drop words marks)
step_bad w words m t v output marks output' marks' inside small _ _ through o k =
    bad_case w words m t v output marks inside small o k through output' marks' (told t (t m) m) refl
