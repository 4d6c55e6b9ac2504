-- ROM by ROM, or counted through all ROMs: the first fault is the same, and so are the bytes. Assumes nothing.
use Rattle.std.specs.Prelude.{Option, Some, None}
use mathlib.Core.Path.{◌≡◌, refl, sym, ◌∙◌, ap}
use mathlib.Core.Bool.{Bool, true, false, cond}
use mathlib.Core.List.{List, ◌++◌, append-nil, append_assoc}
use Prim.Native.Nat.{ℕ, zero, suc, ◌+◌, ◌<◌}
use native.Mathlib.Nat.{add-zero, add-suc}
use native.Mathlib.Omega.{arith}
use lib.Dec.{ltb}
use borrow.Author.Tests.{ltb-true, lt-ltb, le-ltb}
use Rattle.lists.specs.Tab.{joined}
use Rattle.words.specs.Words.{chip_bytes_of, chip_words_bytes}
use Rattle.words.specs.declared.ByteOrder.{ByteOrder}
use Rattle.refusal.specs.declared.Refusal.{Refusal}
use Rattle.refusal.specs.First.{or_else, fault_if, first_of}
use Rattle.lists.specs.First.{first_where}
use Rattle.stored_slot.specs.Words.{rom_words, words_before}
use Rattle.stored_slot.specs.declared.stored.StoredSlot.{StoredSlot}

-- the first fault of tests is that of the first test that fails
fault_step : (n x : ℕ) (b c : Bool) (why : ℕ → Refusal) → ltb x n ≡ b
    → or_else (fault_if b (why x)) (fault_if c (why n)) ≡ fault_if (ltb (cond b x (cond c n (suc n))) (suc n)) (why (cond b x (cond c n (suc n))))
fault_step n x true c why e = let l = ltb-true x n e in rw (lt-ltb x (suc n) (omega arith))
fault_step n x false true why e = rw (lt-ltb n (suc n) (omega arith))
fault_step n x false false why e = rw (le-ltb (suc n) (suc n) (omega arith))

pub first-fault : (n : ℕ) (f : ℕ → Option Refusal) (p : ℕ → Bool) (why : ℕ → Refusal) → ((k : ℕ) → k < n → f k ≡ fault_if (p k) (why k))
    → first_of n f ≡ fault_if (ltb (first_where n p) n) (why (first_where n p))
unfolding first_of first_where
first-fault zero f p why h = refl
first-fault (suc n) f p why h =
    ap (λ (g : Option Refusal). or_else g (f n)) (first-fault n f p why (λ k l. h k (omega arith)))
    ∙ ap (or_else (fault_if (ltb (first_where n p) n) (why (first_where n p)))) (h n (omega arith))
    ∙ fault_step n (first_where n p) (ltb (first_where n p) n) (p n) why refl

or_nothing : (f : Option Refusal) → or_else f None ≡ f
or_nothing None = refl
or_nothing (Some r) = refl

or_assoc : (f g h : Option Refusal) → or_else f (or_else g h) ≡ or_else (or_else f g) h
or_assoc None g h = refl
or_assoc (Some r) g h = refl

-- n more
faults_more : (h : ℕ → Option Refusal) (m n : ℕ) (g : ℕ → Option Refusal) → ((k : ℕ) → k < n → g k ≡ h (m + k))
    → or_else (first_of m h) (first_of n g) ≡ first_of (m + n) h
unfolding first_of
faults_more h m zero g e = rw add-zero (or_nothing (first_of m h))
faults_more h m (suc n) g e =
    or_assoc (first_of m h) (first_of n g) (g n)
    ∙ ap (λ (f : Option Refusal). or_else f (g n)) (faults_more h m n g (λ k l. e k (omega arith)))
    ∙ ap (or_else (first_of (m + n) h)) (e n (omega arith))
    ∙ rw add-suc

words_more : (order : ByteOrder) (w : ℕ) (h : ℕ → ℕ) (m n : ℕ) (g : ℕ → ℕ) → ((k : ℕ) → k < n → g k ≡ h (m + k))
    → chip_words_bytes order w h m ++ chip_words_bytes order w g n ≡ chip_words_bytes order w h (m + n)
unfolding joined
words_more order w h m zero g e = rw add-zero (append-nil (chip_words_bytes order w h m))
words_more order w h m (suc n) g e =
    sym (append_assoc (chip_words_bytes order w h m) (chip_words_bytes order w g n) (chip_bytes_of order w (g n)))
    ∙ ap (λ (l : List ℕ). l ++ chip_bytes_of order w (g n)) (words_more order w h m n g (λ k l. e k (omega arith)))
    ∙ ap (λ (x : ℕ). chip_words_bytes order w h (m + n) ++ chip_bytes_of order w x) (e n (omega arith))
    ∙ rw add-suc

module _ (s : StoredSlot) where
  pub faults_joined : (h : ℕ → Option Refusal) (g : ℕ → ℕ → Option Refusal) (m : ℕ)
      → ((rom n : ℕ) → rom < m → n < rom_words s rom → g rom n ≡ h (words_before s rom + n))
      → first_of m (λ rom. first_of (rom_words s rom) (g rom)) ≡ first_of (words_before s m) h
  unfolding first_of words_before
  faults_joined h g zero e = refl
  faults_joined h g (suc m) e =
      ap (λ (f : Option Refusal). or_else f (first_of (rom_words s m) (g m))) (faults_joined h g m (λ rom n l q. e rom n (omega arith) q))
      ∙ faults_more h (words_before s m) (rom_words s m) (g m) (λ n q. e m n (omega arith) q)

  pub words-joined : (order : ByteOrder) (w : ℕ) (h : ℕ → ℕ) (g : ℕ → ℕ → ℕ) (m : ℕ)
      → ((rom n : ℕ) → rom < m → n < rom_words s rom → g rom n ≡ h (words_before s rom + n))
      → joined m (λ rom. chip_words_bytes order w (g rom) (rom_words s rom)) ≡ chip_words_bytes order w h (words_before s m)
  unfolding joined words_before
  words-joined order w h g zero e = refl
  words-joined order w h g (suc m) e =
      ap (λ (l : List ℕ). l ++ chip_words_bytes order w (g m) (rom_words s m)) (words-joined order w h g m (λ rom n l q. e rom n (omega arith) q))
      ∙ words_more order w h (words_before s m) (rom_words s m) (g m) (λ n q. e m n (omega arith) q)
