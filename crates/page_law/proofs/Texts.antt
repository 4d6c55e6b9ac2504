-- The number of each role has its text. Assumes nothing.
use mathlib.Core.Path.{◌≡◌, refl, sym, ◌∙◌, ap}
use mathlib.Core.List.{List, [], ◌++◌}
use Prim.Native.Nat.{ℕ, ◌<◌}
use lib.ListN.{get_or, take}
use Rattle.lists.specs.Tab.{tab}
use Rattle.lists.proofs.Tab.{get_or-tab}
use Rattle.page_rows.specs.Rows.{bytes_of, line_text, role_texts, role_text}
use Rattle.pin_page.specs.Roles.{role_a, role_d, role_select, role_commoned}
use Rattle.page_law.specs.Law.{KindsLaw, TextLaw}

-- what holds of the first n rows of a table holds of each
each_row : (f g : ℕ → List ℕ) (n : ℕ) → tab n f ≡ tab n g → (k : ℕ) → k < n → f k ≡ g k
each_row f g n e k h = sym (get_or-tab f n k [] h) ∙ ap (λ (l : List (List ℕ)). get_or l k []) e ∙ get_or-tab g n k [] h

selects : KindsLaw role_select
unfolding tab bytes_of role_texts role_text
selects = record { ce = refl; oe = refl; cs1 = refl; cs2 = refl; cs3 = refl; cs4 = refl }

commons : KindsLaw role_commoned
unfolding tab bytes_of role_texts role_text
commons = record { ce = refl; oe = refl; cs1 = refl; cs2 = refl; cs3 = refl; cs4 = refl }

addresses : tab 24 (λ n. role_text (role_a n)) ≡ tab 24 (λ n. take 5 (line_text "A" n ++ bytes_of "   "))
unfolding tab bytes_of role_texts role_text
addresses = refl

datas : tab 16 (λ n. role_text (role_d n)) ≡ tab 16 (λ n. take 5 (line_text "D" n ++ bytes_of "   "))
unfolding tab bytes_of role_texts role_text
datas = refl

pub text_law : TextLaw
unfolding tab bytes_of role_texts role_text
text_law = record {
  address = each_row (λ n. role_text (role_a n)) (λ n. take 5 (line_text "A" n ++ bytes_of "   ")) 24 addresses;
  data-line = each_row (λ n. role_text (role_d n)) (λ n. take 5 (line_text "D" n ++ bytes_of "   ")) 16 datas;
  x1 = refl;
  x2 = refl;
  selects = selects;
  half = refl;
  commons = commons;
  none = refl;
}
