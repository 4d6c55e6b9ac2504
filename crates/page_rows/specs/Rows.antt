-- The rows of the page. Assumes nothing.
use Rattle.std.specs.Prelude.{ℕ, ◌+◌, ◌/◌, ◌%◌, cond, List, [], ◌∷◌, ◌++◌, ltb, get_or, take, replicate}
use Prim.Native.Char.{Char, code}
use Prim.Native.String.{String}
use Prim.Native.String as text
use Rattle.lists.specs.Tab.{tab}

-- the bytes of characters
unfoldable pub bytes_of : String → List ℕ
bytes_of text.[] = []
bytes_of (text.◌∷◌ c s) = code c ∷ bytes_of s

abbrev pub digit : ℕ → ℕ
digit v = code "0" + v

abbrev pub two_digits : ℕ → List ℕ
two_digits n = digit (n / 10) ∷ digit (n % 10) ∷ []

-- a line's letter and its number, without a zero in front
abbrev pub line_text : Char → ℕ → List ℕ
line_text letter n = code letter ∷ cond (ltb n 10) (digit n ∷ []) (two_digits n)

abbrev pub kind_texts : List (List ℕ)
kind_texts = bytes_of "CE" ∷ bytes_of "OE" ∷ bytes_of "CS1" ∷ bytes_of "CS2" ∷ bytes_of "CS3" ∷ bytes_of "CS4" ∷ []

abbrev pub hyphen : ℕ
hyphen = code "-"

-- 02 Slip 4 2: the texts of the roles, by their numbers
unfoldable pub role_texts : List (List ℕ)
role_texts =
    tab 24 (line_text "A") ++ tab 16 (line_text "D") ++ (bytes_of "X1" ∷ bytes_of "X2" ∷ [])
    ++ kind_texts ++ (bytes_of "HALF" ∷ []) ++ kind_texts ++ ((hyphen ∷ []) ∷ [])

-- a GPIO without a role has the last text, a hyphen
abbrev pub no_role : ℕ
no_role = 55

-- 02 Slip 4 1: a role has five characters, the last of them spaces
unfoldable pub role_text : ℕ → List ℕ
role_text role = take 5 (get_or role_texts role [] ++ replicate 5 (code " "))

-- 02 Slip 4 1: a row is the GPIO in two digits, a space, the role and LF
abbrev pub row_text : ℕ → ℕ → List ℕ
row_text g role = two_digits g ++ (code " " ∷ (role_text role ++ (code "\n" ∷ [])))
