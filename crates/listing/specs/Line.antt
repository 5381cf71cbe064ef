-- The one line of input: four numbers, single spaces between them, a newline last. Assumes nothing.
use Rattle.std.specs.Prelude.{◌≡◌, ℕ, ◌+◌, ◌-◌, ◌*◌, ◌≤◌, Bool, if◌then◌else◌, ◌&&◌, List, [], ◌∷◌, ◌++◌, length, drop, Some, None, fold, Option, ◌==◌, nat_le, option_and_then}
use Rattle.std.specs.List.{prefix_len, take_while, AllPass}
use Rattle.lists.specs.declared.request.Request.{Request}

-- the bytes of a space and a newline, and the most digits of a number
abbrev pub space : ℕ
space = 32

abbrev pub newline : ℕ
newline = 10

abbrev pub most_digits : ℕ
most_digits = 5

-- a byte is a decimal digit
abbrev pub is_digit : ℕ → Bool
is_digit b = nat_le 48 b && nat_le b 57

-- the number that digits write, the first weighing most
abbrev pub value_of : List ℕ → ℕ
value_of digits = fold (λ v b. v * 10 + (b - 48)) 0 digits

-- one to five digits; zeros in front are digits like any other
pub record Numeral (digits : List ℕ) : Type 0 where
  pub all_digits : AllPass is_digit digits
  pub some_digit : 1 ≤ length digits
  pub few_digits : length digits ≤ most_digits

-- the input is the line of a request
pub record IsLineOf (input : List ℕ) (q : Request) : Type 0 where
  pub first : List ℕ
  pub second : List ℕ
  pub third : List ℕ
  pub fourth : List ℕ
  pub first_number : Numeral first
  pub second_number : Numeral second
  pub third_number : Numeral third
  pub fourth_number : Numeral fourth
  pub spelled : input ≡ first ++ (space ∷ (second ++ (space ∷ (third ++ (space ∷ (fourth ++ (newline ∷ [])))))))
  pub values : q ≡ record { m = value_of first; k = value_of second; lost = value_of third; list = value_of fourth }

-- a reader of it: the number that one to five digits write, where the byte `stop` follows them, and what follows that
abbrev pub field_at : ℕ → List ℕ → List ℕ → Option (ℕ × List ℕ)
field_at stop digits [] = None
field_at stop digits (b ∷ rest) =
    if (nat_le 1 (length digits) && (nat_le (length digits) most_digits && b == stop)) then (Some (value_of digits, rest)) else None

abbrev pub field_of : ℕ → List ℕ → Option (ℕ × List ℕ)
field_of stop bytes = field_at stop (take_while is_digit bytes) (drop (prefix_len is_digit bytes) bytes)

-- the `?` of a reader
infixl 10 ◌>>=◌
abbrev pub ◌>>=◌ : {X Y : Type 0} → Option X → (X → Option Y) → Option Y
o >>= f = option_and_then f o

-- four numbers, and nothing after the newline
abbrev pub request_of : List ℕ → Option Request
request_of input = do
  m ← field_of space input
  k ← field_of space m.1
  lost ← field_of space k.1
  list ← field_of newline lost.1
  if (length list.1 == 0) then (Some (record { m = m.0; k = k.0; lost = lost.0; list = list.0 })) else None

-- what the reader finds is what the line says, and it finds every line
abbrev pub ReaderFindsJustTheLines : Type 0
ReaderFindsJustTheLines = (input : List ℕ) (q : Request) → (request_of input ≡ Some q → IsLineOf input q) × (IsLineOf input q → request_of input ≡ Some q)
