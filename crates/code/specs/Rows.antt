-- Rows of a stripe as numbers in base m, and where a parity block finds its data. Assumes nothing.
use Rattle.std.specs.Prelude.{ℕ, zero, suc, ◌+◌, ◌-◌, ◌*◌, ◌/◌, ◌%◌, cond, List, ◌==◌, nat_lt, slice_index}

-- the digit at place t of the row y, written with n digits in base m: place 0 weighs most, and past the last digit it is 0
unfoldable pub digit : ℕ → ℕ → ℕ → ℕ → ℕ
digit m zero t y = 0
digit m (suc n) t y = cond (t == n) (y % m) (digit m n t (y / m))

-- the row whose n digits in base m are a 0 to a (n - 1)
unfoldable pub row : ℕ → ℕ → (ℕ → ℕ) → ℕ
row m zero a = 0
row m (suc n) a = row m n a * m + a n

-- the digits that a list holds, and 0 past its end
abbrev pub held : List ℕ → ℕ → ℕ
held digits t = slice_index digits t

-- the digit a lowered by i, and raised by i, modulo m
abbrev pub low : ℕ → ℕ → ℕ → ℕ
low m i a = (a + (m - i)) % m

abbrev pub up : ℕ → ℕ → ℕ → ℕ
up m i a = (a + i) % m

-- the digits of the row y, with g done to the first j of them
abbrev pub changed : ℕ → ℕ → (ℕ → ℕ) → ℕ → ℕ → ℕ → ℕ
changed m n g j y t = cond (nat_lt t j) (g (digit m n t y)) (digit m n t y)

-- the row y with g done to each of its first j digits
unfoldable pub moved : ℕ → ℕ → (ℕ → ℕ) → ℕ → ℕ → ℕ
moved m n g j y = row m n (changed m n g j y)

-- place (the sub-chunk permutation): the row y with each of its first j digits lowered by i modulo m
abbrev pub place : ℕ → ℕ → ℕ → ℕ → ℕ → ℕ
place m n i j y = moved m n (low m i) j y

-- the way back: the row y with each of its first j digits raised by i modulo m
abbrev pub raised : ℕ → ℕ → ℕ → ℕ → ℕ → ℕ
raised m n i j y = moved m n (up m i) j y
