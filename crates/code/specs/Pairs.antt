-- Which pairs of m parity boxes and k data boxes are admitted. Assumes nothing.
use Rattle.std.specs.Prelude.{◌≡◌, ℕ, pred, ◌^◌, ◌≤◌, Bool, ◌&&◌, nat_le}

-- the most parity boxes, the most blocks in a chunk, and the most data boxes that a pair then has
abbrev pub most_parity : ℕ
most_parity = 4

abbrev pub most_rows : ℕ
most_rows = 1024

abbrev pub most_data : ℕ
most_data = 11

-- the blocks in a chunk, r = m^(k - 1)
unfoldable pub rows_of : ℕ → ℕ → ℕ
rows_of m k = m ^ pred k

-- a pair is admitted where 2 ≤ m ≤ 4, 2 ≤ k and r ≤ 1024
unfoldable pub admitted : ℕ → ℕ → Bool
admitted m k = nat_le 2 m && (nat_le m most_parity && (nat_le 2 k && nat_le (rows_of m k) most_rows))

-- m, k and r are the numbers of an admitted pair
pub record IsAdmitted (m k r : ℕ) : Type 0 where
  pub some_parity : 2 ≤ m
  pub few_parity : m ≤ most_parity
  pub some_data : 2 ≤ k
  pub few_data : k ≤ most_data
  pub rows_are_the_power : r ≡ rows_of m k
  pub few_rows : r ≤ most_rows
