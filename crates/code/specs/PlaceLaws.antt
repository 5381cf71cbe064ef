-- What is true of place for every m and every number of digits. Assumes nothing.
use Rattle.std.specs.Prelude.{◌≡◌, ℕ, pred, ◌+◌, ◌%◌, ◌^◌, ◌<◌, ◌≤◌, cond, nat_lt}
use Rattle.code.specs.Rows.{digit, low, place, raised}

-- over rows of n digits in base m; i and h are parity numbers, j and l are data boxes, y is a row
pub record PlaceLaws (m n : ℕ) : Type 0 where
  pub place_is_a_row : (i j y : ℕ) → i < m → y < m ^ n → place m n i j y < m ^ n
  pub raised_is_a_row : (i j y : ℕ) → i < m → y < m ^ n → raised m n i j y < m ^ n
  pub raising_undoes_lowering : (i j y : ℕ) → i < m → y < m ^ n → raised m n i j (place m n i j y) ≡ y
  pub lowering_undoes_raising : (i j y : ℕ) → i < m → y < m ^ n → place m n i j (raised m n i j y) ≡ y
  pub lowering_by_nothing_moves_no_row : (j y : ℕ) → y < m ^ n → place m n 0 j y ≡ y
  pub lowering_no_digit_moves_no_row : (i y : ℕ) → y < m ^ n → place m n i 0 y ≡ y
  pub lowering_twice_adds_up : (h i j y : ℕ) → h < m → i < m → y < m ^ n → place m n h j (place m n i j y) ≡ place m n ((h + i) % m) j y
  -- whatever j and l are: a digit is lowered by h if it is among the first j, and by i if it is among the first l
  pub lowerings_add_up_digit_by_digit : (h i j l y t : ℕ) → h < m → i < m → t < n → digit m n t (place m n h j (place m n i l y)) ≡ low m ((cond (nat_lt t j) h 0 + cond (nat_lt t l) i 0) % m) (digit m n t y)
  pub lowerings_change_places : (h i j l y : ℕ) → h < m → i < m → y < m ^ n → place m n h j (place m n i l y) ≡ place m n i l (place m n h j y)
  pub first_digits_are_lowered : (i j y t : ℕ) → i < m → t < n → t < j → digit m n t (place m n i j y) ≡ low m i (digit m n t y)
  pub later_digits_stay : (i j y t : ℕ) → i < m → t < n → j ≤ t → digit m n t (place m n i j y) ≡ digit m n t y

-- the laws at every pair with a parity box and a data box, admitted or not
abbrev pub PlaceLawsHold : Type 0
PlaceLawsHold = (m k : ℕ) → 0 < m → 0 < k → PlaceLaws m (pred k)
